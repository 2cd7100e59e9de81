use Rattle.std.proofs.Common.{IsTrue, length, sym, subst}
use Rattle.np_tables.specs.inside.DoubtfulLeads.{AreSafe, row_of}
use Rattle.np_tables.specs.inside.LeadingConsonants.{AreLeadingBoundaries}
use Rattle.np_tables.specs.inside.PageProperties.{IsAsciiYes}
use Rattle.np_versions.specs.inside.Pages.{AreWithin}
use Rattle.np_tables.proofs.page_table.PageTable.of_parts.Goals as goal

pub invariant_of-result : goal.invariant_of-result
invariant_of-result c =
    let kept = c.args.kept in
    let ascii = c.is_ascii_yes-ascii in
    let leading = c.are_leading_boundaries-leading_consonants in
    let doubtful = c.doubtful_leads-doubtful in (
      c.requires.quick_checks,
      (
        λ form.
            subst (λ q. AreSafe form kept.index.items q (row_of form doubtful.result)) c.deref-6.ensures.value
            (subst (λ i. AreSafe form i c.deref-6.result.now (row_of form doubtful.result)) c.deref-5.ensures.value (doubtful.ensures form)),
        (
          subst (λ q. IsTrue ascii.result → IsAsciiYes kept.index.items q) c.deref-2.ensures.value
              (subst (λ i. IsTrue ascii.result → IsAsciiYes i c.deref-2.result.now) c.deref.ensures.value ascii.ensures),
          (
            subst (λ p. IsTrue leading.result → AreLeadingBoundaries kept.index.items p) c.deref-4.ensures.value
                (subst (λ i. IsTrue leading.result → AreLeadingBoundaries i c.deref-4.result.now) c.deref-3.ensures.value leading.ensures),
            tt,
          ),
        ),
      ),
    )

pub invariant_of-result-2 : goal.invariant_of-result-2
invariant_of-result-2 c = record { pages = c.requires.pages; precomputed_is = c.requires.precomputed }

pub are_leading_boundaries-leading_consonants-requires : goal.are_leading_boundaries-leading_consonants-requires
are_leading_boundaries-leading_consonants-requires c =
    subst (λ i. AreWithin 4352 i (length c.deref-4.result.now)) (sym c.deref-3.ensures.value)
    (subst (λ p. AreWithin 4352 c.args.kept.index.items (length p)) (sym c.deref-4.ensures.value) c.requires.pages.within)
