use Rattle.std.proofs.Common.{◌++◌, encode_utf8, sym, ap, ◌∙◌}
use Rattle.np_forms.proofs.SegmentLemmas.{goes-both, goes-made, goes-start}
use Rattle.np_forms.proofs.PrecomputedLemmas.{first-precomputed, precomputed-assigned}
use Rattle.np_forms.proofs.CopyLemmas.{passing_ascii, passing_read}
use Rattle.np_forms.proofs.TextLemmas.{IsReadAssigned-both, IsReadAssigned-next, IsReadAssigned-start}
use Rattle.np_forms.proofs.precomputed_texts.write_precomputed.Goals as goal

pub letters-init : goal.letters-init
letters-init g c = (goes-start _ _ _ _ c.utf8.text, IsReadAssigned-start _ _ c.utf8.text)

pub returns-in_default-clause-goes : goal.returns-in_default-clause-goes
returns-in_default-clause-goes g c = goes-both _ _ c.args.text.now c.letters.rest.now _ c.args.out.now c.letters.out c.append_passing.new.out c.letters.invariant.0 c.in_ok-append_passing.ensures

pub append_passing-requires-clause-passing : goal.append_passing-requires-clause-passing
append_passing-requires-clause-passing g c =
    (passing_ascii _ _ c.ascii_passes-ascii.result (λ is d lt. (c.ascii_passes-ascii.ensures.yes_starter is d lt, c.ascii_passes-ascii.ensures.assigned is d lt)) c.letters.rest.now _ c.behind_ascii-here.ensures)

pub append_passing-requires-in-letters-clause-passing : goal.append_passing-requires-in-letters-clause-passing
append_passing-requires-in-letters-clause-passing g c =
    (passing_ascii _ _ c.ascii_passes-ascii.result (λ is d lt. (c.ascii_passes-ascii.ensures.yes_starter is d lt, c.ascii_passes-ascii.ensures.assigned is d lt)) c.letters.rest.now _ c.behind_ascii-here.ensures)

pub returns-in_default-clause-read : goal.returns-in_default-clause-read
returns-in_default-clause-read g c =
    IsReadAssigned-both _ c.args.text.now c.letters.rest.now _ c.letters.invariant.1 (passing_read _ _ c.letters.rest.now _ (passing_ascii _ _ c.ascii_passes-ascii.result (λ is d lt. (c.ascii_passes-ascii.ensures.yes_starter is d lt, c.ascii_passes-ascii.ensures.assigned is d lt)) c.letters.rest.now _ c.behind_ascii-here.ensures))

pub returns-in_default-precomputed-clause-goes : goal.returns-in_default-precomputed-clause-goes
returns-in_default-precomputed-clause-goes g c =
    goes-both _ _ c.args.text.now c.letters.rest.now _ c.args.out.now c.letters.out c.append_passing-in-letters.new.out c.letters.invariant.0 c.in_ok-append_passing-2.ensures

pub returns-in_default-precomputed-clause-read : goal.returns-in_default-precomputed-clause-read
returns-in_default-precomputed-clause-read g c =
    IsReadAssigned-both _ c.args.text.now c.letters.rest.now _ c.letters.invariant.1 (passing_read _ _ c.letters.rest.now _ (passing_ascii _ _ c.ascii_passes-ascii.result (λ is d lt. (c.ascii_passes-ascii.ensures.yes_starter is d lt, c.ascii_passes-ascii.ensures.assigned is d lt)) c.letters.rest.now _ c.behind_ascii-here.ensures))

pub returns-then-not-has_boundary_before-clause-goes : goal.returns-then-not-has_boundary_before-clause-goes
returns-then-not-has_boundary_before-clause-goes g c =
    goes-both _ _ c.args.text.now c.letters.rest.now _ c.args.out.now c.letters.out c.append_passing-in-letters.new.out c.letters.invariant.0 c.in_ok-append_passing-2.ensures

pub returns-then-not-has_boundary_before-clause-read : goal.returns-then-not-has_boundary_before-clause-read
returns-then-not-has_boundary_before-clause-read g c =
    IsReadAssigned-both _ c.args.text.now c.letters.rest.now _ c.letters.invariant.1 (passing_read _ _ c.letters.rest.now _ (passing_ascii _ _ c.ascii_passes-ascii.result (λ is d lt. (c.ascii_passes-ascii.ensures.yes_starter is d lt, c.ascii_passes-ascii.ensures.assigned is d lt)) c.letters.rest.now _ c.behind_ascii-here.ensures))

pub has_boundary_before-requires : goal.has_boundary_before-requires
has_boundary_before-requires g c = λ is d lt. (c.ascii_passes-ascii.ensures.yes_starter is d lt, c.ascii_passes-ascii.ensures.assigned is d lt)

pub letters-preserved : goal.letters-preserved
letters-preserved g c =
    let between = c.append_passing-in-letters.new.out in
    let begins = (sym c.chars-iter.ensures.rest ∙ c.in-Some.ensures.steps.0 ∙ ap (λ l. encode_utf8 c.in-Some.c ++ l) (sym c.as_str-later.ensures)) in
    let precomputed = first-precomputed _ c.meets_conditions.ensures _ _ _ c.in-Some.c c.behind_ascii-here.utf8 begins (c.has_boundary_before.ensures c.if-not-has_boundary_before.false) _ _ c.in-Some-precomputed.ensures in
    let has = precomputed-assigned _ c.meets_conditions.ensures _ c.in-Some.c _ _ c.in-Some-precomputed.ensures in (
      goes-both _ _ _ _ _ c.args.out.now c.letters.out _ c.letters.invariant.0
          (goes-both _ _ _ _ _ c.letters.out between _ c.in_ok-append_passing-2.ensures
          (goes-made _ _ _ _ precomputed.list between _ precomputed.made (c.in_ok-append_first.ensures ∙ ap (λ l. between ++ l) precomputed.is))),
      IsReadAssigned-both _ _ _ _ c.letters.invariant.1
          (IsReadAssigned-next _ _ _ c.in-Some.c _ (passing_read _ _ _ _ (passing_ascii _ _ c.ascii_passes-ascii.result (λ is d lt. (c.ascii_passes-ascii.ensures.yes_starter is d lt, c.ascii_passes-ascii.ensures.assigned is d lt)) c.letters.rest.now _ c.behind_ascii-here.ensures)) begins has),
    )
