use Rattle.std.proofs.Common.{◌≡◌, arith, ◌∙◌, ap, sym, subst, length}
use Rattle.np_tables.proofs.Words.{entry_at, AreSecondRows}
use Rattle.np_tables.proofs.PageLemmas.{seconds-more, seconds-past, seconds-all}
use Rattle.np_tables.proofs.page_properties.second_rows.Goals.{in-Some, in_default}
use Rattle.np_tables.proofs.page_properties.second_rows.Goals as goal

pub loop-place-preserved : goal.loop-place-preserved
loop-place-preserved c =
    let es = c.args.version.now.entries in
    let cs = c.pairs-pairs.result.now in
    let place = c.loop-place.place in
    elim c.match-place_of.branch [
      | in-Some w ↦
          rw w.seconds-is
          (seconds-more es cs place w.in-Some.at c.loop-place.seconds.items c.at.result c.meets_conditions.ensures.rows c.loop-place.invariant c.at.ensures.place w.in-Some.ensures.within (w.in-Some.ensures.row ∙ ap (entry_at es) c.from.ensures))
      | in_default w ↦
          rw w.seconds-is
          (seconds-past es cs place c.loop-place.seconds.items c.at.result c.meets_conditions.ensures.rows c.loop-place.invariant c.at.ensures.place (sym (ap (entry_at es) c.from.ensures) ∙ w.in_default.ensures.none))
    ]

pub returns : goal.returns
returns c =
    let cs = c.pairs-pairs.result.now in
    let seconds = c.loop-place.seconds.items in
    let last : c.loop-place.place ≡ length cs = omega arith in
    seconds-all _ cs seconds c.pairs-pairs.ensures (subst (λ n. AreSecondRows c.args.version.now.entries cs n seconds) last c.loop-place.invariant)
