use Rattle.std.proofs.Common.{◌-◌, arith, sym, ◌∙◌}
use Rattle.np_ucd.proofs.ExclusionLemmas.{back_goes_on, back_stops, back_nothing}
use Rattle.np_foldings.proofs.fields.before_blanks.Goals as goal
use Rattle.np_foldings.proofs.fields.before_blanks.Goals.{then-loop-end-test+else-is_blank, else-loop-end-test}

pub loop-end-preserved : goal.loop-end-preserved
loop-end-preserved c = record {
  inside = omega arith;
  same = c.loop-end.invariant.same
      ∙ back_goes_on (c.loop-end.end - 1) c.loop-end.end c.args.text.now (omega arith) c.loop-end.invariant.inside (sym c.is_blank.ensures ∙ c.if-is_blank.true);
}

pub returns : goal.returns
returns c = elim c.loop-end-test.branch [
  | then-loop-end-test+else-is_blank w ↦
      sym (c.loop-end.invariant.same
      ∙ back_stops (c.loop-end.end - 1) c.loop-end.end c.args.text.now (omega arith) c.loop-end.invariant.inside (sym w.is_blank.ensures ∙ w.if-is_blank.false))
  | else-loop-end-test w ↦ sym (c.loop-end.invariant.same ∙ back_nothing c.loop-end.end c.args.text.now (omega arith))
]
