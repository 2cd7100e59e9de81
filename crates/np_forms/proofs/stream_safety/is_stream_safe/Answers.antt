use Rattle.std.proofs.Common.{◌≡◌, [], true, not, nat_lt, chars, flat_map, sym, ap, ◌∙◌, append-nil, arith}
use Rattle.std.proofs.Math.Dec.{leb}
use Rattle.np_forms.proofs.Words.{nat_tests, map-id, class_of, full_of, runs_over}
use Rattle.std.proofs.lemmas.Iterator.{YieldsList-from_chars}
use Rattle.std.proofs.lemmas.Iterator.Consumers.{YieldsList-end}
use Rattle.np_forms.proofs.StreamSafeLemmas.{IsStreamSafe-few, over-end}
use Rattle.np_forms.proofs.stream_safety.is_stream_safe.Goals as goal

pub returns : goal.returns
returns g c =
    let v = g.T.NormTable.model c.args.table.now in
    let all = YieldsList-end (YieldsList-from_chars c.args.text.now c.utf8.text cc) c.loop-c.yielded _ c.loop-c.yielded_by _ _ c.in-None.is c.next.ensures.steps in
    let over : nat_lt 30 c.loop-c.run ≡ runs_over (class_of v) 0 (flat_map _ (chars c.args.text.now)) =
    sym (over-end v _) ∙ c.loop-c.invariant.1 [] ∙ ap (runs_over (class_of v) 0) (append-nil (flat_map _ c.loop-c.yielded))
    ∙ ap (λ l. runs_over (class_of v) 0 (flat_map (full_of v true) l)) (sym (map-id c.loop-c.yielded) ∙ all.0) in
    let few : leb c.loop-c.run 30 ≡ not (nat_lt 30 c.loop-c.run) = grind (arith, nat_tests) in
    IsStreamSafe-few v c.meets_conditions.ensures (chars c.args.text.now) (leb _ 30) (few ∙ ap not over)
