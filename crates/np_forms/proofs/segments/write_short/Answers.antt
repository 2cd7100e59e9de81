use Rattle.std.proofs.Common.{◌∷◌, []}
use Rattle.np_forms.proofs.Words.{composes, ended, listed}
use Rattle.np_forms.proofs.SegmentLemmas.{full-both, full-made, goes-made}
use Rattle.np_forms.proofs.ShortLemmas.{pair-order}
use Rattle.np_forms.proofs.segments.write_short.Goals as goal

pub returns-then-begins_at_boundary-clause-goes : goal.returns-then-begins_at_boundary-clause-goes
returns-then-begins_at_boundary-clause-goes g c =
    let sound = c.meets_conditions.ensures in
    let first = c.in-Some in
    let second = c.in-Some-split_single in
    let pair = first.starter ∷ second.second ∷ [] in
    let full = full-both _ sound _ _ first.one.now second.two.now (first.starter ∷ []) (second.second ∷ []) first.ensures.full second.ensures.full in
    let made = full-made _ sound _ _ _ pair pair full (pair-order _ first.starter first.ensures.starter second.second) (c.begins_at_boundary.ensures c.if-begins_at_boundary.true) in
    goes-made _ _ _ _ (ended _ (composes _) pair) c.args.out.now c.write_pair.new.out made c.in_ok-write_pair.ensures

pub returns-clause-goes : goal.returns-clause-goes
returns-clause-goes g c =
    let sound = c.meets_conditions.ensures in
    let first = c.in-Some in
    let second = c.in-Some-split_single in
    let third = c.in-Some-split_single-2 in
    let three = third.three.now in
    let triple = c.in-Some-in_order in
    let pair = full-both _ sound _ _ first.one.now second.two.now (first.starter ∷ []) (second.second ∷ []) first.ensures.full second.ensures.full in
    let full = full-both _ sound _ _ second.two.now three (first.starter ∷ second.second ∷ []) (third.third ∷ []) pair third.ensures.full in
    let all = first.starter ∷ second.second ∷ third.third ∷ [] in
    let made = full-made _ sound _ _ three all (listed triple.triple) full triple.ensures.order (c.begins_at_boundary-2.ensures c.if-not-begins_at_boundary.false) in
    goes-made _ _ _ three (ended _ (composes _) (listed triple.triple)) c.args.out.now c.write_triple.new.out made c.in_ok-write_triple.ensures
