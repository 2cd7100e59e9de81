use Rattle.std.proofs.Common.{◌≡◌, ℕ, ◌+◌, List, length, Some, Bor, option_map, sym, ap, subst, ◌∙◌, arith}
use Rattle.np_versions.proofs.Words.{slice_get, after_byte, is_byte, mapping_in, mapping_mark}
use Rattle.np_code_points.proofs.LineLemmas.{length-after_first}
use Rattle.np_versions.proofs.RoundLemmas.{IsRound, round_more, round_done}
use Rattle.np_versions.proofs.depths.next_marks.Goals as goal

pub loop-next-smaller : goal.loop-next-smaller
loop-next-smaller c =
    length-after_first (is_byte 0) c.loop-next.left.now c.in-Some.later.now
    (sym c.in_ok-later.ensures.later ∙ ap (option_map (λ (r : Bor (List ℕ)). r.now)) c.in-Some.is)

pub loop-next-preserved : goal.loop-next-preserved
loop-next-preserved c =
    let v = c.args.characters.now in
    let n = c.args.round in
    let known = c.take_known.new.next.items in
    let place : c.len-in-Some.result ≡ length known = omega arith in
    let found : after_byte 0 c.loop-next.left.now ≡ Some c.in-Some.later.now =
    sym c.in_ok-later.ensures.later ∙ ap (option_map (λ (r : Bor (List ℕ)). r.now)) c.in-Some.is in
    subst (λ l. IsRound v n l c.in-Some.later.now) (sym c.in_ok-push.ensures.items)
    (round_more v n c.loop-next.next.items c.loop-next.left.now known c.loop-next.invariant c.in_ok-later.ensures.known c.in-Some.later.now c.next_mark.result found
    (c.next_mark.ensures ∙ ap (mapping_mark v (n + 1)) c.mapping_at-mapping.ensures ∙ ap (λ k. mapping_mark v (n + 1) (mapping_in (slice_get v.entries k))) place))

pub returns : goal.returns
returns c =
    round_done c.args.characters.now c.args.round c.loop-next.next.items c.loop-next.left.now c.take_known.new.next.items c.loop-next.invariant c.in_ok-later.ensures.known
    (sym c.in_ok-later.ensures.later ∙ ap (option_map (λ (r : Bor (List ℕ)). r.now)) c.in_default.is)
