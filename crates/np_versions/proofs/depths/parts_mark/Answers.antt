use Rattle.std.proofs.Common.{◌≡◌, ◌+◌, ◌<◌, length, take, get_or, sym, ap, subst, ◌∙◌, arith}
use Rattle.np_versions.proofs.Words.{mark, get_or_default_zero}
use Rattle.np_versions.proofs.RoundLemmas.{IsSum, IsSum-more, parts-fail, parts-done}
use Rattle.np_versions.proofs.depths.parts_mark.Goals as goal

pub returns-then-mark-eq0 : goal.returns-then-mark-eq0
returns-then-mark-eq0 c =
    let v = c.args.characters.now in
    let n = c.args.round in
    let xs = c.args.parts.now in
    let i = c.loop-part.part-index in
    let lt : i < length xs = omega arith in
    let item : c.from.result ≡ get_or xs i 0 = c.from.ensures ∙ c.part-item.is ∙ get_or_default_zero xs i c.part-item.result lt in
    let none : mark v n (get_or xs i 0) ≡ 0 = sym (ap (mark v n) item) ∙ sym c.part_mark-mark.ensures.value ∙ c.if-mark-eq0.true in
    sym (parts-fail v n xs i lt none)

pub loop-part-preserved : goal.loop-part-preserved
loop-part-preserved c =
    let n = c.args.round in
    let xs = c.args.parts.now in
    let i = c.loop-part.part-index in
    let m = c.part_mark-mark.result in
    let lt : i < length xs = omega arith in
    let item : c.from.result ≡ get_or xs i 0 = c.from.ensures ∙ c.part-item.is ∙ get_or_default_zero xs i c.part-item.result lt in
    let is : m ≡ mark c.args.characters.now n (get_or xs i 0) = c.part_mark-mark.ensures.value ∙ ap (mark _ n) item in
    let more : 0 < m = omega arith in
    subst (IsSum _ n (take (i + 1) xs)) (sym c.min-sum.ensures) (IsSum-more _ n xs i c.loop-part.sum m lt c.loop-part.invariant is more)

pub returns : goal.returns
returns c = sym (parts-done c.args.characters.now c.args.round c.args.parts.now c.loop-part.part-index c.loop-part.sum (omega arith) c.loop-part.invariant)
