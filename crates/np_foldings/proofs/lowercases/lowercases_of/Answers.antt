use Rattle.std.proofs.Common.{◌++◌, sym, ap, ◌∙◌}
use Rattle.std.proofs.lemmas.List.{append-nil}
use Rattle.np_code_points.specs.Lines.{Walk, numbered}
use Rattle.np_foldings.specs.inside.LowercaseReading.{listed_lower}
use Rattle.np_foldings.proofs.LowercaseGrammar.{taken_begin, taken_next, taken_end}
use Rattle.np_foldings.proofs.lowercases.lowercases_of.Goals as goal

pub loop-line-init : goal.loop-line-init
loop-line-init c =
    taken_begin (ap (λ (w : Walk). w.left) c.into_iter-line-iterator.ensures.into_iter_gives ∙ c.new-line-items.ensures.same) c.new-pairs.ensures.items

pub loop-line-preserved : goal.loop-line-preserved
loop-line-preserved c =
    taken_next (numbered c.in-Some.line) c.loop-line.invariant c.in-Some.ensures.steps.gives
    (sym (ap (λ xs. c.loop-line.pairs.items ++ xs) (sym c.lower_of.ensures ∙ ap listed_lower c.in_default.is) ∙ append-nil c.loop-line.pairs.items))

pub loop-line-preserved-in-Continue-1 : goal.loop-line-preserved-in-Continue-1
loop-line-preserved-in-Continue-1 c =
    taken_next (numbered c.in-Some.line) c.loop-line.invariant c.in-Some.ensures.steps.gives
    (c.in_ok-push.ensures.items ∙ ap (λ xs. c.loop-line.pairs.items ++ xs) (sym (sym c.lower_of.ensures ∙ ap listed_lower c.in-Some-lower_of.is)))

pub returns : goal.returns
returns c = taken_end c.loop-line.invariant c.in-None.ensures.steps.gives.0
