use Rattle.std.proofs.Common.{rules, refl, sym, subst, ◌∙◌}
use denote.Enum.Bare.{same_false}
use Rattle.np_code_points.specs.contracts.forms.Form.{the_type}
use Rattle.np_node.specs.Nodes.{state_of}
use Rattle.np_node.specs.Taking.{IsMessageOfOtherForm}
use Rattle.np_node.proofs.nodes.Node.take.Goals as goal

pub returns-in-Ok-clause-answer : goal.returns-in-Ok-clause-answer
returns-in-Ok-clause-answer c = search rules

pub returns-in-Ok-clause-node : goal.returns-in-Ok-clause-node
returns-in-Ok-clause-node c = search rules

pub returns-in-Ok-2-clause-answer : goal.returns-in-Ok-2-clause-answer
returns-in-Ok-2-clause-answer g c =
    let other = same_false the_type _ _ (sym c.eq.ensures ∙ c.if-eq.false) in
    subst (λ n. IsMessageOfOtherForm (state_of g.T.NormTable.model n) c.args.message.now) c.self.view_is
    (record { message = _; spelled = c.in-Ok.ensures.ok; other = other })

pub returns-in-Ok-2-clause-node : goal.returns-in-Ok-2-clause-node
returns-in-Ok-2-clause-node g c = refl
