use Rattle.std.proofs.Common.{◌≡◌, ℕ, ◌+◌, IfErr, sym, subst}
use Rattle.np_node.specs.Images.{Needs, IsSpellingFault}
use Rattle.np_node.specs.inside.Reading.{left_of}
use Rattle.np_node.proofs.fields.Fields.spelled.Goals as goal

pub returns-in-Some-clause-err : goal.returns-in-Some-clause-err
returns-in-Some-clause-err c =
    subst (λ (t : Needs). IfErr c.marked.result (λ at. (x : ℕ) × IsSpellingFault t (left_of c.args.self.now) x × (at ≡ c.args.self.now.at + x))) (sym c.in-Some.is) c.marked.ensures.err
