use Rattle.std.proofs.Common.{◌∙◌, sym}
use Rattle.std.proofs.lemmas.Bool.{eqb-true}
use Rattle.np_foldings.proofs.EmptyFields.{says_nothing}
use Rattle.np_foldings.proofs.lowercases.says_none.Goals as goal

pub returns-then-ends_with : goal.returns-then-ends_with
returns-then-ends_with c = λ fourteen.
    says_nothing c.args.text.now (sym c.ends_with.ensures.value ∙ c.if-ends_with.true) (sym c.count.ensures ∙ eqb-true c.count.result 14 fourteen)
