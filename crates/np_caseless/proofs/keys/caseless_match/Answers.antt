use Rattle.std.proofs.Common.{List, ℕ, chars, sym, subst}
use Rattle.np_caseless.specs.Caseless.{IsFolded}
use Rattle.np_caseless.specs.Folded.{folded_by}
use Rattle.np_caseless.proofs.KeyLemmas.{match_told}
use Rattle.np_caseless.proofs.keys.caseless_match.Goals as goal

pub returns : goal.returns
returns g c =
    let v = folded_by (g.T.NormTable.model c.args.table.now) c.args.foldings.now in
    match_told v c.meets_conditions.ensures c.args.compat (chars c.args.texts.0.now) (chars c.args.texts.1.now) (chars c.as_str.result.now) (chars c.as_str-2.result.now) c.equivalent.result
    (subst (λ (t : List ℕ). IsFolded v c.args.compat (chars c.args.texts.0.now) (chars t)) (sym c.as_str.ensures.value) c.in_ok-one.ensures)
    (subst (λ (t : List ℕ). IsFolded v c.args.compat (chars c.args.texts.1.now) (chars t)) (sym c.as_str-2.ensures.value) c.in_ok-other.ensures)
    c.equivalent.ensures
