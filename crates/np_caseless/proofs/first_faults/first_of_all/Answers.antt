use Rattle.std.proofs.Common.{◌∙◌, length, sym, ap, subst}
use Rattle.np_caseless.specs.Folded.{folded_by}
use Rattle.np_caseless.specs.inside.FirstFaults.{Below, IsFirstOf, IsFoldingAt, IsOfArithmetic, IsQuietCodeAt, sooner}
use Rattle.np_caseless.proofs.FineLemmas.{looked_at}
use Rattle.np_caseless.proofs.FirstLemmas.{of_three}
use Rattle.np_caseless.proofs.first_faults.first_of_all.Goals as goal

pub returns : goal.returns
returns g c = λ mapped.
    let v = folded_by (g.T.NormTable.model c.args.table.now) c.args.foldings.now in
    let codes = c.args.mapped.now in
    let one = c.in_ok-of_foldings.of_foldings in
    let two = c.in_ok-of_rows.of_rows in
    let three = c.in_ok-of_syllables.of_syllables in
    subst (IsFirstOf v (λ _. Unit {0})) (sym (c.sooner-2.ensures ∙ ap (λ o. sooner o three) c.sooner.ensures))
    (of_three v (Below (IsFoldingAt c.args.foldings.now) (length c.args.foldings.now)) (Below (IsQuietCodeAt v codes) (length codes))
    (IsOfArithmetic v) one two three
    (looked_at v c.meets_conditions.ensures codes mapped) c.in_ok-of_foldings.ensures c.in_ok-of_rows.ensures c.in_ok-of_syllables.ensures)
