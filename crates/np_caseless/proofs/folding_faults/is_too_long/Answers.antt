use Rattle.std.proofs.Common.{◌≡◌, List, ℕ, [], ◌∷◌, ◌∙◌, arith, ltb, length, chars, sym, ap, subst}
use Rattle.std.proofs.lemmas.Bool.{lt-ltb, ltb-true}
use Rattle.np_code_points.specs.declared.forms.Form.TheVariants.{Nfkd}
use Rattle.np_caseless.specs.Caseless.{IsCaseless}
use Rattle.np_caseless.specs.Folded.{folded_by}
use Rattle.np_caseless.proofs.ConditionLemmas.{long_told}
use Rattle.np_caseless.proofs.folding_faults.is_too_long.Goals as goal

pub returns : goal.returns
returns g c =
    let v = folded_by (g.T.NormTable.model c.args.table.now) c.args.foldings.now in
    let text = ap chars c.as_str.ensures.value ∙ c.in_ok-text.ensures.same ∙ c.from_ref.ensures.value in
    let form = sym (c.in_ok-codes.ensures ∙ ap chars c.as_str-2.ensures.value) in
    let is =
    subst (IsCaseless v Nfkd (c.args.code ∷ [])) form (subst (λ (xs : List ℕ). IsCaseless v Nfkd xs (chars c.in_ok-form.form.bytes.items)) text c.in_ok-form.ensures) in
    let count : c.len.result ≡ length c.in_ok-codes.codes.items = omega (arith, c.len.ensures, c.in_ok-codes.codes.ok.0) in
    long_told v c.args.code c.len.result c.in_ok-codes.codes.items (ltb 64 c.len.result) c.meets_conditions.ensures is count
    (ltb-true 64 c.len.result, lt-ltb 64 c.len.result)
