-- Texts that pass the quick check whole.
use Rattle.std.proofs.Common.{◌≡◌, ◌==◌, ℕ, List, [], chars, length, take, true, sym, subst, arith}
use Rattle.std.proofs.lemmas.Bool.{eqb-true}
use Rattle.std.proofs.lemmas.List.{append-nil, take_all}
use Rattle.np_code_points.specs.declared.forms.Form.{Form}
use Rattle.np_forms.specs.Assigned.{IsAssigned}
use Rattle.np_forms.specs.Forms.{IsNormalForm}
use Rattle.np_forms.specs.Parts.{IsEachPartStable}
use Rattle.np_versions.specs.Versions.{VersionData}

pub own_where_all_passes : (v : VersionData) (form : Form) (text : List ℕ) (n : ℕ) → (n == length text) ≡ true
    → IsEachPartStable v form (chars (take n text)) → IsAssigned v (chars text) × IsNormalForm v form (chars text) (chars text)
own_where_all_passes v form text n all each =
    let whole = take_all n text (omega (arith, eqb-true n (length text) all)) in
    subst (λ l. IsEachPartStable v form (chars l)) whole each [] (chars text) [] (sym (append-nil (chars text)))
