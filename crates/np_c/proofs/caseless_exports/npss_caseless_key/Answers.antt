use Rattle.std.proofs.Common.{◌≡◌, None, Some, ap, sym, subst, ◌∙◌}
use Rattle.np_c.specs.Foldings.{folded_in}
use Rattle.np_c.specs.Versions.{version_in}
use Rattle.np_c.proofs.caseless_exports.npss_caseless_key.Goals as goal

pub returns-in-Some-clause-unfolded : goal.returns-in-Some-clause-unfolded
returns-in-Some-clause-unfolded c = λ lacks.
    let held = c.in-Some.ensures.some ∙ ap Some (sym c.deref.ensures) in
    c.caseless_key_by-answer.ensures.unfolded lacks.version
    (subst (λ h. version_in h ≡ Some lacks.version) held lacks.holds)
    (subst (λ h. folded_in h ≡ None) held lacks.lacks)
