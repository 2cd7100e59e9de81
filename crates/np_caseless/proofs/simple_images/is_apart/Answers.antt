use Rattle.std.proofs.Common.{chars, sym, subst}
use Rattle.np_forms.specs.Assigned.{IsAssigned}
use Rattle.np_forms.specs.Forms.{IsNormalForm}
use Rattle.np_versions.specs.Boundaries.{BeginsAtBoundary}
use Rattle.np_versions.specs.Versions.{VersionData}
use Rattle.np_caseless.proofs.simple_images.is_apart.Goals as goal

pub returns-then-begins_apart : goal.returns-then-begins_apart
returns-then-begins_apart g c = λ yes v same.
    let cs = chars c.args.text.now in
    let form = c.args.form in
    let own = c.is_own_form.ensures in
    record {
      begins = subst (λ (d : VersionData). BeginsAtBoundary d form cs) (sym same) (c.begins_apart.ensures c.if-begins_apart.true);
      own = subst (λ (d : VersionData). IsNormalForm d form cs cs) (sym same) (own.form yes);
      assigned = subst (λ (d : VersionData). IsAssigned d cs) (sym same) (own.assigned yes);
    }
