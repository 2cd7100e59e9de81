use Rattle.std.proofs.Common.{Bool, IfSome, chars, string_bytes, subst}
use Rattle.np_forms.specs.Assigned.{IsAssigned}
use Rattle.np_forms.specs.Forms.{IsNormalForm}
use Rattle.np_versions.specs.Versions.{VersionData}
use Rattle.np_caseless.specs.inside.Images.{AreImages}
use Rattle.np_caseless.proofs.AssignedLemmas.{images_assigned}
use Rattle.np_caseless.proofs.ImageLemmas.{IsCaseless-images}
use Rattle.np_caseless.proofs.folded_tables.FoldedTable.key_by_images.Goals as goal

pub returns-in-Ok-clause-key : goal.returns-in-Ok-clause-key
returns-in-Ok-clause-key g c =
    let v = c.args.self.now in
    let xs = chars c.args.text.now in
    let images =
    subst (λ o. IfSome o (λ t. AreImages v c.compat.result xs (chars (string_bytes t)))) c.in-Some-2.is (c.in_ok-images.ensures v c.compat.result c.images.ensures) in
    IsCaseless-images v c.meets_conditions.ensures.version c.args.wanted xs (chars c.in-Some-2.images.bytes.items) (chars c.in-Ok.key.bytes.items)
    (subst (λ (b : Bool). AreImages v b xs (chars c.in-Some-2.images.bytes.items)) c.compat.ensures images)
    (subst (λ (d : VersionData). IsNormalForm d c.args.wanted (chars c.in-Some-2.images.bytes.items) (chars c.in-Ok.key.bytes.items)) c.table.ensures c.in-Ok.ensures.normal)

pub returns-in-Ok-clause-assigned : goal.returns-in-Ok-clause-assigned
returns-in-Ok-clause-assigned g c =
    let v = c.args.self.now in
    let xs = chars c.args.text.now in
    let images =
    subst (λ o. IfSome o (λ t. AreImages v c.compat.result xs (chars (string_bytes t)))) c.in-Some-2.is (c.in_ok-images.ensures v c.compat.result c.images.ensures) in
    λ _. images_assigned v c.meets_conditions.ensures c.compat.result xs (chars c.in-Some-2.images.bytes.items) images
    (subst (λ (d : VersionData). IsAssigned d (chars c.in-Some-2.images.bytes.items)) c.table.ensures c.in-Ok.ensures.assigned)
