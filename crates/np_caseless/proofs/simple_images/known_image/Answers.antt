use Rattle.std.proofs.Common.{◌∷◌, [], List, ℕ, subst}
use Rattle.np_caseless.specs.inside.Images.{AreImages}
use Rattle.np_caseless.specs.inside.ImageTables.{IsMarked}
use Rattle.np_caseless.proofs.SimpleLemmas.{one_code}
use Rattle.np_caseless.proofs.simple_images.known_image.Goals as goal

pub returns-then-is_marked-clause-image : goal.returns-then-is_marked-clause-image
returns-then-is_marked-clause-image c = λ v compat all.
    let marked = subst (λ (own : List ℕ). IsMarked own c.args.code) c.as_slice.ensures.value (c.is_marked.ensures c.if-is_marked.true) in
    subst (AreImages v compat (c.args.code ∷ [])) (one_code c.args.code c.args.own.now c.requires c.utf8.own) (all.own c.args.code marked)
