use Rattle.std.proofs.Common.{sym, subst}
use Rattle.np_caseless.specs.inside.SimpleImages.{IsSimple}
use Rattle.np_caseless.proofs.SimpleLemmas.{simple_put}
use Rattle.np_caseless.proofs.simple_images.put.Goals as goal

pub returns-then-list-at-eq0-clause-simple : goal.returns-then-list-at-eq0-clause-simple
returns-then-list-at-eq0-clause-simple g c = λ v same all done.
    simple_put v c.args.form c.args.list.now c.from-at.result c.simple_image.result c.if-at-list.true done
    (subst (λ k. IsSimple v c.args.form k c.simple_image.result) (sym c.from-at.ensures) (c.simple_image.ensures v same all))
