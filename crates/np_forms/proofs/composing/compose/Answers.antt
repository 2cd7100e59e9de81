use Rattle.std.proofs.Common.{sym, ap, subst, take, ◌∙◌, arith}
use Rattle.np_forms.proofs.Words.{drop_all, codes_of, IsComposing}
use Rattle.np_forms.proofs.OrderLemmas.{no_codes}
use Rattle.np_forms.proofs.ComposerLemmas.{IsComposing-end}
use Rattle.np_forms.proofs.composing.compose.Goals as goal

pub returns : goal.returns
returns g c = λ cs is ordered.
    let composer = c.loop-at.composer in
    let a = c.loop-at.invariant.0 cs is ordered in
    let none = no_codes _ a.rest (sym (drop_all c.loop-at.at composer.list.items (omega arith)) ∙ a.left) in
    ap codes_of c.truncate.ensures.items
    ∙ IsComposing-end _ cs (codes_of (take composer.kept composer.list.items)) composer.starter composer.last
    (subst (IsComposing _ cs (codes_of (take composer.kept composer.list.items)) composer.starter composer.last) none a.composing)
