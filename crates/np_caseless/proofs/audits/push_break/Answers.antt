use Rattle.std.proofs.Common.{◌+◌, ◌∙◌, MatchOption, sym, subst}
use Rattle.np_chain.specs.Breaks as version
use Rattle.np_caseless.specs.declared.breaks.FoldedBreakKind.TheVariants.{FoldingChanged, OfVersion}
use Rattle.np_caseless.specs.inside.BreakSteps.{AreBelow, HasNoneOf}
use Rattle.np_caseless.proofs.AuditLemmas.{more_none, more_some}
use Rattle.np_caseless.proofs.BreakLemmas.{no_break, of_folding, of_version}
use Rattle.np_caseless.proofs.audits.push_break.Goals as goal

pub returns-in-Some : goal.returns-in-Some
returns-in-Some g c =
    let old = c.args.old.now in
    let new = c.args.new.now in
    let of =
    subst (λ o. MatchOption o (HasNoneOf old new c.args.code) (version.IsBreakOf old.version new.version c.args.code)) c.in-Some.is c.requires.version in
    subst (AreBelow old new (c.args.code + 1)) (sym c.in_ok-push.ensures.items)
    (more_some old new c.args.code c.args.breaks.now.items (OfVersion c.in-Some.kind) c.requires.below (of_version old new c.args.code c.in-Some.kind of))

pub returns-in_ok-push-2 : goal.returns-in_ok-push-2
returns-in_ok-push-2 g c =
    let old = c.args.old.now in
    let new = c.args.new.now in
    let none =
    subst (λ o. MatchOption o (HasNoneOf old new c.args.code) (version.IsBreakOf old.version new.version c.args.code)) c.in_default.is c.requires.version in
    subst (AreBelow old new (c.args.code + 1)) (sym c.in_ok-push-2.ensures.items)
    (more_some old new c.args.code c.args.breaks.now.items FoldingChanged c.requires.below
    (of_folding old new c.args.code none (sym c.changes_folding.ensures ∙ c.if-changes_folding.true)))

pub returns-else-changes_folding : goal.returns-else-changes_folding
returns-else-changes_folding g c =
    let old = c.args.old.now in
    let new = c.args.new.now in
    let none =
    subst (λ o. MatchOption o (HasNoneOf old new c.args.code) (version.IsBreakOf old.version new.version c.args.code)) c.in_default.is c.requires.version in
    more_none old new c.args.code c.args.breaks.now.items c.requires.below
    (no_break old new c.args.code none (sym c.changes_folding.ensures ∙ c.if-changes_folding.false))
