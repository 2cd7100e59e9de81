use Rattle.std.proofs.Common.{List, ℕ, sym, subst}
use Rattle.np_foldings.specs.Foldings.{Folding}
use Rattle.np_versions.specs.inside.FirstFaults.{IsFirst, IsLeastOf}
use Rattle.np_caseless.specs.inside.FoldingChanges.{IsChangedAmong, changes_folding}
use Rattle.np_caseless.proofs.ChangeLemmas.{changed_both, changed_new}
use Rattle.np_caseless.proofs.folding_changes.first_changed.Goals as goal
use Rattle.std.proofs.Common.{◌≡◌, true}

pub returns-in-Some : goal.returns-in-Some
returns-in-Some g c =
    let old = c.args.old.now in
    let new = c.args.new.now in
    subst (IsFirst (λ d. changes_folding old new d ≡ true)) (sym c.least.ensures)
    (changed_both old new c.first_changed_among-of_new.result c.in-Some.code
    (subst (λ (fs : List Folding). IsFirst (IsChangedAmong old new fs) c.first_changed_among-of_new.result) c.foldings.ensures c.first_changed_among-of_new.ensures)
    (subst (λ (fs : List Folding). IsLeastOf (IsChangedAmong old new fs) c.in-Some.code) c.foldings-2.ensures c.in-Some.ensures))

pub returns-in-None : goal.returns-in-None
returns-in-None g c =
    let old = c.args.old.now in
    let new = c.args.new.now in
    changed_new old new c.first_changed_among-of_new.result
    (subst (λ (fs : List Folding). IsFirst (IsChangedAmong old new fs) c.first_changed_among-of_new.result) c.foldings.ensures c.first_changed_among-of_new.ensures)
    (subst (λ (fs : List Folding). (d : ℕ) → ¬ (IsChangedAmong old new fs d)) c.foldings-2.ensures c.in-None.ensures)
