use Rattle.std.proofs.Common.{◌∙◌, sym, ap}
use Rattle.std.specs.List.{list_all}
use Rattle.std.proofs.lemmas.Slice.Eq.{bytes_eq-Decides}
use Rattle.np_caseless.specs.Folded.{folded_by, is_quiet}
use Rattle.np_caseless.proofs.ImageLemmas.{own_canonical, own_both, own_starter, quiet_one}
use Rattle.np_caseless.proofs.own_images.is_own.Goals as goal

pub returns-then-not-compat : goal.returns-then-not-compat
returns-then-not-compat g c = λ yes.
    own_canonical (folded_by (g.T.NormTable.model c.args.table.now) c.args.foldings.now) c.meets_conditions.ensures c.args.compat c.args.code c.if-not-compat.true
    (ap (list_all (is_quiet c.args.foldings.now)) (sym c.lent_full-canonical.ensures) ∙ sym c.are_quiet.ensures ∙ c.if-not-are_quiet.false)

pub returns-then-eq : goal.returns-then-eq
returns-then-eq g c = λ yes.
    own_both (folded_by (g.T.NormTable.model c.args.table.now) c.args.foldings.now) c.meets_conditions.ensures c.args.compat c.args.code c.if-not-compat.false
    (ap (list_all (is_quiet c.args.foldings.now)) (sym c.lent_full-compatible.ensures) ∙ sym c.are_quiet-2.ensures ∙ c.if-not-are_quiet-2.false)
    (sym c.lent_full-canonical.ensures
    ∙ (bytes_eq-Decides c.lent_full-canonical.result.now c.lent_full-compatible.result.now).0 (sym c.eq.ensures ∙ c.if-eq.true)
    ∙ c.lent_full-compatible.ensures)

pub returns-then-class-eq0 : goal.returns-then-class-eq0
returns-then-class-eq0 g c = λ yes.
    let v = folded_by (g.T.NormTable.model c.args.table.now) c.args.foldings.now in
    let alone =
    (bytes_eq-Decides c.lent_full-canonical.result.now c.from_ref.result.now).0 (sym c.eq-then-class-eq0.ensures ∙ yes) ∙ c.from_ref.ensures.value in
    own_starter v c.meets_conditions.ensures c.args.compat c.args.code c.if-not-compat.false
    (quiet_one v c.args.code (ap (list_all (is_quiet c.args.foldings.now)) (sym alone) ∙ sym c.are_quiet.ensures ∙ c.if-not-are_quiet.false))
    (ap (list_all (is_quiet c.args.foldings.now)) (sym c.lent_full-compatible.ensures) ∙ sym c.are_quiet-2.ensures ∙ c.if-not-are_quiet-2.false)
    (sym c.lent_full-canonical.ensures ∙ alone) (sym c.class.ensures ∙ c.if-class-eq0.true)
