use Rattle.std.proofs.Common.{◌&&◌, eqb, min, length, take, sym, ap, ap₂, ◌∙◌, arith}
use Rattle.np_forms.proofs.Words.{false≢true, front_of, left_of}
use Rattle.np_forms.proofs.PieceLemmas.{ArePassed-same, ArePassed-next, ArePassed-differ, ArePassed-end, none_of_both}
use Rattle.np_forms.proofs.pieces.have_same_form.Goals as goal

pub returns-then-count-eq0 : goal.returns-then-count-eq0
returns-then-count-eq0 g c =
    let first = c.fill.new.self in
    let second = c.fill-in-pieces.new.self in
    ArePassed-end (g.T.NormTable.model c.args.table.now) c.args.form first second (ArePassed-same c.pieces.invariant c.in_ok-fill.ensures.same c.in_ok-fill-2.ensures.same) c.in_ok-fill.ensures.front c.in_ok-fill-2.ensures.front
    (none_of_both (front_of first) (front_of second) c.min-count.result (c.min-count.ensures ∙ ap₂ (λ l m. min (length l) (length m)) c.front-here.ensures c.front-there.ensures) c.if-count-eq0.true)
    (c.are_both_empty.ensures ∙ ap₂ (λ l m. eqb (length l) 0 && eqb (length m) 0) c.front-here.ensures c.front-there.ensures)

pub returns-then-not-are_same : goal.returns-then-not-are_same
returns-then-not-are_same g c =
    let passed = ArePassed-same c.pieces.invariant c.in_ok-fill.ensures.same c.in_ok-fill-2.ensures.same in
    ArePassed-differ (g.T.NormTable.model c.args.table.now) c.args.form c.fill.new.self c.fill-in-pieces.new.self passed c.min-count.result
    (omega (arith, c.min-count.ensures, ap length c.front-here.ensures)) (omega (arith, c.min-count.ensures, ap length c.front-there.ensures))
    (λ e. false≢true (sym c.if-not-are_same.true ∙ c.are_same.ensures.1 (ap (take c.min-count.result) c.front-here.ensures ∙ e ∙ ap (take c.min-count.result) (sym c.front-there.ensures))))

pub pieces-preserved : goal.pieces-preserved
pieces-preserved g c =
    ArePassed-next (take _ (front_of c.fill.new.self)) (take _ (front_of c.fill-in-pieces.new.self)) (left_of _ c.args.form c.pass.new.self) (left_of _ c.args.form c.pass-in-pieces.new.self)
    (ArePassed-same c.pieces.invariant c.in_ok-fill.ensures.same c.in_ok-fill-2.ensures.same) (c.pass.ensures _ c.args.form) (c.pass-in-pieces.ensures _ c.args.form)
    (ap (take _) (sym c.front-here.ensures) ∙ c.are_same.ensures.0 c.if-not-are_same.false ∙ ap (take _) c.front-there.ensures)
