use Rattle.std.proofs.Common.{◌≡◌, length, refl, sym, ap, ◌∙◌, arith, ◌++◌, take}
use Rattle.np_forms.proofs.Words.{nil_from_length, take_all, front_of, left_of}
use Rattle.np_forms.proofs.PieceLemmas.{ArePassed-same, ArePassed-next, ArePassed-parts, ArePassed-all}
use Rattle.np_forms.proofs.pieces.has_form.Goals as goal

pub returns-then-count-eq0 : goal.returns-then-count-eq0
returns-then-count-eq0 g c =
    let v = g.T.NormTable.model c.args.table.now in
    let pieces = c.fill.new.self in
    let nothing = nil_from_length (front_of pieces) (ap length (sym c.front-here.ensures) ∙ c.if-count-eq0.true) in
    ArePassed-all v c.args.form pieces (ArePassed-same c.pieces.invariant c.in_ok-fill.ensures.same refl) (c.in_ok-fill.ensures.front nothing) c.is_empty.ensures

pub returns-in_default : goal.returns-in_default
returns-in_default g c =
    ArePassed-parts _ c.args.form c.fill.new.self (ArePassed-same c.pieces.invariant c.in_ok-fill.ensures.same refl)
    (λ r e. c.in_default.ensures r (e ∙ ap (λ l. l ++ r) (sym c.front-here.ensures)))

pub pieces-preserved : goal.pieces-preserved
pieces-preserved g c =
    let front = front_of c.fill.new.self in
    let here = c.front-here.result.now in
    let n = length here in
    let all : take n front ≡ here = ap (take n) (sym c.front-here.ensures) ∙ take_all n here (omega arith) in
    ArePassed-next (take n front) here (left_of _ c.args.form c.pass.new.self) c.in-Some.past.now
    (ArePassed-same c.pieces.invariant c.in_ok-fill.ensures.same refl) (c.pass.ensures _ c.args.form) c.in-Some.ensures all
