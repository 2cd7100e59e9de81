use Rattle.std.proofs.Common.{◌+◌, refl, sym, ap, ◌∙◌, arith}
use Rattle.np_versions.proofs.Words.{option_map, eqb-true, lent_entry}
use Rattle.np_versions.proofs.RowLemmas.{at-row, place-bounded, none_behind, none_left, number-none, number-some, next-within, next-behind}
use Rattle.np_versions.proofs.row_pages.number_at.Goals as goal

pub overflow_cast-result : goal.overflow_cast-result
overflow_cast-result c = omega (arith, place-bounded c.args.rows.now c.args.at (lent_entry c.in-Some.row) c.requires.rows (sym c.in-Some.ensures.row))

pub overflow_add-result : goal.overflow_add-result
overflow_add-result c = omega (arith, place-bounded c.args.rows.now c.args.at (lent_entry c.in-Some.row) c.requires.rows (sym c.in-Some.ensures.row))

pub returns-in-Some-clause-number : goal.returns-in-Some-clause-number
returns-in-Some-clause-number c =
    let ends = c.requires.next.here _ (sym c.in-Some.ensures.row) in
    number-some c.args.rows.now c.args.at c.args.code (c.args.at + 1) _ c.requires.rows (sym c.in-Some.ensures.row) c.if-row-code.true ends (omega arith)

pub returns-in-Some-clause-bound : goal.returns-in-Some-clause-bound
returns-in-Some-clause-bound c = λ _. place-bounded c.args.rows.now c.args.at (lent_entry c.in-Some.row) c.requires.rows (sym c.in-Some.ensures.row)

pub returns-in-Some-clause-ends : goal.returns-in-Some-clause-ends
returns-in-Some-clause-ends c =
    let e = lent_entry c.in-Some.row in
    λ same. next-behind c.args.rows.now c.args.at c.args.code e c.requires.rows c.requires.next (sym c.in-Some.ensures.row) (eqb-true e.last c.args.code same)

pub returns-in_default-clause-number : goal.returns-in_default-clause-number
returns-in_default-clause-number c =
    number-none _ c.args.code 0 (none_behind _ c.args.at c.args.code _ c.requires.rows c.requires.next (sym c.in-Some.ensures.row) c.if-row-code.false) refl

pub returns-in_default-clause-goes_on : goal.returns-in_default-clause-goes_on
returns-in_default-clause-goes_on c =
    let es = c.args.rows.now in
    let up = (at-row es c.args.at _ c.requires.rows (sym c.in-Some.ensures.row)).rises in
    λ _. next-within es c.args.at c.args.code (c.args.code + 1) _ c.requires.next (sym c.in-Some.ensures.row) (omega arith) (let less = c.if-row-code.false in omega arith)

pub returns-in_default-2-clause-number : goal.returns-in_default-2-clause-number
returns-in_default-2-clause-number c =
    let none = sym c.get.ensures.row ∙ ap (option_map lent_entry) c.in_default.is in
    number-none _ c.args.code 0 (none_left _ c.args.at c.args.code c.requires.rows c.requires.next none) refl
