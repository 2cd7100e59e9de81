use Rattle.std.proofs.Common.{◌++◌, encode_utf8, sym, ap, ◌∙◌, append_assoc, inr}
use Rattle.np_forms.proofs.CopyLemmas.{front_boundary, begins_behind}
use Rattle.np_forms.proofs.copying.split_tail.Goals as goal

pub split_at-requires : goal.split_at-requires
split_at-requires g c =
    front_boundary c.args.text.now c.as_str.result.now (encode_utf8 c.in-Some.c ++ c.scan.invariant.0)
    (c.scan.invariant.1 ∙ ap (λ l. l ++ c.scan.invariant.0) (c.in-Some.ensures.steps ∙ ap (λ l. l ++ encode_utf8 c.in-Some.c) (sym c.as_str.ensures)) ∙ append_assoc c.as_str.result.now (encode_utf8 c.in-Some.c) c.scan.invariant.0) c.utf8.text c.as_str.utf8

pub returns-then-is_boundary-clause-cut : goal.returns-then-is_boundary-clause-cut
returns-then-is_boundary-clause-cut g c = inr (
    begins_behind (g.T.NormTable.model c.args.table.now) c.args.form c.args.text.now c.as_str.result.now c.split_at.result.1.now c.in-Some.c c.scan.invariant.0
    (c.scan.invariant.1 ∙ ap (λ l. l ++ c.scan.invariant.0) (c.in-Some.ensures.steps ∙ ap (λ l. l ++ encode_utf8 c.in-Some.c) (sym c.as_str.ensures)) ∙ append_assoc c.as_str.result.now (encode_utf8 c.in-Some.c) c.scan.invariant.0) c.utf8.text c.as_str.utf8
    c.split_at.ensures.back (c.is_boundary.ensures c.if-is_boundary.true))

pub returns-then-is_boundary-clause-at : goal.returns-then-is_boundary-clause-at
returns-then-is_boundary-clause-at g c = λ _.
    begins_behind (g.T.NormTable.model c.args.table.now) c.args.form c.args.text.now c.as_str.result.now c.split_at.result.1.now c.in-Some.c c.scan.invariant.0
    (c.scan.invariant.1 ∙ ap (λ l. l ++ c.scan.invariant.0) (c.in-Some.ensures.steps ∙ ap (λ l. l ++ encode_utf8 c.in-Some.c) (sym c.as_str.ensures)) ∙ append_assoc c.as_str.result.now (encode_utf8 c.in-Some.c) c.scan.invariant.0) c.utf8.text c.as_str.utf8
    c.split_at.ensures.back (c.is_boundary.ensures c.if-is_boundary.true)
