use Rattle.std.proofs.Common.{◌++◌, ap, ◌∙◌}
use Rattle.np_forms.proofs.Words.{chars_rest, full_of, with_classes}
use Rattle.np_forms.proofs.SegmentLemmas.{decomposed-start, decomposed-more}
use Rattle.np_forms.proofs.decomposing.decompose_first.Goals as goal

pub scan-init : goal.scan-init
scan-init g c =
    rw (c.chars-iter.ensures.rest, c.clear.ensures.items) (decomposed-start (g.T.NormTable.model c.args.table.now) c.meets_conditions.ensures c.args.form c.args.text.now c.utf8.text)

pub scan-preserved : goal.scan-preserved
scan-preserved g c =
    let v = g.T.NormTable.model c.args.table.now in
    let list = c.scan.list.items in
    decomposed-more v c.meets_conditions.ensures c.args.form c.args.text.now (chars_rest c.scan.iter) (chars_rest c.next.new.self) c.in-Some.c list c.append.new.list.items c.in-Some.ensures.steps.0 c.scan.invariant
    (c.in_ok-append.ensures ∙ ap (λ b. list ++ with_classes v (full_of v b c.in-Some.c)) c.compat-compat.ensures)
