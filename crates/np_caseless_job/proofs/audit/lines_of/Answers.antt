use Rattle.std.proofs.Common.{ap, flat_map, ◌∙◌}
use Rattle.std.proofs.lemmas.List.{take_all}
use Rattle.np_caseless_job.specs.Tellings.{folded_break_line}
use Rattle.np_caseless_job.proofs.AuditLemmas.{text_more, text_of_none, text_of_some}
use Rattle.np_caseless_job.proofs.audit.lines_of.Goals as goal

pub returns-then-is_empty : goal.returns-then-is_empty
returns-then-is_empty c = c.in_ok-from_str.ensures.ok ∙ text_of_none c.args.breaks.now c.if-is_empty.ensures

pub returns : goal.returns
returns c =
    let breaks = c.args.breaks.now in
    c.loop-found.invariant ∙ ap (flat_map folded_break_line) (take_all c.loop-found.found-index breaks c.loop-found-test.false) ∙ text_of_some breaks c.if-is_empty.ensures

pub loop-found-preserved : goal.loop-found-preserved
loop-found-preserved c =
    text_more c.args.breaks.now c.loop-found.found-index _ _ _ c.loop-found-test.true c.loop-found.invariant
    (rw c.name.ensures at c.in_ok-write_kind.ensures)
