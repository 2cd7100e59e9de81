use Rattle.std.proofs.Common.{◌≡◌, ◌∙◌, subst}
use Rattle.np_tables.specs.inside.FullRanges.{code_range_of}
use Rattle.np_tables.proofs.FullListLemmas.{pushed-apart, pushed-shared}
use Rattle.np_tables.proofs.page_slots.push_row.Goals as goal

pub returns-in_ok-push-2 : goal.returns-in_ok-push-2
returns-in_ok-push-2 c =
    pushed-shared c.args.version.now c.args.row.first c.args.codes.now.items c.push_full.new.codes.items c.push_full-2.new.codes.items
    (record { start = c.len-start.result; end = c.len-middle.result }) (record { start = c.len-middle.result; end = c.len-end.result }) c.in_ok-push_full.ensures c.in_ok-push_full-2.ensures
    (c.len-start.ensures ∙ c.args.codes.now.ok.0) (c.len-middle.ensures ∙ c.push_full.new.codes.ok.0) (c.len-middle.ensures ∙ c.push_full.new.codes.ok.0) (c.len-end.ensures ∙ c.push_full-2.new.codes.ok.0)
    c.args.canonical.now.items c.args.compatible.now.items _ _ c.requires.canonical c.requires.compatible c.in_ok-push.ensures.items _
    (subst (λ l. code_range_of l (record { start = c.len-start.result; end = c.len-middle.result }) ≡ code_range_of l (record { start = c.len-middle.result; end = c.len-end.result })) c.deref.ensures.value (c.are_same.ensures c.if-are_same.true))
    c.truncate.ensures.items c.in_ok-push-2.ensures.items

pub returns-in_ok-push-3 : goal.returns-in_ok-push-3
returns-in_ok-push-3 c =
    pushed-apart c.args.version.now c.args.row.first c.args.codes.now.items c.push_full.new.codes.items c.push_full-2.new.codes.items
    (record { start = c.len-start.result; end = c.len-middle.result }) (record { start = c.len-middle.result; end = c.len-end.result }) c.in_ok-push_full.ensures c.in_ok-push_full-2.ensures
    (c.len-start.ensures ∙ c.args.codes.now.ok.0) (c.len-middle.ensures ∙ c.push_full.new.codes.ok.0) (c.len-middle.ensures ∙ c.push_full.new.codes.ok.0) (c.len-end.ensures ∙ c.push_full-2.new.codes.ok.0)
    c.args.canonical.now.items c.args.compatible.now.items _ _ c.requires.canonical c.requires.compatible c.in_ok-push.ensures.items c.in_ok-push-3.ensures.items
