use Rattle.std.proofs.Common.{◌∙◌, ap, arith}
use Rattle.np_tables.proofs.Words.{lent_entry, is_empty}
use Rattle.np_versions.proofs.RowLemmas.{place-le}
use Rattle.np_tables.proofs.FullListLemmas.{nil_from_test, slots-bare, slots-pushed}
use Rattle.np_tables.proofs.page_slots.slots_of.Goals.{then-is_empty+in_ok-push, else-is_empty+in_ok-push_row+in_ok-push-2}
use Rattle.np_tables.proofs.page_slots.slots_of.Goals as goal

pub overflow_cast-slot : goal.overflow_cast-slot
overflow_cast-slot c =
    omega (arith, place-le c.args.version.now.entries c.loop-at.at (lent_entry c.row_in-row.result) c.meets_conditions.ensures.rows c.row_in-row.ensures.place, c.len-slot.ensures ∙ c.loop-at.canonical.ok.0)

pub loop-at-preserved : goal.loop-at-preserved
loop-at-preserved c =
    let at = c.loop-at.at in
    let e = lent_entry c.row_in-row.result in
    elim c.if-is_empty.branch [
      | then-is_empty+in_ok-push w ↦
          rw (w.codes-is, w.canonical-is, w.compatible-is, w.slots-is, w.in_ok-push.ensures.items)
          (slots-bare _ at c.loop-at.codes.items c.loop-at.canonical.items c.loop-at.compatible.items c.loop-at.slots.items e c.loop-at.invariant c.row_in-row.ensures.place c.row_in-row.ensures.first
          (ap is_empty (nil_from_test e.mapping c.is_empty.result c.is_empty.ensures w.if-is_empty.true)))
      | else-is_empty+in_ok-push_row+in_ok-push-2 w ↦
          rw (w.codes-is, w.canonical-is, w.compatible-is, w.slots-is, w.in_ok-push-2.ensures.items)
          (slots-pushed _ at c.loop-at.codes.items _ c.loop-at.canonical.items c.loop-at.compatible.items _ _ c.loop-at.slots.items _ e c.loop-at.invariant w.in_ok-push_row.ensures c.row_in-row.ensures.place
          (c.len-slot.ensures ∙ c.loop-at.canonical.ok.0))
    ]
