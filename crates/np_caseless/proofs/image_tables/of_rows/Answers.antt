use Rattle.std.proofs.Common.{subst, IfSome}
use Rattle.std.proofs.lemmas.List.Elements.{All-push}
use Rattle.np_caseless.specs.Folded.{folded_by}
use Rattle.np_caseless.specs.inside.ImageTables.{IsKnown}
use Rattle.np_caseless.proofs.ImageTableLemmas.{less_more, told_next}
use Rattle.np_caseless.proofs.image_tables.of_rows.Goals as goal
use Rattle.np_caseless.proofs.image_tables.of_rows.Goals.{then-was_cleared+in_ok-image+in-Some+in_ok-push, then-was_cleared+in_ok-image+in_default, else-was_cleared}

pub loop-code-preserved : goal.loop-code-preserved
loop-code-preserved g c =
    let v = folded_by (g.T.NormTable.model c.args.table.now) c.args.foldings.now in
    let compat = c.args.mapped.compat in
    let done = c.loop-code.invariant in
    let less = less_more c.args.own.now.items c.loop-code.own.items c.look_at.new.own.items done.1.0 c.in_ok-was_cleared.ensures.less in
    let told =
    told_next v compat c.args.mapped.codes.now c.loop-code.code-index c.code-item.result c.loop-code.own.items c.look_at.new.own.items
    c.loop-code-test.true c.code-item.is
    c.in_ok-was_cleared.ensures.less c.in_ok-was_cleared.ensures.told done.1.1 in
    elim c.if-was_cleared.branch [
      | then-was_cleared+in_ok-image+in-Some+in_ok-push w ↦
          rw (w.list-is, w.in_ok-push.ensures.items) (
            All-push (IsKnown v compat) c.loop-code.list.items w.in-Some.image done.0
                (subst (λ o. IfSome o (IsKnown v compat)) w.in-Some.is w.in_ok-image.ensures),
            (less, told),
          )
      | then-was_cleared+in_ok-image+in_default w ↦ rw w.list-is (done.0, (less, told))
      | else-was_cleared w ↦ rw w.list-is (done.0, (less, told))
    ]
