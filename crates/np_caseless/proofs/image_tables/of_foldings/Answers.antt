use Rattle.std.proofs.Common.{◌∙◌, sym, subst, IfSome}
use Rattle.std.proofs.lemmas.List.Elements.{All-push}
use Rattle.np_caseless.specs.Folded.{folded_by}
use Rattle.np_caseless.specs.inside.ImageTables.{IsKnown}
use Rattle.np_caseless.proofs.ImageTableLemmas.{unmarked_folding, unmarked_none}
use Rattle.np_caseless.proofs.image_tables.of_foldings.Goals as goal
use Rattle.np_caseless.proofs.image_tables.of_foldings.Goals.{in-Some+in_ok-clear+in_ok-image+in-Some-2+in_ok-push, in-Some+in_ok-clear+in_ok-image+in_default-2, in_default}

pub loop-at-preserved : goal.loop-at-preserved
loop-at-preserved g c =
    let v = folded_by (g.T.NormTable.model c.args.table.now) c.args.foldings.now in
    let fs = c.args.foldings.now in
    let at = c.loop-at.at in
    let done = c.loop-at.invariant in
    elim c.match-code_at.branch [
      | in-Some+in_ok-clear+in_ok-image+in-Some-2+in_ok-push w ↦
          rw (w.own-is, w.list-is, w.in_ok-push.ensures.items) (
            All-push (IsKnown v c.args.compat) c.loop-at.list.items w.in-Some-2.image done.0
                (subst (λ o. IfSome o (IsKnown v c.args.compat)) w.in-Some-2.is w.in_ok-image.ensures),
            unmarked_folding fs at w.in-Some.code c.loop-at.own.items w.clear.new.own.items (sym c.code_at.ensures ∙ w.in-Some.is)
                w.in_ok-clear.ensures done.1,
          )
      | in-Some+in_ok-clear+in_ok-image+in_default-2 w ↦
          rw (w.own-is, w.list-is) (
            done.0,
            unmarked_folding fs at w.in-Some.code c.loop-at.own.items w.clear.new.own.items (sym c.code_at.ensures ∙ w.in-Some.is)
                w.in_ok-clear.ensures done.1,
          )
      | in_default w ↦ rw (w.own-is, w.list-is) (done.0, unmarked_none fs at c.loop-at.own.items (sym c.code_at.ensures ∙ w.in_default.is) done.1)
    ]
