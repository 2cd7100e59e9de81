use Rattle.std.proofs.Common.{refl, ◌∷◌, [], sym, append-nil}
use Rattle.np_versions.proofs.Words.{All-push, lent_entry, IsInRange, composites_in}
use Rattle.np_versions.proofs.CompositeLemmas.{flat_step}
use Rattle.np_versions.proofs.pairs.file_composites.Goals.{in-Some+in_ok-push, in_default}
use Rattle.np_versions.proofs.pairs.file_composites.Goals as goal

pub loop-at-preserved : goal.loop-at-preserved
loop-at-preserved c =
    elim c.match-composite_in.branch [
      | in-Some+in_ok-push w ↦
          rw (w.composites-is, w.in_ok-push.ensures.items) (record {
            items = flat_step (composites_in c.args.characters.now) c.args.characters.now.entries c.loop-at.at (lent_entry c.row_in.result) c.loop-at.composites.items _ (w.in-Some.composite ∷ [])
                c.row_in.ensures.place c.loop-at.invariant.items refl w.in-Some.ensures.value;
            range = All-push IsInRange c.loop-at.composites.items w.in-Some.composite c.loop-at.invariant.range w.in-Some.ensures.range;
          })
      | in_default w ↦
          rw w.composites-is (record {
            items = flat_step (composites_in c.args.characters.now) c.args.characters.now.entries c.loop-at.at (lent_entry c.row_in.result) c.loop-at.composites.items _ []
                c.row_in.ensures.place c.loop-at.invariant.items (sym (append-nil c.loop-at.composites.items)) w.in_default.ensures.value;
            range = c.loop-at.invariant.range;
          })
    ]
