use Rattle.std.proofs.Common.{Bool, IsUtf8, length}
use Rattle.np_caseless.specs.Folded.{FoldedVersion}
use Rattle.np_caseless.specs.inside.ImageTables.{AreAllImages}
use Rattle.np_caseless.proofs.RunLemmas.{IsMadeOf}
use Rattle.np_caseless.proofs.image_texts.image_text.Given as goal

abbrev pub invariant-runs : goal.invariant-runs
invariant-runs l =
    IsUtf8 l.rest × ((v : FoldedVersion) (compat : Bool) → AreAllImages v compat l.images → IsMadeOf v compat l.text l.rest l.made.bytes.items)

abbrev pub decreases-runs : goal.decreases-runs
decreases-runs l = length l.rest
