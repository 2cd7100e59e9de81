use Rattle.std.proofs.Common.{◌≡◌, drop}
use Rattle.np_examples_jobs.specs.inside.Shelves.{text_named}
use Rattle.np_examples_jobs.proofs.shelf.ShelfOpener.open.Given as goal

abbrev pub invariant-loop-here : goal.invariant-loop-here
invariant-loop-here l =
    text_named (λ f. f.0.now) (λ f. f.1.now) (drop l.here-index l.here-items) l.name ≡ text_named (λ f. f.0.now) (λ f. f.1.now) l.here-items l.name
