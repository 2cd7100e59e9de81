use Rattle.std.proofs.Common.{refl}
use Rattle.std.proofs.lemmas.Option.{slice_get_read}
use Rattle.np_versions.proofs.pairs.Pairs.at.Goals as goal

pub returns-clause-place : goal.returns-clause-place
returns-clause-place c = slice_get_read c.args.self.now _ _ _ refl c.requires (rw c.self.view_is at c.index.ensures)
