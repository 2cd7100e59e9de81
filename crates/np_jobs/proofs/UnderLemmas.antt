-- What is made of two versions.
use Rattle.std.proofs.Common.{List, [], ◌∷◌, string_bytes}
use Rattle.np_versions.specs.Versions.{VersionData}
use Rattle.np_code_points.specs.declared.forms.Form.{Form}
use Rattle.np_jobs.specs.Chains.{VersionReaders, WereBuilt}
use Rattle.np_jobs.specs.KeysUnder.{MakesUnder}
use Rattle.np_jobs.specs.Streams.{Stream}
use Rattle.np_jobs.specs.declared.ending.JobOutput.{JobOutput}
use Rattle.np_jobs.specs.inside.UnderSteps.{MakesOfPair}

-- what was made over two versions that were built
pub made_under : (form : Form) (versions : List VersionReaders) (input : Stream) (old new : VersionData) (m : JobOutput) → WereBuilt versions (old ∷ new ∷ [])
    → MakesOfPair form old new input m
    → MakesUnder form (record { versions = versions; input = input }) m.is_yes (string_bytes m.text)
made_under form versions input old new m built makes = record { old = old; new = new; built = built; extends = makes.extends; made = makes.answered }
