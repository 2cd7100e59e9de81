-- What `key --check-under` makes over two versions that were built.
use Rattle.std.specs.Prelude.{string_bytes}
use Rattle.np_chain.specs.Extension.{Extends}
use Rattle.np_code_points.specs.declared.forms.Form.{Form}
use Rattle.np_versions.specs.Versions.{VersionData}
use Rattle.np_jobs.specs.KeysUnder.{IsKeyUnder}
use Rattle.np_jobs.specs.Streams.{Stream}
use Rattle.np_jobs.specs.Texts.{IsMadeOfText}
use Rattle.np_jobs.specs.declared.ending.JobOutput.{JobOutput}

-- the new version extends the old one, and the input was answered
pub record MakesOfPair (form : Form) (old new : VersionData) (input : Stream) (made : JobOutput) : Type 0 where
  pub extends : Extends old new
  pub answered : IsMadeOfText (IsKeyUnder form old new) input made.is_yes (string_bytes made.text)
