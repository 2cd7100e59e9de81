-- What is made of two versions that were built.
use Rattle.std.specs.Prelude.{string_bytes}
use Rattle.np_code_points.specs.declared.forms.Form.{Form}
use Rattle.np_caseless.specs.Extension.{ExtendsFolded}
use Rattle.np_caseless.specs.Folded.{FoldedVersion}
use Rattle.np_jobs.specs.Streams.{Stream}
use Rattle.np_jobs.specs.Texts.{IsMadeOfText}
use Rattle.np_jobs.specs.declared.ending.JobOutput.{JobOutput}
use Rattle.np_caseless_job.specs.CaselessKeysUnder.{IsCaselessUnder}

pub record MakesOfInput (form : Form) (old new : FoldedVersion) (input : Stream) (m : JobOutput) : Type 0 where
  pub extends : ExtendsFolded old new
  pub answered : IsMadeOfText (IsCaselessUnder form old new) input m.is_yes (string_bytes m.text)
