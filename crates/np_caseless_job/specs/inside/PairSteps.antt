-- Files whose marks were taken away.
use Rattle.std.specs.Prelude.{◌≡◌, false}
use Rattle.np_code_points.specs.Watched.{device_of, has_failed}
use Rattle.np_code_points.specs.declared.channels.watched.Watched.{Watched}
use Rattle.np_caseless_job.specs.declared.files.OpenFiles.{OpenFiles}

abbrev pub IsCleared : {D : Type 0} → Watched D → Watched D → Type 0
IsCleared old new = (device_of new ≡ device_of old) × (has_failed new ≡ false)

pub record AreCleared {D : Type 0} (old new : OpenFiles D) : Type 0 where
  pub data_file : IsCleared old.data_file new.data_file
  pub exclusions_file : IsCleared old.exclusions_file new.exclusions_file
  pub folding_file : IsCleared old.folding_file new.folding_file
