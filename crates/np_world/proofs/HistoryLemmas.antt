-- Each history of calls is a run of the machine: the law, from the laws that it rests on.
use Rattle.np_versions.specs.Versions.{VersionData}
use Rattle.np_world.specs.Laws.{HistoriesAreRuns, OneRun}
use Rattle.np_world.proofs.CallLemmas.{TheLaws}
use Rattle.np_world.proofs.ReportLemmas.{tells_the_run}
use Rattle.np_world.proofs.RunLemmas.{ends}

pub histories : {T : Type 0} (model : T → VersionData) → TheLaws → OneRun → HistoriesAreRuns model
histories model laws once rules places events replies first last are begins history =
    tells_the_run (ends model rules laws are places events replies first last begins history) once laws.stability laws.forms
