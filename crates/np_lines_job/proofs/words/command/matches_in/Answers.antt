use Rattle.std.proofs.Common.{◌≡◌, IfOk, true, map, subst, string_bytes}
use Rattle.clap.specs.Words.{App, FailsBy, HasMatchesOf, fault_of, is_simple_and_free}
use Rattle.np_lines_job.specs.LineCommands.{lines_app}
use Rattle.np_lines_job.proofs.LineMatchLemmas.{lines_are_simple, lines_is_simple, rows_by}
use Rattle.np_lines_job.proofs.words.command.matches_in.Goals as goal

pub returns-clause-found : goal.returns-clause-found
returns-clause-found c =
    let result = c.try_get_matches_from.result in
    let words = map string_bytes c.args.words.now in
    let Finds : App → Type 0 = λ a. IfOk result (HasMatchesOf a words) in
    rows_by lines_app words result lines_are_simple (subst Finds c.in_ok-lines_command.ensures c.try_get_matches_from.ensures.matches)

pub returns-clause-kinds : goal.returns-clause-kinds
returns-clause-kinds c =
    let result = c.try_get_matches_from.result in
    let Fails : App → Type 0 = λ a. is_simple_and_free a ≡ true → FailsBy (fault_of a (map string_bytes c.args.words.now)) result in
    subst Fails c.in_ok-lines_command.ensures c.try_get_matches_from.ensures.kinds lines_is_simple
