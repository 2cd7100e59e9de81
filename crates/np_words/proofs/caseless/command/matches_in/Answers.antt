use Rattle.std.proofs.Common.{◌≡◌, true, map, subst, string_bytes}
use Rattle.clap.specs.Words.{App, FailsBy, fault_of, is_simple_and_free}
use Rattle.np_words.proofs.MatchLemmas.{caseless_is_simple}
use Rattle.np_words.proofs.caseless.command.matches_in.Goals as goal

pub returns-clause-kinds : goal.returns-clause-kinds
returns-clause-kinds c =
    let result = c.try_get_matches_from.result in
    let Fails : App → Type 0 = λ a. is_simple_and_free a ≡ true → FailsBy (fault_of a (map string_bytes c.args.words.now)) result in
    subst Fails c.in_ok-caseless_command.ensures c.try_get_matches_from.ensures.kinds caseless_is_simple
