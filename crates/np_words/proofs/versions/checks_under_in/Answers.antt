use Rattle.std.proofs.Common.{codes, ap, ◌∙◌}
use Rattle.clap.specs.Words.{found_of}
use Rattle.np_words.specs.Words.{is_given}
use Rattle.np_words.proofs.MatchLemmas.{first_value_in_rows}
use Rattle.np_words.proofs.versions.checks_under_in.Goals as goal

pub returns-in-Some : goal.returns-in-Some
returns-in-Some c = c.eq.ensures ∙ ap is_given (c.in-Some.ensures ∙ first_value_in_rows (found_of c.args.found.now) (codes "check-under"))
