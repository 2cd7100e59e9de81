use Rattle.np_examples_jobs.proofs.ProgramLemmas.{audit_ends, compare_ends, help_ends, key_ends, key_under_ends, normalize_ends, replay_ends}
use Rattle.np_examples_jobs.proofs.over_files.run_over_shelf.Goals as goal

pub returns-clause-help : goal.returns-clause-help
returns-clause-help g c asked = help_ends _ _ _ _ _ _ _ asked c.run_words.ensures

pub returns-clause-normalize : goal.returns-clause-normalize
returns-clause-normalize g c form names asked = normalize_ends _ _ _ _ _ _ form names _ asked c.run_words.ensures

pub returns-clause-key : goal.returns-clause-key
returns-clause-key g c form names asked = key_ends _ _ _ _ _ _ form names _ asked c.run_words.ensures

pub returns-clause-key_under : goal.returns-clause-key_under
returns-clause-key_under g c form names asked = key_under_ends _ _ _ _ _ _ form names _ asked c.run_words.ensures

pub returns-clause-compare : goal.returns-clause-compare
returns-clause-compare g c form names asked = compare_ends _ _ _ _ _ _ form names _ asked c.run_words.ensures

pub returns-clause-audit : goal.returns-clause-audit
returns-clause-audit g c names asked = audit_ends _ _ _ _ _ _ names _ asked c.run_words.ensures

pub returns-clause-replay : goal.returns-clause-replay
returns-clause-replay g c form names asked = replay_ends _ _ _ _ _ _ form names _ asked c.run_words.ensures
