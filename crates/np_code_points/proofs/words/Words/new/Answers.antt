use Rattle.np_code_points.proofs.WordGrammar.{are_words}
use Rattle.np_code_points.proofs.words.Words.new.Goals as goal

pub returns-clause-words : goal.returns-clause-words
returns-clause-words c = are_words c.args.dividers c.args.text.now
