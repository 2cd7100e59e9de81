use Rattle.np_code_points.specs.inside.WordCuts.{words_of}
use Rattle.np_code_points.proofs.WordGrammar.{are_words, only_words}
use Rattle.np_code_points.proofs.laws.words.Goals as goal

pub returns : goal.returns
returns c d text = (words_of d text, are_words d text, only_words d text)
