use Rattle.np_code_points.specs.inside.LineCuts.{without_return}
use Rattle.np_code_points.proofs.LineGrammar.{drops_return, only_text}
use Rattle.np_code_points.proofs.laws.carriage_returns.Goals as goal

pub returns : goal.returns
returns c line = (without_return line, drops_return line, only_text line)
