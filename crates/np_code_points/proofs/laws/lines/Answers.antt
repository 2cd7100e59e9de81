use Rattle.np_code_points.specs.inside.LineCuts.{lines_of}
use Rattle.np_code_points.proofs.LineGrammar.{are_lines, only_lines}
use Rattle.np_code_points.proofs.laws.lines.Goals as goal

pub returns : goal.returns
returns c bytes = (lines_of bytes, are_lines bytes, only_lines bytes)
