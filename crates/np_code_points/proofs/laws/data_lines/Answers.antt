use Rattle.np_code_points.specs.inside.LineCuts.{data_lines_in}
use Rattle.np_code_points.proofs.DataLineGrammar.{are_data_lines, only_data_lines}
use Rattle.np_code_points.proofs.laws.data_lines.Goals as goal

pub returns : goal.returns
returns c bytes = (data_lines_in bytes, are_data_lines bytes, only_data_lines bytes)
