use Rattle.std.proofs.Common.{List, sym, ap, subst, length, arith}
use Rattle.np_code_points.specs.Lines.{Numbered, AreDataLines}
use Rattle.np_code_points.proofs.DataLineGrammar.{are_data_lines, walk_begins}
use Rattle.np_code_points.proofs.LineGrammar.{only_lines}
use Rattle.np_code_points.proofs.lines.DataLines.new.Goals as goal

pub returns-clause-lines : goal.returns-clause-lines
returns-clause-lines c =
    subst (λ (lines : List Numbered). AreDataLines c.args.bytes.now lines) (sym (walk_begins c.args.bytes.now)) (are_data_lines c.args.bytes.now)

pub returns-clause-same : goal.returns-clause-same
returns-clause-same c = walk_begins c.args.bytes.now

pub returns-clause-total : goal.returns-clause-total
returns-clause-total c lines h = omega (arith, ap length (only_lines c.args.bytes.now lines h))
