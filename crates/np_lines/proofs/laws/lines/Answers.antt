use Rattle.np_lines.specs.Lines.{last_line}
use Rattle.np_lines.proofs.CutLemmas.{are_lines, cut_of, one_cut, only_lines}
use Rattle.np_lines.proofs.laws.lines.Goals as goal
use Rattle.std.proofs.Common.{◌++◌}

pub returns-clause-list : goal.returns-clause-list
returns-clause-list c = λ end bytes. let k = cut_of end bytes in (k.whole ++ last_line k.rest, are_lines end bytes k, only_lines end bytes k)

pub returns-clause-cut : goal.returns-clause-cut
returns-clause-cut c = one_cut
