use Rattle.std.proofs.Common.{◌≡◌, ◌++◌, take}
use Rattle.np_forms.specs.inside.Classes.{with_classes}
use Rattle.np_forms.proofs.classes.push_classed.Given as goal

abbrev pub invariant-loop-c : goal.invariant-loop-c
invariant-loop-c g l = l.list.items ≡ l.fn.list.items ++ with_classes (g.T.NormTable.model l.table) (take l.c-index l.codes)
