use Rattle.std.proofs.Common.{◌≡◌, ◌++◌, take}
use Rattle.np_forms.specs.inside.Classes.{codes_of}
use Rattle.np_forms.proofs.classes.push_codes.Given as goal

abbrev pub invariant-loop-c : goal.invariant-loop-c
invariant-loop-c l = l.codes.items ≡ l.fn.codes.items ++ codes_of (take l.c-index l.list)
