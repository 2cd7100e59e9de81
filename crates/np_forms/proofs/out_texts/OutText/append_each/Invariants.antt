use Rattle.std.proofs.Common.{◌≡◌, ◌++◌, encode_utf8_all, take}
use Rattle.np_forms.specs.inside.Classes.{codes_of}
use Rattle.np_forms.proofs.out_texts.OutText.append_each.Given as goal

abbrev pub invariant-loop-c : goal.invariant-loop-c
invariant-loop-c l = l.self ≡ l.fn.self ++ encode_utf8_all (codes_of (take l.c-index l.list))
