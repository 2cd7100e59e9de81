use Rattle.std.proofs.Common.{◌≡◌, ◌++◌, encode_utf8_all, string_bytes, take}
use Rattle.np_tables.proofs.precomputed_forms.write_decomposition.Given as goal

abbrev pub invariant-loop-c : goal.invariant-loop-c
invariant-loop-c l = string_bytes l.text ≡ string_bytes l.fn.text ++ encode_utf8_all (take l.c-index l.lent)
