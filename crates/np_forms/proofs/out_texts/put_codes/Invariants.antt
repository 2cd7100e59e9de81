use Rattle.std.proofs.Common.{◌≡◌, ◌≤◌, ◌+◌, ◌*◌, ◌++◌, length, take, encode_utf8_all, IsUtf8}
use Rattle.np_forms.specs.inside.Classes.{codes_of}
use Rattle.np_forms.proofs.out_texts.put_codes.Given as goal

abbrev pub invariant-loop-c : goal.invariant-loop-c
invariant-loop-c l =
    record {
      bytes : take l.end l.buffer ≡ take l.at l.fn.buffer ++ encode_utf8_all (codes_of (take l.c-index l.list));
      utf8 : IsUtf8 (encode_utf8_all (codes_of (take l.c-index l.list)));
      place : l.end ≤ l.at + 4 * l.c-index;
      same : length l.buffer ≡ length l.fn.buffer;
    }
