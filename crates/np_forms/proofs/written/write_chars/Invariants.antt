use Rattle.std.proofs.Common.{List, ℕ, length}
use Rattle.np_forms.proofs.Words.{chars_rest, IsRead, Writes}
use Rattle.np_forms.proofs.written.write_chars.Given as goal

abbrev pub invariant-chars : goal.invariant-chars
invariant-chars g l =
    record {
      front : List ℕ;
      reads : IsRead l.text (chars_rest l.iter) front;
      writes : Writes l.fn.stream l.stream l.fn.out l.out front;
    }

abbrev pub decreases-chars : goal.decreases-chars
decreases-chars g l = length (chars_rest l.iter)
