use Rattle.std.proofs.lemmas.Str.{IsUtf8-from_ascii}
use Rattle.np_caseless.proofs.ascii.folded_text.Goals as goal

pub from_utf8_unchecked-requires : goal.from_utf8_unchecked-requires
from_utf8_unchecked-requires c =
    IsUtf8-from_ascii c.push_folded.new.out.items
    (rw c.in_ok-push_folded.ensures (rw c.in_ok-folded.ensures.items (rw c.as_bytes-2.ensures.value c.requires.folded)))
