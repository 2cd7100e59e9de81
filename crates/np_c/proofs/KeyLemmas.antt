-- What was made of a text: another text, or the text itself.
use Rattle.std.proofs.Common.{ℕ, Bool, true, false, List, IsUtf8}
use Rattle.std.specs.Prelude.{if◌then◌else◌}

pub either_text : (made : Bool) (xs ys : List ℕ) → IsUtf8 xs → IsUtf8 ys → IsUtf8 (if made then xs else ys)
either_text true xs ys of_xs of_ys = of_xs
either_text false xs ys of_xs of_ys = of_ys
