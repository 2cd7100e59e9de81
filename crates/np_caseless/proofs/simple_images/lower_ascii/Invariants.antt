use Rattle.std.proofs.Common.{◌≡◌, ℕ, ◌+◌, ◌<◌}
use Rattle.std.specs.Char.{to_ascii_lowercase}
use Rattle.np_caseless.specs.inside.SimpleImages.{listed}
use Rattle.np_caseless.proofs.simple_images.lower_ascii.Given as goal

abbrev pub invariant-loop-at : goal.invariant-loop-at
invariant-loop-at l = (c : ℕ) → c < l.at → (listed l.list c).bytes ≡ 0x1000000 + to_ascii_lowercase c
