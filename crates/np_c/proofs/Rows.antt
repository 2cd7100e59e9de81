-- The rows that the walks speak of: the box of a thing, its parts, and what a handle holds.
use mathlib.Core.List.{[]}
use mir.Syntax.{impl, tnil, dnil}
use denote.RattleType.{RattleType}
use Rattle.std.proofs.Common.{◌≡◌, true, Option, Some, None, is_some, refl}
use Rattle.std.proofs.lemmas.Bool.{false≢true}
use Rattle.std_alloc.proofs.BoxSteps.Form.{Bx}
use Rattle.std_heap.specs.contracts.Global as Heap
use Rattle.std_heap.specs.contracts.GlobalAllocator.TheImpl.{ghosts, dict}
use Rattle.std_heap.proofs.Global.TheLaws as heap
use Rattle.np_c.specs.contracts.content.Content as Content
use Rattle.np_c.proofs.content.Content.TheLaws as content
use Rattle.np_c.specs.contracts.apart.Apart as Apart
use Rattle.np_c.specs.contracts.held.Held as Held

-- the box of a thing, whose memory is the program's
abbrev pub TheBox : Bx
TheBox = record { row = Content.the_row; laws = content.the_row_laws; al = record { row = Heap.the_row; laws = heap.the_row_laws; g = ghosts; d = dict; drops = impl [] tnil dnil } }

abbrev pub Memory : RattleType
Memory = Heap.the_row

abbrev pub Parts : RattleType
Parts = Apart.the_row Content.the_row Heap.the_row ghosts

abbrev pub Kept : RattleType
Kept = Held.the_row

abbrev pub Owner : Type 0
Owner = Content.the_row.Denot

-- where something is held, that
pub owner_of : (o : Option Owner) → is_some o ≡ true → (x : Owner) × (o ≡ Some x)
owner_of (Some x) some = (x, refl)
owner_of None some = absurd (false≢true some)
