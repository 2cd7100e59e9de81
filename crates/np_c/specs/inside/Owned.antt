-- What a handle owns: the box of a thing where it holds one, else nothing.
use base.Fml.{Fml, ftrue}
use base.Stored.{Coded}
use denote.RawPtr.{Ptr}
use Rattle.std.specs.Prelude.{Option, Some, None}
use Rattle.std.specs.Coded.{coded_option}
use Rattle.std.specs.Box.Ownership.{box_owns}
use Rattle.std.specs.Global.{Global}
use Rattle.std_heap.specs.contracts.GlobalAllocator.TheImpl.{ghosts}
use Rattle.np_c.specs.contracts.content.Content.{the_row}

abbrev pub owns_held : Global → Ptr → Option the_row.Denot → Fml
owns_held alloc at (Some content) = box_owns (ghosts.dealloc_token alloc) the_row at content
owns_held alloc at None = ftrue

abbrev pub held_coded : Coded (Option the_row.Denot)
held_coded = coded_option the_row.coded
