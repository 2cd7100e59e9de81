-- What a handle holds.
use Rattle.std.specs.Prelude.{◌≡◌, Option, Some, None}
use Rattle.np_node.specs.Nodes.{NodeState}
use Rattle.np_versions.specs.Versions.{VersionData}
use Rattle.np_c.specs.Streams.{StreamView}
use Rattle.np_c.specs.declared.content.Content.{Content}
use Rattle.np_c.specs.declared.content.Content.TheVariants.{Nothing, Table, Node, Stream}
use Rattle.np_c.specs.declared.shared.Shared.{Shared}

-- a node as a handle holds it: in the table's place it has the version
abbrev pub HeldNode : Type 0
HeldNode = NodeState VersionData

-- the table among what is held, where it is one
abbrev pub table_in : Option Content → Option Shared
table_in None = None
table_in (Some Nothing) = None
table_in (Some (Table shared)) = Some shared
table_in (Some (Node kept)) = None
table_in (Some (Stream kept)) = None

-- the node among what is held, where it is one
abbrev pub node_in : Option Content → Option HeldNode
node_in None = None
node_in (Some Nothing) = None
node_in (Some (Table shared)) = None
node_in (Some (Node kept)) = Some kept.value
node_in (Some (Stream kept)) = None

-- the stream among what is held, where it is one
abbrev pub stream_in : Option Content → Option StreamView
stream_in None = None
stream_in (Some Nothing) = None
stream_in (Some (Table shared)) = None
stream_in (Some (Node kept)) = None
stream_in (Some (Stream kept)) = Some kept.value

-- a handle holds what a call opened; where the call opened nothing, what the handle held before
abbrev pub opened_or : Option Content → Option Content → Option Content
opened_or (Some opened) before = Some opened
opened_or None before = before

-- a call opened this, or nothing, as told, and the handle holds it
abbrev pub Holds : (Option Content → Type 0) → Option Content → Option Content → Type 0
Holds IsOpened before after = (opened : Option Content) × IsOpened opened × (after ≡ opened_or opened before)
