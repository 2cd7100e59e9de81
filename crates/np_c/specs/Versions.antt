-- The version that a handle is open on.
use Rattle.std.specs.Prelude.{Option, Some, None}
use Rattle.std.specs.Arc.{arc_value}
use Rattle.np_versions.specs.Versions.{VersionData}
use Rattle.np_c.specs.Contents.{table_in}
use Rattle.np_c.specs.declared.content.Content.{Content}
use Rattle.np_c.specs.declared.handles.Handle.{Handle}
use Rattle.np_c.specs.declared.shared.Shared.{Shared}

abbrev pub version_shared : Option Shared → Option VersionData
version_shared (Some shared) = Some (arc_value shared.table)
version_shared None = None

-- the version of the table that is held; none where another thing is, or nothing
abbrev pub version_in : Option Content → Option VersionData
version_in content = version_shared (table_in content)

-- all that a handle holds; none where it is closed
abbrev pub content_of : Handle → Option Content
content_of handle = handle.held.held

-- none where the handle is closed
abbrev pub version_of : Handle → Option VersionData
version_of handle = version_in (content_of handle)
