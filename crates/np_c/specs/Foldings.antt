-- The foldings that a handle holds beside its version.
use Rattle.std.specs.Prelude.{◌≡◌, Option, Some, None, option_map}
use Rattle.std.specs.Arc.{arc_value}
use Rattle.np_caseless.specs.Folded.{FoldedVersion}
use Rattle.np_versions.specs.Versions.{VersionData}
use Rattle.np_c.specs.Contents.{table_in}
use Rattle.np_c.specs.Versions.{content_of, version_of}
use Rattle.np_c.specs.declared.content.Content.{Content}
use Rattle.np_c.specs.declared.handles.Handle.{Handle}
use Rattle.np_c.specs.declared.shared.Shared.{Shared}

abbrev pub folded_shared : Option Shared → Option FoldedVersion
folded_shared (Some shared) = option_map arc_value shared.folded
folded_shared None = None

-- the version with its foldings that is held; none where no foldings are
abbrev pub folded_in : Option Content → Option FoldedVersion
folded_in content = folded_shared (table_in content)

abbrev pub folded_of : Handle → Option FoldedVersion
folded_of handle = folded_in (content_of handle)

-- the handle is open on a version without foldings
pub record LacksFolding (handle : Handle) : Type 0 where
  pub version : VersionData
  pub holds : version_of handle ≡ Some version
  pub lacks : folded_of handle ≡ None
