-- The break of a code point by tests: a way to the one kind of `IsBreakOf`.
use Rattle.std.specs.Prelude.{ℕ, Bool, true, false, not, ◌&&◌, ◌==◌, bytes_eq, Option, Some, None, if◌then◌else◌}
use Rattle.std.specs.List.{list_all}
use Rattle.np_chain.specs.declared.breaks.BreakKind.{BreakKind}
use Rattle.np_chain.specs.declared.breaks.BreakKind.TheVariants.{Lost, ClassChanged, MappingChanged, NowExcluded, NowIncluded, NewComposite}
use Rattle.np_versions.specs.inside.Primaries.{is_primary}
use Rattle.np_versions.specs.Versions.{VersionData, is_assigned, class_of, decomposition_kind, decomposition_mapping}
use Rattle.np_ucd.specs.declared.rows.MapKind.{MapKind}
use Rattle.np_ucd.specs.declared.rows.MapKind.TheVariants.{Plain, Canonical, Compatibility}

-- assigned in old, not in new
unfoldable pub is_lost : VersionData → VersionData → ℕ → Bool
is_lost old new c = is_assigned old c && not (is_assigned new c)

abbrev pub is_assigned_in_both : VersionData → VersionData → ℕ → Bool
is_assigned_in_both old new c = is_assigned old c && is_assigned new c

-- assigned in both, with unlike combining classes
unfoldable pub changes_class : VersionData → VersionData → ℕ → Bool
changes_class old new c = is_assigned_in_both old new c && not (class_of new c == class_of old c)

abbrev pub is_same_kind : MapKind → MapKind → Bool
is_same_kind Plain Plain = true
is_same_kind Canonical Canonical = true
is_same_kind Compatibility Compatibility = true
is_same_kind _ _ = false

-- the same kind of mapping, and the same mapping
unfoldable pub maps_alike : VersionData → VersionData → ℕ → Bool
maps_alike old new c = is_same_kind (decomposition_kind new c) (decomposition_kind old c)
    && bytes_eq (decomposition_mapping new c) (decomposition_mapping old c)

-- assigned in both, with unlike kinds of mapping or unlike mappings
unfoldable pub changes_mapping : VersionData → VersionData → ℕ → Bool
changes_mapping old new c = is_assigned_in_both old new c && not (maps_alike old new c)

-- a primary composite of old, and not of new
unfoldable pub becomes_excluded : VersionData → VersionData → ℕ → Bool
becomes_excluded old new c = is_primary old c && not (is_primary new c)

-- what the code point maps to in new is assigned in old
unfoldable pub has_old_parts : VersionData → VersionData → ℕ → Bool
has_old_parts old new c = list_all (is_assigned old) (decomposition_mapping new c)

-- assigned in old, a primary composite of new and not of old, with both parts assigned in old
unfoldable pub becomes_included : VersionData → VersionData → ℕ → Bool
becomes_included old new c = is_assigned old c && is_primary new c && not (is_primary old c) && has_old_parts old new c

-- unassigned in old, a primary composite of new, with both parts assigned in old
unfoldable pub is_new_composite : VersionData → VersionData → ℕ → Bool
is_new_composite old new c = not (is_assigned old c) && is_primary new c && has_old_parts old new c

-- the break of a code point: the least kind that it has
unfoldable pub break_of : VersionData → VersionData → ℕ → Option BreakKind
break_of old new c =
    if is_lost old new c then Some Lost
    else if changes_class old new c then Some ClassChanged
    else if changes_mapping old new c then Some MappingChanged
    else if becomes_excluded old new c then Some NowExcluded
    else if becomes_included old new c then Some NowIncluded
    else if is_new_composite old new c then Some NewComposite
    else None
