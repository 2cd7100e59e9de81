-- The words that proofs cite, of the crates below, of this one and of std.
pub use Rattle.std.proofs.Math.Nat.{div-div-eq-div-mul, div-one, mod-lt, zero-div}
pub use Rattle.std.proofs.Math.Seq.{get_or-append_seam, take-append_seam}
pub use Rattle.std.proofs.lemmas.Bool.{and_from, and_parts, and_right, both_ways, cases_Bool, cases_lt, cond-false, cond-true, eqb-true, leb-false, leb-true}
pub use Rattle.std.proofs.lemmas.Bool.{not-false, not-true}
pub use Rattle.std.proofs.lemmas.Bool.Decides.{nat_tests}
pub use Rattle.std.proofs.lemmas.List.{drop-append-le, drop-drop, drop-map, drop-take, drop_at, get_or-drop, get_or-map, get_or-set_other, get_or-set_same}
pub use Rattle.std.proofs.lemmas.List.{get_or_append_left, get_or_default, get_or_past, length-append, length-drop, length-map, length-set, map_push}
pub use Rattle.std.proofs.lemmas.List.{take-append-le, take_all, take_more}
pub use Rattle.std.proofs.lemmas.List.Elements.{All-head, All-push, All-tail, All-weaker}
pub use Rattle.std.proofs.lemmas.Option.{get_or_from_slice_get, IfSome_then, same_Some, slice_get-get_or, slice_get_within}
pub use Rattle.std.proofs.lemmas.Simd.{length-chunk, mask_l-mod, none_from_empty_mask, run_in_chunk_fails, run_in_chunk_le, run_in_chunk_stops, tops_compared}
pub use Rattle.std.proofs.lemmas.Simd.{trailing_mask_l}
pub use Rattle.std.proofs.lemmas.Str.{chars-append, chars-nil, chars_from_encodes, chars_past_char, encodes-append, IsCharBoundary-at_seam}
pub use Rattle.std.proofs.lemmas.Str.{IsCharBoundary-from_rest, IsCharBoundary-from_take, IsUtf8-drop, IsUtf8-nil, IsUtf8-past_char, IsUtf8-take}
pub use Rattle.std.specs.Char.{IsScalar}
pub use Rattle.std.specs.List.{list_all, prefix_len, slice_get, slice_range}
pub use Rattle.std.specs.Option.{is_some}
pub use Rattle.std.specs.Str.{IsAscii, IsCharBoundary}
pub use lib.Count.{count_trailing_zeros}
pub use lib.Lanes.{chunk, mask_l, top, zip2}
pub use Rattle.np_code_points.specs.Forms.{composes, is_compat}
pub use Rattle.np_code_points.specs.Hangul.{is_syllable}
unfoldable pub use Rattle.np_code_points.specs.Hangul.{syllable_pair}
pub use Rattle.np_code_points.specs.declared.forms.Form.{Form}
pub use Rattle.np_code_points.specs.declared.forms.Form.TheVariants.{Nfc, Nfd, Nfkc, Nfkd}
pub use Rattle.np_versions.specs.Boundaries.{BeginsAtBoundary, ComposesTo, IsBoundary, IsYesStarter, NeverFalls}
pub use Rattle.np_versions.specs.Composites.{IsCompositeOf}
pub use Rattle.np_versions.specs.Conditions.{IsSound}
pub use Rattle.np_versions.specs.Mappings.{counts, is_final, IsFullDecomposition}
unfoldable pub use Rattle.np_versions.specs.Mappings.{parts}
pub use Rattle.np_versions.specs.Versions.{class_in, is_empty, VersionData}
unfoldable pub use Rattle.np_versions.specs.Versions.{class_of, entry_at, file_kind, file_mapping, has_hangul, is_assigned}
pub use Rattle.np_tables.specs.declared.fulls.CodeRange.{CodeRange}
pub use Rattle.np_tables.specs.declared.page_properties.Properties.{Properties}
pub use Rattle.np_versions.specs.declared.pairs.Composite.{Composite}
unfoldable pub use Rattle.np_versions.specs.inside.CompositeSearch.{composite}
unfoldable pub use Rattle.np_versions.specs.inside.FullDecompositions.{full, full_of, table_full}
pub use Rattle.np_tables.specs.inside.DoubtfulLeads.{AreHalfSafe, AreSafe, HaveInCommon, HaveYesInCommon, high_bits, is_doubtful, IsYes, lead_byte, row_of}
pub use Rattle.np_tables.specs.inside.FullLists.{AreFulls, FullLists, of_kind, row_full}
pub use Rattle.np_tables.specs.inside.FullRanges.{AreCodeRanges, code_range_of, IsCodeRange, IsGrown}
pub use Rattle.np_tables.specs.inside.LeadBytes.{BeginsWithChar}
pub use Rattle.np_tables.specs.inside.PageHints.{AreBits, AreHints, AreLeadingNeverSecond, bit, boundary_place, boundary_under, ComposesByPairs, eight_bits}
pub use Rattle.np_tables.specs.inside.PageHints.{has_bit, is_late_jamo, IsNeverSecond, own_hints, syllable_hints, yes_place, yes_under}
pub use Rattle.np_tables.specs.inside.PageProperties.{AreAllRowProperties, AreFollowing, ArePages, ArePropertiesOf, AreRowBits, AreRowProperties}
pub use Rattle.np_tables.specs.inside.PageProperties.{AreSecondRows, AreSeconds, AreSlots, AreSlotsSoFar, CannotComposeByProperties, Follows}
pub use Rattle.np_tables.specs.inside.PageProperties.{FollowsByQuickCheck, FollowsUncomposed, is_row_never_second, IsAsciiYes, IsSlot, IsSlotPushed}
pub use Rattle.np_tables.specs.inside.PageProperties.{IsWalkedTo, last_behind, lists_of, no_properties, paged_properties, PassesUncomposed, touches}
pub use Rattle.np_versions.specs.inside.Fronts.{IsPast}
unfoldable pub use Rattle.np_tables.specs.inside.PageProperties.{row_properties}
pub use Rattle.np_versions.specs.inside.Pages.{AreWithin}
unfoldable pub use Rattle.np_versions.specs.inside.Pages.{property_place}
pub use Rattle.np_versions.specs.CompositeLists.{AreOfFile}
pub use Rattle.np_versions.specs.inside.RowPages.{AreRowPages, IsRowNumber}
pub use Rattle.np_tables.specs.inside.Scans.{AreLeft, AreYes, PassesCode, ScansOn}
pub use Rattle.np_tables.specs.inside.PrecomputedForms.{AreByteRanges, ArePrecomputedForms, ArePrecomputedSoFar, byte_range_of, Composes, ComposesOn}
pub use Rattle.np_tables.specs.inside.PrecomputedForms.{IsByteRange, IsFront, IsPrecomputedForm, Settles, Writes}
pub use Rattle.np_tables.specs.inside.QuickChecks.{all_quick_checks, quick_check_in}
unfoldable pub use Rattle.np_tables.specs.inside.QuickChecks.{assigned_quick_check, quick_check_of, quick_checks_of}
pub use Rattle.np_ucd.specs.Entries.{AreRows, Entry, IsRow}
pub use Rattle.np_ucd.specs.RowValues.{lent_entry}
