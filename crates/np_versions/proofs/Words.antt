-- The words that proofs cite, of the crates below, of this one and of std.
pub use Rattle.std.proofs.Math.Nat.{div-add-mod, min-le_right, mod-lt}
pub use Rattle.std.proofs.Math.Seq.{get_or-append_seam, take-add}
pub use Rattle.std.proofs.lemmas.Bool.{and_cases, and_from, and_left, and_parts, and_right, both_ways, cases_Bool, cases_eq, cases_lt, cond-false, cond-true}
pub use Rattle.std.proofs.lemmas.Bool.{cond_both, eqb-false, eqb-true, le-leb, le-ltb, leb-false, leb-true, lt-leb, lt-ltb, ne_eqb, not-false, not-true}
pub use Rattle.std.proofs.lemmas.Bool.{or_from, or_left, or_right}
pub use Rattle.std.proofs.lemmas.Bool.Decides.{nat_tests}
pub use Rattle.std.proofs.lemmas.Grind.{flat_map-append, get_or_default_zero}
pub use Rattle.std.proofs.lemmas.List.{drop-drop, drop-map, drop_all, drop_at, get_or_append_left, get_or_default, length-append, length-drop, length-map}
pub use Rattle.std.proofs.lemmas.List.{take-append-drop, take_all, take_more}
pub use Rattle.std.proofs.lemmas.List.Elements.{All-push, Contains-append_cases, Contains-append_left, Contains-append_right}
pub use Rattle.std.proofs.lemmas.Option.{get_or_from_slice_get, none-some, same_Some, slice_get-get_or, slice_get_within}
pub use Rattle.std.proofs.lemmas.Simd.{leading_from_mask_l, length-chunk, mask_l-mod, run_in_chunk_fails, run_in_chunk_le, run_in_chunk_stops, tops_compared, trailing_mask_l}
pub use Rattle.std.proofs.lemmas.Str.{chars-append, chars-IsAscii, chars-nil, encodes-IsAscii, IsCharBoundary-at_seam, IsCharBoundary-from_take, IsUtf8-drop}
pub use Rattle.std.proofs.lemmas.Str.{IsUtf8-from_ascii}
pub use Rattle.std.specs.Char.{IsScalar}
pub use Rattle.std.specs.List.{All, AllWithin, Contains, list_all, prefix_len, slice_get}
pub use Rattle.std.specs.Option.{option_map}
pub use Rattle.std.specs.Str.{IsAscii, IsCharBoundary}
pub use lib.Count.{count_trailing_zeros}
pub use lib.Lanes.{chunk, mask_l, top, zip2}
pub use Rattle.np_code_points.specs.Hangul.{is_among, is_syllable}
unfoldable pub use Rattle.np_code_points.specs.Hangul.{syllable_pair}
pub use Rattle.np_code_points.specs.inside.LineCuts.{after_byte, before_byte, is_byte}
pub use Rattle.np_versions.specs.Boundaries.{ComposesTo, NeverFalls}
pub use Rattle.np_versions.specs.Composites.{IsCompositeOf, IsPrimary}
pub use Rattle.np_versions.specs.Conditions.{IsSound}
pub use Rattle.np_versions.specs.Faults.{IsAmbiguous, IsHangulWrong, IsMappedToUnassigned, IsTooDeep, IsTooLong}
pub use Rattle.np_versions.specs.Laws.{AtMostOneDecomposition, HangulByArithmetic, HangulOn, SomeDecomposition}
pub use Rattle.np_versions.specs.Mappings.{counts, is_final, IsFullDecomposition, IsLent, Rewrites}
unfoldable pub use Rattle.np_versions.specs.Mappings.{has_depth, parts}
pub use Rattle.np_versions.specs.Versions.{class_in, is_canonical, is_empty, is_hangul, kind_in, mapping_in, VersionData}
unfoldable pub use Rattle.np_versions.specs.Versions.{all_below, class_of, decomposition_kind, decomposition_mapping, entry_at, file_kind, file_mapping}
unfoldable pub use Rattle.np_versions.specs.Versions.{has_hangul, is_assigned, is_excluded, is_hangul_row}
pub use Rattle.np_versions.specs.declared.pairs.Composite.{Composite}
pub use Rattle.np_versions.specs.inside.CompositeSearch.{is_pair, or_this}
unfoldable pub use Rattle.np_versions.specs.inside.CompositeSearch.{composite, least_below}
pub use Rattle.np_versions.specs.inside.Depths.{is_marked, marked}
unfoldable pub use Rattle.np_versions.specs.inside.Depths.{first_row, mapping_mark, mark, parts_mark, row_marks, syllable_depth, syllable_mark}
pub use Rattle.np_versions.specs.inside.FirstFaults.{AreFirsts, IsFirst, IsLeastOf, least_fault, sooner}
unfoldable pub use Rattle.np_versions.specs.inside.FullDecompositions.{full, full_of, table_full}
pub use Rattle.np_versions.specs.inside.HangulRows.{HasAssignedHangul, is_right_entry}
unfoldable pub use Rattle.np_versions.specs.inside.HangulRows.{hangul_at, is_right_at}
pub use Rattle.np_versions.specs.inside.Fronts.{IsPast}
unfoldable pub use Rattle.np_versions.specs.inside.Pages.{property_place}
pub use Rattle.np_versions.specs.CompositeLists.{AreOfFile, AreOrdered, IsInRange, Lists, pair_rank, rank}
pub use Rattle.np_versions.specs.inside.Pairs.{IsCompositeAt, composites_in, pair_in, slot_at}
unfoldable pub use Rattle.np_versions.specs.inside.Primaries.{is_primary}
pub use Rattle.np_versions.specs.inside.RowPages.{AreBegun, AreFirstPages, ArePushed, AreRowPages, GoesOn, HasNoRow, IsNextRow, IsRowBlock, IsRowNumber}
pub use Rattle.np_versions.specs.inside.RowPlaces.{lies_in}
pub use Rattle.np_versions.specs.inside.Suspects.{HasSmallerTwin, IsAtMost, IsSuspect, least_of}
pub use Rattle.np_ucd.specs.Entries.{AreRows, Entry, HasLength, IsBefore, IsRow}
pub use Rattle.np_ucd.specs.Listed.{is_listed, Span}
pub use Rattle.np_ucd.specs.RowValues.{lent_entry}
pub use Rattle.np_ucd.specs.declared.rows.MapKind.{MapKind}
pub use Rattle.np_ucd.specs.declared.rows.MapKind.TheVariants.{Canonical, Compatibility, Plain}
