-- The words that proofs cite, of the crates below, of this one and of std.
pub use Rattle.std.proofs.Math.Seq.{drop-cons, take-set-lt, take-suc}
pub use Rattle.std.proofs.lemmas.Bool.{and_cases, and_from, and_left, and_parts, and_right, both_ways, cases_Bool, cases_eq, cases_lt, cases_order}
pub use Rattle.std.proofs.lemmas.Bool.{cond-false, cond-true, eqb-false, eqb-true, false≢true, le-leb, le-ltb, lt-ltb, ltb-false, ltb-true, ne_eqb, not-true}
pub use Rattle.std.proofs.lemmas.Bool.{not_from_false, or_from}
pub use Rattle.std.proofs.lemmas.Bool.Decides.{leb_tells, nat_tests}
pub use Rattle.std.proofs.lemmas.Grind.{flat_map-append}
pub use Rattle.std.proofs.lemmas.List.{append_cancel_left, append_cancel_right, drop-drop, drop-map, drop-set-lt, drop_all, drop_at, drop_min, drop_more}
pub use Rattle.std.proofs.lemmas.List.{get_or-append-add, get_or-drop, get_or-map, get_or_append_left, get_or_at, length-drop, length-map, length-take}
pub use Rattle.std.proofs.lemmas.List.{length-take-le, map-append, map-id, map-set, map_more, map_push, nil_from_length, set_at, take-append-drop}
pub use Rattle.std.proofs.lemmas.List.{take-append-le, take-map, take_all, take_at, take_more, take_more_set, take_rest}
pub use Rattle.std.proofs.lemmas.Result.{IfOk-weaker, err_from_is_err_and, on_ok_weaker}
pub use Rattle.std.proofs.lemmas.Str.{IsCharBoundary-at_seam, IsCharBoundary-from_take, IsUtf8-append, IsUtf8-drop, IsUtf8-nil, IsUtf8-past_char}
pub use Rattle.std.proofs.lemmas.Str.{IsUtf8-string_bytes, IsUtf8-take, chars-append, chars-encodes, chars-nil, chars_from_encodes, chars_past_char}
pub use Rattle.std.proofs.lemmas.Str.{encodes-append, encodes-chars, encodes_same, len_utf8_bounds, length-encode, length-le-encodes}
pub use Rattle.std.specs.List.{filter, list_all, remove}
pub use Rattle.std.specs.Str.Iter.{chars_rest}
pub use Rattle.std.specs.Str.Lossy.{utf8_error_len, utf8_valid_len}
pub use Rattle.np_code_points.specs.Forms.{composes, is_compat}
pub use Rattle.np_code_points.specs.Hangul.{is_among, is_syllable}
unfoldable pub use Rattle.np_code_points.specs.Hangul.{syllable_pair}
pub use Rattle.np_code_points.specs.Steps.{Reaches, ReachesIn}
pub use Rattle.np_code_points.specs.Watched.{device_of, has_failed}
pub use Rattle.np_code_points.specs.declared.forms.Form.{Form}
pub use Rattle.np_forms.specs.Assigned.{IsAssigned, IsFirstUnassigned}
pub use Rattle.np_forms.specs.Forms.{EndsAs, IsDecomposed, IsEquivalent, IsNormalForm}
pub use Rattle.np_forms.specs.Order.{Exchanges, IsOrderedForm}
unfoldable pub use Rattle.np_forms.specs.Order.{is_ordered, is_reorderable}
pub use Rattle.np_forms.specs.Starters.{is_non_starter, is_starter}
pub use Rattle.np_forms.specs.Streams.{BeginsAtLastStarter, HasNoStarter, IsCutAtLastStarter, IsOrderedAndComposed, IsStreaming, StreamState, TakesIn}
unfoldable pub use Rattle.np_forms.specs.inside.CanonicalOrder.{canonical_order, slide}
pub use Rattle.np_forms.specs.inside.Classes.{AreClassed, CodeAndClass, IsOrderedOn, codes_of, with_class, with_classes}
pub use Rattle.np_forms.specs.inside.Composers.{IsAfterStarter, IsComposing, IsInPlace, and_place}
unfoldable pub use Rattle.np_forms.specs.inside.Composers.{pair_with_last}
pub use Rattle.np_forms.specs.inside.Composing.{is_free}
unfoldable pub use Rattle.np_forms.specs.inside.Composing.{compose, compose_after, compose_of, joined}
pub use Rattle.np_forms.specs.inside.Copies.{AppendsForm, ArePassing, AsciiIsCopiedAlone, AsciiPasses, IsCopied, IsEndOf}
pub use Rattle.np_forms.specs.inside.Copies.{IsCopiedAlone, IsPassing, LeadingAreBoundaries}
pub use Rattle.np_forms.specs.inside.Held.{Advances, IsFrontHeld, IsHeld, Shape, no_starter, starter}
pub use Rattle.np_forms.specs.inside.NormalForms.{ended}
unfoldable pub use Rattle.np_forms.specs.inside.NormalForms.{decomposed, normal_form}
pub use Rattle.np_forms.specs.inside.Pieces.{first_of, form_bytes, front_of, left_of}
pub use Rattle.np_forms.specs.inside.Readings.{IsRead, IsReadAssigned}
pub use Rattle.np_forms.specs.inside.Running.{Goes, IsInputFault, IsNextChunk, IsPieceCut, IsPieceWritten, IsRestCut}
pub use Rattle.np_forms.specs.inside.Running.{IsRestWritten, IsRunning, MayBegin, MayNotBegin, Stops}
pub use Rattle.np_forms.specs.inside.Runs.{runs_over}
unfoldable pub use Rattle.np_forms.specs.inside.Runs.{longest_run}
pub use Rattle.np_forms.specs.inside.Segments.{IsComposedOf, IsDecomposedUpTo, IsFirstMade, IsFirstPrecomputed, IsFullUpTo, Rises, listed}
pub use Rattle.np_forms.specs.inside.Syllables.{BeginsWithJamo, BeginsWithSyllable, pair_or_self}
unfoldable pub use Rattle.np_forms.specs.inside.Syllables.{syllable_parts}
pub use Rattle.np_forms.specs.inside.Written.{Breaks, Closes, HoldsFront, Writes, WritesEnd}
pub use Rattle.np_versions.specs.Boundaries.{BeginsAtBoundary, ComposesTo, IsBoundary, IsYesStarter, NeverFalls}
pub use Rattle.np_versions.specs.Conditions.{IsSound}
pub use Rattle.np_versions.specs.Mappings.{IsFullDecomposition, Rewrites, counts, is_final}
unfoldable pub use Rattle.np_versions.specs.Mappings.{parts}
pub use Rattle.np_versions.specs.QuickSpans.{CannotComposeAfter, IsQuickSpan, MayFollow, NeverComposesBackward, Walks}
pub use Rattle.np_versions.specs.Versions.{VersionData, is_empty}
unfoldable pub use Rattle.np_versions.specs.Versions.{class_of, decomposition_kind, entry_at, has_hangul, is_assigned}
unfoldable pub use Rattle.np_versions.specs.inside.CompositeSearch.{composite}
unfoldable pub use Rattle.np_versions.specs.inside.FullDecompositions.{full, full_of, table_full}
