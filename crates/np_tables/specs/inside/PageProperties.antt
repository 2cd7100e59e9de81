-- What a table of pages keeps for a code point.
use Rattle.std.specs.Prelude.{◌≡◌, ℕ, ◌+◌, ◌<◌, ◌≤◌, ◌⊎◌, ◌&&◌, nat_le, not, Bool, true, false, List, [], ◌∷◌, ◌++◌, Option, None, length, map, slice_get, slice_index, slice_index_or, chars, encode_utf8_all, IsUtf8, Some}
use Rattle.np_ucd.specs.Entries.{Entry}
use Rattle.np_code_points.specs.Forms.{is_compat}
use Rattle.np_code_points.specs.Hangul.{is_syllable}
use Rattle.np_versions.specs.Versions.{VersionData, class_of, entry_at, has_hangul, is_assigned}
use Rattle.np_versions.specs.Composites.{IsCompositeOf}
use Rattle.np_versions.specs.Conditions.{IsSound}
use Rattle.np_versions.specs.Mappings.{is_final}
use Rattle.np_tables.specs.declared.fulls.CodeRange.{CodeRange}
use Rattle.np_tables.specs.declared.page_properties.Properties.{Properties}
use Rattle.np_versions.specs.declared.pairs.Composite.{Composite}
use Rattle.np_versions.specs.inside.FullDecompositions.{table_full}
use Rattle.np_tables.specs.inside.FullLists.{FullLists, of_kind}
use Rattle.np_tables.specs.inside.FullRanges.{AreCodeRanges, code_range_of}
use Rattle.np_code_points.specs.declared.forms.Form.{Form}
use Rattle.np_versions.specs.QuickSpans.{AreWalked, CannotComposeAfter, Walks}
use Rattle.np_tables.specs.inside.PageHints.{AreBits}
use Rattle.np_versions.specs.inside.Pages.{AreWithin, property_place}
use Rattle.np_tables.specs.inside.QuickChecks.{quick_check_in}

-- the full decompositions of either kind, each by its range of `codes`
abbrev pub lists_of : List ℕ → List CodeRange → List CodeRange → FullLists
lists_of codes canonical compatible = record { canonical = map (code_range_of codes) canonical; compatible = map (code_range_of codes) compatible }

-- one slot more, which has what a table lends for a code point
pub record IsSlotPushed (v : VersionData) (c : ℕ) (old_codes : List ℕ) (old_canonical old_compatible : List CodeRange) (codes : List ℕ) (canonical compatible : List CodeRange) : Type 0 where
  pub canonical_within : AreCodeRanges codes canonical
  pub compatible_within : AreCodeRanges codes compatible
  pub canonical_grown : map (code_range_of codes) canonical ≡ map (code_range_of old_codes) old_canonical ++ table_full v false c ∷ []
  pub compatible_grown : map (code_range_of codes) compatible ≡ map (code_range_of old_codes) old_compatible ++ table_full v true c ∷ []

-- what a table lends for a code point stands in this slot, of either kind
pub record IsSlot (v : VersionData) (lists : FullLists) (c slot : ℕ) : Type 0 where
  pub within : (compat : Bool) → slot < length (of_kind compat lists)
  pub lent : (compat : Bool) → slice_index_or (of_kind compat lists) slot [] ≡ table_full v compat c

-- the slots of the first `count` rows
pub record AreSlots (v : VersionData) (count : ℕ) (lists : FullLists) (slots : List ℕ) : Type 0 where
  pub size : length slots ≡ count
  pub none : (compat : Bool) → slice_index_or (of_kind compat lists) 0 [] ≡ []
  pub some : (compat : Bool) → 0 < length (of_kind compat lists)
  pub each : (k : ℕ) (e : Entry) → k < count → slice_get v.entries k ≡ Some e → IsSlot v lists e.first (slice_index slots k)

-- the same while the lists grow
pub record AreSlotsSoFar (v : VersionData) (count : ℕ) (codes : List ℕ) (canonical compatible : List CodeRange) (slots : List ℕ) : Type 0 where
  pub canonical_within : AreCodeRanges codes canonical
  pub compatible_within : AreCodeRanges codes compatible
  pub both : length canonical ≡ length compatible
  pub few : length canonical ≤ count + 1
  pub are_slots : AreSlots v count (lists_of codes canonical compatible) slots

-- the rows are marked that have second parts of the first `count` composites
pub record AreSecondRows (es : List Entry) (cs : List Composite) (count : ℕ) (seconds : List Bool) : Type 0 where
  pub size : length seconds ≡ length es
  pub each : (j : ℕ) (x : Composite) (k : ℕ) (e : Entry) → j < count → slice_get cs j ≡ Some x → slice_get es k ≡ Some e
      → e.first ≤ x.second → x.second ≤ e.last → slice_index_or seconds k false ≡ true

-- a row that has the second part of a primary composite is marked, unless it is that of a syllable, which is a jamo
pub record AreSeconds (v : VersionData) (seconds : List Bool) : Type 0 where
  pub size : length seconds ≡ length v.entries
  pub each : (a b p k : ℕ) (e : Entry) → IsCompositeOf v a b p → (has_hangul v && is_syllable p) ≡ false → slice_get v.entries k ≡ Some e
      → e.first ≤ b → b ≤ e.last → slice_index_or seconds k false ≡ true

-- whether a row has one of the code points from `first` to `last`
abbrev pub touches : ℕ → ℕ → Entry → Bool
touches first last e = nat_le e.first last && nat_le first e.last

-- the properties of a code point that no row has
abbrev pub no_properties : Properties
no_properties = record { fulls = 0; class = 0; assigned = false; never_second = true; hints = 255 }

-- whether a row has no second part of a composite: the second part of a syllable stands from 1161 to 11C2
abbrev pub is_row_never_second : Entry → Bool → Bool
is_row_never_second e second = not second && not (touches 0x1161 0x11C2 e)

-- what the bits say of each code point of a row is so
abbrev pub AreRowBits : VersionData → Entry → ℕ → Type 0
AreRowBits v e bits = (c : ℕ) → entry_at v.entries c ≡ Some e → AreBits v c bits

-- the properties of a row, whose bits are left open
unfoldable pub row_properties : Entry → ℕ → Bool → ℕ → Properties
row_properties e slot second bits = record { fulls = slot; class = e.class; assigned = true; never_second = is_row_never_second e second; hints = bits }

-- it has such bits
pub record AreRowProperties (v : VersionData) (e : Entry) (slot : ℕ) (second : Bool) (w : Properties) : Type 0 where
  pub bits : ℕ
  pub hints : AreRowBits v e bits
  pub properties : w ≡ row_properties e slot second bits

-- `no_properties`, and behind it the properties of the first `count` rows
pub record AreAllRowProperties (v : VersionData) (slots : List ℕ) (seconds : List Bool) (count : ℕ) (all_properties : List Properties) : Type 0 where
  pub size : length all_properties ≡ count + 1
  pub none : slice_index_or all_properties 0 no_properties ≡ no_properties
  pub each : (k : ℕ) (e : Entry) → k < count → slice_get v.entries k ≡ Some e → AreRowProperties v e (slice_index slots k) (slice_index_or seconds k false) (slice_index_or all_properties (k + 1) no_properties)

-- the properties of all blocks, by the row numbers that stand there
abbrev pub paged_properties : List Properties → List ℕ → List Properties
paged_properties all_properties numbers = map (λ n. slice_index_or all_properties n no_properties) numbers

-- what properties tell of their code point
pub record ArePropertiesOf (v : VersionData) (lists : FullLists) (c : ℕ) (w : Properties) : Type 0 where
  pub class : w.class ≡ class_of v c
  pub assigned : w.assigned ≡ is_assigned v c
  pub slot : IsSlot v lists c w.fulls
  -- of no primary composite it is the second part
  pub never_second : w.never_second ≡ true → (a p : ℕ) → ¬ (IsCompositeOf v a c p)
  pub hints : AreBits v c w.hints

-- the properties of each code point of a version that meets the conditions
pub record ArePages (v : VersionData) (lists : FullLists) (blocks : List ℕ) (all_properties : List Properties) : Type 0 where
  pub sound : IsSound v
  pub within : AreWithin 4352 blocks (length all_properties)
  -- slot 0 is empty
  pub none : (compat : Bool) → slice_index_or (of_kind compat lists) 0 [] ≡ []
  pub each : (c : ℕ) → c < 0x110000 → ArePropertiesOf v lists c (slice_index_or all_properties (property_place blocks c) no_properties)

-- the last code point of a list, or else the one before it
abbrev pub last_behind : Option ℕ → List ℕ → Option ℕ
last_behind before [] = before
last_behind before (c ∷ cs) = last_behind (Some c) cs

-- what was read of a text is a walk from 0 to `last`, and `rest` is left
pub record IsWalkedTo (Step : Option ℕ → ℕ → ℕ → ℕ → Type 0) (s rest : List ℕ) (last : ℕ) : Type 0 where
  pub before : List ℕ
  pub bytes : s ≡ encode_utf8_all before ++ rest
  pub text : chars s ≡ before ++ chars rest
  pub walk : Walks Step None 0 before last
  pub utf8 : IsUtf8 rest

-- each walk to a text that leads to no more than `low` goes on to `rest`, and leads to no more than `next`
abbrev pub WalksOn : (Option ℕ → ℕ → ℕ → ℕ → Type 0) → List ℕ → List ℕ → ℕ → ℕ → Type 0
WalksOn Step text rest low next = (s : List ℕ) (last : ℕ) → last ≤ low → IsWalkedTo Step s text last → (n : ℕ) × ((n ≤ next) × IsWalkedTo Step s rest n)

-- by its quick check a code point passes where no class but 0 may that is below `last`, and behind it n is such a bound: it is a starter that passes,
-- whatever n is, or its quick check is no less
abbrev pub QuickCheckFollows : ℕ → ℕ → ℕ → Type 0
QuickCheckFollows quick_check last n = (quick_check ≡ 255) ⊎ ((0 < quick_check) × (quick_check < 255) × (n ≡ quick_check) × (last ≤ n))

-- the quick check is no less than the least one
abbrev pub FollowsByQuickCheck : ℕ → List ℕ → List ℕ → Form → ℕ → ℕ → ℕ → Type 0
FollowsByQuickCheck least blocks quick_checks form last c n =
    (c < 0x110000) × (least ≤ quick_check_in form (slice_index_or quick_checks (property_place blocks c) 0)) × QuickCheckFollows (quick_check_in form (slice_index_or quick_checks (property_place blocks c) 0)) last n

-- by the properties of the code point before, one of a class does not compose right behind it
abbrev pub CannotComposeByProperties : VersionData → ℕ → Properties → ℕ → ℕ → Type 0
CannotComposeByProperties v kept before c class = ((0 < before.class) × (class ≤ before.class)) ⊎ ((before.class ≡ 0) × (before.fulls ≡ 0) × (is_syllable kept ≡ false) × ((p : ℕ) → ¬ (IsCompositeOf v kept c p)))

-- an assigned code point does not compose right behind the one before
abbrev pub FollowsUncomposed : VersionData → Form → Option ℕ → ℕ → ℕ → ℕ → Type 0
FollowsUncomposed v form before last c n = (is_final v (is_compat form) c ≡ true) × (n ≡ class_of v c) × ((n ≡ 0) ⊎ (last ≤ n)) × ((kept : ℕ) × (before ≡ Some kept) × CannotComposeAfter v form kept c) × (is_assigned v c ≡ true)

-- behind the code points `front` c is one that does: from no more than `low` it leads to no more than `next`
abbrev pub PassesUncomposed : VersionData → Form → List ℕ → ℕ → ℕ → ℕ → Type 0
PassesUncomposed v form front c low next = (last : ℕ) → last ≤ low → (n : ℕ) × (n ≤ next) × FollowsUncomposed v form (last_behind None front) last c n

-- either of the two
abbrev pub Follows : VersionData → ℕ → List ℕ → List ℕ → Form → Option ℕ → ℕ → ℕ → ℕ → Type 0
Follows v least blocks quick_checks form before last c n =
    FollowsByQuickCheck least blocks quick_checks form last c n ⊎ FollowsUncomposed v form before last c n

-- the first n bytes of a text are code points that may follow one another as they are
abbrev pub AreFollowing : VersionData → ℕ → List ℕ → List ℕ → Form → List ℕ → ℕ → Type 0
AreFollowing v least blocks quick_checks form = AreWalked (Follows v least blocks quick_checks form)

-- all ASCII passes under every form
abbrev pub IsAsciiYes : List ℕ → List ℕ → Type 0
IsAsciiYes blocks quick_checks = (c : ℕ) → c < 128 → slice_index_or quick_checks (property_place blocks c) 0 ≡ 0xFFFFFFFF
