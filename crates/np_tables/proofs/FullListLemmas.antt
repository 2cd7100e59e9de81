-- What a table lends, row by row, in one flat list, the slots of it, and what the plain table answers.
use Rattle.std.proofs.Common.{◌≡◌, ℕ, ◌+◌, ◌-◌, ◌≤◌, Bool, true, false, ◌&&◌, List, [], ◌∷◌, ◌++◌, length, take, map, Some, refl, sym, ap, subst, ◌∙◌, arith}
use Rattle.std.proofs.Common.{append_assoc, append-nil, suc, ◌≢◌, ◌==◌, flat_map, if◌then◌else◌, ◌<◌, get_or, None}
use Rattle.np_tables.proofs.Words.{slice_get, cond-true, cond-false, and_parts, and_from, eqb-true, take-append-le, drop-append-le, drop_at, take_all, map_push}
use Rattle.np_tables.proofs.Words.{take_more, length-append, length-drop, All-head, All-tail, All-push, All-weaker, slice_get_within, get_or_from_slice_get}
use Rattle.np_tables.proofs.Words.{Entry, is_syllable, syllable_pair, VersionData, is_empty, file_kind, file_mapping, has_hangul, counts, parts, full}
use Rattle.np_tables.proofs.Words.{CodeRange, code_range_of, IsCodeRange, AreCodeRanges, IsGrown, row_full, get_or_append_left, length-map, get_or-append_seam}
use Rattle.np_tables.proofs.Words.{take-append_seam, entry_at, table_full, FullLists, of_kind, lists_of, IsSlotPushed, IsSlot, AreSlots, AreSlotsSoFar}
use Rattle.np_tables.proofs.Words.{cases_Bool, get_or-map, AreRows, IsSound, AreFulls}
use Rattle.np_versions.proofs.TableLemmas.{full-level, parts-syllable, parts-file, lent-outside, full-none, lent-by_value}
use Rattle.np_versions.proofs.RowLemmas.{file_mapping-found, at-row, entry_at-within, some_at, first-at}
use Rattle.np_versions.proofs.MappingLemmas.{is_empty-false}

-- ---- what `expand` appends

-- all pieces
pub append_all : (f : ℕ → List ℕ) (xs old now whole : List ℕ) (i : ℕ) → length xs ≤ i → now ≡ old ++ flat_map f (take i xs) → flat_map f xs ≡ whole → now ≡ old ++ whole
append_all f xs old now whole i past before is = before ∙ ap (λ l. old ++ l) (ap (flat_map f) (take_all i xs past) ∙ is)

-- two pieces
pub append_two : (v : VersionData) (compat : Bool) (n c a b : ℕ) (old mid new : List ℕ) → n ≢ 0 → (has_hangul v && is_syllable c) ≡ true → syllable_pair c ≡ a ∷ b ∷ [] → mid ≡ old ++ full v compat (n - 1) a → new ≡ mid ++ full v compat (n - 1) b → new ≡ old ++ full v compat n c
append_two v compat n c a b old mid new ne both pair one two = grind (arith, and_parts, full-level, parts-syllable, append_assoc, append-nil)

pub parts-counted_mapping : (v : VersionData) (compat : Bool) (c : ℕ) (xs : List ℕ) → (has_hangul v && is_syllable c) ≡ false → xs ≡ (if counts compat (file_kind v c) then file_mapping v c else []) → parts v compat c ≡ xs
parts-counted_mapping v compat c xs off is = parts-file v compat c off ∙ sym is

pub nil_from_test : (xs : List ℕ) (t : Bool) → t ≡ (length xs == 0) → t ≡ true → xs ≡ []
nil_from_test [] t is h = refl
nil_from_test (x ∷ xs) t is h = let e = eqb-true (suc (length xs)) 0 (sym is ∙ h) in absurd (omega arith)

pub some_from_test : (xs : List ℕ) (t : Bool) → t ≡ (length xs == 0) → t ≡ false → is_empty xs ≡ false
some_from_test xs t is h = grind arith

-- ---- ranges of a flat list

pub code_range_of-grown : (old more : List ℕ) (p : CodeRange) → IsCodeRange (length old) p → code_range_of (old ++ more) p ≡ code_range_of old p
code_range_of-grown old more p is = grind (arith, length-drop, drop-append-le, take-append-le)

pub parts-grown : (old more : List ℕ) (ps : List CodeRange) → AreCodeRanges old ps → map (code_range_of (old ++ more)) ps ≡ map (code_range_of old) ps
parts-grown old more [] all = refl
parts-grown old more (p ∷ ps) all =
    let rest = parts-grown old more ps (All-tail (IsCodeRange (length old)) p ps all) in
    grind (arith, code_range_of-grown, All-head, All-tail, cond-true, cond-false, and_parts, and_from)

pub AreCodeRanges-grown : (old more : List ℕ) (ps : List CodeRange) → AreCodeRanges old ps → AreCodeRanges (old ++ more) ps
AreCodeRanges-grown old more ps all = All-weaker (IsCodeRange (length old)) (IsCodeRange (length (old ++ more))) (λ p is. (is.0, omega (arith, length-append old more))) ps all

pub code_range_of-new : (old more : List ℕ) (p : CodeRange) → p.start ≡ length old → p.end ≡ length (old ++ more) → code_range_of (old ++ more) p ≡ more
code_range_of-new old more p start end = grind (arith, length-append, drop_at, take_all)

-- one more range at the end
pub record OneMore (v : VersionData) (compat : Bool) (es : List Entry) (at : ℕ) (codes : List ℕ) (ps : List CodeRange) : Type 0 where
  pub within : AreCodeRanges codes ps
  pub lists : map (code_range_of codes) ps ≡ map (row_full v compat) (take at es)

pub one_more : (v : VersionData) (compat : Bool) (es : List Entry) (at : ℕ) (old new : List ℕ) (ps : List CodeRange) (p : CodeRange) (e : Entry) →
    OneMore v compat es at old ps → slice_get es at ≡ Some e → new ≡ old ++ row_full v compat e → p.start ≡ length old → p.end ≡ length new →
    OneMore v compat es (at + 1) new (ps ++ p ∷ [])
one_more v compat es at old new ps p e before found grown start end =
    let more = row_full v compat e in
    let end_is : p.end ≡ length (old ++ more) = end ∙ ap length grown in
    let within : AreCodeRanges (old ++ more) (ps ++ p ∷ []) =
    All-push (IsCodeRange (length (old ++ more))) ps p (AreCodeRanges-grown old more ps before.within) (omega (arith, length-append old more), omega arith) in
    let fits = slice_get_within es at e found in
    let here : take (at + 1) es ≡ take at es ++ e ∷ [] = take_more es at e fits ∙ ap (λ (x : Entry). take at es ++ x ∷ []) (get_or_from_slice_get es at e e found) in
    let lists : map (code_range_of (old ++ more)) (ps ++ p ∷ []) ≡ map (row_full v compat) (take (at + 1) es) =
    map_push (code_range_of (old ++ more)) ps p
    ∙ ap (λ l. l ++ code_range_of (old ++ more) p ∷ []) (parts-grown old more ps before.within ∙ before.lists)
    ∙ ap (λ l. map (row_full v compat) (take at es) ++ l ∷ []) (code_range_of-new old more p start end_is)
    ∙ sym (ap (map (row_full v compat)) here ∙ map_push (row_full v compat) (take at es) e) in
    subst (λ l. OneMore v compat es (at + 1) l (ps ++ p ∷ [])) (sym grown) (record { within = within; lists = lists })

pub grown_more : (old mid new more : List ℕ) → IsGrown old mid → new ≡ mid ++ more → IsGrown old new
grown_more old mid new more one two = (one.0 ++ more, two ∙ ap (λ l. l ++ more) one.1 ∙ append_assoc old one.0 more)

pub lists_grown : (v : VersionData) (compat : Bool) (es : List Entry) (old new : List ℕ) (ps : List CodeRange) → IsGrown old new → AreCodeRanges old ps → map (code_range_of old) ps ≡ map (row_full v compat) es → map (code_range_of new) ps ≡ map (row_full v compat) es
lists_grown v compat es old new ps grown within lists = ap (λ l. map (code_range_of l) ps) grown.1 ∙ parts-grown old grown.0 ps within ∙ lists

-- ---- one slot more

-- one range more, which has this list, over code points that begin with the old ones
pushed : (old more list new : List ℕ) (ranges new_ranges : List CodeRange) (r : CodeRange) → new ≡ old ++ more → AreCodeRanges old ranges →
    new_ranges ≡ ranges ++ r ∷ [] → IsCodeRange (length new) r → code_range_of new r ≡ list → AreCodeRanges new new_ranges × (map (code_range_of new) new_ranges ≡ map (code_range_of old) ranges ++ list ∷ [])
pushed old more list new ranges new_ranges r grown within is fits here =
    subst (λ l. AreCodeRanges new l × (map (code_range_of new) l ≡ map (code_range_of old) ranges ++ list ∷ [])) (sym is) (
      All-push (IsCodeRange (length new)) ranges r (subst (λ n. AreCodeRanges n ranges) (sym grown) (AreCodeRanges-grown old more ranges within)) fits,
      map_push (code_range_of new) ranges r ∙ ap (λ l. map (code_range_of new) ranges ++ l ∷ []) here
          ∙ ap (λ l. l ++ list ∷ []) (ap (λ n. map (code_range_of n) ranges) grown ∙ parts-grown old more ranges within),
    )

module _ (v : VersionData) (c : ℕ) (old mid new : List ℕ) (one two : CodeRange) (first : mid ≡ old ++ table_full v false c) (second : new ≡ mid ++ table_full v true c)
    (start : one.start ≡ length old) (middle : one.end ≡ length mid) (start_two : two.start ≡ length mid) (end : two.end ≡ length new) where
  canonical_is : code_range_of new one ≡ table_full v false c
  canonical_is =
      let size = ap length first ∙ length-append old (table_full v false c) in
      ap (λ n. code_range_of n one) second ∙ code_range_of-grown mid (table_full v true c) one (omega arith, omega arith)
      ∙ ap (λ n. code_range_of n one) first ∙ code_range_of-new old (table_full v false c) one start (middle ∙ ap length first)

  compatible_is : code_range_of new two ≡ table_full v true c
  compatible_is = ap (λ n. code_range_of n two) second ∙ code_range_of-new mid (table_full v true c) two start_two (end ∙ ap length second)

  module _ (canonical compatible new_canonical new_compatible : List CodeRange) (in_canonical : AreCodeRanges old canonical) (in_compatible : AreCodeRanges old compatible) (grown : new_canonical ≡ canonical ++ one ∷ []) where
    pub pushed-apart : new_compatible ≡ compatible ++ two ∷ [] → IsSlotPushed v c old canonical compatible new new_canonical new_compatible
    pushed-apart grown_two =
        let a = table_full v false c in
        let b = table_full v true c in
        let sizes : (length mid ≡ length old + length a) × (length new ≡ length mid + length b) = (ap length first ∙ length-append old a, ap length second ∙ length-append mid b) in
        let whole = second ∙ ap (λ m. m ++ b) first ∙ append_assoc old a b in
        let left = pushed old (a ++ b) a new canonical new_canonical one whole in_canonical grown (omega arith, omega arith) canonical_is in
        let right = pushed old (a ++ b) b new compatible new_compatible two whole in_compatible grown_two (omega arith, omega arith) compatible_is in
        record { canonical_within = left.0; compatible_within = right.0; canonical_grown = left.1; compatible_grown = right.1 }

    pub pushed-shared : (kept : List ℕ) → code_range_of new one ≡ code_range_of new two → kept ≡ take one.end new →
        new_compatible ≡ compatible ++ one ∷ [] → IsSlotPushed v c old canonical compatible kept new_canonical new_compatible
    pushed-shared kept same cut grown_two =
        let a = table_full v false c in
        let front : kept ≡ mid = cut ∙ ap (take one.end) second ∙ ap (λ n. take n (mid ++ table_full v true c)) middle ∙ take-append_seam mid (table_full v true c) in
        let sizes : (length mid ≡ length old + length a) × (length kept ≡ length mid) = (ap length first ∙ length-append old a, ap length front) in
        let here = ap (λ n. code_range_of n one) (front ∙ first) ∙ code_range_of-new old a one start (middle ∙ ap length first) in
        let left = pushed old a a kept canonical new_canonical one (front ∙ first) in_canonical grown (omega arith, omega arith) here in
        let right = pushed old a (table_full v true c) kept compatible new_compatible one (front ∙ first) in_compatible grown_two (omega arith, omega arith) (here ∙ sym canonical_is ∙ same ∙ compatible_is) in
        record { canonical_within = left.0; compatible_within = right.0; canonical_grown = left.1; compatible_grown = right.1 }

-- ---- the slots of all rows

record KeepLists (old new : FullLists) : Type 0 where
  longer : (compat : Bool) → length (of_kind compat old) ≤ length (of_kind compat new)
  same : (compat : Bool) (k : ℕ) → k < length (of_kind compat old) → get_or (of_kind compat new) k [] ≡ get_or (of_kind compat old) k []

slot-kept : (v : VersionData) (old new : FullLists) (c slot : ℕ) → KeepLists old new → IsSlot v old c slot → IsSlot v new c slot
slot-kept v old new c slot kept is = grind (arith, kept.longer, kept.same, is.within, is.lent)

slots-more : (v : VersionData) (count : ℕ) (old new : FullLists) (slots : List ℕ) (slot : ℕ) (e : Entry) → AreSlots v count old slots → KeepLists old new → slice_get v.entries count ≡ Some e → IsSlot v new e.first slot →
    AreSlots v (count + 1) new (slots ++ slot ∷ [])
slots-more v count old new slots slot e are kept here is =
    grind (arith, are.size, are.none, are.some, are.each, kept.same, kept.longer, length-append, get_or_append_left, get_or-append_seam, slot-kept v old new)

keep_all : (lists : FullLists) → KeepLists lists lists
keep_all lists = grind arith

-- a row without a mapping
pub slots-bare : (v : VersionData) (count : ℕ) (codes : List ℕ) (canonical compatible : List CodeRange) (slots : List ℕ) (e : Entry) → AreSlotsSoFar v count codes canonical compatible slots → slice_get v.entries count ≡ Some e →
    entry_at v.entries e.first ≡ Some e → is_empty e.mapping ≡ true → AreSlotsSoFar v (count + 1) codes canonical compatible (slots ++ 0 ∷ [])
slots-bare v count codes canonical compatible slots e so_far here found none =
    let lists = lists_of codes canonical compatible in
    grind (arith, slots-more v count lists lists slots 0 e so_far.are_slots (keep_all lists) here, so_far.few, so_far.are_slots.some, so_far.are_slots.none, lent-outside, file_mapping-found v e.first e found)

module _ (old new : FullLists) (a b : List ℕ) (one : new.canonical ≡ old.canonical ++ a ∷ []) (two : new.compatible ≡ old.compatible ++ b ∷ []) where
  longer-pushed : (compat : Bool) → length (of_kind compat new) ≡ length (of_kind compat old) + 1
  longer-pushed false = ap length one ∙ length-append old.canonical (a ∷ [])
  longer-pushed true = ap length two ∙ length-append old.compatible (b ∷ [])

  same-pushed : (compat : Bool) (k : ℕ) → k < length (of_kind compat old) → get_or (of_kind compat new) k [] ≡ get_or (of_kind compat old) k []
  same-pushed false k lt = grind (arith, get_or_append_left)
  same-pushed true k lt = grind (arith, get_or_append_left)

  kept-pushed : KeepLists old new
  kept-pushed = grind (arith, longer-pushed, same-pushed)

  -- the new slot
  new-pushed : (v : VersionData) (c : ℕ) → a ≡ table_full v false c → b ≡ table_full v true c → length old.canonical ≡ length old.compatible → (compat : Bool) → get_or (of_kind compat new) (length old.canonical) [] ≡ table_full v compat c
  new-pushed v c first second both false = ap (λ l. get_or l (length old.canonical) []) one ∙ get_or-append_seam old.canonical a [] [] ∙ first
  new-pushed v c first second both true =
      ap (λ n. get_or new.compatible n []) both ∙ ap (λ l. get_or l (length old.compatible) []) two ∙ get_or-append_seam old.compatible b [] [] ∙ second

  within-pushed : length old.canonical ≡ length old.compatible → (compat : Bool) → length old.canonical < length (of_kind compat new)
  within-pushed both false = grind (arith, longer-pushed false)
  within-pushed both true = grind (arith, longer-pushed true)

length-parts : (codes : List ℕ) (ps : List CodeRange) → length (map (code_range_of codes) ps) ≡ length ps
length-parts codes ps = length-map ps (code_range_of codes)

-- a row with one
pub slots-pushed : (v : VersionData) (count : ℕ) (old codes : List ℕ) (old_canonical old_compatible canonical compatible : List CodeRange) (slots : List ℕ) (slot : ℕ) (e : Entry) → AreSlotsSoFar v count old old_canonical old_compatible slots →
    IsSlotPushed v e.first old old_canonical old_compatible codes canonical compatible → slice_get v.entries count ≡ Some e → slot ≡ length old_canonical →
    AreSlotsSoFar v (count + 1) codes canonical compatible (slots ++ slot ∷ [])
slots-pushed v count old codes old_canonical old_compatible canonical compatible slots slot e so_far pushed here is =
    let before = lists_of old old_canonical old_compatible in
    let after = lists_of codes canonical compatible in
    let grown = longer-pushed before after (table_full v false e.first) (table_full v true e.first) pushed.canonical_grown pushed.compatible_grown in
    let alike : length before.canonical ≡ length before.compatible = omega (arith, length-parts, so_far.both) in
    let place : length before.canonical ≡ slot = omega (arith, length-parts, is) in
    record {
      canonical_within = pushed.canonical_within;
      compatible_within = pushed.compatible_within;
      both = omega (arith, length-parts, so_far.both, grown false, grown true);
      few = omega (arith, length-parts, so_far.few, grown false);
      are_slots = slots-more v count before after slots slot e so_far.are_slots
          (kept-pushed before after (table_full v false e.first) (table_full v true e.first) pushed.canonical_grown pushed.compatible_grown) here
          (subst (IsSlot v after e.first) place (record {
            within = within-pushed before after (table_full v false e.first) (table_full v true e.first) pushed.canonical_grown pushed.compatible_grown alike;
            lent = new-pushed before after (table_full v false e.first) (table_full v true e.first) pushed.canonical_grown pushed.compatible_grown v e.first refl refl alike;
          }));
    }

-- ---- what the plain table answers

pub of_kind-is : (v : VersionData) (compat : Bool) (lists : FullLists) → AreFulls v lists → of_kind compat lists ≡ map (row_full v compat) v.entries
of_kind-is v false lists h = h.canonical
of_kind-is v true lists h = h.compatible

-- a row lends to each of its code points what it lends to its first
pub row-shares : (v : VersionData) (compat : Bool) (c at : ℕ) (e : Entry) → AreRows v.entries → slice_get v.entries at ≡ Some e → entry_at v.entries c ≡ Some e → table_full v compat e.first ≡ table_full v compat c
row-shares v compat c at e rows place found =
    let own = file_mapping-found v e.first e (first-at v.entries at e rows place) in
    grind (arith, own, file_mapping-found v c e found, lent-outside, at-row v.entries at e rows place, entry_at-within v.entries c e found, cases_Bool (is_empty e.mapping), is_empty-false e.mapping)

pub full-value : (v : VersionData) (compat : Bool) (c at : ℕ) (lists : List (List ℕ)) → AreRows v.entries → lists ≡ map (row_full v compat) v.entries → at < length v.entries → slice_get v.entries at ≡ entry_at v.entries c →
    get_or lists at [] ≡ table_full v compat c
full-value v compat c at lists rows are lt place =
    let here = some_at v.entries at lt in
    ap (λ l. get_or l at []) are ∙ get_or-map (row_full v compat) v.entries at here.0 [] lt ∙ ap (row_full v compat) (get_or_from_slice_get v.entries at here.0 here.0 here.1)
    ∙ row-shares v compat c at here.0 rows here.1 (sym place ∙ here.1)

-- the same over a version that is this one
pub full-some : (v w u : VersionData) (compat : Bool) (c d at : ℕ) (lists : FullLists) → w ≡ u → u ≡ v → d ≡ c → IsSound u → AreFulls u lists → at < length w.entries → slice_get w.entries at ≡ entry_at w.entries d →
    get_or (of_kind compat lists) at [] ≡ table_full v compat c
full-some v w u compat c d at lists same same_u code sound are lt place =
    grind (arith, same, same_u, code, of_kind-is u compat lists are, full-value u compat d at (of_kind compat lists) sound.rows)

pub full-nothing : (v w : VersionData) (compat : Bool) (c d : ℕ) → w ≡ v → d ≡ c → entry_at w.entries d ≡ None → [] ≡ table_full v compat c
full-nothing v w compat c d same code none = full-none w compat d none ∙ ap (λ x. table_full x compat d) same ∙ ap (table_full v compat) code

-- what the checks of functions cite
pub ruleset full_answers = (full-nothing, full-some, lent-by_value)
