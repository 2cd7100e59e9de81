-- What a quick check says of its properties, and runs of code points that may follow one another as they are.
use Rattle.std.proofs.Common.{◌≡◌, ℕ, ◌/◌, ◌<◌, ◌≤◌, ◌⊎◌, true, List, refl, ap, ◌∙◌, arith, ◌-◌, Bool, false, ◌&&◌, suc, ◌∷◌, ◌++◌, Option, Some, None, length}
use Rattle.std.proofs.Common.{get_or, take, drop, drop_at, take_at, slice_range, chars, IsUtf8, encode_utf8, encode_utf8_all, All, sym, subst, append_assoc}
use Rattle.std.proofs.Common.{append-nil, length-append, inl, inr, not, []}
use Rattle.np_tables.proofs.Words.{cond-true, Form, Nfd, Nfc, Nfkd, Nfkc, composes, Properties, has_bit, yes_place, AreWithin, property_place}
use Rattle.np_tables.proofs.Words.{assigned_quick_check, quick_check_in, quick_check_of, quick_checks_of, list_all, IsCharBoundary, and_from, and_right}
use Rattle.np_tables.proofs.Words.{not-false, get_or-map, chars-append, chars_from_encodes, chars_past_char, encodes-append, IsCharBoundary-at_seam}
use Rattle.np_tables.proofs.Words.{IsCharBoundary-from_take, IsUtf8-drop, IsUtf8-take, IsUtf8-past_char, chars-nil, is_syllable, is_compat, BeginsAtBoundary}
use Rattle.np_tables.proofs.Words.{IsBoundary, IsYesStarter, is_final, VersionData, class_of, has_hangul, is_assigned, table_full, FullLists, of_kind}
use Rattle.np_tables.proofs.Words.{AreFollowing, ArePages, Follows, FollowsByQuickCheck, FollowsUncomposed, IsAsciiYes, IsPast, IsWalkedTo, PassesUncomposed}
use Rattle.np_tables.proofs.Words.{last_behind, no_properties, CannotComposeByProperties, ArePropertiesOf, all_quick_checks, nat_tests}
use Rattle.np_versions.specs.QuickSpans.{IsQuickSpan, MayFollow, Walks, CannotComposeAfter}
use Rattle.np_versions.proofs.HangulLemmas.{by_arithmetic, syllable_hangul}
use Rattle.np_versions.proofs.MappingLemmas.{full_of-some}
use Rattle.np_tables.proofs.PageLemmas.{properties-read}
use Rattle.np_versions.proofs.TableLemmas.{IsPast-ascii}

pub yes_quick_check : (form : Form) → quick_check_in form 0xFFFFFFFF ≡ 255
yes_quick_check Nfd = refl
yes_quick_check Nfc = refl
yes_quick_check Nfkd = refl
yes_quick_check Nfkc = refl

quick_check_le : (form : Form) (w : Properties) → quick_check_of form w ≤ 255
unfolding quick_check_of assigned_quick_check
quick_check_le form w = grind (arith, nat_tests)

-- above 1 it is assigned
pub quick_check_assigned : (form : Form) (w : Properties) → 2 ≤ quick_check_of form w → w.assigned ≡ true
unfolding quick_check_of
quick_check_assigned form w h = grind (arith, nat_tests)

pub quick_check_yes : (form : Form) (w : Properties) → quick_check_of form w ≡ 255 → has_bit w.hints (yes_place form) ≡ true
unfolding quick_check_of assigned_quick_check
quick_check_yes form w h = grind (arith, nat_tests)

-- an inert non-starter, or what is not assigned and passes
pub quick_check_low : (form : Form) (w : Properties) → 0 < quick_check_of form w → quick_check_of form w < 255 → (has_bit w.hints (yes_place form) ≡ true) ⊎ ((w.class ≡ quick_check_of form w) × (w.fulls ≡ 0) × (composes form ≡ true → w.never_second ≡ true))
unfolding quick_check_of assigned_quick_check
quick_check_low form w some low = grind (arith, nat_tests)

-- each form's own quick check
pub quick_check_at : (form : Form) (w : Properties) → quick_check_in form (quick_checks_of w) ≡ quick_check_of form w
unfolding quick_checks_of
quick_check_at Nfd w = omega (arith, quick_check_le Nfd w, quick_check_le Nfc w, quick_check_le Nfkd w, quick_check_le Nfkc w)
quick_check_at Nfc w = omega (arith, quick_check_le Nfd w, quick_check_le Nfc w, quick_check_le Nfkd w, quick_check_le Nfkc w)
quick_check_at Nfkd w = omega (arith, quick_check_le Nfd w, quick_check_le Nfc w, quick_check_le Nfkd w, quick_check_le Nfkc w)
quick_check_at Nfkc w = omega (arith, quick_check_le Nfd w, quick_check_le Nfc w, quick_check_le Nfkd w, quick_check_le Nfkc w)

-- all bits are there
yes_bit : (form : Form) → has_bit 255 (yes_place form) ≡ true
yes_bit Nfd = refl
yes_bit Nfc = refl
yes_bit Nfkd = refl
yes_bit Nfkc = refl

quick_check_of-yes_starters : (form : Form) (w : Properties) → w.assigned ≡ true → w.hints ≡ 255 → quick_check_of form w ≡ 255
unfolding quick_check_of assigned_quick_check
quick_check_of-yes_starters form w on all =
    cond-true _ _ _ on ∙ cond-true _ _ _ (ap (λ h. has_bit h (yes_place form)) all ∙ yes_bit form)

pub quick_checks_of-yes_starters : (w : Properties) → w.assigned ≡ true → w.hints ≡ 255 → quick_checks_of w ≡ 0xFFFFFFFF
unfolding quick_checks_of
quick_checks_of-yes_starters w on all = omega (arith, quick_check_of-yes_starters Nfd w on all, quick_check_of-yes_starters Nfc w on all, quick_check_of-yes_starters Nfkd w on all, quick_check_of-yes_starters Nfkc w on all)

-- the quick check of a code point is within
pub place-within : (blocks : List ℕ) (all_properties : ℕ) → AreWithin 4352 blocks all_properties → (c : ℕ) → c < 0x110000 → property_place blocks c < all_properties
unfolding property_place
place-within blocks all_properties within c lt = omega (arith, lt, within.each (c / 256) (omega (arith, lt)))

-- ---- walks over lists

module _ (Step : Option ℕ → ℕ → ℕ → ℕ → Type 0) where
  -- a walk goes on with another
  pub Walks-append : (before : Option ℕ) (first middle last : ℕ) (xs ys : List ℕ) → Walks Step before first xs middle → Walks Step (last_behind before xs) middle ys last → Walks Step before first (xs ++ ys) last
  Walks-append before first middle last [] ys w more = subst (λ n. Walks Step before n ys last) (sym w) more
  Walks-append before first middle last (x ∷ xs) ys w more = (w.0, w.1, Walks-append (Some x) w.0 middle last xs ys w.2 more)

-- a walk by steps that are other steps too
pub Walks-weaker : (Step Other : Option ℕ → ℕ → ℕ → ℕ → Type 0) → ((before : Option ℕ) (a c b : ℕ) → Step before a c b → Other before a c b) → (before : Option ℕ) (first last : ℕ) (xs : List ℕ) → Walks Step before first xs last → Walks Other before first xs last
Walks-weaker Step Other each before first last [] w = w
Walks-weaker Step Other each before first last (x ∷ xs) w = (w.0, each before first x w.0 w.1, Walks-weaker Step Other each (Some x) w.0 last xs w.2)

-- ---- what was read of a text is a walk, and `rest` is left

module _ (Step : Option ℕ → ℕ → ℕ → ℕ → Type 0) where
  -- one code point more
  pub IsWalkedTo-next : (s rest : List ℕ) (last c : ℕ) (later : List ℕ) (n : ℕ) (r : IsWalkedTo Step s rest last) → rest ≡ encode_utf8 c ++ later → Step (last_behind None r.before) last c n → IsWalkedTo Step s later n
  IsWalkedTo-next s rest last c later n r e quick_check =
      record {
        before = r.before ++ c ∷ [];
        bytes = r.bytes ∙ ap (λ l. encode_utf8_all r.before ++ l) e ∙ sym (append_assoc (encode_utf8_all r.before) (encode_utf8 c) later)
            ∙ ap (λ l. l ++ later) (ap (λ l. encode_utf8_all r.before ++ l) (sym (append-nil (encode_utf8 c))) ∙ sym (encodes-append r.before (c ∷ [])));
        text = r.text ∙ ap (λ l. r.before ++ l) (chars_past_char rest later c r.utf8 e) ∙ sym (append_assoc r.before (c ∷ []) (chars later));
        walk = Walks-append Step None 0 last n r.before (c ∷ []) r.walk (n, quick_check, refl);
        utf8 = IsUtf8-past_char rest later c r.utf8 e;
      }

  walk_past : (P : ℕ → Type 0) → ((before : Option ℕ) (c : ℕ) → P c → Step before 0 c 0) → (before : Option ℕ) (xs : List ℕ) → All P xs → Walks Step before 0 xs 0
  walk_past P each before [] all = refl
  walk_past P each before (x ∷ xs) all = (0, each before x (all 0 x (omega arith)), walk_past P each (Some x) xs (λ k d lt. all (suc k) d (omega arith)))

  -- some more at once, each of which leads from 0 to 0
  pub IsWalkedTo-past : (P : ℕ → Type 0) → ((before : Option ℕ) (c : ℕ) → P c → Step before 0 c 0) → (s rest later : List ℕ) → IsWalkedTo Step s rest 0 → IsPast P rest later → IsWalkedTo Step s later 0
  IsWalkedTo-past P each s rest later r past =
      record {
        before = r.before ++ past.front;
        bytes = r.bytes ∙ ap (λ l. encode_utf8_all r.before ++ l) past.split ∙ sym (append_assoc (encode_utf8_all r.before) (encode_utf8_all past.front) later)
            ∙ ap (λ l. l ++ later) (sym (encodes-append r.before past.front));
        text = r.text ∙ ap (λ l. r.before ++ l) past.text_is ∙ sym (append_assoc r.before past.front (chars later));
        walk = Walks-append Step None 0 0 0 r.before past.front r.walk (walk_past P each (last_behind None r.before) past.front past.passed);
        utf8 = past.utf8;
      }

-- ASCII that passes leads from any class to 0
pub ascii_follows : (least : ℕ) (blocks quick_checks : List ℕ) (form : Form) → least ≤ 255 → IsAsciiYes blocks quick_checks → (last c : ℕ) → c < 128 → FollowsByQuickCheck least blocks quick_checks form last c 0
ascii_follows least blocks quick_checks form le ascii last c lt =
    let whole : quick_check_in form (get_or quick_checks (property_place blocks c) 0) ≡ 255 = ap (quick_check_in form) (ascii c lt) ∙ yes_quick_check form in (omega arith, omega (arith, whole, le), inl whole)

pub following-stop : (v : VersionData) (least : ℕ) (blocks quick_checks : List ℕ) (form : Form) (s rest : List ℕ) (last n : ℕ) → IsWalkedTo (Follows v least blocks quick_checks form) s rest last → n ≡ length s - length rest → AreFollowing v least blocks quick_checks form s n
following-stop v least blocks quick_checks form s rest last n r is =
    record {
      front = r.before;
      back = rest;
      end = last;
      split = r.bytes;
      text = r.text;
      utf8 = r.utf8;
      walk = r.walk;
      place = omega (arith, is, ap length r.bytes, length-append (encode_utf8_all r.before) rest);
    }

-- ---- behind what was walked over

module _ (Step : Option ℕ → ℕ → ℕ → ℕ → Type 0) (s rest : List ℕ) (last : ℕ) (r : IsWalkedTo Step s rest last) where
  walked-place : length (encode_utf8_all r.before) ≡ length s - length rest
  walked-place = omega (arith, ap length r.bytes, length-append (encode_utf8_all r.before) rest)

  pub walked-seam : IsCharBoundary s (length s - length rest)
  walked-seam = subst (IsCharBoundary s) walked-place (IsCharBoundary-at_seam s (encode_utf8_all r.before) rest r.bytes r.utf8)

  -- the text before is what was walked over
  pub walked-front : (front : List ℕ) → IsUtf8 s → front ≡ slice_range s 0 (length s - length rest) → chars front ≡ r.before
  walked-front front utf8 is =
      let n = length s - length rest in
      let encoded : encode_utf8_all r.before ≡ take n s = sym (ap (take n) r.bytes ∙ take_at (encode_utf8_all r.before) rest n walked-place) in
      let whole : n - 0 ≡ n = omega arith in
      ap chars (is ∙ ap (λ k. take k s) whole) ∙ sym (chars_from_encodes r.before (take n s) (IsUtf8-take s n utf8 walked-seam) encoded)

  -- what is left is what stands behind it
  pub walked-rest : (n : ℕ) → n ≡ length s - length rest → drop n s ≡ rest
  walked-rest n is = ap (drop n) r.bytes ∙ drop_at (encode_utf8_all r.before) rest n (walked-place ∙ sym is)

-- one code point more, which does not compose
pub walked-uncomposed : (v : VersionData) (least : ℕ) (blocks quick_checks : List ℕ) (form : Form) (s here later front : List ℕ) (c last low next : ℕ) → last ≤ low → (r : IsWalkedTo (Follows v least blocks quick_checks form) s here last) → front ≡ r.before
    → here ≡ encode_utf8 c ++ later → PassesUncomposed v form front c low next → (n : ℕ) × ((n ≤ next) × IsWalkedTo (Follows v least blocks quick_checks form) s later n)
walked-uncomposed v least blocks quick_checks form s here later front c last low next behind r same parts passes =
    let on = passes last behind in
    (on.0, (on.1, IsWalkedTo-next (Follows v least blocks quick_checks form) s here last c later on.0 r parts (inr (subst (λ l. FollowsUncomposed v form (last_behind None l) last c on.0) same on.2))))

-- what is left begins with a boundary, or nothing is left
pub begins-first : (v : VersionData) (form : Form) (rest here later : List ℕ) (c : ℕ) → rest ≡ here → IsUtf8 here → here ≡ encode_utf8 c ++ later → IsBoundary v form c → BeginsAtBoundary v form (chars rest)
begins-first v form rest here later c same utf8 parts at = subst (BeginsAtBoundary v form) (sym (ap chars same ∙ chars_past_char here later c utf8 parts)) at

-- ---- a non-starter for which nothing is lent has no mapping

plain_non_starter : (v : VersionData) (c : ℕ) → 0 < class_of v c → (has_hangul v && is_syllable c) ≡ false
plain_non_starter v c non_starter = grind (arith, nat_tests, by_arithmetic v, syllable_hangul c)

pub final-lent : (v : VersionData) (compat : Bool) (c : ℕ) → table_full v compat c ≡ [] → (has_hangul v && is_syllable c) ≡ false → is_final v compat c ≡ true
unfolding table_full
final-lent v compat c none plain = grind (arith, nat_tests, full_of-some v compat c, plain, none)

-- ---- what the quick checks say is so

module _ (v u : VersionData) (same : u ≡ v) (lists : FullLists) (blocks : List ℕ) (all_properties : List Properties) (pages : ArePages u lists blocks all_properties) (quick_checks : List ℕ) (are_quick_checks : quick_checks ≡ all_quick_checks all_properties) (form : Form) where
  pub quick_check_read : (c : ℕ) → c < 0x110000 → quick_check_in form (get_or quick_checks (property_place blocks c) 0) ≡ quick_check_of form (get_or all_properties (property_place blocks c) no_properties)
  quick_check_read c lt =
      ap (λ l. quick_check_in form (get_or l (property_place blocks c) 0)) are_quick_checks
      ∙ ap (quick_check_in form) (get_or-map quick_checks_of all_properties (property_place blocks c) no_properties 0 (place-within blocks (length all_properties) pages.within c lt)) ∙ quick_check_at form _

  quick_check_follows : (least : ℕ) (before : Option ℕ) (last c n : ℕ) → FollowsByQuickCheck least blocks quick_checks form last c n → MayFollow u form before last c n
  quick_check_follows least before last c n h =
      let w = get_or all_properties (property_place blocks c) no_properties in
      let properties = pages.each c h.0 in
      let read = quick_check_read c h.0 in
      elim h.2 [
        | inl yes_starter ↦ inl (properties.hints.yes_starter form (quick_check_yes form w (sym read ∙ yes_starter)))
        | inr goes ↦
            let compat = is_compat form in
            elim (quick_check_low form w (omega (arith, read, goes.0)) (omega (arith, read, goes.1))) [
              | inl bit ↦ inl (properties.hints.yes_starter form bit)
              | inr inert ↦
                  let non_starter : 0 < class_of u c = omega (arith, properties.class, inert.0, read, goes.0) in
                  let none = sym (properties.slot.lent compat) ∙ ap (λ k. get_or (of_kind compat lists) k []) inert.1 ∙ pages.none compat in
                  inr (final-lent u compat c none (plain_non_starter u c non_starter), goes.2 ∙ read ∙ sym inert.0 ∙ properties.class, inr goes.3, inl (λ on. properties.never_second (inert.2 on)))
            ]
      ]

  follows_is : (least : ℕ) (before : Option ℕ) (last c n : ℕ) → Follows u least blocks quick_checks form before last c n → MayFollow u form before last c n
  follows_is least before last c n h = elim h [ inl by_quick_check ↦ quick_check_follows least before last c n by_quick_check | inr uncomposed ↦ inr (uncomposed.0, uncomposed.1, uncomposed.2, inr uncomposed.3) ]

  follows-assigned : (least : ℕ) (before : Option ℕ) (last c n : ℕ) → 2 ≤ least → Follows u least blocks quick_checks form before last c n → is_assigned u c ≡ true
  follows-assigned least before last c n two h = grind (arith, h, λ (lt : c < 0x110000). (pages.each c lt).assigned, quick_check_assigned form, quick_check_read c)

  -- above the least quick check of what is not assigned each is
  walk-assigned : (least : ℕ) (before : Option ℕ) (last end : ℕ) (cs : List ℕ) → 2 ≤ least → Walks (Follows u least blocks quick_checks form) before last cs end → list_all (is_assigned u) cs ≡ true
  walk-assigned least before last end [] two walk = refl
  walk-assigned least before last end (c ∷ cs) two walk =
      and_from (is_assigned u c) (list_all (is_assigned u) cs) (follows-assigned least before last c walk.0 two walk.1) (walk-assigned least (Some c) walk.0 end cs two walk.2)

  pub following-assigned : (least : ℕ) (text : List ℕ) (n : ℕ) → 2 ≤ least → IsUtf8 text → AreFollowing u least blocks quick_checks form text n → list_all (is_assigned v) (chars (take n text)) ≡ true
  following-assigned least text n two utf8 are =
      let front = encode_utf8_all are.front in
      let at : IsCharBoundary text n = subst (IsCharBoundary text) (sym are.place) (IsCharBoundary-at_seam text front are.back are.split are.utf8) in
      let encoded : front ≡ take n text = sym (ap (take n) are.split ∙ take_at front are.back n (sym are.place)) in
      let its : are.front ≡ chars (take n text) = chars_from_encodes are.front (take n text) (IsUtf8-take text n utf8 at) encoded in
      subst (λ x. list_all (is_assigned x) (chars (take n text)) ≡ true) same (ap (list_all (is_assigned u)) (sym its) ∙ walk-assigned least None 0 are.end are.front two are.walk)

  pub following-quick_span : (least : ℕ) (text : List ℕ) (n : ℕ) → AreFollowing u least blocks quick_checks form text n → IsQuickSpan v form text n
  following-quick_span least text n are =
      record {
        front = are.front;
        back = are.back;
        end = are.end;
        split = are.split;
        text = are.text;
        utf8 = are.utf8;
        walk = subst (λ x. Walks (MayFollow x form) None 0 are.front are.end) same (Walks-weaker (Follows u least blocks quick_checks form) (MayFollow u form) (follows_is least) None 0 are.end are.front are.walk);
        place = are.place;
      }

  -- ---- ASCII that passes under every form is assigned

  module _ (ascii : IsAsciiYes blocks quick_checks) where
    -- its quick check is that of a starter that passes
    ascii_quick_check : (c : ℕ) → c < 128 → quick_check_of form (get_or all_properties (property_place blocks c) no_properties) ≡ 255
    ascii_quick_check c lt = sym (quick_check_read c (omega (arith, lt))) ∙ ap (quick_check_in form) (ascii c lt) ∙ yes_quick_check form

    pub ascii-assigned : (c : ℕ) → c < 128 → is_assigned v c ≡ true
    ascii-assigned c lt =
        let w = get_or all_properties (property_place blocks c) no_properties in
        subst (λ x. is_assigned x c ≡ true) same (sym (pages.each c (omega (arith, lt))).assigned ∙ quick_check_assigned form w (omega (arith, ascii_quick_check c lt)))

    pub ascii-yes_starter : (c : ℕ) → c < 128 → IsYesStarter v form c
    ascii-yes_starter c lt =
        let w = get_or all_properties (property_place blocks c) no_properties in
        subst (λ x. IsYesStarter x form c) same ((pages.each c (omega (arith, lt))).hints.yes_starter form (quick_check_yes form w (ascii_quick_check c lt)))

-- ---- code points that go into nothing behind the one before

last_behind-more : (before : Option ℕ) (xs : List ℕ) (c : ℕ) → last_behind before (xs ++ c ∷ []) ≡ Some c
last_behind-more before [] c = refl
last_behind-more before (x ∷ xs) c = last_behind-more (Some x) xs c

-- the last code point of a text
pub last_behind-text : (s earlier : List ℕ) (c : ℕ) → s ≡ earlier ++ encode_utf8 c → IsUtf8 s → IsUtf8 earlier → last_behind None (chars s) ≡ Some c
last_behind-text s earlier c e utf8 of_earlier =
    let n = length earlier in
    let back = encode_utf8 c in
    let at = IsCharBoundary-from_take s n utf8 (omega (arith, ap length e, length-append earlier back)) (subst IsUtf8 (sym (ap (take n) e ∙ take_at earlier back n refl)) of_earlier) in
    let tail : IsUtf8 back = subst IsUtf8 (ap (drop n) e ∙ drop_at earlier back n refl) (IsUtf8-drop s n utf8 at) in
    let one : chars back ≡ c ∷ [] = chars_past_char back [] c tail (sym (append-nil back)) ∙ ap (λ l. c ∷ l) chars-nil in
    ap (last_behind None) (ap chars e ∙ chars-append earlier back of_earlier ∙ ap (λ l. chars earlier ++ l) one) ∙ last_behind-more None (chars earlier) c

module _ (v : VersionData) (lists : FullLists) (blocks : List ℕ) (all_properties : List Properties) (pages : ArePages v lists blocks all_properties) where
  -- what has no slot and is no syllable has no mapping
  final-read : (compat : Bool) (c : ℕ) (w : Properties) → ArePropertiesOf v lists c w → w.fulls ≡ 0 → is_syllable c ≡ false → is_final v compat c ≡ true
  final-read compat c w properties fulls plain =
      final-lent v compat c (sym (properties.slot.lent compat) ∙ ap (λ k. get_or (of_kind compat lists) k []) fulls ∙ pages.none compat) (and_right (has_hangul v) (is_syllable c) plain)

  -- what the properties of the code point before tell is so
  stands-read : (form : Form) (kept c : ℕ) (before w : Properties) → ArePropertiesOf v lists kept before → ArePropertiesOf v lists c w → CannotComposeByProperties v kept before c w.class → CannotComposeAfter v form kept c
  stands-read form kept c before w of_before of_c uncomposed = grind (arith, of_before.class, of_c.class, final-read (is_compat form) kept before of_before, uncomposed)

  pub passes_uncomposed : (form : Form) (front : List ℕ) (kept c low next : ℕ) → kept < 0x110000 → c < 0x110000 → (before w : Properties) → before ≡ get_or all_properties (property_place blocks kept) no_properties → w ≡ get_or all_properties (property_place blocks c) no_properties
      → w.fulls ≡ 0 → not w.assigned ≡ false → is_syllable c ≡ false → last_behind None front ≡ Some kept → CannotComposeByProperties v kept before c w.class → (w.class ≡ 0) ⊎ (low ≤ w.class) → w.class ≤ next → PassesUncomposed v form front c low next
  passes_uncomposed form front kept c low next of_kept of_c before w is_before is fulls assigned plain behind uncomposed order le last up_to =
      let properties = properties-read v v refl lists blocks all_properties pages c of_c w is in
      let stands = stands-read form kept c before w (properties-read v v refl lists blocks all_properties pages kept of_kept before is_before) properties uncomposed in
      let final = final-read (is_compat form) c w properties fulls plain in
      (class_of v c, omega (arith, properties.class, le), (final, refl, grind (arith, properties.class, order), (kept, behind, stands), sym properties.assigned ∙ not-false w.assigned assigned))

-- what the checks of functions cite
pub ruleset quick_span_answers = (IsPast-ascii, last_behind-text)
