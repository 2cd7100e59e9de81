-- The row of a code point: how it is found, what is read of it, and its place block by block.
use Rattle.std.proofs.Common.{◌≡◌, ℕ, zero, suc, ◌+◌, ◌<◌, ◌≤◌, true, false, List, [], ◌∷◌, length, Some, None, refl, sym, ap, subst, ◌∙◌, arith, inl, inr}
use Rattle.std.proofs.Common.{nat_le, ◌&&◌, le-leb, ◌==◌, Option, is_some, eqb-true, ◌*◌, ◌/◌, ◌%◌, ◌++◌, get_or, slice_index}
use Rattle.np_versions.proofs.Words.{slice_get, cond-true, cond-false, cases_Bool, and_parts, and_left, and_right, leb-true, lt-leb, none-some, same_Some}
use Rattle.np_versions.proofs.Words.{Entry, IsRow, IsBefore, AreRows, entry_at, lies_in, and_from, VersionData, file_kind, file_mapping, is_empty, has_hangul}
use Rattle.np_versions.proofs.Words.{kind_in, mapping_in, is_syllable, is_listed, class_in, is_assigned, class_of, is_canonical, is_excluded, is_hangul_row}
use Rattle.np_versions.proofs.Words.{is_right_entry, is_right_at, div-add-mod, mod-lt, cases_lt, get_or_append_left, length-append, get_or-append_seam}
use Rattle.np_versions.proofs.Words.{slice_get_within, property_place, IsRowNumber, IsRowBlock, AreRowPages, IsNextRow, AreFirstPages, AreBegun, ArePushed}
use Rattle.np_versions.proofs.Words.{HasNoRow, GoesOn, nat_tests}
use Rattle.np_versions.proofs.HangulLemmas.{hangul_parts, syllable_row}

pub entry_at-nil : (c : ℕ) → entry_at [] c ≡ None
unfolding entry_at
entry_at-nil c = refl

pub entry_at-hit : (e : Entry) (es : List Entry) (c : ℕ) → lies_in (Some e) c ≡ true → entry_at (e ∷ es) c ≡ Some e
unfolding entry_at
entry_at-hit e es c h = cond-true _ _ _ h

pub entry_at-miss : (e : Entry) (es : List Entry) (c : ℕ) → lies_in (Some e) c ≡ false → entry_at (e ∷ es) c ≡ entry_at es c
unfolding entry_at
entry_at-miss e es c h = cond-false _ _ _ h

in_range : (e : Entry) (c : ℕ) → lies_in (Some e) c ≡ true → (e.first ≤ c) × (c ≤ e.last)
in_range e c h = let halves = and_parts _ _ h in (leb-true e.first c halves.0, leb-true c e.last halves.1)

-- an entry that is found is a row
pub entry_at-row : (es : List Entry) (c : ℕ) (e : Entry) → AreRows es → entry_at es c ≡ Some e → IsRow e
unfolding entry_at
entry_at-row [] c e rows h = cc
entry_at-row (x ∷ xs) c e rows h = grind (arith, nat_tests, entry_at-row xs c e rows.2)

-- a code point lies in the row that is found
pub entry_at-within : (es : List Entry) (c : ℕ) (e : Entry) → entry_at es c ≡ Some e → (e.first ≤ c) × (c ≤ e.last)
unfolding entry_at
entry_at-within [] c e h = cc
entry_at-within (x ∷ xs) c e h = grind (arith, nat_tests, entry_at-within xs c e)

IsFrom : ℕ → List Entry → Type 0
IsFrom k [] = Unit {0}
IsFrom k (e ∷ es) = k ≤ e.first

from_before : (e : Entry) (es : List Entry) (k : ℕ) → IsBefore e es → k ≤ e.last → IsFrom (k + 1) es
unfolding IsFrom
from_before e [] k h le = tt
from_before e (f ∷ fs) k h le = omega arith

-- the rows rise from k on
rises : (es : List Entry) (k i : ℕ) (e : Entry) → AreRows es → IsFrom k es → slice_get es i ≡ Some e → k + i ≤ e.first
unfolding IsFrom
rises [] k i e rows from h = absurd (none-some e h)
rises (x ∷ xs) k zero e rows from h = let same : x.first ≡ e.first = ap (λ (f : Entry). f.first) (same_Some x e h) in omega arith
rises (x ∷ xs) k (suc i) e rows from h =
    omega (arith, rows.0.rises, rises xs (k + 1) i e rows.2 (from_before x xs k rows.1 (omega arith)) h)

from_zero : (es : List Entry) → IsFrom 0 es
unfolding IsFrom
from_zero [] = tt
from_zero (e ∷ es) = omega arith

-- there are no more rows than code points below them
pub place-le : (es : List Entry) (i : ℕ) (e : Entry) → AreRows es → slice_get es i ≡ Some e → i ≤ e.first
place-le es i e rows h = let r = rises es 0 i e rows (from_zero es) h in omega arith

pub at-row : (es : List Entry) (i : ℕ) (e : Entry) → AreRows es → slice_get es i ≡ Some e → IsRow e
at-row [] i e rows h = absurd (none-some e h)
at-row (x ∷ xs) zero e rows h = subst IsRow (same_Some x e h) rows.0
at-row (x ∷ xs) (suc i) e rows h = at-row xs i e rows.2 h

-- a row's place is no greater than its code points
pub place-bounded : (es : List Entry) (i : ℕ) (e : Entry) → AreRows es → slice_get es i ≡ Some e → i < 0x110000
place-bounded es i e rows h = grind (arith, at-row es i e rows h, place-le es i e rows h)

pub out_of : (e : Entry) (c : ℕ) → e.last < c → lies_in (Some e) c ≡ false
out_of e c h = and_right (nat_le e.first c) (nat_le c e.last) (lt-leb c e.last h)

pub below_out : (e : Entry) (c : ℕ) → c < e.first → lies_in (Some e) c ≡ false
below_out e c h = and_left (nat_le e.first c) (nat_le c e.last) (lt-leb e.first c h)

-- the rows are disjoint, so the one that has the code point is the one that is found
pub at-found : (es : List Entry) (i c : ℕ) (e : Entry) → AreRows es → slice_get es i ≡ Some e → e.first ≤ c → c ≤ e.last → slice_get es i ≡ entry_at es c
at-found [] i c e rows h low high = cc
at-found (x ∷ xs) zero c e rows h low high = grind (arith, nat_tests, entry_at-hit)
at-found (x ∷ xs) (suc i) c e rows h low high =
    grind (arith, nat_tests, entry_at-miss, rises xs (x.last + 1) i e rows.2 (from_before x xs x.last rows.1 (omega arith)) h, at-found xs i c e rows.2 h low high)

-- no row has the code point
pub none-found : (es : List Entry) (c : ℕ) → ((k : ℕ) → k < length es → lies_in (slice_get es k) c ≡ false) → entry_at es c ≡ None
none-found [] c h = entry_at-nil c
none-found (x ∷ xs) c h =
    entry_at-miss x xs c (h 0 (omega arith)) ∙ none-found xs c (λ k lt. h (suc k) (omega arith))

-- the place of the row that is found
pub place_of_entry : (es : List Entry) (c : ℕ) (e : Entry) → entry_at es c ≡ Some e → (k : ℕ) × (k < length es) × (slice_get es k ≡ Some e)
place_of_entry [] c e h = absurd (none-some e (sym (entry_at-nil c) ∙ h))
place_of_entry (x ∷ xs) c e h =
    elim (cases_Bool (lies_in (Some x) c)) [
      | inl in_row ↦ (0, omega arith, sym (entry_at-hit x xs c in_row) ∙ h)
      | inr past ↦ (let rest = place_of_entry xs c e (sym (entry_at-miss x xs c past) ∙ h) in (suc rest.0, (let lt = rest.1 in omega arith), rest.2))
    ]

-- each row ends before later ones begin
pub ends-before : (es : List Entry) (i j : ℕ) (e f : Entry) → AreRows es → slice_get es i ≡ Some e → slice_get es j ≡ Some f → i < j → e.last < f.first
ends-before [] i j e f rows at bt lt = cc
ends-before (x ∷ xs) i zero e f rows at bt lt = absurd (omega arith)
ends-before (x ∷ xs) zero (suc j) e f rows at bt lt = grind (arith, rises xs (x.last + 1) j f rows.2 (from_before x xs x.last rows.1 (omega arith)) bt)
ends-before (x ∷ xs) (suc i) (suc j) e f rows at bt lt = ends-before xs i j e f rows.2 at bt (omega arith)

pub firsts-le : (es : List Entry) (i j : ℕ) (e f : Entry) → AreRows es → slice_get es i ≡ Some e → slice_get es j ≡ Some f → i ≤ j → e.first ≤ f.first
firsts-le es i j e f rows at bt le = grind (arith, ends-before es i j e f rows at bt, at-row es i e rows at)

-- what is found in the later rows lies above this one
pub found-above : (e : Entry) (es : List Entry) (c : ℕ) (r : Entry) → AreRows (e ∷ es) → entry_at es c ≡ Some r → e.last < c
found-above e es c r rows found =
    let at = place_of_entry es c r found in
    grind (arith, rises es (e.last + 1) at.0 r rows.2 (from_before e es e.last rows.1 (omega arith)) at.2, entry_at-within es c r found)

-- ---- a row of the file at its place

-- a later row lies behind
later : (x : Entry) (xs : List Entry) (i : ℕ) (e : Entry) → AreRows (x ∷ xs) → slice_get xs i ≡ Some e → x.last < e.first
later x [] i e rows h = absurd (none-some e h)
later x (y ∷ ys) zero e rows h = subst (λ (f : Entry). x.last < f.first) (same_Some y e h) rows.1
later x (y ∷ ys) (suc i) e rows h = let behind = later y ys i e rows.2 h in let rise = rows.2.0.rises in let next = rows.1 in omega arith

-- the row of a row's first code point is the row itself
pub first-at : (es : List Entry) (i : ℕ) (e : Entry) → AreRows es → slice_get es i ≡ Some e → entry_at es e.first ≡ Some e
first-at [] i e rows h = absurd (none-some e h)
first-at (x ∷ xs) zero e rows h = grind (arith, same_Some, entry_at-hit, and_from, le-leb)
first-at (x ∷ xs) (suc i) e rows h =
    let behind = later x xs i e rows h in
    entry_at-miss x xs e.first (and_right (nat_le x.first e.first) _ (lt-leb e.first x.last behind)) ∙ first-at xs i e rows.2 h

-- what the file says where a row is found
pub file_mapping-found : (v : VersionData) (c : ℕ) (e : Entry) → entry_at v.entries c ≡ Some e → file_mapping v c ≡ e.mapping
unfolding file_mapping
file_mapping-found v c e h = ap mapping_in h

pub file_kind-found : (v : VersionData) (c : ℕ) (e : Entry) → entry_at v.entries c ≡ Some e → file_kind v c ≡ e.kind
unfolding file_kind
file_kind-found v c e h = ap kind_in h

-- where the file has a mapping, the arithmetic has none
pub mapped-off : (v : VersionData) (c : ℕ) → is_empty (file_mapping v c) ≡ false → (has_hangul v && is_syllable c) ≡ false
mapped-off v c some =
    let parts = λ (on : has_hangul v ≡ true) (h : is_syllable c ≡ true). (hangul_parts v c (syllable_row v c on h)).mapping in
    grind arith

-- ---- what is read of a row

pub is_assigned-at : (v : VersionData) (c : ℕ) → is_assigned v c ≡ is_some (entry_at v.entries c)
unfolding is_assigned
is_assigned-at v c = refl

pub class_of-at : (v : VersionData) (c : ℕ) (o : Option Entry) → o ≡ entry_at v.entries c → class_in o ≡ class_of v c
unfolding class_of
class_of-at v c o h = ap class_in h

pub file_kind-at : (v : VersionData) (c : ℕ) (o : Option Entry) → o ≡ entry_at v.entries c → kind_in o ≡ file_kind v c
unfolding file_kind
file_kind-at v c o h = ap kind_in h

pub file_mapping-at : (v : VersionData) (c : ℕ) (o : Option Entry) → o ≡ entry_at v.entries c → mapping_in o ≡ file_mapping v c
unfolding file_mapping
file_mapping-at v c o h = ap mapping_in h

pub is_right-at : (es : List Entry) (c : ℕ) (o : Option Entry) → o ≡ entry_at es c → is_right_entry o ≡ is_right_at es c
unfolding is_right_at
is_right-at es c o h = ap is_right_entry h

pub is_excluded-is : (v : VersionData) (c : ℕ) → is_excluded v c ≡ (is_listed v.exclusions c && is_canonical (file_kind v c))
unfolding is_excluded
is_excluded-is v c = refl

pub length-empty : (xs : List ℕ) → (length xs == 0) ≡ is_empty xs
length-empty xs = grind (arith, eqb-true)

pub is_hangul_row-is : (v : VersionData) (c : ℕ) → is_hangul_row v c ≡ (is_assigned v c && class_of v c == 0 && is_empty (file_mapping v c))
unfolding is_hangul_row
is_hangul_row-is v c = refl

-- what the checks of functions cite
pub ruleset accesses = (is_assigned-at, is_excluded-is, is_hangul_row-is, length-empty)

-- ---- rows by their places

pub some_at : (es : List Entry) (k : ℕ) → k < length es → (e : Entry) × (slice_get es k ≡ Some e)
some_at [] k lt = absurd (omega arith)
some_at (e ∷ es) zero lt = (e, refl)
some_at (e ∷ es) (suc k) lt = some_at es k (omega arith)

-- ---- the next row

-- it begins behind the code point, so no row has it
none_before : (es : List Entry) (at c : ℕ) → AreRows es → IsNextRow es at c → ((e : Entry) → slice_get es at ≡ Some e → c < e.first) → entry_at es c ≡ None
none_before es at c rows next behind =
    none-found es c (λ k lt. let here = some_at es k lt in ap (λ o. lies_in o c) here.1 ∙ grind (arith, nat_tests, some_at es at, firsts-le es at k, next.past k here.0, behind, here.1))

pub none_behind : (es : List Entry) (at c : ℕ) (e : Entry) → AreRows es → IsNextRow es at c → slice_get es at ≡ Some e → c < e.first → entry_at es c ≡ None
none_behind es at c e rows next here less = none_before es at c rows next (grind arith)

pub none_left : (es : List Entry) (at c : ℕ) → AreRows es → IsNextRow es at c → slice_get es at ≡ None → entry_at es c ≡ None
none_left es at c rows next none = none_before es at c rows next (grind arith)

pub number-none : (es : List Entry) (c number : ℕ) → entry_at es c ≡ None → number ≡ 0 → IsRowNumber es c number
number-none es c number none is = grind arith

pub number-some : (es : List Entry) (at c number : ℕ) (e : Entry) → AreRows es → slice_get es at ≡ Some e → e.first ≤ c → c ≤ e.last → number ≡ at + 1 → IsRowNumber es c number
number-some es at c number e rows here low high is = grind (arith, slice_get_within es at e here, at-found es at c e rows here low high)

-- the next row of a code point is that of a later one which it doesn't end before
pub next-within : (es : List Entry) (at c d : ℕ) (e : Entry) → IsNextRow es at c → slice_get es at ≡ Some e → c ≤ d → d ≤ e.last → IsNextRow es at d
next-within es at c d e next here le high = grind arith

pub next-left : (es : List Entry) (at c d : ℕ) → IsNextRow es at c → slice_get es at ≡ None → c ≤ d → IsNextRow es at d
next-left es at c d next none le = grind arith

pub next-behind : (es : List Entry) (at c : ℕ) (e : Entry) → AreRows es → IsNextRow es at c → slice_get es at ≡ Some e → e.last ≡ c → IsNextRow es (at + 1) (c + 1)
next-behind es at c e rows next here end =
    record {
      past = λ k f lt h. elim (cases_lt k at) [
        | inl low ↦ let past = next.past k f low h in omega arith
        | inr high ↦
            let same : at ≡ k = omega arith in
            let one : e.last ≡ f.last = ap (λ (r : Entry). r.last) (same_Some e f (sym here ∙ ap (slice_get es) same ∙ h)) in
            omega arith
      ];
      here = λ f h. (
          let rise = ends-before es at (at + 1) e f rows here h (omega arith) in
          let s = slice_get_within es (at + 1) f h in
          let own = (at-row es (at + 1) f rows h).rises in
          omega arith);
    }

-- ---- what serves 256 code points

pub no_row-left : (es : List Entry) (at first : ℕ) → AreRows es → IsNextRow es at first → slice_get es at ≡ None → HasNoRow es at first
no_row-left es at first rows next none =
    grind (arith, next-left es at first (first + 256) next none, λ (low : ℕ). none_left es at (first + low) rows (next-left es at first (first + low) next none (omega arith)) none)

pub no_row-behind : (es : List Entry) (at first : ℕ) (e : Entry) → AreRows es → IsNextRow es at first → slice_get es at ≡ Some e → first + 256 ≤ e.first → HasNoRow es at first
no_row-behind es at first e rows next here le = grind (arith, at-row es at e rows here, next-within, none_behind)

pub goes_on-within : (es : List Entry) (at first : ℕ) (e : Entry) → AreRows es → IsNextRow es at first → slice_get es at ≡ Some e → e.first + 256 ≤ first → first + 256 ≤ e.last → GoesOn es at first
goes_on-within es at first e rows next here low high = grind (arith, next-within, at-found)

-- ---- pages that grow

-- numbers that begin with the earlier ones
record AreKept (old new : List ℕ) : Type 0 where
  count : ℕ
  fits : length new ≡ length old + count * 256
  few : count ≤ 1
  same : (k : ℕ) → k < length old → slice_index new k ≡ slice_index old k

-- one block number more
begun-more : (es : List Entry) (blocks old new : List ℕ) (block at : ℕ) → AreFirstPages es blocks old → AreKept old new → block * 256 + 256 ≤ length new → IsRowBlock es new block (length blocks * 256) → IsNextRow es at (length blocks * 256 + 256) →
    AreBegun es (blocks ++ block ∷ []) new at
begun-more es blocks old new block at pages kept fits is next =
    let grown : length (blocks ++ block ∷ []) ≡ length blocks + 1 = length-append blocks (block ∷ []) in
    let some = pages.counted.some in
    let few = pages.counted.fits in
    let long = pages.counted.length in
    let more = kept.fits in
    let at_most = kept.few in
    record {
      pages = record {
        counted = record { count = pages.counted.count + kept.count; some = omega arith; fits = omega arith; length = omega arith };
        none = λ low lt. kept.same low (omega arith) ∙ pages.none low lt;
        within = λ k lt. elim (cases_lt k (length blocks)) [
          | inl less ↦
              omega (arith, get_or_append_left blocks (block ∷ []) 0 k less, pages.within k less)
          | inr past ↦
              let place : length blocks ≡ k = omega arith in
              let same : slice_index (blocks ++ block ∷ []) k ≡ block = sym (ap (slice_index (blocks ++ block ∷ [])) place) ∙ get_or-append_seam blocks block [] 0 in
              omega arith
        ];
        each = λ k lt low less. elim (cases_lt k (length blocks)) [
          | inl early ↦
              let le = pages.within k early in
              let number = sym (get_or_append_left blocks (block ∷ []) 0 k early) in
              subst (λ b. IsRowNumber es (k * 256 + low) (slice_index new (b * 256 + low))) number
              (subst (IsRowNumber es (k * 256 + low)) (sym (kept.same (slice_index blocks k * 256 + low) (omega arith))) (pages.each k early low less))
          | inr past ↦
              let place : length blocks ≡ k = omega arith in
              let same : slice_index (blocks ++ block ∷ []) k ≡ block = sym (ap (slice_index (blocks ++ block ∷ [])) place) ∙ get_or-append_seam blocks block [] 0 in
              subst (λ b. IsRowNumber es (k * 256 + low) (slice_index new (b * 256 + low))) (sym same)
              (subst (λ n. IsRowNumber es (n * 256 + low) (slice_index new (block * 256 + low))) place (is low less))
        ];
      };
      next = subst (IsNextRow es at) (omega arith) next;
    }

-- the number of one more code point
pub pushed-more : (es : List Entry) (first count : ℕ) (old items new : List ℕ) (at next number : ℕ) → ArePushed es first count old items at → IsRowNumber es (first + count) number → IsNextRow es next (first + count + 1) → new ≡ items ++ number ∷ [] →
    ArePushed es first (count + 1) old new next
pushed-more es first count old items new at next number so_far own behind is =
    let size = so_far.size in
    subst (λ l. ArePushed es first (count + 1) old l next) (sym is) (record {
      next = subst (IsNextRow es next) (omega arith) behind;
      size = (let grown = length-append items (number ∷ []) in omega arith);
      kept = λ k lt. get_or_append_left items (number ∷ []) 0 k (omega arith) ∙ so_far.kept k lt;
      each = λ low lt. elim (cases_lt low count) [
        | inl less ↦ subst (IsRowNumber es (first + low)) (sym (get_or_append_left items (number ∷ []) 0 (length old + low) (omega arith))) (so_far.each low less)
        | inr past ↦
            let there : count ≡ low = omega arith in
            let place : length items ≡ length old + low = omega arith in
            let read : number ≡ get_or (items ++ number ∷ []) (length old + low) 0 = sym (get_or-append_seam items number [] 0) ∙ ap (λ n. get_or (items ++ number ∷ []) n 0) place in
            subst (IsRowNumber es (first + low)) read (subst (λ n. IsRowNumber es (first + n) number) there own)
      ];
    })

-- a new block
pub begun-block : (es : List Entry) (blocks old new : List ℕ) (at to block : ℕ) → AreBegun es blocks old at → ArePushed es (length blocks * 256) 256 old new to → block * 256 ≡ length old → AreBegun es (blocks ++ block ∷ []) new to
begun-block es blocks old new at to block begun pushed is =
    begun-more es blocks old new block to begun.pages (record { count = 1; fits = grind (arith, pushed.size); few = omega arith; same = pushed.kept }) (grind (arith, pushed.size))
    (grind (arith, pushed.each)) pushed.next

-- as many blocks as there are
pub block_count : (es : List Entry) (blocks numbers : List ℕ) (at : ℕ) → AreBegun es blocks numbers at → (length numbers / 256 * 256 ≡ length numbers) × (length numbers / 256 ≤ length blocks + 1)
block_count es blocks numbers at begun = grind arith

-- all block numbers are there
pub pages-all : (es : List Entry) (blocks numbers : List ℕ) (at : ℕ) → AreBegun es blocks numbers at → length blocks ≡ 4352 → AreRowPages es blocks numbers
unfolding property_place
pages-all es blocks numbers at begun size =
    record {
      within = record { size = size; each = λ k lt. begun.pages.within k (omega arith) };
      each = λ c lt. (
          let whole = div-add-mod c 256 in
          let low = mod-lt c {m = 256} (omega arith) in
          let same : c / 256 * 256 + c % 256 ≡ c = omega arith in
          subst (λ n. IsRowNumber es n (slice_index numbers (slice_index blocks (c / 256) * 256 + c % 256))) same (begun.pages.each (c / 256) (omega arith) (c % 256) low));
    }

-- ---- what is read of the pages

-- no row has a number past the code points
pub past_code_points : (es : List Entry) (c : ℕ) → AreRows es → 0x110000 ≤ c → entry_at es c ≡ None
past_code_points es c rows h = none-found es c (λ k lt. let here = some_at es k lt in grind (arith, nat_tests, at-row es k here.0 rows here.1, here.1))
