-- The rows of UnicodeData.txt are those of the grammar, and no other list is.
use Rattle.std.proofs.Common.{◌≡◌, ℕ, ◌<◌, ◌≤◌, Bool, true, false, not, ◌&&◌, cond, List, [], ◌∷◌, ◌++◌, get_or, Option, Some, None, unwrap_or, refl, sym, ap, subst, ◌∙◌, inl, inr, ⊎_elim, append_assoc, arith}
use Rattle.std.specs.List.{All, AllPairs, Contains}
use Rattle.std.proofs.lemmas.Bool.{false≢true, both_ways, not-false, cond-false, cases_Bool, false_from_ne_true}
use Rattle.std.proofs.lemmas.List.Elements.{All-nil, All-cons}
use Rattle.std.proofs.lemmas.List.Kept.{AllPairs-cons}
use Rattle.np_code_points.specs.Lines.{Numbered}
use Rattle.np_code_points.specs.inside.LineCuts.{data_lines_in}
use Rattle.np_code_points.proofs.DataLineGrammar.{are_data_lines, only_data_lines}
use Rattle.np_code_points.proofs.Elements.{contains_here, contains_more, all_contained, Rises, same_lists}
use Rattle.np_ucd.specs.AllRows.{BeginsBehind, IsRowOf, AreAllRows}
use Rattle.np_ucd.specs.Entries.{Entry, MapKind, Plain, IsRow, IsBefore, AreRows}
use Rattle.np_ucd.specs.Fields.{Fields, HasFields, IsCodeOf, IsClassOf, IsFirstName, IsLastName}
use Rattle.np_ucd.specs.Mappings.{Mapping, IsMapping}
use Rattle.np_ucd.specs.inside.FileReading.{rows_after, rows_in, first_fault}
use Rattle.np_ucd.specs.inside.RecordReading.{Neighbour, neighbour_of, field, code_in, class_in, mapping_in, opens, closes, is_open, record_fault, first_code, row_of}
use Rattle.np_ucd.proofs.FaultGrammar.{as_neighbour, behind, behind_last, fault_behind, FineFrom, fine_each, fine_all, HasLast, last_of}
use Rattle.np_ucd.proofs.FieldGrammar.{fields_in, only_has, class_read, opens_is, closes_is}
use Rattle.np_ucd.proofs.MappingGrammar.{mapping_read}
use Rattle.np_ucd.proofs.RowLemmas.{rows_are}
use Rattle.np_ucd.proofs.TestGrammar.{read_fine, closing_fine}

-- Where a row begins.
alone : (b : Option Neighbour) (closing : Bool) (code : ℕ) → closing ≡ false → first_code b closing code ≡ code
alone None closing code e = refl
alone (Some b) closing code e = cond-false closing b.code code e

from_opening : (opening : Numbered) (closing : Bool) (code : ℕ) → closing ≡ true → first_code (as_neighbour opening) closing code ≡ code_in opening.text
unfolding neighbour_of
from_opening opening closing code e = ap (λ t. cond t (code_in opening.text) code) e

opening_opens : (opening : Numbered) → is_open (as_neighbour opening) ≡ opens opening.text
unfolding neighbour_of
opening_opens opening = refl

pub open_before : (closing opened : Bool) → (closing && not opened) ≡ false → closing ≡ true → opened ≡ true
open_before true opened h e = not-false opened h
open_before false opened h e = absurd (false≢true e)

opened : (b : Option Neighbour) (line : ℕ) (text : List ℕ) → record_fault b line text ≡ None → closes text ≡ true → is_open b ≡ true
opened b line text fine e = open_before (closes text) (is_open b) (closing_fine b line text fine) e

row_first : (b : Option Neighbour) (text : List ℕ) → (row_of b text).first ≡ first_code b (closes text) (code_in text)
unfolding row_of
row_first b text = refl

row_last : (b : Option Neighbour) (text : List ℕ) → code_in text ≡ (row_of b text).last
unfolding row_of
row_last b text = refl

row_class : (b : Option Neighbour) (text : List ℕ) → class_in text ≡ (row_of b text).class
unfolding row_of
row_class b text = refl

abbrev mapped : MapKind → List ℕ → Mapping
mapped kind codes = record { kind = kind; codes = codes }

row_mapping : (b : Option Neighbour) (text : List ℕ) → mapping_in text ≡ mapped (row_of b text).kind (row_of b text).mapping
unfolding row_of
row_mapping b text = refl

abbrev fine_at : List Numbered → Numbered → Type 0
fine_at front r = fault_behind None front r ≡ None

begins_open : (all front : List Numbered) (r : Numbered) (records : List Numbered) → all ≡ front ++ r ∷ records → FineFrom None all → fine_at front r → closes r.text ≡ true → HasLast front → BeginsBehind front (fields_in r.text) (row_of (behind None front) r.text)
begins_open all front r records stands fine here e split =
    let b = behind None front in
    let is : b ≡ as_neighbour split.last = ap (behind None) split.stands ∙ behind_last None split.front split.last in
    let open' : opens split.last.text ≡ true = sym (opening_opens split.last) ∙ ap is_open (sym is) ∙ opened b r.line r.text here e in
    let whole : all ≡ split.front ++ split.last ∷ r ∷ records =
    stands ∙ ap (λ fs. fs ++ r ∷ records) split.stands ∙ append_assoc split.front (split.last ∷ []) (r ∷ records) in
    let q = read_fine (behind None split.front) split.last.line split.last.text (fine_each None split.front split.last (r ∷ records) (subst (FineFrom None) whole fine)) in
    let first : code_in split.last.text ≡ (row_of b r.text).first =
    sym (row_first b r.text ∙ ap (λ n. first_code n (closes r.text) (code_in r.text)) is ∙ from_opening split.last (closes r.text) (code_in r.text) e) in
    inr (
      (closes_is (field 1 r.text)).0 e,
      (
        fields_in split.last.text,
        (split.front, split.last, split.stands, q.has),
        (opens_is (field 1 split.last.text)).0 open',
        q.code ∙ ap Some first,
      ),
    )

begins_closed : (all front : List Numbered) (r : Numbered) (records : List Numbered) → all ≡ front ++ r ∷ records → FineFrom None all → fine_at front r → closes r.text ≡ true → BeginsBehind front (fields_in r.text) (row_of (behind None front) r.text)
begins_closed all [] r records stands fine here e = absurd (false≢true (opened None r.line r.text here e))
begins_closed all (f ∷ front) r records stands fine here e = begins_open all (f ∷ front) r records stands fine here e (last_of [] f front)

begins : (all front : List Numbered) (r : Numbered) (records : List Numbered) → all ≡ front ++ r ∷ records → FineFrom None all → fine_at front r → BeginsBehind front (fields_in r.text) (row_of (behind None front) r.text)
begins all front r records stands fine here =
    let b = behind None front in
    ⊎_elim
    (λ e. begins_closed all front r records stands fine here e)
    (λ e. inl ((λ last. both_ways (closes r.text) e ((closes_is (field 1 r.text)).1 last)), row_first b r.text ∙ alone b (closes r.text) (code_in r.text) e ∙ row_last b r.text))
    (cases_Bool (closes r.text))

-- Each row is the row of a record.
row_is : (all front : List Numbered) (r : Numbered) (records : List Numbered) → all ≡ front ++ r ∷ records → FineFrom None all → opens r.text ≡ false → IsRowOf all (row_of (behind None front) r.text)
row_is all front r records stands fine e =
    let b = behind None front in
    let here = fine_each None front r records (subst (FineFrom None) stands fine) in
    let p = read_fine b r.line r.text here in
    record {
      before = front;
      ending = r;
      behind = records;
      stands = stands;
      fields = fields_in r.text;
      has = p.has;
      ends = λ first. both_ways (opens r.text) e ((opens_is (field 1 r.text)).1 first);
      begins = begins all front r records stands fine here;
      last = p.code ∙ ap Some (row_last b r.text);
      class = subst (IsClassOf (field 3 r.text)) (row_class b r.text) p.class;
      mapping = subst (IsMapping (field 5 r.text)) (row_mapping b r.text) p.mapping;
    }

row_step : (t : Bool) (P : Entry → Type 0) (row : Entry) (rows : List Entry) → (t ≡ false → P row) → All P rows → All P (cond t [] (row ∷ []) ++ rows)
row_step true P row rows h all = all
row_step false P row rows h all = All-cons P row rows (h refl) all

each_from : (all front records : List Numbered) → all ≡ front ++ records → FineFrom None all → All (IsRowOf all) (rows_after (behind None front) records)
unfolding rows_after
each_from all front [] stands fine = All-nil (IsRowOf all)
each_from all front (r ∷ records) stands fine =
    row_step (opens r.text) (IsRowOf all) (row_of (behind None front) r.text) (rows_after (as_neighbour r) records)
    (row_is all front r records stands fine)
    (subst (λ b. All (IsRowOf all) (rows_after b records)) (behind_last None front r)
    (each_from all (front ++ r ∷ []) records (stands ∙ sym (append_assoc front (r ∷ []) records)) fine))

-- Each such record has its row.
abbrev entry : ℕ → ℕ → ℕ → MapKind → List ℕ → Entry
entry first last class kind mapping = record { first = first; last = last; class = class; kind = kind; mapping = mapping }

same_entry : (d e : Entry) → d.first ≡ e.first → d.last ≡ e.last → d.class ≡ e.class → mapped d.kind d.mapping ≡ mapped e.kind e.mapping → d ≡ e
same_entry d e first last class mapping =
    ap (λ n. entry n d.last d.class d.kind d.mapping) first
    ∙ ap (λ n. entry e.first n d.class d.kind d.mapping) last
    ∙ ap (λ n. entry e.first e.last n d.kind d.mapping) class
    ∙ ap (λ (m : Mapping). entry e.first e.last e.class m.kind m.codes) mapping

-- What a record's row says, from the grammar.
said_from : (text : List ℕ) (P : List ℕ → Type 0) (Q : Fields → List ℕ) (f : Fields) → HasFields text f → P (Q f) → P (Q (fields_in text))
said_from text P Q f has h = subst (λ (g : Fields). P (Q g)) (only_has text f has) h

code_from : (text : List ℕ) (f : Fields) (n : ℕ) → HasFields text f → IsCodeOf f.code n → n ≡ code_in text
unfolding code_in
code_from text f n has h =
    sym (ap (λ o. unwrap_or o 0) (said_from text (λ c. IsCodeOf c n) (λ (g : Fields). g.code) f has h))

class_from : (text : List ℕ) (f : Fields) (n : ℕ) → HasFields text f → IsClassOf f.class n → n ≡ class_in text
unfolding class_in
class_from text f n has h =
    sym (ap (λ o. unwrap_or o 0) (class_read (field 3 text) n (said_from text (λ c. IsClassOf c n) (λ (g : Fields). g.class) f has h)))

mapping_from : (text : List ℕ) (f : Fields) (m : Mapping) → HasFields text f → IsMapping f.mapping m → m ≡ mapping_in text
unfolding mapping_in
mapping_from text f m has h =
    sym (ap (λ o. unwrap_or o (mapped Plain [])) (mapping_read (field 5 text) m (said_from text (λ c. IsMapping c m) (λ (g : Fields). g.mapping) f has h)))

closing_from : (text : List ℕ) (f : Fields) → HasFields text f → IsLastName f.name → closes text ≡ true
closing_from text f has h = (closes_is (field 1 text)).1 (said_from text IsLastName (λ (g : Fields). g.name) f has h)

not_closing_from : (text : List ℕ) (f : Fields) → HasFields text f → (IsLastName f.name → ⊥) → closes text ≡ false
not_closing_from text f has h =
    false_from_ne_true (closes text) (λ e. h (subst (λ (g : Fields). IsLastName g.name) (sym (only_has text f has)) ((closes_is (field 1 text)).0 e)))

first_from : (before : List Numbered) (text : List ℕ) (f : Fields) (row : Entry) → HasFields text f → row.last ≡ code_in text → BeginsBehind before f row → row.first ≡ first_code (behind None before) (closes text) (code_in text)
first_from before text f row has last h =
    ⊎_elim
    (λ one. one.1 ∙ last ∙ sym (alone (behind None before) (closes text) (code_in text) (not_closing_from text f has one.0)))
    (λ more.
    let g = more.1.0 in
    let at = more.1.1 in
    let opening = at.1 in
    code_from opening.text g row.first at.3 more.1.3
    ∙ sym (from_opening opening (closes text) (code_in text) (closing_from text f has more.0))
    ∙ ap (λ b. first_code b (closes text) (code_in text)) (sym (ap (behind None) at.2 ∙ behind_last None at.0 opening)))
    h

row_from : (records : List Numbered) (row : Entry) (h : IsRowOf records row) → row_of (behind None h.before) h.ending.text ≡ row
row_from records row h =
    let text = h.ending.text in
    let b = behind None h.before in
    let last = code_from text h.fields row.last h.has h.last in
    sym (same_entry row (row_of b text)
    (first_from h.before text h.fields row h.has last h.begins ∙ sym (row_first b text))
    (last ∙ row_last b text)
    (class_from text h.fields row.class h.has h.class ∙ row_class b text)
    (mapping_from text h.fields (mapped row.kind row.mapping) h.has h.mapping ∙ row_mapping b text))

kept : (t : Bool) (row : Entry) (rows : List Entry) (e : Entry) → Contains rows e → Contains (cond t [] (row ∷ []) ++ rows) e
kept true row rows e h = h
kept false row rows e h = contains_more row e rows h

ends_row : (t : Bool) (row : Entry) (rows : List Entry) → t ≡ false → Contains (cond t [] (row ∷ []) ++ rows) row
ends_row true row rows e = absurd (false≢true (sym e))
ends_row false row rows e = contains_here row rows

contains_row : (b : Option Neighbour) (before : List Numbered) (r : Numbered) (records : List Numbered) → opens r.text ≡ false → Contains (rows_after b (before ++ r ∷ records)) (row_of (behind b before) r.text)
unfolding rows_after
contains_row b [] r records e = ends_row (opens r.text) (row_of b r.text) (rows_after (as_neighbour r) records) e
contains_row b (s ∷ before) r records e =
    kept (opens s.text) (row_of b s.text) (rows_after (as_neighbour s) (before ++ r ∷ records)) (row_of (behind (as_neighbour s) before) r.text)
    (contains_row (as_neighbour s) before r records e)

all_from : (records : List Numbered) (row : Entry) → IsRowOf records row → Contains (rows_after None records) row
all_from records row h =
    subst (Contains (rows_after None records)) (row_from records row h)
    (subst (λ rs. Contains (rows_after None rs) (row_of (behind None h.before) h.ending.text)) (sym h.stands)
    (contains_row None h.before h.ending h.behind (false_from_ne_true (opens h.ending.text) (λ e. h.ends (subst (λ (g : Fields). IsFirstName g.name) (sym (only_has h.ending.text h.fields h.has)) ((opens_is (field 1 h.ending.text)).0 e))))))

-- The rows rise.
all_rows : (rows : List Entry) → AreRows rows → All IsRow rows
all_rows [] h = All-nil IsRow
all_rows (e ∷ es) h = All-cons IsRow e es h.0 (all_rows es h.2)

above : (n : ℕ) (e : Entry) (rows : List Entry) → AreRows rows → IsBefore e rows → n ≤ e.last → All (λ d. n < d.first) rows
above n e [] h before l = All-nil (λ d. n < d.first)
above n e (f ∷ fs) h before l =
    let rises = h.0.rises in
    All-cons (λ d. n < d.first) f fs (omega (arith, before)) (above n f fs h.2 h.1 (omega (arith, before, rises)))

rise : (rows : List Entry) → AreRows rows → AllPairs (λ d e. d.last < e.first) rows
rise [] h = λ i j d lt l. absurd (omega arith)
rise (e ∷ es) h = AllPairs-cons (λ (d e : Entry). d.last < e.first) e es (above e.last e es h.2 h.1 (omega arith)) (rise es h.2)

-- The rows of a file.
all_in : (bytes : List ℕ) (row : Entry) → IsRowOf (data_lines_in bytes) row → Contains (rows_in bytes) row
unfolding rows_in
all_in bytes row h = all_from (data_lines_in bytes) row h

each_in : (bytes : List ℕ) → first_fault bytes ≡ None → All (IsRowOf (data_lines_in bytes)) (rows_in bytes)
unfolding rows_in
each_in bytes h = each_from (data_lines_in bytes) [] (data_lines_in bytes) refl (fine_all bytes h)

pub are_all_rows : (bytes : List ℕ) → first_fault bytes ≡ None → AreAllRows bytes (rows_in bytes)
are_all_rows bytes h = record {
  records = data_lines_in bytes;
  are = are_data_lines bytes;
  rise = rise (rows_in bytes) (rows_are bytes h);
  each = each_in bytes h;
  all = all_in bytes;
}

rises_first : (bytes : List ℕ) (rows : List Entry) → first_fault bytes ≡ None → All (IsRowOf (data_lines_in bytes)) rows → AllPairs (λ (d e : Entry). d.last < e.first) rows → Rises Entry (λ e. e.first) rows
rises_first bytes rows h each rise' = λ i j d lt l.
    let at = all_in bytes (get_or rows i d) (each i d (omega arith)) in
    let low = (all_contained IsRow (rows_in bytes) (get_or rows i d) (all_rows (rows_in bytes) (rows_are bytes h)) at).rises in
    let next = rise' i j d lt l in
    omega (arith, low, next)

-- no other list of rows is
pub only_rows : (bytes : List ℕ) → first_fault bytes ≡ None → (rows : List Entry) → AreAllRows bytes rows → rows ≡ rows_in bytes
only_rows bytes h rows are =
    let is = are_all_rows bytes h in
    let same = only_data_lines bytes are.records are.are in
    let each : All (IsRowOf (data_lines_in bytes)) rows = subst (λ rs. All (IsRowOf rs) rows) same are.each in
    same_lists Entry (λ e. e.first) rows (rows_in bytes) (rises_first bytes rows h each are.rise) (rises_first bytes (rows_in bytes) h (each_in bytes h) is.rise)
    (λ e in'. all_in bytes e (all_contained (IsRowOf (data_lines_in bytes)) rows e each in'))
    (λ e in'. are.all e (subst (λ rs. IsRowOf rs e) (sym same) (all_contained (IsRowOf (data_lines_in bytes)) (rows_in bytes) e (each_in bytes h) in')))
