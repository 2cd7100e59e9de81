-- The first fault of UnicodeData.txt is the one that the grammar names.
use Rattle.std.proofs.Common.{◌≡◌, ℕ, ◌<◌, ◌≤◌, ◌⊎◌, Bool, true, false, cond, List, [], ◌∷◌, ◌++◌, Option, Some, None, refl, sym, ap, subst, ◌∙◌, inl, inr, ⊎_elim, append_assoc, arith}
use Rattle.std.specs.List.{AllPairs, Contains}
use Rattle.std.specs.Option.{option_or}
use Rattle.np_code_points.specs.Lines.{Numbered}
use Rattle.np_code_points.specs.inside.LineCuts.{data_lines_in}
use Rattle.np_code_points.proofs.DataLineGrammar.{are_data_lines, only_data_lines}
use Rattle.np_code_points.proofs.Elements.{contains_middle, greatest_front}
use Rattle.np_ucd.specs.Fields.{Fields, IsFirstName}
use Rattle.np_ucd.specs.FirstFaults.{IsLastOf, IsFaultAt, HasNoFaultAt, IsOpenAtEnd, IsFirstFault, HasNoFault}
use Rattle.np_ucd.specs.Tests.{UcdFault, RangeOpen, IsFaultOf, Fits}
use Rattle.np_ucd.specs.inside.FileReading.{end_fault, fault_after, first_fault}
use Rattle.np_ucd.specs.inside.RecordReading.{Neighbour, field, neighbour_of, opens, record_fault}
use Rattle.np_ucd.proofs.FieldGrammar.{fields_in, only_has, opens_is}
use Rattle.np_ucd.proofs.TestGrammar.{Match, matches, found, least, nothing_fits, read_fine}

-- The neighbour of the record that stands behind these.
abbrev pub as_neighbour : Numbered → Option Neighbour
as_neighbour r = Some (neighbour_of r.line r.text)

abbrev pub behind : Option Neighbour → List Numbered → Option Neighbour
behind b [] = b
behind b (r ∷ records) = behind (as_neighbour r) records

pub behind_last : (b : Option Neighbour) (front : List Numbered) (last : Numbered) → behind b (front ++ last ∷ []) ≡ as_neighbour last
behind_last b [] last = refl
behind_last b (r ∷ front) last = behind_last (as_neighbour r) front last

-- No record of these has a fault, where they stand behind a neighbour.
abbrev pub fault_behind : Option Neighbour → List Numbered → Numbered → Option UcdFault
fault_behind b before r = record_fault (behind b before) r.line r.text

abbrev pub FineFrom : Option Neighbour → List Numbered → Type 0
FineFrom b [] = Unit {0}
FineFrom b (r ∷ records) = (record_fault b r.line r.text ≡ None) × FineFrom (as_neighbour r) records

pub fine_each : (b : Option Neighbour) (before : List Numbered) (r : Numbered) (after : List Numbered) → FineFrom b (before ++ r ∷ after) → fault_behind b before r ≡ None
fine_each b [] r after h = h.0
fine_each b (s ∷ before) r after h = fine_each (as_neighbour s) before r after h.1

-- The first fault, from the records before it or from the end.
record Faulty (b : Option Neighbour) (records : List Numbered) : Type 0 where
  before : List Numbered
  faulty : Numbered
  after : List Numbered
  fault : UcdFault
  stands : records ≡ before ++ faulty ∷ after
  fine : FineFrom b before
  has : fault_behind b before faulty ≡ Some fault

longer : (b : Option Neighbour) (r : Numbered) (records : List Numbered) → record_fault b r.line r.text ≡ None → Faulty (as_neighbour r) records → Faulty b (r ∷ records)
longer b r records fine h = record {
  before = r ∷ h.before;
  faulty = h.faulty;
  after = h.after;
  fault = h.fault;
  stands = ap (λ rs. r ∷ rs) h.stands;
  fine = (fine, h.fine);
  has = h.has;
}

outcome_step : (b : Option Neighbour) (r : Numbered) (records : List Numbered) (o : Option UcdFault) → record_fault b r.line r.text ≡ o → (Faulty (as_neighbour r) records ⊎ FineFrom (as_neighbour r) records) → Faulty b (r ∷ records) ⊎ FineFrom b (r ∷ records)
outcome_step b r records (Some fault) e h = inl (record { before = []; faulty = r; after = records; fault = fault; stands = refl; fine = tt; has = e })
outcome_step b r records None e h = ⊎_elim (λ more. inl (longer b r records e more)) (λ fine. inr (e, fine)) h

outcome : (b : Option Neighbour) (records : List Numbered) → Faulty b records ⊎ FineFrom b records
outcome b [] = inr tt
outcome b (r ∷ records) = outcome_step b r records (record_fault b r.line r.text) refl (outcome (as_neighbour r) records)

at_record : (b : Option Neighbour) (before : List Numbered) (r : Numbered) (after : List Numbered) (fault : UcdFault) → FineFrom b before → fault_behind b before r ≡ Some fault → fault_after b (before ++ r ∷ after) ≡ Some fault
unfolding fault_after
at_record b [] r after fault fine h = ap (λ o. option_or o (fault_after (as_neighbour r) after)) h
at_record b (s ∷ before) r after fault fine h =
    ap (λ o. option_or o (fault_after (as_neighbour s) (before ++ r ∷ after))) fine.0
    ∙ at_record (as_neighbour s) before r after fault fine.1 h

at_end : (b : Option Neighbour) (records : List Numbered) → FineFrom b records → fault_after b records ≡ end_fault (behind b records)
unfolding fault_after
at_end b [] fine = refl
at_end b (r ∷ records) fine =
    ap (λ o. option_or o (fault_after (as_neighbour r) records)) fine.0 ∙ at_end (as_neighbour r) records fine.1

-- The end.
end_last : (last : Numbered) → end_fault (as_neighbour last) ≡ cond (opens last.text) (Some (RangeOpen last.line)) None
unfolding neighbour_of
end_last last = refl

end_behind : (records front : List Numbered) (last : Numbered) → records ≡ front ++ last ∷ [] → end_fault (behind None records) ≡ cond (opens last.text) (Some (RangeOpen last.line)) None
end_behind records front last e =
    ap (λ rs. end_fault (behind None rs)) e ∙ ap end_fault (behind_last None front last) ∙ end_last last

pub record HasLast (records : List Numbered) : Type 0 where
  pub front : List Numbered
  pub last : Numbered
  pub stands : records ≡ front ++ last ∷ []

pub last_of : (front : List Numbered) (r : Numbered) (records : List Numbered) → HasLast (front ++ r ∷ records)
last_of front r [] = record { front = front; last = r; stands = refl }
last_of front r (s ∷ records) = subst HasLast (append_assoc front (r ∷ []) (s ∷ records)) (last_of (front ++ r ∷ []) s records)

open_fault : (t : Bool) (line : ℕ) (fault : UcdFault) → cond t (Some (RangeOpen line)) None ≡ Some fault → (t ≡ true) × (fault ≡ RangeOpen line)
open_fault true line fault h = (refl, cc)
open_fault false line fault h = absurd (cc)

-- The record before, as the fields say it and as the code keeps it.
last_fine : (b : Option Neighbour) (front : List Numbered) (last : Numbered) → FineFrom b (front ++ last ∷ []) → fault_behind b front last ≡ None
last_fine b front last h = fine_each b front last [] h

neighbour_matches : (before : List Numbered) (nb : Option Fields) → FineFrom None before → IsLastOf before nb → Match (behind None before) nb
neighbour_matches before None fine h = subst (λ rs. Match (behind None rs) None) (sym h) tt
neighbour_matches before (Some f) fine h =
    let front = h.0 in
    let last = h.1 in
    let is : behind None before ≡ as_neighbour last = ap (behind None) h.2 ∙ behind_last None front last in
    let r = read_fine (behind None front) last.line last.text (last_fine None front last (subst (FineFrom None) h.2 fine)) in
    subst (λ b. Match b (Some f)) (sym is)
    (subst (λ g. Match (as_neighbour last) (Some g)) (sym (only_has last.text f h.3)) (matches last.line last.text r))

last_split : (before : List Numbered) → FineFrom None before → HasLast before → (nb : Option Fields) × IsLastOf before nb
last_split before fine split =
    let r = read_fine (behind None split.front) split.last.line split.last.text (last_fine None split.front split.last (subst (FineFrom None) split.stands fine)) in
    (Some (fields_in split.last.text), (split.front, split.last, split.stands, r.has))

pub has_neighbour : (before : List Numbered) → FineFrom None before → (nb : Option Fields) × IsLastOf before nb
has_neighbour [] fine = (None, refl)
has_neighbour (r ∷ before) fine = last_split (r ∷ before) fine (last_of [] r before)

-- A fault at a record whose predecessors have none.
fine_front : (b : Option Neighbour) (before after : List Numbered) → FineFrom b (before ++ after) → FineFrom b before
fine_front b [] after h = tt
fine_front b (r ∷ before) after h = (h.0, fine_front (as_neighbour r) before after h.1)

fine_unfit : (before : List Numbered) (r : Numbered) (behind' : List Numbered) (nb : Option Fields) (fault : UcdFault) → FineFrom None (before ++ r ∷ behind') → IsLastOf before nb → Fits fault nb r.text → ⊥
fine_unfit before r behind' nb fault fine is fits =
    nothing_fits (behind None before) nb r.line r.text fault
    (neighbour_matches before nb (fine_front None before (r ∷ behind') fine) is) (fine_each None before r behind' fine) fits

fault_of : (before : List Numbered) (r : Numbered) (nb : Option Fields) (fault : UcdFault) → FineFrom None before → IsLastOf before nb → fault_behind None before r ≡ Some fault → IsFaultOf nb r fault
fault_of before r nb fault fine is h =
    let m = neighbour_matches before nb fine is in
    let named = found (behind None before) nb r.line r.text fault m h in
    record { line = named.0; fits = named.1; least = λ other fits. least (behind None before) nb r.line r.text fault other m h fits }

fault_at : (bytes : List ℕ) (before : List Numbered) (r : Numbered) (after : List Numbered) (fault : UcdFault) → data_lines_in bytes ≡ before ++ r ∷ after → FineFrom None before → fault_behind None before r ≡ Some fault → IsFaultAt bytes r.line fault
fault_at bytes before r after fault stands fine h =
    let nb = has_neighbour before fine in
    record {
      records = data_lines_in bytes;
      are = are_data_lines bytes;
      before = before;
      faulty = r;
      behind = after;
      stands = stands;
      neighbour = nb.0;
      is_neighbour = nb.1;
      at = refl;
      fault_of = fault_of before r nb.0 fault fine nb.1 h;
    }

-- A list cut at two places.
record Within (front xs : List Numbered) (y : Numbered) : Type 0 where
  rest : List Numbered
  is : front ≡ xs ++ y ∷ rest

cut_twice : (front : List Numbered) (x : Numbered) (back xs : List Numbered) (y : Numbered) (ys : List Numbered) → front ++ x ∷ back ≡ xs ++ y ∷ ys → Within front xs y ⊎ ((more : List Numbered) × (xs ++ y ∷ [] ≡ front ++ x ∷ more))
cut_twice [] x back [] y ys e = let same : x ≡ y = cc in inr ([], ap (λ z. z ∷ []) (sym same))
cut_twice [] x back (z ∷ xs) y ys e = let same : x ≡ z = cc in inr (xs ++ y ∷ [], ap (λ w. w ∷ xs ++ y ∷ []) (sym same))
cut_twice (f ∷ front) x back [] y ys e = let same : f ≡ y = cc in inl (record { rest = front; is = ap (λ w. w ∷ front) same })
cut_twice (f ∷ front) x back (z ∷ xs) y ys e =
    let same : f ≡ z = cc in
    let rest : front ++ x ∷ back ≡ xs ++ y ∷ ys = cc in
    ⊎_elim
    (λ (w : Within front xs y). inl (record { rest = w.rest; is = ap (λ fs. f ∷ fs) w.is ∙ ap (λ w'. w' ∷ xs ++ y ∷ w.rest) same }))
    (λ more. inr (more.0, ap (λ w. w ∷ xs ++ y ∷ []) (sym same) ∙ ap (λ r. f ∷ r) more.1))
    (cut_twice front x back xs y ys rest)

contains_front : (front : List Numbered) (x : Numbered) (more xs : List Numbered) (y : Numbered) → xs ++ y ∷ [] ≡ front ++ x ∷ more → Contains (xs ++ y ∷ []) x
contains_front front x more xs y e = subst (λ l. Contains l x) (sym e) (contains_middle front x more)

-- A record with a fault, by the grammar, has none before it.
line_least : (bytes : List ℕ) (before : List Numbered) (r : Numbered) (after : List Numbered) → data_lines_in bytes ≡ before ++ r ∷ after → FineFrom None before → (line : ℕ) (other : UcdFault) → IsFaultAt bytes line other → r.line ≤ line
line_least bytes before r after stands fine line other o =
    let same : data_lines_in bytes ≡ o.before ++ o.faulty ∷ o.behind = sym (only_data_lines bytes o.records o.are) ∙ o.stands in
    ⊎_elim
    (λ (w : Within before o.before o.faulty).
    absurd (fine_unfit o.before o.faulty w.rest o.neighbour other (subst (FineFrom None) w.is fine) o.is_neighbour o.fault_of.fits))
    (λ more.
    let l : r.line ≤ o.faulty.line =
    greatest_front Numbered (λ k. k.line) o.before o.faulty o.behind r
    (subst (λ ls. AllPairs (λ (j k : Numbered). j.line < k.line) ls) same (are_data_lines bytes).rise)
    (contains_front before r more.0 o.before o.faulty more.1) in
    omega (arith, o.at))
    (cut_twice before r after o.before o.faulty o.behind (sym stands ∙ same))

no_fault_at : (bytes : List ℕ) → FineFrom None (data_lines_in bytes) → HasNoFaultAt bytes
no_fault_at bytes fine line other o =
    let same : data_lines_in bytes ≡ o.before ++ o.faulty ∷ o.behind = sym (only_data_lines bytes o.records o.are) ∙ o.stands in
    fine_unfit o.before o.faulty o.behind o.neighbour other (subst (FineFrom None) same fine) o.is_neighbour o.fault_of.fits

-- The end.
open_end : (bytes : List ℕ) (fault : UcdFault) → FineFrom None (data_lines_in bytes) → HasLast (data_lines_in bytes) → end_fault (behind None (data_lines_in bytes)) ≡ Some fault → IsOpenAtEnd bytes fault
open_end bytes fault fine split h =
    let at = open_fault (opens split.last.text) split.last.line fault (sym (end_behind (data_lines_in bytes) split.front split.last split.stands) ∙ h) in
    let r = read_fine (behind None split.front) split.last.line split.last.text (last_fine None split.front split.last (subst (FineFrom None) split.stands fine)) in
    record {
      records = data_lines_in bytes;
      are = are_data_lines bytes;
      front = split.front;
      last = split.last;
      stands = split.stands;
      fields = fields_in split.last.text;
      has = r.has;
      opens = (opens_is (field 1 split.last.text)).0 at.0;
      is = at.1;
    }

some_last : (records : List Numbered) (fault : UcdFault) → end_fault (behind None records) ≡ Some fault → HasLast records
some_last [] fault h = absurd (cc)
some_last (r ∷ records) fault h = last_of [] r records

closed : (bytes : List ℕ) → end_fault (behind None (data_lines_in bytes)) ≡ None → (fault : UcdFault) → IsOpenAtEnd bytes fault → ⊥
closed bytes h fault o =
    let same : data_lines_in bytes ≡ o.front ++ o.last ∷ [] = sym (only_data_lines bytes o.records o.are) ∙ o.stands in
    let opening : opens o.last.text ≡ true = (opens_is (field 1 o.last.text)).1 (subst (λ (f : Fields). IsFirstName f.name) (only_has o.last.text o.fields o.has) o.opens) in
    let some = sym h ∙ end_behind (data_lines_in bytes) o.front o.last same ∙ ap (λ t. cond t (Some (RangeOpen o.last.line)) None) opening in
    absurd (cc)

-- The answers.
record_answer : (records : List Numbered) (h : Faulty None records) → fault_after None records ≡ Some h.fault
record_answer records h = ap (fault_after None) h.stands ∙ at_record None h.before h.faulty h.after h.fault h.fine h.has

to_first : (bytes : List ℕ) (fault : UcdFault) → fault_after None (data_lines_in bytes) ≡ Some fault → IsFirstFault bytes fault
to_first bytes fault h =
    ⊎_elim
    (λ (f : Faulty None (data_lines_in bytes)).
    let both = sym (record_answer (data_lines_in bytes) f) ∙ h in
    let same : f.fault ≡ fault = cc in
    inl (
      f.faulty.line,
      fault_at bytes f.before f.faulty f.after fault f.stands f.fine (f.has ∙ ap Some same),
      line_least bytes f.before f.faulty f.after f.stands f.fine,
    ))
    (λ fine.
    let e = sym (at_end None (data_lines_in bytes) fine) ∙ h in
    inr (no_fault_at bytes fine, open_end bytes fault fine (some_last (data_lines_in bytes) fault e) e))
    (outcome None (data_lines_in bytes))

pub first_fault_is : (bytes : List ℕ) (fault : UcdFault) → first_fault bytes ≡ Some fault → IsFirstFault bytes fault
unfolding first_fault
first_fault_is bytes fault h = to_first bytes fault h

pub fine_all : (bytes : List ℕ) → first_fault bytes ≡ None → FineFrom None (data_lines_in bytes)
unfolding first_fault
fine_all bytes h =
    ⊎_elim (λ (f : Faulty None (data_lines_in bytes)). let both = sym (record_answer (data_lines_in bytes) f) ∙ h in absurd (cc)) (λ fine. fine)
    (outcome None (data_lines_in bytes))

closed_end : (bytes : List ℕ) → first_fault bytes ≡ None → end_fault (behind None (data_lines_in bytes)) ≡ None
unfolding first_fault
closed_end bytes h = sym (at_end None (data_lines_in bytes) (fine_all bytes h)) ∙ h

pub faultless : (bytes : List ℕ) → first_fault bytes ≡ None → HasNoFault bytes
faultless bytes h = record { records = no_fault_at bytes (fine_all bytes h); end = closed bytes (closed_end bytes h) }

-- No first fault stands beside none.
pub not_both : (bytes : List ℕ) → HasNoFault bytes → (fault : UcdFault) → IsFirstFault bytes fault → ⊥
not_both bytes h fault is =
    ⊎_elim (λ at. h.records at.0 fault at.1) (λ end. h.end fault end.1) is

none_step : (bytes : List ℕ) (o : Option UcdFault) → HasNoFault bytes → first_fault bytes ≡ o → o ≡ None
none_step bytes None h e = refl
none_step bytes (Some fault) h e = absurd (not_both bytes h fault (first_fault_is bytes fault e))

pub has_none : (bytes : List ℕ) → HasNoFault bytes → first_fault bytes ≡ None
has_none bytes h = none_step bytes (first_fault bytes) h refl
