-- What is found in a file's records is what the grammar says: all foldings, or the first fault.
use Rattle.std.proofs.Common.{◌≡◌, ℕ, ◌<◌, ◌≤◌, ◌⊎◌, List, [], ◌∷◌, ◌++◌, get_or, Option, Some, None, Result, Ok, Err, refl, sym, ap, subst, ◌∙◌, inl, inr, ⊎_elim, arith}
use Rattle.std.specs.List.{All, AllPairs, Contains}
use Rattle.std.proofs.lemmas.List.Elements.{All-nil, All-cons}
use Rattle.std.proofs.lemmas.List.Kept.{AllPairs-cons}
use Rattle.np_code_points.specs.Lines.{Numbered}
use Rattle.np_code_points.proofs.Elements.{contains_here, contains_more, contains_cases, contains_none, all_contained, same_lists, greatest_front, same_place}
use Rattle.np_ucd.proofs.FaultGrammar.{HasLast, last_of}
use Rattle.np_foldings.specs.AllFoldings.{SaysFolding, IsSaid, AreAllFoldings}
use Rattle.np_foldings.specs.Faults.{RecordFault, FoldingFault, BadRecord, TooLarge, ReadFailed, Memory}
use Rattle.np_foldings.specs.Fields.{Head}
use Rattle.np_foldings.specs.FirstFaults.{IsLastOf, IsFaultAt, IsFirstFault, HasNoFault}
use Rattle.np_foldings.specs.Foldings.{Folding, IsFolding, AreFoldings}
use Rattle.np_foldings.specs.Tests.{Fits, IsFaultOf}
use Rattle.np_foldings.specs.Verdicts.{IsSaidBy}
use Rattle.np_foldings.specs.inside.FileReading.{onto, and_rest, at_line, next_head, verdict_after}
use Rattle.np_foldings.specs.inside.RecordReading.{Record, judged, foldings_of}
use Rattle.np_foldings.proofs.FoldingGrammar.{IsAbove, IsNotBelow, not_below, above_higher, at_folding, IsOne, IsNone, folding_cases}
use Rattle.np_foldings.proofs.TestGrammar.{same_number, has_head, only_head, judged_fine, judged_faulty}

abbrev Verdict : Type 0
Verdict = Result (List Folding) FoldingFault

-- Behind these records, none of which has a fault, the next one is held against this head.
abbrev Walks : Option Head → List Numbered → Option Head → Type 0
Walks b [] c = b ≡ c
Walks b (r ∷ front) c = (rec : Record) × (judged b r.text ≡ Ok rec) × Walks (Some rec.head) front c

-- The first fault, or all foldings.
record Faulty (b : Option Head) (records : List Numbered) : Type 0 where
  front : List Numbered
  faulty : Numbered
  behind : List Numbered
  at : Option Head
  fault : RecordFault
  stands : records ≡ front ++ faulty ∷ behind
  walks : Walks b front at
  has : judged at faulty.text ≡ Err fault
  answer : verdict_after b records ≡ Err (BadRecord faulty.line fault)

record Fine (b : Option Head) (records : List Numbered) : Type 0 where
  at : Option Head
  walks : Walks b records at
  found : List Folding
  answer : verdict_after b records ≡ Ok found
  each : All (IsSaid records) found
  all : (folding : Folding) → IsSaid records folding → Contains found folding
  above : All (λ (f : Folding). IsAbove b f.code) found
  rise : AllPairs (λ (f g : Folding). f.code < g.code) found
  fine : All IsFolding found

-- one more record in front
longer : (b : Option Head) (r : Numbered) (records : List Numbered) (rec : Record) → judged b r.text ≡ Ok rec → Faulty (Some rec.head) records → Faulty b (r ∷ records)
unfolding verdict_after
longer b r records rec e h = record {
  front = r ∷ h.front;
  faulty = h.faulty;
  behind = h.behind;
  at = h.at;
  fault = h.fault;
  stands = ap (λ rs. r ∷ rs) h.stands;
  walks = (rec, e, h.walks);
  has = h.has;
  answer = ap (λ j. and_rest (at_line r.line j) (verdict_after (next_head j) records)) e ∙ ap (onto (foldings_of rec)) h.answer;
}

answer_more : (b : Option Head) (r : Numbered) (records : List Numbered) (rec : Record) (found : List Folding) → judged b r.text ≡ Ok rec → verdict_after (Some rec.head) records ≡ Ok found → verdict_after b (r ∷ records) ≡ Ok (foldings_of rec ++ found)
unfolding verdict_after
answer_more b r records rec found e h =
    ap (λ j. and_rest (at_line r.line j) (verdict_after (next_head j) records)) e ∙ ap (onto (foldings_of rec)) h

said_more : (r : Numbered) (records : List Numbered) (found : List Folding) → All (IsSaid records) found → All (IsSaid (r ∷ records)) found
said_more r records found h = λ k d l. let s = h k d l in (s.0, contains_more r s.0 records s.1, s.2)

above_more : (b : Option Head) (n : ℕ) (h : Head) (found : List Folding) → IsNotBelow b n → h.code ≡ n → All (λ (f : Folding). IsAbove (Some h) f.code) found → All (λ (f : Folding). IsAbove b f.code) found
above_more b n h found low same above = λ k d l. let m = above k d l in above_higher b n (get_or found k d).code low (omega arith)

fine_none : (b : Option Head) (r : Numbered) (records : List Numbered) (rec : Record) → judged b r.text ≡ Ok rec → Fine (Some rec.head) records → IsNone r.text rec → Fine b (r ∷ records)
fine_none b r records rec e h none = record {
  at = h.at;
  walks = (rec, e, h.walks);
  found = h.found;
  answer = answer_more b r records rec h.found e h.answer ∙ ap (λ fs. Ok (fs ++ h.found)) none.is;
  each = said_more r records h.found h.each;
  all = λ folding said. h.all folding (⊎_elim
      (λ same. absurd (none.says folding (subst (λ (s : Numbered). SaysFolding s.text folding) (sym same) said.2)))
      (λ more. (said.0, more, said.2))
      (contains_cases r said.0 records said.1));
  above = above_more b rec.head.code rec.head h.found (not_below b rec.head (judged_fine b r.text rec e).order) refl h.above;
  rise = h.rise;
  fine = h.fine;
}

fine_one : (b : Option Head) (r : Numbered) (records : List Numbered) (rec : Record) (f : Folding) → judged b r.text ≡ Ok rec → Fine (Some rec.head) records → IsOne b r.text rec f → Fine b (r ∷ records)
fine_one b r records rec f e h one = record {
  at = h.at;
  walks = (rec, e, h.walks);
  found = f ∷ h.found;
  answer = answer_more b r records rec h.found e h.answer ∙ ap (λ fs. Ok (fs ++ h.found)) one.is;
  each = All-cons (IsSaid (r ∷ records)) f h.found (r, contains_here r records, one.says) (said_more r records h.found h.each);
  all = λ folding said. ⊎_elim
      (λ same.
      let is : f ≡ folding = sym (one.only folding (subst (λ (s : Numbered). SaysFolding s.text folding) (sym same) said.2)) in
      subst (Contains (f ∷ h.found)) is (contains_here f h.found))
      (λ more. contains_more f folding h.found (h.all folding (said.0, more, said.2)))
      (contains_cases r said.0 records said.1);
  above = All-cons (λ (g : Folding). IsAbove b g.code) f h.found one.above
      (above_more b rec.head.code rec.head h.found (not_below b rec.head (judged_fine b r.text rec e).order) refl h.above);
  rise = AllPairs-cons (λ (g k : Folding). g.code < k.code) f h.found (λ k d l. let m = h.above k d l in let at = one.at in omega arith) h.rise;
  fine = All-cons IsFolding f h.found one.fine h.fine;
}

fine_more : (b : Option Head) (r : Numbered) (records : List Numbered) (rec : Record) → judged b r.text ≡ Ok rec → Fine (Some rec.head) records → Fine b (r ∷ records)
fine_more b r records rec e h =
    ⊎_elim (fine_none b r records rec e h) (fine_one b r records rec (at_folding rec.head.code rec.mapping) e h)
    (folding_cases b r.text rec (judged_fine b r.text rec e))

faulty_here : (b : Option Head) (r : Numbered) (records : List Numbered) (fault : RecordFault) → judged b r.text ≡ Err fault → Faulty b (r ∷ records)
unfolding verdict_after
faulty_here b r records fault e = record {
  front = [];
  faulty = r;
  behind = records;
  at = b;
  fault = fault;
  stands = refl;
  walks = refl;
  has = e;
  answer = ap (λ j. and_rest (at_line r.line j) (verdict_after (next_head j) records)) e;
}

outcome_step : (b : Option Head) (r : Numbered) (records : List Numbered) (o : Result Record RecordFault) → judged b r.text ≡ o → ((c : Option Head) → Faulty c records ⊎ Fine c records) → Faulty b (r ∷ records) ⊎ Fine b (r ∷ records)
outcome_step b r records (Err fault) e ih = inl (faulty_here b r records fault e)
outcome_step b r records (Ok rec) e ih =
    ⊎_elim (λ more. inl (longer b r records rec e more)) (λ fine. inr (fine_more b r records rec e fine)) (ih (Some rec.head))

fine_nil : (b : Option Head) → Fine b []
unfolding verdict_after
fine_nil b = record {
  at = b;
  walks = refl;
  found = [];
  answer = refl;
  each = All-nil (IsSaid []);
  all = λ folding said. absurd (contains_none said.0 said.1);
  above = All-nil (λ (f : Folding). IsAbove b f.code);
  rise = λ i j d lt l. absurd (omega arith);
  fine = All-nil IsFolding;
}

outcome : (records : List Numbered) (b : Option Head) → Faulty b records ⊎ Fine b records
outcome [] b = inr (fine_nil b)
outcome (r ∷ records) b = outcome_step b r records (judged b r.text) refl (outcome records)

-- What the last of some records says.
record Ends (b : Option Head) (last : Numbered) (c : Option Head) : Type 0 where
  at : Option Head
  rec : Record
  is : judged at last.text ≡ Ok rec
  head : Some rec.head ≡ c

walk_end : (b : Option Head) (front : List Numbered) (last : Numbered) (c : Option Head) → Walks b (front ++ last ∷ []) c → Ends b last c
walk_end b [] last c h = record { at = b; rec = h.0; is = h.1; head = h.2 }
walk_end b (r ∷ front) last c h = let e = walk_end (Some h.0.head) front last c h.2 in record { at = e.at; rec = e.rec; is = e.is; head = e.head }

last_none : (xs : List Numbered) (c : Option Head) → Walks None xs c → xs ≡ [] → None ≡ c
last_none xs c h e = subst (λ rs. Walks None rs c) e h

last_is : (xs : List Numbered) (c nb : Option Head) → Walks None xs c → IsLastOf xs nb → nb ≡ c
last_is xs c None h is = last_none xs c h is
last_is xs c (Some head) h is =
    let e = walk_end None is.0 is.1 c (subst (λ rs. Walks None rs c) is.3 h) in
    let j = judged_fine e.at is.1.text e.rec e.is in
    let same = only_head is.1.text j.fields is.2 e.rec.head head j.fields_are j.code j.status is.4 in
    ap Some same.1 ∙ e.head

has_last_split : (xs : List Numbered) (c : Option Head) → Walks None xs c → HasLast xs → IsLastOf xs c
has_last_split xs c h split =
    let e = walk_end None split.front split.last c (subst (λ rs. Walks None rs c) split.stands h) in
    let j = judged_fine e.at split.last.text e.rec e.is in
    subst (IsLastOf xs) e.head (split.front, split.last, j.fields, split.stands, has_head split.last.text j.fields e.rec.head j.fields_are j.code j.status)

has_last : (xs : List Numbered) (c : Option Head) → Walks None xs c → IsLastOf xs c
has_last [] c h = subst (IsLastOf []) h refl
has_last (r ∷ xs) c h = has_last_split (r ∷ xs) c h (last_of [] r xs)

-- A record behind which others stand has no fault.
record Stops (b : Option Head) (xs : List Numbered) (y : Numbered) : Type 0 where
  at : Option Head
  walks : Walks b xs at
  rec : Record
  is : judged at y.text ≡ Ok rec

walk_split : (b : Option Head) (xs : List Numbered) (y : Numbered) (rest : List Numbered) (c : Option Head) → Walks b (xs ++ y ∷ rest) c → Stops b xs y
walk_split b [] y rest c h = record { at = b; walks = refl; rec = h.0; is = h.1 }
walk_split b (x ∷ xs) y rest c h =
    let s = walk_split (Some h.0.head) xs y rest c h.2 in
    record { at = s.at; walks = (h.0, h.1, s.walks); rec = s.rec; is = s.is }

fine_unfit : (before : List Numbered) (r : Numbered) (behind : List Numbered) (c nb : Option Head) (fault : RecordFault) → Walks None (before ++ r ∷ behind) c → IsLastOf before nb → Fits fault nb r.text → ⊥
fine_unfit before r behind c nb fault h is fits =
    let s = walk_split None before r behind c h in
    let same = last_is before s.at nb s.walks is in
    (judged_fine s.at r.text s.rec s.is).unfit fault (subst (λ n. Fits fault n r.text) same fits)

no_fault : (records : List Numbered) (c : Option Head) → Walks None records c → HasNoFault records
no_fault records c h r fault o =
    fine_unfit o.before r o.behind c o.neighbour fault (subst (λ rs. Walks None rs c) o.stands h) o.is_neighbour o.fault_of.fits

-- A list cut at two places.
record Within (front xs : List Numbered) (y : Numbered) : Type 0 where
  rest : List Numbered
  is : front ≡ xs ++ y ∷ rest

cut_twice : (front : List Numbered) (x : Numbered) (back xs : List Numbered) (y : Numbered) (ys : List Numbered) → front ++ x ∷ back ≡ xs ++ y ∷ ys → Within front xs y ⊎ Contains (xs ++ y ∷ []) x
cut_twice [] x back [] y ys e = let same : x ≡ y = cc in inr (subst (λ z. Contains (z ∷ []) x) same (contains_here x []))
cut_twice [] x back (z ∷ xs) y ys e = let same : x ≡ z = cc in inr (subst (λ w. Contains (w ∷ xs ++ y ∷ []) x) same (contains_here x (xs ++ y ∷ [])))
cut_twice (f ∷ front) x back [] y ys e = let same : f ≡ y = cc in inl (record { rest = front; is = ap (λ w. w ∷ front) same })
cut_twice (f ∷ front) x back (z ∷ xs) y ys e =
    let same : f ≡ z = cc in
    let rest : front ++ x ∷ back ≡ xs ++ y ∷ ys = cc in
    ⊎_elim
    (λ (w : Within front xs y). inl (record { rest = w.rest; is = ap (λ fs. f ∷ fs) w.is ∙ ap (λ w'. w' ∷ xs ++ y ∷ w.rest) same }))
    (λ more. inr (contains_more z x (xs ++ y ∷ []) more))
    (cut_twice front x back xs y ys rest)

abbrev InOrder : List Numbered → Type 0
InOrder records = AllPairs (λ (r s : Numbered). r.line < s.line) records

module _ (records : List Numbered) (rising : InOrder records) where
  fault_at : (h : Faulty None records) → IsFaultAt records h.faulty h.fault
  fault_at h = record {
    before = h.front;
    behind = h.behind;
    stands = h.stands;
    neighbour = h.at;
    is_neighbour = has_last h.front h.at h.walks;
    fault_of = judged_faulty h.at h.faulty.text h.fault h.has;
  }

  line_least : (h : Faulty None records) (other : Numbered) (another : RecordFault) → IsFaultAt records other another → h.faulty.line ≤ other.line
  line_least h other another o =
      ⊎_elim
      (λ (w : Within h.front o.before other).
      absurd (fine_unfit o.before other w.rest h.at o.neighbour another (subst (λ rs. Walks None rs h.at) w.is h.walks) o.is_neighbour o.fault_of.fits))
      (λ in'. greatest_front Numbered (λ k. k.line) o.before other o.behind h.faulty (subst InOrder o.stands rising) in')
      (cut_twice h.front h.faulty h.behind o.before other o.behind (sym h.stands ∙ o.stands))

  first_fault : (h : Faulty None records) → IsFirstFault records h.faulty.line h.fault
  first_fault h = record { faulty = h.faulty; at = refl; has = fault_at h; least = line_least h }

  -- no other fault is the first one
  only_fault : (h : Faulty None records) (line : ℕ) (fault : RecordFault) → IsFirstFault records line fault → Err (BadRecord line fault) ≡ verdict_after None records
  only_fault h line fault o =
      let here : line ≡ h.faulty.line = let l = o.least h.faulty h.fault (fault_at h) in let m = line_least h o.faulty fault o.has in let at = o.at in omega arith in
      let place = same_place Numbered (λ k. k.line) o.has.before o.faulty o.has.behind h.front h.faulty h.behind
      (subst InOrder o.has.stands rising) (sym o.has.stands ∙ h.stands) (o.at ∙ here) in
      let nb : o.has.neighbour ≡ h.at = last_is h.front h.at o.has.neighbour h.walks (subst (λ rs. IsLastOf rs o.has.neighbour) place.0 o.has.is_neighbour) in
      let there : IsFaultOf h.at h.faulty.text fault =
      subst (λ (r : Numbered). IsFaultOf h.at r.text fault) place.1 (subst (λ n. IsFaultOf n o.faulty.text fault) nb o.has.fault_of) in
      let own = judged_faulty h.at h.faulty.text h.fault h.has in
      let number : fault ≡ h.fault = let l = there.least h.fault own.fits in let m = own.least fault there.fits in same_number fault h.fault (omega arith) in
      ap (λ n. Err (BadRecord n fault)) here ∙ ap (λ f. Err (BadRecord h.faulty.line f)) number ∙ sym h.answer

  all_foldings : (h : Fine None records) → AreAllFoldings records h.found
  all_foldings h = record { rise = h.rise; each = h.each; all = h.all }

  only_foldings : (h : Fine None records) (foldings : List Folding) → AreAllFoldings records foldings → Ok foldings ≡ verdict_after None records
  only_foldings h foldings are =
      ap Ok (same_lists Folding (λ f. f.code) foldings h.found are.rise h.rise
      (λ f in'. h.all f (all_contained (IsSaid records) foldings f are.each in'))
      (λ f in'. are.all f (all_contained (IsSaid records) h.found f h.each in')))
      ∙ sym h.answer

  clash : {X : Type 0} → HasNoFault records → Faulty None records → X
  clash none h = absurd (none h.faulty h.fault (fault_at h))

  pub is_said : IsSaidBy records (verdict_after None records)
  is_said =
      ⊎_elim
      (λ (h : Faulty None records). subst (IsSaidBy records) (sym h.answer) (first_fault h))
      (λ (h : Fine None records). subst (IsSaidBy records) (sym h.answer) (no_fault records h.at h.walks, all_foldings h))
      (outcome records None)

  only_ok : (foldings : List Folding) → HasNoFault records → AreAllFoldings records foldings → Ok foldings ≡ verdict_after None records
  only_ok foldings none are =
      ⊎_elim (λ (h : Faulty None records). clash none h) (λ (h : Fine None records). only_foldings h foldings are) (outcome records None)

  only_err : (line : ℕ) (fault : RecordFault) → IsFirstFault records line fault → Err (BadRecord line fault) ≡ verdict_after None records
  only_err line fault is =
      ⊎_elim (λ (h : Faulty None records). only_fault h line fault is)
      (λ (h : Fine None records). absurd (no_fault records h.at h.walks is.faulty fault is.has)) (outcome records None)

  pub only_said : (v : Verdict) → IsSaidBy records v → v ≡ verdict_after None records
  only_said (Ok foldings) h = only_ok foldings h.0 h.1
  only_said (Err (BadRecord line fault)) h = only_err line fault h
  only_said (Err TooLarge) h = absurd h
  only_said (Err ReadFailed) h = absurd h
  only_said (Err Memory) h = absurd h

  pub sorted : (foldings : List Folding) → verdict_after None records ≡ Ok foldings → AreFoldings foldings
  sorted foldings e =
      ⊎_elim
      (λ (h : Faulty None records). let both = sym e ∙ h.answer in absurd (cc))
      (λ (h : Fine None records).
      let both = sym h.answer ∙ e in
      let same : h.found ≡ foldings = cc in
      subst AreFoldings same (record { each = h.fine; rise = h.rise }))
      (outcome records None)
