-- What the grammar's relations determine.
use Rattle.std.proofs.Common.{◌≡◌, ℕ, ◌≤◌, ◌<◌, ◌⊎◌, zero, suc, List, [], ◌∷◌, ◌++◌, Option, Some, None, refl, sym, ap, subst, ◌∙◌, inl, inr, ⊎_elim, arith}
use Rattle.std.specs.List.{AllPairs}
use Rattle.np_code_points.specs.Lines.{Numbered}
use Rattle.np_code_points.specs.inside.LineCuts.{data_lines_in}
use Rattle.np_code_points.specs.One.{HasOne}
use Rattle.np_code_points.proofs.DataLineGrammar.{are_data_lines, only_data_lines}
use Rattle.np_code_points.proofs.Elements.{same_end, same_place}
use Rattle.np_ucd.specs.Exclusions.{IsFirstBadLine, AreReadable}
use Rattle.np_ucd.specs.Faults.{line_of}
use Rattle.np_ucd.specs.Fields.{Fields}
use Rattle.np_ucd.specs.FirstFaults.{IsLastOf, IsFaultAt, IsOpenAtEnd, HasNoFault, IsFirstFault}
use Rattle.np_ucd.specs.Laws.{HasOneListOfFields, SaysOneMapping, HasOneVerdict, HasOneListOfRows, SaysOneText, ListsOneThing, HasOneBadLine}
use Rattle.np_ucd.specs.Tests.{UcdFault, FieldCount, BadCode, OutOfOrder, BadCategory, BadClass, BadMapping, RangeOpen, RangeLone, RangeDiffers, RangeMaps, Fits, test_of}
use Rattle.np_ucd.specs.declared.faults.UcdFault.TheVariants.{TooLarge, ReadFailed, Memory}
use Rattle.np_ucd.specs.inside.ExclusionReading.{entry_text, exclusions_fault}
use Rattle.np_ucd.specs.inside.FieldReading.{fields_of}
use Rattle.np_ucd.specs.inside.FileReading.{first_fault, rows_in}
use Rattle.np_ucd.proofs.ExclusionGrammar.{first_bad_line, are_readable}
use Rattle.np_ucd.proofs.FaultGrammar.{first_fault_is, faultless, has_none, not_both}
use Rattle.np_ucd.proofs.FieldGrammar.{are_fields, only_fields, fields_in, only_has}
use Rattle.np_ucd.proofs.MappingGrammar.{mapping_read}
use Rattle.np_ucd.proofs.RowGrammar.{are_all_rows, only_rows}
use Rattle.np_ucd.proofs.SpanGrammar.{nothing_listed, span_listed}
use Rattle.np_ucd.proofs.TextGrammar.{says_text, only_says}

pub one_list_of_fields : HasOneListOfFields
one_list_of_fields text = (fields_of text, are_fields text, only_fields text)

pub one_mapping : SaysOneMapping
one_mapping field a b h k = let both : Some a ≡ Some b = sym (mapping_read field a h) ∙ mapping_read field b k in cc

pub says_one_text : SaysOneText
says_one_text line = (entry_text line, says_text line, only_says line)

pub one_thing : (line : List ℕ) → ListsOneThing line
one_thing line = record {
  one = λ a b h k. let both = sym (span_listed line a h) ∙ span_listed line b k in cc;
  not_both = λ a h k. let both = sym (nothing_listed line h) ∙ span_listed line a k in absurd (cc);
}

pub one_list_of_rows : HasOneListOfRows
one_list_of_rows bytes h =
    let none = has_none bytes h in
    (rows_in bytes, are_all_rows bytes none, only_rows bytes none)

same_bad : (bytes : List ℕ) (a b : UcdFault) → IsFirstBadLine bytes a → IsFirstBadLine bytes b → a ≡ b
same_bad bytes a b h k =
    let same : h.number ≡ k.number = let l = h.least k.number k.bad in let m = k.least h.number h.bad in omega arith in
    h.fault_is ∙ ap BadCode same ∙ sym k.fault_is

bad_step : (bytes : List ℕ) (o : Option UcdFault) → exclusions_fault bytes ≡ o → AreReadable bytes ⊎ HasOne (IsFirstBadLine bytes)
bad_step bytes None e = inl (are_readable bytes e)
bad_step bytes (Some fault) e =
    let is = first_bad_line bytes fault e in
    inr (fault, is, λ other h. same_bad bytes other fault h is)

pub one_bad_line : HasOneBadLine
one_bad_line bytes = bad_step bytes (exclusions_fault bytes) refl

-- The first fault of a file is one.
abbrev fault_numbered : ℕ → ℕ → UcdFault
fault_numbered zero line = Memory
fault_numbered (suc zero) line = FieldCount line
fault_numbered (suc (suc zero)) line = BadCode line
fault_numbered (suc (suc (suc zero))) line = OutOfOrder line
fault_numbered (suc (suc (suc (suc zero)))) line = BadCategory line
fault_numbered (suc (suc (suc (suc (suc zero))))) line = BadClass line
fault_numbered (suc (suc (suc (suc (suc (suc zero)))))) line = BadMapping line
fault_numbered (suc (suc (suc (suc (suc (suc (suc zero))))))) line = RangeOpen line
fault_numbered (suc (suc (suc (suc (suc (suc (suc (suc zero)))))))) line = RangeLone line
fault_numbered (suc (suc (suc (suc (suc (suc (suc (suc (suc zero))))))))) line = RangeDiffers line
fault_numbered (suc (suc (suc (suc (suc (suc (suc (suc (suc (suc n)))))))))) line = RangeMaps line

numbered : (fault : UcdFault) (line : ℕ) → line_of fault ≡ Some line → fault ≡ fault_numbered (test_of fault) line
numbered (FieldCount n) line h = cc
numbered (BadCode n) line h = cc
numbered (OutOfOrder n) line h = cc
numbered (BadCategory n) line h = cc
numbered (BadClass n) line h = cc
numbered (BadMapping n) line h = cc
numbered (RangeOpen n) line h = cc
numbered (RangeLone n) line h = cc
numbered (RangeDiffers n) line h = cc
numbered (RangeMaps n) line h = cc
numbered TooLarge line h = absurd (cc)
numbered ReadFailed line h = absurd (cc)
numbered Memory line h = absurd (cc)

ended : (front : List Numbered) (last : Numbered) → front ++ last ∷ [] ≡ [] → ⊥
ended [] last e = absurd (cc)
ended (r ∷ front) last e = absurd (cc)

same_last : (before : List Numbered) (a b : Option Fields) → IsLastOf before a → IsLastOf before b → a ≡ b
same_last before None None h k = refl
same_last before None (Some g) h k = absurd (ended k.0 k.1 (sym k.2 ∙ h))
same_last before (Some f) None h k = absurd (ended h.0 h.1 (sym h.2 ∙ k))
same_last before (Some f) (Some g) h k =
    let last : h.1 ≡ k.1 = same_end h.0 k.0 h.1 k.1 (sym h.2 ∙ k.2) in
    ap Some (only_has h.1.text f h.3 ∙ ap (λ (r : Numbered). fields_in r.text) last ∙ sym (only_has k.1.text g k.3))

tests_same : (bytes : List ℕ) (line : ℕ) (a b : UcdFault) → IsFaultAt bytes line a → IsFaultAt bytes line b → test_of a ≤ test_of b
tests_same bytes line a b o p =
    let here : data_lines_in bytes ≡ o.before ++ o.faulty ∷ o.behind = sym (only_data_lines bytes o.records o.are) ∙ o.stands in
    let there : data_lines_in bytes ≡ p.before ++ p.faulty ∷ p.behind = sym (only_data_lines bytes p.records p.are) ∙ p.stands in
    let place = same_place Numbered (λ k. k.line) o.before o.faulty o.behind p.before p.faulty p.behind
    (subst (λ ls. AllPairs (λ (j k : Numbered). j.line < k.line) ls) here (are_data_lines bytes).rise) (sym here ∙ there) (o.at ∙ sym p.at) in
    let last : p.neighbour ≡ o.neighbour =
    same_last o.before p.neighbour o.neighbour (subst (λ rs. IsLastOf rs p.neighbour) (sym place.0) p.is_neighbour) o.is_neighbour in
    o.fault_of.least b
    (subst (λ (r : Numbered). Fits b o.neighbour r.text) (sym place.1) (subst (λ nb. Fits b nb p.faulty.text) last p.fault_of.fits))

same_at : (bytes : List ℕ) (line : ℕ) (a b : UcdFault) → IsFaultAt bytes line a → IsFaultAt bytes line b → a ≡ b
same_at bytes line a b o p =
    let tests : test_of a ≡ test_of b = let l = tests_same bytes line a b o p in let m = tests_same bytes line b a p o in omega arith in
    numbered a line (o.fault_of.line ∙ ap Some o.at) ∙ ap (λ n. fault_numbered n line) tests ∙ sym (numbered b line (p.fault_of.line ∙ ap Some p.at))

same_ends : (bytes : List ℕ) (a b : UcdFault) → IsOpenAtEnd bytes a → IsOpenAtEnd bytes b → a ≡ b
same_ends bytes a b o p =
    let last : o.last ≡ p.last = same_end o.front p.front o.last p.last
    (sym o.stands ∙ only_data_lines bytes o.records o.are ∙ sym (only_data_lines bytes p.records p.are) ∙ p.stands) in
    o.is ∙ ap (λ (r : Numbered). RangeOpen r.line) last ∙ sym p.is

same_first : (bytes : List ℕ) (a b : UcdFault) → IsFirstFault bytes a → IsFirstFault bytes b → a ≡ b
same_first bytes a b h k =
    ⊎_elim
    (λ o. ⊎_elim
    (λ p.
    let line : p.0 ≡ o.0 = let l = o.2 p.0 b p.1 in let m = p.2 o.0 a o.1 in omega arith in
    same_at bytes o.0 a b o.1 (subst (λ n. IsFaultAt bytes n b) line p.1))
    (λ p. absurd (p.0 o.0 a o.1)) k)
    (λ o. ⊎_elim (λ p. absurd (o.0 p.0 b p.1)) (λ p. same_ends bytes a b o.1 p.1) k) h

verdict_step : (bytes : List ℕ) (o : Option UcdFault) → first_fault bytes ≡ o → HasNoFault bytes ⊎ HasOne (IsFirstFault bytes)
verdict_step bytes None e = inl (faultless bytes e)
verdict_step bytes (Some fault) e =
    let is = first_fault_is bytes fault e in
    inr (fault, is, λ other h. same_first bytes other fault h is)

pub one_verdict : (bytes : List ℕ) → HasOneVerdict bytes
one_verdict bytes = record { either = verdict_step bytes (first_fault bytes) refl; not_both = not_both bytes }
