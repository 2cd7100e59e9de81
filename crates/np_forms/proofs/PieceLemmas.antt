-- A form that is given piece by piece.
use Rattle.std.proofs.Common.{◌≡◌, ◌≢◌, ℕ, ◌+◌, ◌≤◌, ◌↔◌, min, Bool, true, false, IsTrue, eqb, List, [], ◌∷◌, ◌++◌, length, take, drop, chars, encode_utf8_all, refl, sym, ap, ◌∙◌, append_assoc, ◌⊎◌, ⊎_elim, inl, inr, ◌&&◌, arith, IsUtf8, length-append}
use Rattle.np_forms.proofs.Words.{false≢true, eqb-true, and_parts, and_from, append_cancel_left, nil_from_length, drop-drop, drop_min, take-append-drop}
use Rattle.np_forms.proofs.Words.{take-append-le, Form, encodes_same, chars_from_encodes, encodes-chars, composes, is_compat, IsSound, VersionData}
use Rattle.np_forms.proofs.Words.{IsEquivalent, IsNormalForm, decomposed, ended, normal_form, IsCopied, first_of, form_bytes, front_of, left_of, take_rest}
use Rattle.np_forms.specs.declared.pieces.Pieces.{Pieces}
use Rattle.np_forms.proofs.FormLemmas.{IsEquivalent-lists, normal_form_is, IsNormalForm-value}
use Rattle.np_forms.proofs.CopyLemmas.{rest_nil}

-- ---- a text beside its own normal form

module _ (v : VersionData) (form : Form) where
  -- a text is its own form exactly where its bytes are those of its form
  pub own_form : (sound : IsSound v) (text : List ℕ) (b : Bool) → IsUtf8 text → (IsTrue b ↔ (form_bytes v form text ≡ text)) → IsTrue b ↔ IsNormalForm v form (chars text) (chars text)
  own_form sound text b utf8 same = (
    λ yes. IsNormalForm-value v sound form (chars text) (chars text) (sym (chars_from_encodes (normal_form v form (chars text)) text utf8 (same.0 yes))),
    λ is. same.1 (ap encode_utf8_all (sym (normal_form_is v sound form (chars text) (chars text) is)) ∙ encodes-chars text utf8),
  )

module _ (v : VersionData) (form : Form) where
  -- where nothing stands in front, only the rest is left
  pub left_rest : (stays made rest : List ℕ) → first_of stays made ≡ [] → stays ++ (made ++ form_bytes v form rest) ≡ form_bytes v form rest
  left_rest [] made rest e = ap (λ l. l ++ form_bytes v form rest) e
  left_rest (b ∷ bs) made rest e = absurd (cc)

  -- the next piece is cut off the rest
  pub left_next : (rest stays after later made : List ℕ) → IsCopied v form rest stays after → made ++ form_bytes v form later ≡ form_bytes v form after → stays ++ (made ++ form_bytes v form later) ≡ form_bytes v form rest
  left_next rest stays after later made copied goes = sym (copied.copied ∙ ap (λ l. stays ++ l) (sym goes))

  -- nothing in front and no rest
  pub left_nil : (stays made rest : List ℕ) → first_of stays made ≡ [] → length rest ≡ 0 → stays ++ (made ++ form_bytes v form rest) ≡ []
  left_nil stays made rest e none = left_rest stays made rest e ∙ rest_nil v form rest none

-- what is passed of what stays
pub passed_stays_to : (stays rest made more : List ℕ) (n : ℕ) → eqb (length stays) 0 ≡ false → rest ≡ drop n stays → stays ++ (made ++ more) ≡ take n (first_of stays made) ++ (rest ++ (made ++ more))
passed_stays_to [] rest made more n some is = absurd (false≢true (sym some))
passed_stays_to (b ∷ bs) rest made more n some is =
    ap (λ l. l ++ (made ++ more)) (sym (take-append-drop n (b ∷ bs))) ∙ append_assoc (take n (b ∷ bs)) (drop n (b ∷ bs)) (made ++ more)
    ∙ ap (λ l. take n (b ∷ bs) ++ (l ++ (made ++ more))) (sym is)

-- what is passed of what was made, of which `taken` bytes were passed before; the place was cut at the end of what was made
pub passed_made_from : (stays made more : List ℕ) (taken n next : ℕ) → eqb (length stays) 0 ≡ true → next ≡ min taken (length made) + n → stays ++ (drop taken made ++ more) ≡ take n (first_of stays (drop taken made)) ++ (stays ++ (drop next made ++ more))
passed_made_from (b ∷ bs) made more taken n next none is = absurd (let some = eqb-true (length (b ∷ bs)) 0 none in omega (arith, some))
passed_made_from [] made more taken n next none is =
    let left = drop-drop n (min taken (length made)) made ∙ ap (λ k. drop k made) (sym is) in
    ap (λ l. l ++ more) (sym (take-append-drop n (drop taken made))) ∙ append_assoc (take n (drop taken made)) (drop n (drop taken made)) more
    ∙ ap (λ l. take n (drop taken made) ++ (l ++ more)) (ap (drop n) (sym (drop_min taken made)) ∙ left)

-- what stands in front stands in front of all that is left
left_begins : (stays made more : List ℕ) → (rest : List ℕ) × (stays ++ (made ++ more) ≡ first_of stays made ++ rest)
left_begins [] made more = (more, refl)
left_begins (b ∷ bs) made more = (made ++ more, refl)

-- two lists, of each of which the same front was passed
pub record ArePassed (whole other left right : List ℕ) : Type 0 where
  pub passed : List ℕ
  pub whole_is : whole ≡ passed ++ left
  pub other_is : other ≡ passed ++ right

pub ArePassed-next : {whole other left right : List ℕ} (front before later after : List ℕ) → ArePassed whole other left right → left ≡ front ++ later → right ≡ before ++ after → front ≡ before → ArePassed whole other later after
ArePassed-next front before later after p e f same =
    record {
      passed = p.passed ++ front;
      whole_is = p.whole_is ∙ ap (λ l. p.passed ++ l) e ∙ sym (append_assoc p.passed front later);
      other_is = p.other_is ∙ ap (λ l. p.passed ++ l) (f ∙ ap (λ l. l ++ after) (sym same)) ∙ sym (append_assoc p.passed front after);
    }

pub ArePassed-same : {whole other left right left₂ right₂ : List ℕ} → ArePassed whole other left right → left₂ ≡ left → right₂ ≡ right → ArePassed whole other left₂ right₂
ArePassed-same p e f = record { passed = p.passed; whole_is = p.whole_is ∙ ap (λ l. p.passed ++ l) (sym e); other_is = p.other_is ∙ ap (λ l. p.passed ++ l) (sym f) }

-- where they are one, so is what is left
alike : {whole other left right : List ℕ} → ArePassed whole other left right → whole ≡ other → left ≡ right
alike {whole} {other} {left} {right} p same = append_cancel_left p.passed left right (sym p.whole_is ∙ same ∙ p.other_is)

-- one of them is empty where neither is longer than nothing
pub none_of_both : (front other : List ℕ) (count : ℕ) → count ≡ min (length front) (length other) → count ≡ 0 → (length front ≡ 0) ⊎ (length other ≡ 0)
none_of_both [] other count e none = inl refl
none_of_both (b ∷ bs) [] count e none = inr refl
none_of_both (b ∷ bs) (d ∷ ds) count e none = absurd (omega (arith, e, none))

front_nil : (front rest : List ℕ) → front ++ rest ≡ [] → front ≡ []
front_nil front rest e = nil_from_length front (omega (arith, ap length e, length-append front rest))

module _ (v : VersionData) (form : Form) (first second : Pieces) {whole other : List ℕ} (p : ArePassed whole other (left_of v form first) (left_of v form second)) where
  begins : (x : Pieces) → (rest : List ℕ) × (left_of v form x ≡ front_of x ++ rest)
  begins x = left_begins x.stays.now (drop x.taken x.made) (form_bytes v form x.rest.now)

  -- the fronts differ within a number of bytes
  pub ArePassed-differ : (n : ℕ) → n ≤ length (front_of first) → n ≤ length (front_of second) → take n (front_of first) ≢ take n (front_of second) → IsTrue false ↔ (whole ≡ other)
  ArePassed-differ n fits fits₂ differ =
      let one = begins first in
      let two = begins second in (
        λ yes. absurd (false≢true yes),
        λ same. absurd (differ (sym (take-append-le n (front_of first) one.0 fits) ∙ ap (take n) (sym one.1 ∙ alike p same ∙ two.1) ∙ take-append-le n (front_of second) two.0 fits₂)),
      )

  -- nothing stands in front of one of them, and then nothing is left of it
  pub ArePassed-end : {b : Bool} → (front_of first ≡ [] → left_of v form first ≡ []) → (front_of second ≡ [] → left_of v form second ≡ []) →
      (length (front_of first) ≡ 0) ⊎ (length (front_of second) ≡ 0) → b ≡ (eqb (length (front_of first)) 0 && eqb (length (front_of second)) 0) → IsTrue b ↔ (whole ≡ other)
  ArePassed-end empty empty₂ none is =
      let one = begins first in
      let two = begins second in (
        λ yes.
            let both = and_parts (eqb (length (front_of first)) 0) (eqb (length (front_of second)) 0) (sym is ∙ yes) in
            let no_left = empty (nil_from_length (front_of first) (eqb-true _ 0 both.0)) in
            let no_right = empty₂ (nil_from_length (front_of second) (eqb-true _ 0 both.1)) in
            p.whole_is ∙ ap (λ l. p.passed ++ l) (no_left ∙ sym no_right) ∙ sym p.other_is,
        λ same.
            let all : (left_of v form first ≡ []) × (left_of v form second ≡ []) = ⊎_elim
            (λ h. let nil = empty (nil_from_length (front_of first) h) in (nil, sym (alike p same) ∙ nil))
            (λ h. let nil = empty₂ (nil_from_length (front_of second) h) in (alike p same ∙ nil, nil))
            none in
            is ∙ and_from _ _ (ap (λ l. eqb (length l) 0) (front_nil (front_of first) one.0 (sym one.1 ∙ all.0))) (ap (λ l. eqb (length l) 0) (front_nil (front_of second) two.0 (sym two.1 ∙ all.1))),
      )

-- ---- a form beside bytes

module _ (v : VersionData) (form : Form) (pieces : Pieces) {whole other left : List ℕ} (p : ArePassed whole other (left_of v form pieces) left) where
  -- the bytes don't go on as the form does
  pub ArePassed-parts : ((r : List ℕ) → left ≢ front_of pieces ++ r) → IsTrue false ↔ (whole ≡ other)
  ArePassed-parts differ =
      let begins = left_begins pieces.stays.now (drop pieces.taken pieces.made) (form_bytes v form pieces.rest.now) in
      (λ yes. absurd (false≢true yes), λ same. absurd (differ begins.0 (sym (alike p same) ∙ begins.1)))

  -- nothing is left of the form
  pub ArePassed-all : {b : Bool} → left_of v form pieces ≡ [] → b ≡ eqb (length left) 0 → IsTrue b ↔ (whole ≡ other)
  ArePassed-all none is = (
    λ yes. p.whole_is ∙ ap (λ l. p.passed ++ l) (none ∙ sym (nil_from_length left (eqb-true (length left) 0 (sym is ∙ yes)))) ∙ sym p.other_is,
    λ same. is ∙ ap (λ l. eqb (length l) 0) (sym (alike p same) ∙ none),
  )

-- ---- equivalence by the bytes of forms

module _ (v : VersionData) (sound : IsSound v) where
  pub IsEquivalent-same : (compat : Bool) (left right : List ℕ) → left ≡ right → IsTrue true ↔ IsEquivalent v compat (chars left) (chars right)
  IsEquivalent-same compat left right e =
      IsEquivalent-lists v sound compat (chars left) (chars right) _ _ (IsTrue true) refl refl (λ yes. ap (λ l. decomposed v compat (chars l)) e, λ same. refl)

  form_is : (form : Form) (compat : Bool) (text : List ℕ) → is_compat form ≡ compat → composes form ≡ false → normal_form v form (chars text) ≡ decomposed v compat (chars text)
  unfolding normal_form
  form_is form compat text kind off = ap (λ b. ended v b (decomposed v (is_compat form) (chars text))) off ∙ ap (λ b. decomposed v b (chars text)) kind

  pub IsEquivalent-forms : (form : Form) (compat : Bool) (left right : List ℕ) (b : Bool) → is_compat form ≡ compat → composes form ≡ false → (IsTrue b ↔ (form_bytes v form left ≡ form_bytes v form right)) → IsTrue b ↔ IsEquivalent v compat (chars left) (chars right)
  IsEquivalent-forms form compat left right b kind off same =
      IsEquivalent-lists v sound compat (chars left) (chars right) (normal_form v form (chars left)) (normal_form v form (chars right)) (IsTrue b) (form_is form compat left kind off) (form_is form compat right kind off)
      (λ yes. encodes_same (normal_form v form (chars left)) (normal_form v form (chars right)) (same.0 yes), λ e. same.1 (ap encode_utf8_all e))

-- what the checks of functions cite
pub ruleset pass_answers = (take_rest, passed_stays_to, passed_made_from)
