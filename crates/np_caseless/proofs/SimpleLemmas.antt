-- What a text is made into by images that stand for its code points whatever is around them.
use Rattle.std.proofs.Common.{◌≡◌, ℕ, ◌<◌, ◌≤◌, ◌&&◌, Bool, true, false, List, [], ◌∷◌, ◌++◌, append_assoc, drop, length, length-append, replicate, slice_set, take, arith, chars, encode_utf8, encode_utf8_all, IsUtf8, refl, sym, ap, ap₂, subst, ◌∙◌, inl, inr}
use Rattle.std.proofs.Math.Seq.{drop-append_seam, take-append_seam}
use Rattle.std.proofs.lemmas.Bool.{and_from, and_parts}
use Rattle.std.proofs.lemmas.Grind.{flat_map-append}
use Rattle.std.proofs.lemmas.List.{take_at, append-nil, get_or-replicate, get_or-set_other, get_or-set_same, length-drop, length-replicate, length-set}
use Rattle.std.proofs.lemmas.List.Elements.{All-append, All-drop, All-nil, All-take}
use Rattle.std.proofs.lemmas.List.Folds.{list_all-append}
use Rattle.std.proofs.lemmas.Str.{chars_from_encodes, encodes-chars, IsUtf8-append, IsUtf8-nil}
use Rattle.np_code_points.specs.Forms.{is_compat}
use Rattle.np_code_points.specs.Lines.{HasNo}
use Rattle.np_code_points.specs.declared.forms.Form.{Form}
use Rattle.np_code_points.proofs.LineGrammar.{not_byte}
use Rattle.np_forms.specs.Assigned.{IsAssigned}
use Rattle.np_forms.specs.Forms.{IsNormalForm}
use Rattle.np_forms.specs.inside.NormalForms.{normal_form}
use Rattle.np_forms.proofs.CopyLemmas.{IsUtf8-front, normal_form-nil, parts-at}
use Rattle.np_forms.proofs.FormLemmas.{IsNormalForm-value, normal_form_is}
use Rattle.np_forms.proofs.TextLemmas.{IsRead-next, IsRead-start}
use Rattle.np_forms.proofs.Words.{IsUtf8-past_char}
use Rattle.np_versions.specs.Versions.{is_assigned}
use Rattle.np_versions.proofs.Words.{cases_eq}
use Rattle.np_caseless.specs.Caseless.{IsCaseless}
use Rattle.np_caseless.specs.Conditions.{IsSoundFolding}
use Rattle.np_caseless.specs.Folded.{FoldedVersion}
use Rattle.np_caseless.specs.inside.Images.{AreImages}
use Rattle.np_caseless.specs.SimpleKeys.{AddsNoControl, IsSimpleKey}
use Rattle.np_caseless.specs.inside.SimpleImages.{AreSimple, IsApart, StandsFor, IsSimple, bytes_of, listed}
use Rattle.np_caseless.specs.inside.SimpleTexts.{AreOwn, AreStandIns, IsMadeOfFront, IsStandIn}
use Rattle.np_caseless.specs.declared.simple_images.SimpleImage.{SimpleImage}
use Rattle.np_caseless.specs.declared.simple_texts.KnownImages.{KnownImages}
use Rattle.np_caseless.proofs.AssignedLemmas.{images_assigned}
use Rattle.np_caseless.proofs.ImageLemmas.{encoded_text, images_more, IsCaseless-images, no_images}

-- what holds of each in a list holds of each in its parts
front_free : (b : ℕ) (xs ys : List ℕ) → HasNo b (xs ++ ys) → HasNo b xs
front_free b xs ys h = subst (HasNo b) (take-append_seam xs ys) (All-take (not_byte b) (length xs) (xs ++ ys) h)

back_free : (b : ℕ) (xs ys : List ℕ) → HasNo b (xs ++ ys) → HasNo b ys
back_free b xs ys h = subst (HasNo b) (drop-append_seam xs ys) (All-drop (not_byte b) (length xs) (xs ++ ys) h)

-- the bytes of one code point
pub one_code : (code : ℕ) (own : List ℕ) → own ≡ encode_utf8 code → IsUtf8 own → code ∷ [] ≡ chars own
one_code code own is utf8 = chars_from_encodes (code ∷ []) own utf8 (append-nil (encode_utf8 code) ∙ sym is)

and_same : (a : Bool) → a && a ≡ a
and_same true = refl
and_same false = refl

module _ (v : FoldedVersion) (sound : IsSoundFolding v) (form : Form) where
  -- nothing was read yet
  pub simple_start : (apart : Bool) (text : List ℕ) → IsUtf8 text → IsMadeOfFront v form apart text text []
  simple_start apart text utf8 = record {
    read = [];
    ys = [];
    reads = IsRead-start text utf8;
    bytes = refl;
    utf8 = IsUtf8-nil;
    images = no_images v (is_compat form);
    own = λ t. normal_form-nil v.version form;
    assigned = λ t. refl;
    ends = λ b low none. All-nil (not_byte b);
  }

  -- what stands for one more code point follows
  simple_next : (before more : Bool) (text rest later made piece after : List ℕ) (code : ℕ) → IsMadeOfFront v form before text rest made
      → rest ≡ encode_utf8 code ++ later → IsUtf8 piece → AreImages v (is_compat form) (code ∷ []) (chars piece) → (more ≡ true → IsApart v form piece)
      → AddsNoControl (encode_utf8 code) piece → after ≡ made ++ piece → IsMadeOfFront v form (before && more) text later after
  simple_next before more text rest later made piece after code m begins utf8 images apart ends is =
      let zs = chars piece in
      let nf = normal_form v.version form in
      let split : encode_utf8_all (m.read ++ code ∷ []) ≡ encode_utf8_all m.read ++ encode_utf8 code =
      flat_map-append encode_utf8 m.read (code ∷ []) ∙ ap (λ l. encode_utf8_all m.read ++ l) (append-nil (encode_utf8 code)) in
      record {
        read = m.read ++ code ∷ [];
        ys = m.ys ++ zs;
        reads = IsRead-next text rest code later m.read begins m.reads;
        bytes = encoded_text made after m.ys piece zs m.bytes (sym (encodes-chars piece utf8)) is;
        utf8 = subst IsUtf8 (sym is) (IsUtf8-append made piece m.utf8 utf8);
        images = images_more v (is_compat form) m.read m.ys (code ∷ []) zs m.images images;
        own = λ t.
            let both = and_parts before more t in
            let one = apart both.1 in
            let same : zs ≡ nf zs = normal_form_is v.version sound.version form zs zs one.own in
            parts-at v.version sound.version form m.ys zs one.begins ∙ ap₂ (λ a b. a ++ b) (m.own both.0) (sym same);
        assigned = λ t.
            let both = and_parts before more t in
            list_all-append (is_assigned v.version) m.ys zs ∙ and_from _ _ (m.assigned both.0) (apart both.1).assigned;
        ends = λ b low none.
            let both = subst (HasNo b) split none in
            subst (HasNo b) (sym is)
            (All-append (not_byte b) made piece (m.ends b low (front_free b (encode_utf8_all m.read) (encode_utf8 code) both))
            (ends b low (back_free b (encode_utf8_all m.read) (encode_utf8 code) both)));
      }

  -- what stands in for a code point
  stands_in : (known : KnownImages) (apart : Bool) (code : ℕ) (piece : List ℕ) → AreSimple v form known.simple.now
      → AreOwn v (is_compat form) known.own.now
      → IsUtf8 (encode_utf8 code) → IsStandIn known apart code piece
      → IsUtf8 piece × AreImages v (is_compat form) (code ∷ []) (chars piece)
      × (apart ≡ true → IsApart v form piece) × AddsNoControl (encode_utf8 code) piece
  stands_in known apart code piece simple own utf8 s =
      elim s.is [
        | inl image ↦
            let stands = subst (λ l. StandsFor v form code l) (sym image.bytes) (simple code image.within image.known) in
            (stands.utf8, stands.images, λ t. stands.apart, stands.ends)
        | inr kept ↦
            let is = kept.1.bytes in
            let scalar : IsUtf8 piece = subst IsUtf8 (sym is) utf8 in
            let alone : chars piece ≡ code ∷ [] = sym (one_code code piece is scalar) in (
              scalar,
              subst (AreImages v (is_compat form) (code ∷ [])) (sym alone) (own code kept.1.marked),
              λ t. (let bad : false ≡ true = sym kept.0 ∙ t in absurd (cc)),
              λ b low none. subst (HasNo b) (sym is) none,
            )
      ]

  -- what stands in for the code points that follow in a text goes on with what was made of it
  pub simple_all : (known : KnownImages) (apart : Bool) (text rest later made more : List ℕ) (codes : List ℕ) → AreSimple v form known.simple.now
      → AreOwn v (is_compat form) known.own.now → AreStandIns known apart codes more → IsUtf8 rest → rest ≡ encode_utf8_all codes ++ later
      → IsMadeOfFront v form apart text rest made → IsMadeOfFront v form apart text later (made ++ more)
  simple_all known apart text rest later made more [] simple own none utf8 is m =
      subst (λ l. IsMadeOfFront v form apart text later l) (sym (ap (λ l. made ++ l) none ∙ append-nil made))
      (subst (λ l. IsMadeOfFront v form apart text l made) is m)
  simple_all known apart text rest later made more (code ∷ codes) simple own all utf8 is m =
      let piece = all.0 in
      let behind = encode_utf8_all codes ++ later in
      let begins : rest ≡ encode_utf8 code ++ behind = is ∙ append_assoc (encode_utf8 code) (encode_utf8_all codes) later in
      let of_behind : IsUtf8 behind = IsUtf8-past_char rest behind code utf8 begins in
      let of_code = IsUtf8-front rest (encode_utf8 code) behind begins utf8 of_behind in
      let stands = stands_in known apart code piece simple own of_code all.3 in
      let next = simple_next apart apart text rest behind made piece (made ++ piece) code m begins stands.0 stands.1 stands.2 stands.3 refl in
      let same = subst (λ (b : Bool). IsMadeOfFront v form b text behind (made ++ piece)) (and_same apart) next in
      subst (λ l. IsMadeOfFront v form apart text later l) (append_assoc made piece all.1 ∙ ap (λ l. made ++ l) (sym all.2))
      (simple_all known apart text behind later (made ++ piece) all.1 codes simple own all.4 of_behind refl same)

  -- the front of a text was made into its own form
  pub front_key : (apart : Bool) (text made : List ℕ) (n : ℕ) → IsUtf8 text → n ≤ length text → IsMadeOfFront v form apart text (drop n text) made
      → IsNormalForm v.version form (chars made) (chars made) → IsAssigned v.version (chars made) → IsSimpleKey v form (take n text) made
  front_key apart text made n utf8 within m normal assigned =
      let xs = encode_utf8_all m.read in
      let size : n ≡ length xs = omega (arith, within, ap length m.reads.bytes, length-append xs (drop n text), length-drop n text) in
      let front : take n text ≡ xs = ap (take n) m.reads.bytes ∙ take_at xs (drop n text) n (sym size) in
      let utf8_front : IsUtf8 (take n text) = subst IsUtf8 (sym front) (IsUtf8-front text xs (drop n text) m.reads.bytes utf8 m.reads.utf8) in
      let all : chars (take n text) ≡ m.read = sym (chars_from_encodes m.read (take n text) utf8_front (sym front)) in
      let codes : m.ys ≡ chars made = chars_from_encodes m.ys made m.utf8 (sym m.bytes) in
      let images = subst (AreImages v (is_compat form) m.read) codes m.images in
      record {
        utf8 = m.utf8;
        caseless =
            subst (λ xs. IsCaseless v form xs (chars made)) (sym all)
            (IsCaseless-images v sound.version form m.read (chars made) (chars made) images normal);
        assigned = subst (IsAssigned v.version) (sym all) (images_assigned v sound (is_compat form) m.read (chars made) images assigned);
        ends = λ b low free. m.ends b low (subst (HasNo b) front free);
      }

  -- what stands apart is its own form
  pub apart_key : (text made : List ℕ) (n : ℕ) → IsUtf8 text → n ≤ length text → IsMadeOfFront v form true text (drop n text) made
      → IsSimpleKey v form (take n text) made
  apart_key text made n utf8 within m =
      let codes : m.ys ≡ chars made = chars_from_encodes m.ys made m.utf8 (sym m.bytes) in
      let normal : IsNormalForm v.version form m.ys m.ys = IsNormalForm-value v.version sound.version form m.ys m.ys (sym (m.own refl)) in
      front_key true text made n utf8 within m (subst (λ ys. IsNormalForm v.version form ys ys) codes normal)
      (subst (IsAssigned v.version) codes (m.assigned refl))

-- what stands for a code point, as an image
pub stands_listed : (v : FoldedVersion) (form : Form) (code : ℕ) (own bytes : List ℕ) (image : SimpleImage) → own ≡ encode_utf8 code
    → bytes_of (length own) image ≡ bytes → StandsFor v form code bytes
    → StandsFor v form code (bytes_of (length (encode_utf8 code)) image)
stands_listed v form code own bytes image of_code is stands =
    subst (StandsFor v form code) (sym is ∙ ap (λ l. bytes_of (length l) image) of_code) stands

-- another image at the place of its code point, and no images at all
pub simple_put : (v : FoldedVersion) (form : Form) (list : List SimpleImage) (code : ℕ) (image : SimpleImage) → code < length list
    → AreSimple v form list → IsSimple v form code image → AreSimple v form (slice_set list code image)
simple_put v form list code image within done one c more =
    let none : SimpleImage = record { bytes = 0 } in
    elim (cases_eq c code) [
      | inl here ↦
          subst (λ k. IsSimple v form k (listed (slice_set list code image) k)) (sym here)
          (subst (λ i. IsSimple v form code i) (sym (get_or-set_same list code image none within)) one)
      | inr other ↦
          subst (λ i. IsSimple v form c i) (sym (get_or-set_other list code c image none other)) (done c (omega (arith, more, length-set list code image)))
    ]

pub simple_none : (v : FoldedVersion) (form : Form) (n : ℕ) (none : SimpleImage) → none.bytes ≡ 0 → AreSimple v form (replicate n none)
simple_none v form n none zero c within known =
    let is = get_or-replicate n c none (record { bytes = 0 }) (omega (arith, within, length-replicate n none)) in
    absurd (known (ap (λ (i : SimpleImage). i.bytes) is ∙ zero))
