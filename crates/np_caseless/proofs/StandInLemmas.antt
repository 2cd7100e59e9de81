-- What stands in for code points, one behind the other.
use Rattle.std.proofs.Common.{◌≡◌, ℕ, Bool, true, false, List, [], ◌∷◌, ◌++◌, append_assoc, encode_utf8, encode_utf8_all, length, length-append, refl, sym, ap, ◌∙◌, inl, inr, arith}
use Rattle.std.proofs.lemmas.List.{append-nil}
use Rattle.np_caseless.specs.inside.SimpleTexts.{AreStandIns, IsStandIn}
use Rattle.np_caseless.specs.declared.simple_texts.KnownImages.{KnownImages}

module _ (known : KnownImages) where
  -- what stands apart may be told not to
  pub looser_one : (apart less : Bool) (code : ℕ) (piece : List ℕ) → (less ≡ true → apart ≡ true) → IsStandIn known apart code piece
      → IsStandIn known less code piece
  looser_one apart true code piece from s = record {
    size = s.size;
    is = elim s.is [ inl image ↦ inl image | inr kept ↦ let bad : true ≡ false = sym (from refl) ∙ kept.0 in absurd (cc) ];
  }
  looser_one apart false code piece from s = record {
    size = s.size;
    is = elim s.is [ inl image ↦ inl image | inr kept ↦ inr (refl, kept.1) ];
  }

  pub looser : (apart less : Bool) (codes made : List ℕ) → (less ≡ true → apart ≡ true) → AreStandIns known apart codes made
      → AreStandIns known less codes made
  looser apart less [] made from none = none
  looser apart less (code ∷ codes) made from all =
      (all.0, all.1, all.2, looser_one apart less code all.0 from all.3, looser apart less codes all.1 from all.4)

  -- one more
  pub stand_more : (apart : Bool) (codes made piece : List ℕ) (code : ℕ) → AreStandIns known apart codes made → IsStandIn known apart code piece
      → AreStandIns known apart (codes ++ code ∷ []) (made ++ piece)
  stand_more apart [] made piece code none one = (piece, [], ap (λ l. l ++ piece) none ∙ sym (append-nil piece), one, refl)
  stand_more apart (first ∷ codes) made piece code all one = (
    all.0,
    all.1 ++ piece,
    ap (λ l. l ++ piece) all.2 ∙ append_assoc all.0 all.1 piece,
    all.3,
    stand_more apart codes all.1 piece code all.4 one,
  )

  -- they have as many bytes
  pub stand_size : (apart : Bool) (codes made : List ℕ) → AreStandIns known apart codes made → length made ≡ length (encode_utf8_all codes)
  stand_size apart [] made none = ap length none
  stand_size apart (code ∷ codes) made all =
      omega (
        arith,
        ap length all.2,
        length-append all.0 all.1,
        all.3.size,
        stand_size apart codes all.1 all.4,
        length-append (encode_utf8 code) (encode_utf8_all codes),
      )

  -- those of some code points, and of others behind them
  abbrev pub BothStandIn : Bool → List ℕ → List ℕ → List ℕ → Type 0
  BothStandIn apart front back made =
      (one : List ℕ) × (two : List ℕ) × (made ≡ one ++ two) × AreStandIns known apart front one × AreStandIns known apart back two

  pub stand_split : (apart : Bool) (front back made : List ℕ) → AreStandIns known apart (front ++ back) made → BothStandIn apart front back made
  stand_split apart [] back made all = ([], made, refl, refl, all)
  stand_split apart (code ∷ front) back made all =
      let later = stand_split apart front back all.1 all.4 in (
        all.0 ++ later.0,
        later.1,
        all.2 ∙ ap (λ l. all.0 ++ l) later.2 ∙ sym (append_assoc all.0 later.0 later.1),
        (all.0, later.0, refl, all.3, later.3),
        later.4,
      )
