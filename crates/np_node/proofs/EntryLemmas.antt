-- The map of strings as a list of entries.
use Rattle.std.proofs.Common.{◌≡◌, ℕ, zero, suc, ◌<◌, Bool, true, List, [], ◌∷◌, ◌++◌, length, Option, Some, None, String, string_bytes, slice_get, IsSome, Contains, refl, sym, ap, ◌∙◌, inl, inr, arith}
use Rattle.std.proofs.lemmas.Bool.{cond-true, cond-false, cases_Bool}
use Rattle.std.proofs.lemmas.Slice.Eq.{bytes_eq-Decides}
use Rattle.std.specs.Map.{lookup, lookup_key}
use Rattle.std.specs.Option.{option_map}
use Rattle.std.specs.Str.{bytes_eq}
use Rattle.std.specs.String.{string_eq}
use Rattle.indexmap.specs.IndexMap.{insert_entry}
use Rattle.np_node.specs.Nodes.{IsKept}
use Rattle.np_node.specs.Strings.{Entry}
use Rattle.np_node.specs.inside.Shown.{entry_of, key_beside, shown}

same_text : (xs ys : List ℕ) → bytes_eq xs ys ≡ true → xs ≡ ys
same_text xs ys h = (bytes_eq-Decides xs ys).0 h

test_text : (xs ys : List ℕ) → xs ≡ ys → bytes_eq xs ys ≡ true
test_text xs ys h = (bytes_eq-Decides xs ys).1 h

kept-later : (e : Entry) (es : List Entry) (s : List ℕ) → IsKept es s → IsKept (e ∷ es) s
kept-later e es s (k, lt, is) = (suc k, omega (arith, lt), is)

has-later : (e d : Entry) (es : List Entry) → Contains es d → Contains (e ∷ es) d
has-later e d es (k, lt, is) = (suc k, omega (arith, lt), is)

module _ {A : Type 0} (bs : List ℕ) where
  abbrev test : String A → Bool
  test k = bytes_eq bs (string_bytes k)

  -- what is found stands for those bytes
  pub lookup_key-some : (es : List (String A × Option (String A))) (kept : String A) → lookup_key test es ≡ Some kept → string_bytes kept ≡ bs
  lookup_key-some [] kept h = cc
  lookup_key-some (e ∷ es) kept h =
      elim (cases_Bool (test e.0)) [
        | inl yes_ ↦
            let found : Some e.0 ≡ Some kept = sym (cond-true _ _ _ yes_) ∙ h in
            let same : e.0 ≡ kept = cc in
            ap string_bytes (sym same) ∙ sym (same_text bs (string_bytes e.0) yes_)
        | inr other ↦ lookup_key-some es kept (sym (cond-false _ _ _ other) ∙ h)
      ]

  pub lookup-some : (es : List (String A × Option (String A))) (other : Option (String A)) → lookup test es ≡ Some other → Contains (shown es) (record { string = bs; key = key_beside bs other })
  lookup-some [] other h = cc
  lookup-some (e ∷ es) other h =
      elim (cases_Bool (test e.0)) [
        | inl yes_ ↦
            let found : Some e.1 ≡ Some other = sym (cond-true _ _ _ yes_) ∙ h in
            let value : e.1 ≡ other = cc in
            let named : string_bytes e.0 ≡ bs = sym (same_text bs (string_bytes e.0) yes_) in
            (0, omega arith, λ i. record { string = named i; key = key_beside (named i) (value i) })
        | inr other_one ↦ has-later (entry_of e) _ (shown es) (lookup-some es other (sym (cond-false _ _ _ other_one) ∙ h))
      ]

  pub lookup-none : (es : List (String A × Option (String A))) → lookup test es ≡ None → ¬ IsKept (shown es) bs
  lookup-none [] h (k, lt, is) = omega (arith, lt)
  lookup-none (e ∷ es) h (zero, lt, is) =
      let yes_ = test_text bs (string_bytes e.0) (sym is) in
      let found : Some e.1 ≡ None = sym (cond-true _ _ _ yes_) ∙ h in
      cc
  lookup-none (e ∷ es) h (suc k, lt, is) =
      elim (cases_Bool (test e.0)) [
        | inl yes_ ↦ let found : Some e.1 ≡ None = sym (cond-true _ _ _ yes_) ∙ h in cc
        | inr other ↦ lookup-none es (sym (cond-false _ _ _ other) ∙ h) (k, omega (arith, lt), is)
      ]

-- a new string goes last
pub shown-insert : {A : Type 0} (es : List (String A × Option (String A))) (s : String A) (k : Option (String A)) → ¬ IsKept (shown es) (string_bytes s)
    → shown (insert_entry string_eq es s k) ≡ shown es ++ (record { string = string_bytes s; key = key_beside (string_bytes s) k }) ∷ []
shown-insert [] s k absent = refl
shown-insert (e ∷ es) s k absent =
    elim (cases_Bool (string_eq s e.0)) [
      | inl yes_ ↦
          let named = same_text (string_bytes s) (string_bytes e.0) yes_ in
          absurd (absent (0, omega arith, sym named))
      | inr other ↦
          ap shown (cond-false _ _ _ other) ∙ ap (λ l. entry_of e ∷ l) (shown-insert es s k (λ kept. absent (kept-later (entry_of e) (shown es) (string_bytes s) kept)))
    ]

-- where there is an entry it is given
pub some-at : {A : Type 0} (f : A → Entry) (o : Option A) (es : List Entry) (i : ℕ) → option_map f o ≡ slice_get es i → i < length es → IsSome o
some-at f (Some x) es i e lt = refl
some-at f None [] i e lt = absurd (omega (arith, lt))
some-at f None (x ∷ xs) zero e lt = cc
some-at f None (x ∷ xs) (suc i) e lt = some-at f None xs i e (omega (arith, lt))
