-- Entries whose key a marker tells, read.
use Rattle.std.proofs.Common.{◌≡◌, ◌≢◌, ℕ, ◌+◌, ◌<◌, ◌^◌, inl, inr, List, [], ◌∷◌, ◌++◌, length, refl, sym, ap, ◌∙◌, arith}
use Rattle.np_node.proofs.MarkedLemmas.{key-same, key-other}
use Rattle.np_node.proofs.ReadingLemmas.{passes-more, passes-same}
use Rattle.np_node.specs.Fields.{field_bytes, key_bytes, marked_bytes, IsFieldFault, IsMarkedFault}
use Rattle.np_node.specs.Strings.{Entry}
use Rattle.np_node.specs.declared.fields.Fields.{Fields}
use Rattle.np_node.specs.inside.Reading.{left_of, Passes}

-- a string, and what tells its key
passes-marked : (a b c : Fields) (e : Entry) (xs : List ℕ) → Passes a b (field_bytes e.string) → Passes b c xs → key_bytes e ≡ xs → Passes a c (marked_bytes e)
unfolding marked_bytes
passes-marked a b c e xs p q is = passes-more a b c (field_bytes e.string) (key_bytes e) p (passes-same b c xs (key_bytes e) (sym is) q)

pub passes-same-key : (a b c : Fields) (string : List ℕ) → Passes a b (field_bytes string) → Passes b c (0 ∷ []) → Passes a c (marked_bytes (record { string = string; key = string }))
passes-same-key a b c string p q =
    let e : Entry = record { string = string; key = string } in passes-marked a b c e (0 ∷ []) p q (key-same e refl)

pub passes-other-key : (a b c d : Fields) (string key : List ℕ) → Passes a b (field_bytes string) → Passes b c (1 ∷ []) → Passes c d (field_bytes key) → key ≢ string
    → Passes a d (marked_bytes (record { string = string; key = key }))
passes-other-key a b c d string key p q r other =
    let e : Entry = record { string = string; key = key } in passes-marked a b d e (1 ∷ field_bytes key) p (passes-more b c d (1 ∷ []) (field_bytes key) q r) (key-other e other)

-- no whole entry is in front of what is left
abbrev LacksMarked : Fields → ℕ → Type 0
LacksMarked a at = (x : ℕ) × IsMarkedFault (left_of a) x × (at ≡ a.at + x)

module _ (a b : Fields) (string : List ℕ) (p : Passes a b (field_bytes string)) (fits : length string < 2 ^ 32) where
  -- neither marker follows the string
  pub marker-lacks : (at : ℕ) → ((more : List ℕ) → (left_of b ≢ 0 ∷ more) × (left_of b ≢ 1 ∷ more)) → at ≡ b.at → LacksMarked a at
  marker-lacks at lacks place = (
    length (field_bytes string),
    inr (inl (record { string = string; rest = left_of b; fits = fits; split = p.split; lacks = lacks; place = refl })),
    place ∙ p.place,
  )

  module _ (c : Fields) (q : Passes b c (1 ∷ [])) where
    behind-marker : left_of a ≡ field_bytes string ++ 1 ∷ left_of c
    behind-marker = p.split ∙ ap (λ l. field_bytes string ++ l) q.split

    -- the key isn't whole
    pub other-lacks : (inner at : ℕ) → IsFieldFault (left_of c) inner → at ≡ c.at + inner → LacksMarked a at
    other-lacks inner at fault place = (
      length (field_bytes string) + 1 + inner,
      inr (inr (inl (record { string = string; rest = left_of c; inner = inner; fits = fits; split = behind-marker; fault = fault; place = refl }))),
      omega (arith, place, q.place, p.place),
    )

    -- the key is the string once more
    pub string-repeats : (d : Fields) (key : List ℕ) (at : ℕ) → Passes c d (field_bytes key) → key ≡ string → at ≡ b.at → LacksMarked a at
    string-repeats d key at r same place = (
      length (field_bytes string),
      inr (inr (inr (record {
        string = string;
        rest = left_of d;
        fits = fits;
        split = behind-marker ∙ ap (λ l. field_bytes string ++ 1 ∷ l) (r.split ∙ ap (λ l. field_bytes l ++ left_of d) same);
        place = refl;
      }))),
      place ∙ p.place,
    )
