-- Entries whose key a marker tells are read in one way, and where bytes stop being one is one place.
use Rattle.std.proofs.Common.{◌≡◌, ◌≢◌, ℕ, ◌⊎◌, inl, inr, List, [], ◌∷◌, ◌++◌, length, get_or, sym, ap, ◌∙◌, subst, arith, append_assoc, true≢false}
use Rattle.std.proofs.lemmas.Bool.{cond-true, cond-false, cases_Bool}
use Rattle.std.proofs.lemmas.Slice.Eq.{bytes_eq-Decides}
use Rattle.std.specs.Str.{bytes_eq}
use Rattle.np_node.proofs.FieldLemmas.{one_field, one_field_fault, whole_field}
use Rattle.np_node.specs.Fields.{field_bytes, key_bytes, marked_bytes, FitsFields, IsFieldFault, LacksMarker, LacksOtherKey, RepeatsString, IsMarkedFault}
use Rattle.np_node.specs.Strings.{Entry}

-- the two ways to tell a key
record IsString (e : Entry) : Type 0 where
  same : e.key ≡ e.string
  bytes : key_bytes e ≡ 0 ∷ []

record IsOther (e : Entry) : Type 0 where
  other : e.key ≢ e.string
  bytes : key_bytes e ≡ 1 ∷ field_bytes e.key

ways : (e : Entry) → IsString e ⊎ IsOther e
unfolding key_bytes
ways e =
    elim (cases_Bool (bytes_eq e.key e.string)) [
      | inl yes_ ↦ inl (record { same = (bytes_eq-Decides e.key e.string).0 yes_; bytes = cond-true _ _ _ yes_ })
      | inr off ↦ inr (record { other = λ same. true≢false (sym ((bytes_eq-Decides e.key e.string).1 same) ∙ off); bytes = cond-false _ _ _ off })
    ]

pub key-same : (e : Entry) → e.key ≡ e.string → key_bytes e ≡ 0 ∷ []
key-same e same = elim (ways e) [ inl a ↦ a.bytes | inr a ↦ absurd (a.other same) ]

pub key-other : (e : Entry) → e.key ≢ e.string → key_bytes e ≡ 1 ∷ field_bytes e.key
key-other e other = elim (ways e) [ inl a ↦ absurd (other a.same) | inr a ↦ a.bytes ]

-- a key is its string, or it isn't
pub key-ways : (e : Entry) → (e.key ≡ e.string) ⊎ (e.key ≢ e.string)
key-ways e = elim (ways e) [ inl a ↦ inl a.same | inr a ↦ inr a.other ]

pub marked-cut : (e : Entry) (us : List ℕ) → marked_bytes e ++ us ≡ field_bytes e.string ++ (key_bytes e ++ us)
unfolding marked_bytes
marked-cut e us = append_assoc (field_bytes e.string) (key_bytes e) us

no_marker : (us bs : List ℕ) → 0 ∷ us ≡ 1 ∷ bs → ⊥
no_marker us bs e = omega (arith, ap (λ l. get_or l 0 7) e)

tail_is : (a : ℕ) (us bs : List ℕ) → a ∷ us ≡ a ∷ bs → us ≡ bs
tail_is a us bs e = cc

-- what follows the string
told_string : (e : Entry) (us : List ℕ) → IsString e → key_bytes e ++ us ≡ 0 ∷ us
told_string e us is = ap (λ l. l ++ us) is.bytes

told_other : (e : Entry) (us : List ℕ) → IsOther e → key_bytes e ++ us ≡ 1 ∷ (field_bytes e.key ++ us)
told_other e us is = ap (λ l. l ++ us) is.bytes

one_key_told : (d e : Entry) (us bs : List ℕ) → FitsFields d → FitsFields e → d.string ≡ e.string → key_bytes d ++ us ≡ key_bytes e ++ bs → (d.key ≡ e.key) × (us ≡ bs)
one_key_told d e us bs p q strings same =
    elim (ways d) [
      | inl a ↦
          elim (ways e) [
            | inl b ↦ (a.same ∙ strings ∙ sym b.same, tail_is 0 us bs (sym (told_string d us a) ∙ same ∙ told_string e bs b))
            | inr b ↦ absurd (no_marker us (field_bytes e.key ++ bs) (sym (told_string d us a) ∙ same ∙ told_other e bs b))
          ]
      | inr a ↦
          elim (ways e) [
            | inl b ↦ absurd (no_marker bs (field_bytes d.key ++ us) (sym (told_string e bs b) ∙ sym same ∙ told_other d us a))
            | inr b ↦ one_field d.key e.key us bs p.key q.key (tail_is 1 _ _ (sym (told_other d us a) ∙ same ∙ told_other e bs b))
          ]
    ]

pub one_marked : (d e : Entry) (us bs : List ℕ) → FitsFields d → FitsFields e → marked_bytes d ++ us ≡ marked_bytes e ++ bs → (d ≡ e) × (us ≡ bs)
one_marked d e us bs p q same =
    let first = one_field d.string e.string (key_bytes d ++ us) (key_bytes e ++ bs) p.string q.string (sym (marked-cut d us) ∙ same ∙ marked-cut e bs) in
    let second = one_key_told d e us bs p q first.0 first.1 in
    ((λ i. record { string = first.0 i; key = second.0 i }), second.1)

-- a whole entry has no fault
pub whole_marked : (e : Entry) (us bytes : List ℕ) (at : ℕ) → FitsFields e → bytes ≡ marked_bytes e ++ us → IsMarkedFault bytes at → ⊥
whole_marked e us bytes at p same (inl fault) = whole_field e.string (key_bytes e ++ us) bytes at p.string (same ∙ marked-cut e us) fault
whole_marked e us bytes at p same (inr (inl lacks)) =
    let first = one_field e.string lacks.string (key_bytes e ++ us) lacks.rest p.string lacks.fits (sym (marked-cut e us) ∙ sym same ∙ lacks.split) in
    elim (ways e) [
      | inl a ↦ (lacks.lacks us).0 (sym first.1 ∙ told_string e us a)
      | inr a ↦ (lacks.lacks (field_bytes e.key ++ us)).1 (sym first.1 ∙ told_other e us a)
    ]
whole_marked e us bytes at p same (inr (inr (inl lacks))) =
    let first = one_field e.string lacks.string (key_bytes e ++ us) (1 ∷ lacks.rest) p.string lacks.fits (sym (marked-cut e us) ∙ sym same ∙ lacks.split) in
    elim (ways e) [
      | inl a ↦ no_marker us lacks.rest (sym (told_string e us a) ∙ first.1)
      | inr a ↦ whole_field e.key us lacks.rest lacks.inner p.key (sym (tail_is 1 _ _ (sym (told_other e us a) ∙ first.1))) lacks.fault
    ]
whole_marked e us bytes at p same (inr (inr (inr twice))) =
    let first = one_field e.string twice.string (key_bytes e ++ us) (1 ∷ (field_bytes twice.string ++ twice.rest)) p.string twice.fits (sym (marked-cut e us) ∙ sym same ∙ twice.split) in
    elim (ways e) [
      | inl a ↦ no_marker us (field_bytes twice.string ++ twice.rest) (sym (told_string e us a) ∙ first.1)
      | inr a ↦
          let key = one_field e.key twice.string us twice.rest p.key twice.fits (tail_is 1 _ _ (sym (told_other e us a) ∙ first.1)) in
          a.other (key.0 ∙ sym first.0)
    ]

-- ---- the fault of an entry has one place

same_size : (xs ys : List ℕ) → xs ≡ ys → length (field_bytes xs) ≡ length (field_bytes ys)
same_size xs ys e = ap (λ l. length (field_bytes l)) e

-- behind the string
abbrev IsBehind : List ℕ → ℕ → Type 0
IsBehind bytes at = LacksMarker bytes at ⊎ (LacksOtherKey bytes at ⊎ RepeatsString bytes at)

no_field_fault : (bytes : List ℕ) (at other : ℕ) → IsFieldFault bytes at → IsBehind bytes other → ⊥
no_field_fault bytes at other fault (inl b) = whole_field b.string b.rest bytes at b.fits b.split fault
no_field_fault bytes at other fault (inr (inl b)) = whole_field b.string (1 ∷ b.rest) bytes at b.fits b.split fault
no_field_fault bytes at other fault (inr (inr b)) = whole_field b.string (1 ∷ (field_bytes b.string ++ b.rest)) bytes at b.fits b.split fault

one_behind : (bytes : List ℕ) (at other : ℕ) → IsBehind bytes at → IsBehind bytes other → other ≡ at
one_behind bytes at other (inl a) (inl b) =
    let first = one_field a.string b.string a.rest b.rest a.fits b.fits (sym a.split ∙ b.split) in
    b.place ∙ sym (same_size _ _ first.0) ∙ sym a.place
one_behind bytes at other (inl a) (inr (inl b)) =
    let first = one_field a.string b.string a.rest (1 ∷ b.rest) a.fits b.fits (sym a.split ∙ b.split) in absurd ((a.lacks b.rest).1 first.1)
one_behind bytes at other (inl a) (inr (inr b)) =
    let first = one_field a.string b.string a.rest (1 ∷ (field_bytes b.string ++ b.rest)) a.fits b.fits (sym a.split ∙ b.split) in
    absurd ((a.lacks (field_bytes b.string ++ b.rest)).1 first.1)
one_behind bytes at other (inr (inl a)) (inl b) =
    let first = one_field b.string a.string b.rest (1 ∷ a.rest) b.fits a.fits (sym b.split ∙ a.split) in absurd ((b.lacks a.rest).1 first.1)
one_behind bytes at other (inr (inr a)) (inl b) =
    let first = one_field b.string a.string b.rest (1 ∷ (field_bytes a.string ++ a.rest)) b.fits a.fits (sym b.split ∙ a.split) in
    absurd ((b.lacks (field_bytes a.string ++ a.rest)).1 first.1)
one_behind bytes at other (inr (inl a)) (inr (inl b)) =
    let first = one_field a.string b.string (1 ∷ a.rest) (1 ∷ b.rest) a.fits b.fits (sym a.split ∙ b.split) in
    let rests = tail_is 1 a.rest b.rest first.1 in
    let inner = one_field_fault a.rest a.inner b.inner a.fault (subst (λ (l : List ℕ). IsFieldFault l b.inner) (sym rests) b.fault) in
    omega (arith, a.place, b.place, inner, same_size _ _ first.0)
one_behind bytes at other (inr (inl a)) (inr (inr b)) =
    let first = one_field a.string b.string (1 ∷ a.rest) (1 ∷ (field_bytes b.string ++ b.rest)) a.fits b.fits (sym a.split ∙ b.split) in
    absurd (whole_field b.string b.rest a.rest a.inner b.fits (tail_is 1 _ _ first.1) a.fault)
one_behind bytes at other (inr (inr a)) (inr (inl b)) =
    let first = one_field b.string a.string (1 ∷ b.rest) (1 ∷ (field_bytes a.string ++ a.rest)) b.fits a.fits (sym b.split ∙ a.split) in
    absurd (whole_field a.string a.rest b.rest b.inner a.fits (tail_is 1 _ _ first.1) b.fault)
one_behind bytes at other (inr (inr a)) (inr (inr b)) =
    let first = one_field a.string b.string (1 ∷ (field_bytes a.string ++ a.rest)) (1 ∷ (field_bytes b.string ++ b.rest)) a.fits b.fits (sym a.split ∙ b.split) in
    b.place ∙ sym (same_size _ _ first.0) ∙ sym a.place

pub one_marked_fault : (bytes : List ℕ) (at other : ℕ) → IsMarkedFault bytes at → IsMarkedFault bytes other → other ≡ at
one_marked_fault bytes at other (inl a) (inl b) = one_field_fault bytes at other a b
one_marked_fault bytes at other (inl a) (inr b) = absurd (no_field_fault bytes at other a b)
one_marked_fault bytes at other (inr a) (inl b) = absurd (no_field_fault bytes other at b a)
one_marked_fault bytes at other (inr a) (inr b) = one_behind bytes at other a b
