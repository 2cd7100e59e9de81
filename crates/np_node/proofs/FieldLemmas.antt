-- Fields are read in one way, and where bytes stop being fields is one place.
use Rattle.std.proofs.Common.{◌≡◌, ℕ, ◌+◌, ◌<◌, ◌^◌, inl, inr, List, ◌++◌, length, Option, Some, None, unwrap_or, is_some, true≢false, refl, sym, ap, ◌∙◌, subst, arith, length-append, append_assoc, w32}
use Rattle.std.specs.Int.{from_be_bytes}
use Rattle.std.proofs.lemmas.Nat.{from_be_bytes-to_be_bytes_4}
use Rattle.np_node.proofs.ListLemmas.{same_front, same_back}
use Rattle.np_node.specs.Fields.{number_bytes, field_bytes, entry_bytes, FitsFields, IsFieldFault, IsEntryFault}
use Rattle.np_node.specs.Laws.{HasOneFault}
use Rattle.np_node.specs.Strings.{Entry}

pub length-number_bytes : (n : ℕ) → length (number_bytes n) ≡ 4
unfolding number_bytes
length-number_bytes n = refl

pub length-field_bytes : (xs : List ℕ) → length (field_bytes xs) ≡ 4 + length xs
unfolding field_bytes
length-field_bytes xs = length-append (number_bytes (length xs)) xs ∙ ap (λ (n : ℕ). n + length xs) (length-number_bytes (length xs))

same_number : (m n : ℕ) → m < 2 ^ 32 → n < 2 ^ 32 → number_bytes m ≡ number_bytes n → m ≡ n
unfolding number_bytes
same_number m n p q e = sym (from_be_bytes-to_be_bytes_4 m p) ∙ ap (from_be_bytes w32) e ∙ from_be_bytes-to_be_bytes_4 n q

-- ---- numbers

pub one_number : (m n : ℕ) (xs ys : List ℕ) → m < 2 ^ 32 → n < 2 ^ 32 → number_bytes m ++ xs ≡ number_bytes n ++ ys → (m ≡ n) × (xs ≡ ys)
one_number m n xs ys p q e =
    let lengths = length-number_bytes m ∙ sym (length-number_bytes n) in
    (same_number m n p q (same_front _ _ xs ys e lengths), same_back _ _ xs ys e lengths)

-- ---- fields

pub field-cut : (xs us : List ℕ) → field_bytes xs ++ us ≡ number_bytes (length xs) ++ (xs ++ us)
unfolding field_bytes
field-cut xs us = append_assoc (number_bytes (length xs)) xs us

pub one_field : (xs ys us bs : List ℕ) → length xs < 2 ^ 32 → length ys < 2 ^ 32 → field_bytes xs ++ us ≡ field_bytes ys ++ bs → (xs ≡ ys) × (us ≡ bs)
one_field xs ys us bs p q e =
    let cut = one_number (length xs) (length ys) (xs ++ us) (ys ++ bs) p q (sym (field-cut xs us) ∙ e ∙ field-cut ys bs) in
    (same_front xs ys us bs cut.1 cut.0, same_back xs ys us bs cut.1 cut.0)

-- a whole field has no fault
pub whole_field : (xs us bytes : List ℕ) (at : ℕ) → length xs < 2 ^ 32 → bytes ≡ field_bytes xs ++ us → IsFieldFault bytes at → ⊥
whole_field xs us bytes at p e (inl short) =
    absurd (omega (arith, short.short, ap length e, length-append (field_bytes xs) us, length-field_bytes xs))
whole_field xs us bytes at p e (inr short) =
    let cut = one_number (length xs) short.count (xs ++ us) short.rest p short.fits (sym (field-cut xs us) ∙ sym e ∙ short.split) in
    absurd (omega (arith, short.short, cut.0, ap length cut.1, length-append xs us))

short-number : (bytes rest : List ℕ) (n : ℕ) → length bytes < 4 → bytes ≡ number_bytes n ++ rest → ⊥
short-number bytes rest n short e = omega (arith, ap length e, length-append (number_bytes n) rest, length-number_bytes n)

-- the fault of a field has one place
pub one_field_fault : (bytes : List ℕ) (at other : ℕ) → IsFieldFault bytes at → IsFieldFault bytes other → other ≡ at
one_field_fault bytes at other (inl a) (inl b) = b.place ∙ sym a.place
one_field_fault bytes at other (inl a) (inr b) = absurd (short-number bytes b.rest b.count a.short b.split)
one_field_fault bytes at other (inr a) (inl b) = absurd (short-number bytes a.rest a.count b.short a.split)
one_field_fault bytes at other (inr a) (inr b) = b.place ∙ sym a.place

-- ---- entries

pub entry-cut : (e : Entry) (us : List ℕ) → entry_bytes e ++ us ≡ field_bytes e.string ++ (field_bytes e.key ++ us)
unfolding entry_bytes
entry-cut e us = append_assoc (field_bytes e.string) (field_bytes e.key) us

pub one_entry : (d e : Entry) (us bs : List ℕ) → FitsFields d → FitsFields e → entry_bytes d ++ us ≡ entry_bytes e ++ bs → (d ≡ e) × (us ≡ bs)
one_entry d e us bs p q same =
    let first = one_field d.string e.string (field_bytes d.key ++ us) (field_bytes e.key ++ bs) p.string q.string (sym (entry-cut d us) ∙ same ∙ entry-cut e bs) in
    let second = one_field d.key e.key us bs p.key q.key first.1 in
    ((λ i. record { string = first.0 i; key = second.0 i }), second.1)

-- a whole entry has no fault
pub whole_entry : (e : Entry) (us bytes : List ℕ) (at : ℕ) → FitsFields e → bytes ≡ entry_bytes e ++ us → IsEntryFault bytes at → ⊥
whole_entry e us bytes at p same (inl fault) = whole_field e.string (field_bytes e.key ++ us) bytes at p.string (same ∙ entry-cut e us) fault
whole_entry e us bytes at p same (inr lacks) =
    let first = one_field e.string lacks.string (field_bytes e.key ++ us) lacks.rest p.string lacks.fits (sym (entry-cut e us) ∙ sym same ∙ lacks.split) in
    whole_field e.key us lacks.rest lacks.inner p.key (sym first.1) lacks.fault

-- the fault of an entry has one place
pub one_entry_fault : (bytes : List ℕ) (at other : ℕ) → IsEntryFault bytes at → IsEntryFault bytes other → other ≡ at
one_entry_fault bytes at other (inl a) (inl b) = one_field_fault bytes at other a b
one_entry_fault bytes at other (inl a) (inr b) = absurd (whole_field b.string b.rest bytes at b.fits b.split a)
one_entry_fault bytes at other (inr a) (inl b) = absurd (whole_field a.string a.rest bytes other a.fits a.split b)
one_entry_fault bytes at other (inr a) (inr b) =
    let first = one_field a.string b.string a.rest b.rest a.fits b.fits (sym a.split ∙ b.split) in
    let inner = one_field_fault a.rest a.inner b.inner a.fault (subst (λ (l : List ℕ). IsFieldFault l b.inner) (sym first.1) b.fault) in
    omega (arith, a.place, b.place, inner, ap (λ (l : List ℕ). length (field_bytes l)) first.0)

-- ---- faults

some-none : (at : ℕ) → Some at ≡ None → ⊥
some-none at e = true≢false (ap is_some e)

-- bytes that are read up to one place have one fault at most, and none where they spell something
pub one_fault : {A : Type 0} (Spells : List ℕ → A → Type 0) (IsFault : List ℕ → ℕ → Type 0) (Stops : List ℕ → Option ℕ → Type 0) → ((bytes : List ℕ) (o p : Option ℕ) → Stops bytes o → Stops bytes p → p ≡ o)
    → ((bytes : List ℕ) (a : A) → Spells bytes a → Stops bytes None) → ((bytes : List ℕ) (at : ℕ) → IsFault bytes at → Stops bytes (Some at)) → HasOneFault Spells IsFault
one_fault Spells IsFault Stops one spelled fault_at = λ bytes at fault. (
  λ a is. some-none at (one bytes None (Some at) (spelled bytes a is) (fault_at bytes at fault)),
  λ other another. ap (λ o. unwrap_or o at) (one bytes (Some at) (Some other) (fault_at bytes at fault) (fault_at bytes other another)),
)
