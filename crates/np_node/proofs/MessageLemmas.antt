-- Bytes are one message or have one fault place.
use Rattle.std.proofs.Common.{◌≡◌, ℕ, ◌+◌, ◌<◌, ◌⊎◌, inl, inr, List, [], ◌∷◌, ◌++◌, length, Option, Some, None, unwrap_or, refl, sym, ap, subst, ◌∙◌, arith, append-nil, ◌==◌, if◌then◌else◌}
use Rattle.np_code_points.specs.Forms.{byte_of}
use Rattle.np_code_points.specs.declared.forms.Form.{Form}
use Rattle.np_code_points.specs.declared.forms.Form.TheVariants.{Nfd, Nfc, Nfkd, Nfkc}
use Rattle.np_node.proofs.FieldLemmas.{one_entry, whole_entry, one_entry_fault, one_fault}
use Rattle.np_node.specs.Fields.{entry_bytes, FitsFields, IsEntryFault, LacksForm}
use Rattle.np_node.specs.Laws.{HasOneFault, SpellsOne}
use Rattle.np_node.specs.Messages.{Message, message_bytes, IsMessage, IsMessageFault}
use Rattle.np_node.specs.Strings.{Entry}

-- the form of a letter
abbrev form_at : ℕ → Option Form
form_at b = if b == 68 then Some Nfd else (if b == 67 then Some Nfc else (if b == 100 then Some Nfkd else Some Nfkc))

form-back : (f : Form) → form_at (byte_of f) ≡ Some f
form-back Nfd = refl
form-back Nfc = refl
form-back Nfkd = refl
form-back Nfkc = refl

same_byte : (f g : Form) → byte_of f ≡ byte_of g → f ≡ g
same_byte f g e = ap (λ o. unwrap_or o f) (sym (form-back f) ∙ ap form_at e ∙ form-back g)

head_or : List ℕ → ℕ
head_or [] = 0
head_or (x ∷ xs) = x

tail_of : List ℕ → List ℕ
tail_of [] = []
tail_of (x ∷ xs) = xs

same_head : (x y : ℕ) (xs ys : List ℕ) → x ∷ xs ≡ y ∷ ys → x ≡ y
unfolding head_or
same_head x y xs ys e = ap head_or e

same_tail : (x y : ℕ) (xs ys : List ℕ) → x ∷ xs ≡ y ∷ ys → xs ≡ ys
unfolding tail_of
same_tail x y xs ys e = ap tail_of e

-- a form's byte, and what follows it
pub one_form_byte : (f g : Form) (us ws : List ℕ) → byte_of f ∷ us ≡ byte_of g ∷ ws → (f ≡ g) × (us ≡ ws)
one_form_byte f g us ws e = (same_byte f g (same_head (byte_of f) (byte_of g) us ws e), same_tail (byte_of f) (byte_of g) us ws e)

pub message-cut : (m : Message) (us : List ℕ) → message_bytes m ++ us ≡ byte_of m.form ∷ (entry_bytes m.entry ++ us)
unfolding message_bytes
message-cut m us = refl

pub length-message_bytes : (m : Message) → length (message_bytes m) ≡ 1 + length (entry_bytes m.entry)
unfolding message_bytes
length-message_bytes m = omega arith

pub message-whole : (m : Message) → message_bytes m ≡ byte_of m.form ∷ (entry_bytes m.entry ++ [])
message-whole m = sym (append-nil (message_bytes m)) ∙ message-cut m []

cut_message : (m n : Message) (us ws : List ℕ) → FitsFields m.entry → FitsFields n.entry → message_bytes m ++ us ≡ message_bytes n ++ ws → (m ≡ n) × (us ≡ ws)
cut_message m n us ws p q e =
    let cut = one_form_byte m.form n.form (entry_bytes m.entry ++ us) (entry_bytes n.entry ++ ws) (sym (message-cut m us) ∙ e ∙ message-cut n ws) in
    let rest = one_entry m.entry n.entry us ws p q cut.1 in
    ((λ i. record { form = cut.0 i; entry = rest.0 i }), rest.1)

pub one_message : SpellsOne IsMessage
one_message bytes more m n p q =
    cut_message m n more [] p.fits q.fits (sym (ap (λ l. l ++ more) p.spelling) ∙ q.spelling ∙ sym (append-nil (message_bytes n)))

-- ---- what bytes are: a message (none), or bytes with a fault place

-- behind the form's byte and an entry
abbrev Ends : Form → List ℕ → Option ℕ → Type 0
Ends f rest o =
    ((a : ℕ) × IsEntryFault rest a × (o ≡ Some (1 + a)))
    ⊎ ((e : Entry) × (us : List ℕ) × FitsFields e × (rest ≡ entry_bytes e ++ us)
    × (((us ≡ []) × (o ≡ None)) ⊎ ((0 < length us) × (o ≡ Some (length (message_bytes (record { form = f; entry = e })))))))

abbrev Stops : List ℕ → Option ℕ → Type 0
Stops bytes o = (LacksForm bytes × (o ≡ Some 0)) ⊎ ((f : Form) × (rest : List ℕ) × (bytes ≡ byte_of f ∷ rest) × Ends f rest o)

one_end : (f : Form) (rest : List ℕ) (o p : Option ℕ) → Ends f rest o → Ends f rest p → p ≡ o
one_end f rest o p (inl (a, x, is)) (inl (b, y, js)) = js ∙ ap (λ (n : ℕ). Some (1 + n)) (one_entry_fault rest a b x y) ∙ sym is
one_end f rest o p (inl (a, x, is)) (inr (e, us, fits, split, ends)) = absurd (whole_entry e us rest a fits split x)
one_end f rest o p (inr (e, us, fits, split, ends)) (inl (b, y, js)) = absurd (whole_entry e us rest b fits split y)
one_end f rest o p (inr (e, us, fits, split, ends)) (inr (d, ws, fits', split', ends')) =
    let cut = one_entry e d us ws fits fits' (sym split ∙ split') in
    elim ends [
      | inl (nil, is) ↦ elim ends' [ inl (nil', js) ↦ js ∙ sym is | inr (some, js) ↦ absurd (omega (arith, some, ap length cut.1, ap length nil)) ]
      | inr (more, is) ↦
          elim ends' [
            | inl (nil', js) ↦ absurd (omega (arith, more, ap length cut.1, ap length nil'))
            | inr (some, js) ↦ js ∙ ap (λ (x : Entry). Some (length (message_bytes (record { form = f; entry = x })))) (sym cut.0) ∙ sym is
          ]
    ]

one_stop : (bytes : List ℕ) (o p : Option ℕ) → Stops bytes o → Stops bytes p → p ≡ o
one_stop bytes o p (inl (lacks, is)) (inl (lacks', js)) = js ∙ sym is
one_stop bytes o p (inl (lacks, is)) (inr (f, rest, split, ends)) = absurd (lacks f rest split)
one_stop bytes o p (inr (f, rest, split, ends)) (inl (lacks, js)) = absurd (lacks f rest split)
one_stop bytes o p (inr (f, rest, split, ends)) (inr (g, rest', split', ends')) =
    let cut = one_form_byte f g rest rest' (sym split ∙ split') in
    one_end f rest o p ends (subst (λ (h : Form). Ends h rest p) (sym cut.0) (subst (λ l. Ends g l p) (sym cut.1) ends'))

message-stops : (bytes : List ℕ) (m : Message) → IsMessage bytes m → Stops bytes None
message-stops bytes m is =
    inr (m.form, entry_bytes m.entry ++ [], is.spelling ∙ message-whole m, inr (m.entry, [], is.fits, refl, inl (refl, refl)))

fault-stops : (bytes : List ℕ) (at : ℕ) → IsMessageFault bytes at → Stops bytes (Some at)
fault-stops bytes at (inl lacks) = inl (lacks.lacks, ap Some lacks.place)
fault-stops bytes at (inr (inl entry)) = inr (entry.form, entry.rest, entry.split, inl (entry.inner, entry.fault, ap Some entry.place))
fault-stops bytes at (inr (inr more)) =
    let m = more.message in
    inr (m.form, entry_bytes m.entry ++ more.rest, more.split ∙ message-cut m more.rest, inr (m.entry, more.rest, more.fits, refl, inr (more.more, ap Some more.place)))

pub one_message_fault : HasOneFault IsMessage IsMessageFault
one_message_fault = one_fault IsMessage IsMessageFault Stops one_stop message-stops fault-stops
