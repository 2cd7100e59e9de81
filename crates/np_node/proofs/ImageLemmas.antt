-- Bytes are one image of either layout or have one fault place.
use Rattle.std.proofs.Common.{◌≡◌, ◌≢◌, ℕ, ◌+◌, ◌<◌, ◌^◌, ◌⊎◌, inl, inr, List, [], ◌∷◌, ◌++◌, length, flat_map, codes, get_or, All, Option, Some, None, refl, sym, ap, subst, ◌∙◌, arith, append-nil, append_assoc, length-append}
use Rattle.std.proofs.lemmas.List.Elements.{All-head, All-tail}
use Rattle.std.proofs.lemmas.List.{append_cancel_left}
use Rattle.np_code_points.specs.Forms.{byte_of}
use Rattle.np_code_points.specs.declared.forms.Form.{Form}
use Rattle.np_node.proofs.FieldLemmas.{length-number_bytes, one_number, one_entry, whole_entry, one_entry_fault, one_fault}
use Rattle.np_node.proofs.MessageLemmas.{one_form_byte}
use Rattle.np_node.proofs.MarkedLemmas.{one_marked, whole_marked, one_marked_fault}
use Rattle.np_node.specs.Fields.{number_bytes, FitsFields, LacksForm}
use Rattle.np_node.specs.Images.{Needs, FitsNeeds, needs_bytes, spelled_entry, Image, image_name, head_bytes, entries_bytes, image_bytes, IsImage, IsImageFault, IsSpellingFault}
use Rattle.np_node.specs.Laws.{HasOneFault, SpellsOne}
use Rattle.np_node.specs.Strings.{Entry}

-- ---- the head

pub head-cut : (t : Needs) (f : Form) (n : ℕ) (us : List ℕ) → head_bytes t f n ++ us ≡ image_name t ++ byte_of f ∷ (needs_bytes t ++ (number_bytes n ++ us))
unfolding head_bytes
head-cut t f n us =
    append_assoc (image_name t) (byte_of f ∷ (needs_bytes t ++ number_bytes n)) us ∙ ap (λ l. image_name t ++ byte_of f ∷ l) (append_assoc (needs_bytes t) (number_bytes n) us)

pub length-name : (t : Needs) → length (image_name t) ≡ 4
length-name None = refl
length-name (Some n) = refl

pub length-head_bytes : (t : Needs) (f : Form) (n : ℕ) → length (head_bytes t f n) ≡ 9 + length (needs_bytes t)
unfolding head_bytes
length-head_bytes t f n =
    omega (arith, length-append (image_name t) (byte_of f ∷ (needs_bytes t ++ number_bytes n)), length-name t, length-append (needs_bytes t) (number_bytes n), length-number_bytes n)

-- the names are unlike
names_differ : (n : ℕ) (us ws : List ℕ) → image_name None ++ us ≡ image_name (Some n) ++ ws → ⊥
names_differ n us ws e = omega (arith, ap (λ l. get_or l 3 0) e)

record OneLayout (s t : Needs) (us ws : List ℕ) : Type 0 where
  needs : s ≡ t
  rest : us ≡ ws

-- what is told behind the name, and what follows it
one_needs : (s t : Needs) (f g : Form) (us ws : List ℕ) → FitsNeeds s → FitsNeeds t → image_name s ++ byte_of f ∷ (needs_bytes s ++ us) ≡ image_name t ++ byte_of g ∷ (needs_bytes t ++ ws) → OneLayout s t (byte_of f ∷ us) (byte_of g ∷ ws)
one_needs None None f g us ws p q e = record { needs = refl; rest = append_cancel_left (image_name None) _ _ e }
one_needs None (Some n) f g us ws p q e = absurd (names_differ n _ _ e)
one_needs (Some m) None f g us ws p q e = absurd (names_differ m _ _ (sym e))
one_needs (Some m) (Some n) f g us ws p q e =
    let behind = append_cancel_left (image_name (Some m)) _ _ e in
    let forms = one_form_byte f g (number_bytes m ++ us) (number_bytes n ++ ws) behind in
    let counts = one_number m n us ws p q forms.1 in
    record { needs = ap Some counts.0; rest = ap (λ (h : Form). byte_of h ∷ us) forms.0 ∙ ap (λ l. byte_of g ∷ l) counts.1 }

pub record OneHead (s t : Needs) (f g : Form) (m n : ℕ) (us ws : List ℕ) : Type 0 where
  pub needs : s ≡ t
  pub form : f ≡ g
  pub count : m ≡ n
  pub rest : us ≡ ws

pub cut_head : (s t : Needs) (f g : Form) (m n : ℕ) (us ws : List ℕ) → FitsNeeds s → FitsNeeds t → m < 2 ^ 32 → n < 2 ^ 32 → head_bytes s f m ++ us ≡ head_bytes t g n ++ ws → OneHead s t f g m n us ws
cut_head s t f g m n us ws x y p q e =
    let layout = one_needs s t f g (number_bytes m ++ us) (number_bytes n ++ ws) x y (sym (head-cut s f m us) ∙ e ∙ head-cut t g n ws) in
    let forms = one_form_byte f g (number_bytes m ++ us) (number_bytes n ++ ws) layout.rest in
    let counts = one_number m n us ws p q forms.1 in
    record { needs = layout.needs; form = forms.0; count = counts.0; rest = counts.1 }

-- ---- entries

pub one_spelled : (t : Needs) (d e : Entry) (us ws : List ℕ) → FitsFields d → FitsFields e → spelled_entry t d ++ us ≡ spelled_entry t e ++ ws → (d ≡ e) × (us ≡ ws)
one_spelled None = one_entry
one_spelled (Some n) = one_marked

whole_spelled : (t : Needs) (e : Entry) (us bytes : List ℕ) (at : ℕ) → FitsFields e → bytes ≡ spelled_entry t e ++ us → IsSpellingFault t bytes at → ⊥
whole_spelled None = whole_entry
whole_spelled (Some n) = whole_marked

one_spelled_fault : (t : Needs) (bytes : List ℕ) (at other : ℕ) → IsSpellingFault t bytes at → IsSpellingFault t bytes other → other ≡ at
one_spelled_fault None = one_entry_fault
one_spelled_fault (Some n) = one_marked_fault

module _ (t : Needs) where
  pub entries-cut : (e : Entry) (es : List Entry) (us : List ℕ) → entries_bytes t (e ∷ es) ++ us ≡ spelled_entry t e ++ (entries_bytes t es ++ us)
  unfolding entries_bytes
  entries-cut e es us = append_assoc (spelled_entry t e) (flat_map (spelled_entry t) es) us

  pub entries-none : (us : List ℕ) → entries_bytes t [] ++ us ≡ us
  unfolding entries_bytes
  entries-none us = refl

  length-entries-more : (e : Entry) (es : List Entry) → length (entries_bytes t (e ∷ es)) ≡ length (spelled_entry t e) + length (entries_bytes t es)
  unfolding entries_bytes
  length-entries-more e es = length-append (spelled_entry t e) (flat_map (spelled_entry t) es)

  pub length-entries-none : length (entries_bytes t []) ≡ 0
  unfolding entries_bytes
  length-entries-none = refl

  first-cut : (d e : Entry) (ds es : List Entry) (us ws : List ℕ) → All FitsFields (d ∷ ds) → All FitsFields (e ∷ es)
      → entries_bytes t (d ∷ ds) ++ us ≡ entries_bytes t (e ∷ es) ++ ws → (d ≡ e) × (entries_bytes t ds ++ us ≡ entries_bytes t es ++ ws)
  first-cut d e ds es us ws p q same =
      one_spelled t d e (entries_bytes t ds ++ us) (entries_bytes t es ++ ws) (All-head FitsFields d ds p) (All-head FitsFields e es q)
      (sym (entries-cut d ds us) ∙ same ∙ entries-cut e es ws)

  -- equally many entries are one list
  pub cut_entries : (ds es : List Entry) (us ws : List ℕ) → All FitsFields ds → All FitsFields es → length ds ≡ length es
      → entries_bytes t ds ++ us ≡ entries_bytes t es ++ ws → (ds ≡ es) × (us ≡ ws)
  cut_entries [] [] us ws p q same e = (refl, sym (entries-none us) ∙ e ∙ entries-none ws)
  cut_entries [] (e ∷ es) us ws p q same h = absurd (omega (arith, same))
  cut_entries (d ∷ ds) [] us ws p q same h = absurd (omega (arith, same))
  cut_entries (d ∷ ds) (e ∷ es) us ws p q same h =
      let first = first-cut d e ds es us ws p q h in
      let rest = cut_entries ds es us ws (All-tail FitsFields d ds p) (All-tail FitsFields e es q) (omega (arith, same)) first.1 in
      ((λ i. first.0 i ∷ rest.0 i), rest.1)

  -- where there is one more entry there is no fault
  whole_entries : (ds es : List Entry) (us ws : List ℕ) (a : ℕ) → All FitsFields ds → All FitsFields es → length ds < length es
      → entries_bytes t ds ++ us ≡ entries_bytes t es ++ ws → IsSpellingFault t us a → ⊥
  whole_entries [] [] us ws a p q lt h fault = omega (arith, lt)
  whole_entries [] (e ∷ es) us ws a p q lt h fault =
      whole_spelled t e (entries_bytes t es ++ ws) us a (All-head FitsFields e es q) (sym (entries-none us) ∙ h ∙ entries-cut e es ws) fault
  whole_entries (d ∷ ds) [] us ws a p q lt h fault = omega (arith, lt)
  whole_entries (d ∷ ds) (e ∷ es) us ws a p q lt h fault =
      let first = first-cut d e ds es us ws p q h in
      whole_entries ds es us ws a (All-tail FitsFields d ds p) (All-tail FitsFields e es q) (omega (arith, lt)) first.1 fault

  -- the fault of entries has one place
  one_entries_fault : (ds es : List Entry) (us ws : List ℕ) (a b : ℕ) → All FitsFields ds → All FitsFields es
      → entries_bytes t ds ++ us ≡ entries_bytes t es ++ ws → IsSpellingFault t us a → IsSpellingFault t ws b → length (entries_bytes t es) + b ≡ length (entries_bytes t ds) + a
  one_entries_fault [] [] us ws a b p q h x y =
      let same : us ≡ ws = sym (entries-none us) ∙ h ∙ entries-none ws in
      ap (λ (n : ℕ). length (entries_bytes t []) + n) (one_spelled_fault t us a b x (subst (λ l. IsSpellingFault t l b) (sym same) y))
  one_entries_fault [] (e ∷ es) us ws a b p q h x y =
      absurd (whole_spelled t e (entries_bytes t es ++ ws) us a (All-head FitsFields e es q) (sym (entries-none us) ∙ h ∙ entries-cut e es ws) x)
  one_entries_fault (d ∷ ds) [] us ws a b p q h x y =
      absurd (whole_spelled t d (entries_bytes t ds ++ us) ws b (All-head FitsFields d ds p) (sym (entries-none ws) ∙ sym h ∙ entries-cut d ds us) y)
  one_entries_fault (d ∷ ds) (e ∷ es) us ws a b p q h x y =
      let first = first-cut d e ds es us ws p q h in
      let rest = one_entries_fault ds es us ws a b (All-tail FitsFields d ds p) (All-tail FitsFields e es q) first.1 x y in
      omega (arith, rest, length-entries-more d ds, length-entries-more e es, ap (λ (z : Entry). length (spelled_entry t z)) first.0)

-- ---- images

pub image-cut : (i : Image) (us : List ℕ) → image_bytes i ++ us ≡ head_bytes i.needs i.form (length i.entries) ++ (entries_bytes i.needs i.entries ++ us)
unfolding image_bytes
image-cut i us = append_assoc (head_bytes i.needs i.form (length i.entries)) (entries_bytes i.needs i.entries) us

pub length-image_bytes : (i : Image) → length (image_bytes i) ≡ length (head_bytes i.needs i.form (length i.entries)) + length (entries_bytes i.needs i.entries)
unfolding image_bytes
length-image_bytes i = length-append (head_bytes i.needs i.form (length i.entries)) (entries_bytes i.needs i.entries)

cut_image : (i j : Image) (us ws : List ℕ) → FitsNeeds i.needs → FitsNeeds j.needs → length i.entries < 2 ^ 32 → length j.entries < 2 ^ 32 → All FitsFields i.entries → All FitsFields j.entries
    → image_bytes i ++ us ≡ image_bytes j ++ ws → (i ≡ j) × (us ≡ ws)
cut_image i j us ws x y m n p q e =
    let heads = cut_head i.needs j.needs i.form j.form (length i.entries) (length j.entries) (entries_bytes i.needs i.entries ++ us) (entries_bytes j.needs j.entries ++ ws) x y m n (sym (image-cut i us) ∙ e ∙ image-cut j ws) in
    let rest = cut_entries j.needs i.entries j.entries us ws p q heads.count (ap (λ (t : Needs). entries_bytes t i.entries ++ us) (sym heads.needs) ∙ heads.rest) in
    ((λ k. record { needs = heads.needs k; form = heads.form k; entries = rest.0 k }), rest.1)

pub one_image : SpellsOne IsImage
one_image bytes more i j p q =
    cut_image i j more [] p.needs q.needs p.count q.count p.fits q.fits (sym (ap (λ l. l ++ more) p.spelling) ∙ q.spelling ∙ sym (append-nil (image_bytes j)))

-- ---- what bytes are: an image (none), or bytes with a fault place

abbrev EndsAt : ℕ → List ℕ → Option ℕ → Type 0
EndsAt size us o = ((us ≡ []) × (o ≡ None)) ⊎ ((0 < length us) × (o ≡ Some size))

-- behind the head
abbrev Entries : Needs → ℕ → List ℕ → Option ℕ → Type 0
Entries t n rest o =
    (es : List Entry) × (us : List ℕ) × All FitsFields es × (rest ≡ entries_bytes t es ++ us)
    × (((length es < n) × ((a : ℕ) × IsSpellingFault t us a × (o ≡ Some (9 + (length (needs_bytes t) + (length (entries_bytes t es) + a))))))
    ⊎ ((length es ≡ n) × EndsAt (9 + (length (needs_bytes t) + length (entries_bytes t es))) us o))

-- behind what is told
abbrev Counts : Needs → List ℕ → Option ℕ → Type 0
Counts t rest o = ((length rest < 4) × (o ≡ Some (5 + length (needs_bytes t)))) ⊎ ((n : ℕ) × (us : List ℕ) × (n < 2 ^ 32) × (rest ≡ number_bytes n ++ us) × Entries t n us o)

-- behind the form's byte of the second layout
abbrev TellsNeeds : List ℕ → Option ℕ → Type 0
TellsNeeds rest o = ((length rest < 4) × (o ≡ Some 5)) ⊎ ((n : ℕ) × (us : List ℕ) × (n < 2 ^ 32) × (rest ≡ number_bytes n ++ us) × Counts (Some n) us o)

-- behind the name
abbrev Forms : (List ℕ → Option ℕ → Type 0) → List ℕ → Option ℕ → Type 0
Forms Next rest o = (LacksForm rest × (o ≡ Some 4)) ⊎ ((f : Form) × (us : List ℕ) × (rest ≡ byte_of f ∷ us) × Next us o)

abbrev first_name : List ℕ
first_name = codes "NPS1"

abbrev second_name : List ℕ
second_name = codes "NPS2"

abbrev Stops : List ℕ → Option ℕ → Type 0
Stops bytes o =
    (((needs : Needs) (rest : List ℕ) → bytes ≢ image_name needs ++ rest) × (o ≡ Some 0))
    ⊎ (((rest : List ℕ) × (bytes ≡ first_name ++ rest) × Forms (Counts None) rest o) ⊎ ((rest : List ℕ) × (bytes ≡ second_name ++ rest) × Forms TellsNeeds rest o))

abbrev IsOne : (List ℕ → Option ℕ → Type 0) → Type 0
IsOne Next = (rest : List ℕ) (o p : Option ℕ) → Next rest o → Next rest p → p ≡ o

one_end : (size : ℕ) (us : List ℕ) (o p : Option ℕ) → EndsAt size us o → EndsAt size us p → p ≡ o
one_end size us o p (inl (nil, is)) (inl (nil', js)) = js ∙ sym is
one_end size us o p (inl (nil, is)) (inr (more, js)) = absurd (omega (arith, more, ap length nil))
one_end size us o p (inr (more, is)) (inl (nil, js)) = absurd (omega (arith, more, ap length nil))
one_end size us o p (inr (more, is)) (inr (more', js)) = js ∙ sym is

one_entries : (t : Needs) (n : ℕ) → IsOne (Entries t n)
one_entries t n rest o p (ds, us, x, split, left) (es, ws, y, split', right) =
    let same : entries_bytes t ds ++ us ≡ entries_bytes t es ++ ws = sym split ∙ split' in
    elim left [
      | inl (lt, (a, fault, is)) ↦
          elim right [
            | inl (lt', (b, fault', js)) ↦ js ∙ ap (λ (k : ℕ). Some (9 + (length (needs_bytes t) + k))) (one_entries_fault t ds es us ws a b x y same fault fault') ∙ sym is
            | inr (whole, ends) ↦ absurd (whole_entries t ds es us ws a x y (omega (arith, lt, whole)) same fault)
          ]
      | inr (whole, ends) ↦
          elim right [
            | inl (lt', (b, fault', js)) ↦ absurd (whole_entries t es ds ws us b y x (omega (arith, lt', whole)) (sym same) fault')
            | inr (whole', ends') ↦
                let cut = cut_entries t ds es us ws x y (whole ∙ sym whole') same in
                one_end (9 + (length (needs_bytes t) + length (entries_bytes t ds))) us o p ends
                (subst (λ (zs : List Entry). EndsAt (9 + (length (needs_bytes t) + length (entries_bytes t zs))) us p) (sym cut.0) (subst (λ l. EndsAt (9 + (length (needs_bytes t) + length (entries_bytes t es))) l p) (sym cut.1) ends'))
          ]
    ]

short-number : (rest us : List ℕ) (n : ℕ) → length rest < 4 → rest ≡ number_bytes n ++ us → ⊥
short-number rest us n short e = omega (arith, short, ap length e, length-append (number_bytes n) us, length-number_bytes n)

one_count : (t : Needs) → IsOne (Counts t)
one_count t rest o p (inl (short, is)) (inl (short', js)) = js ∙ sym is
one_count t rest o p (inl (short, is)) (inr (n, us, lt, split, more)) = absurd (short-number rest us n short split)
one_count t rest o p (inr (n, us, lt, split, more)) (inl (short, js)) = absurd (short-number rest us n short split)
one_count t rest o p (inr (m, us, lt, split, more)) (inr (n, ws, lt', split', more')) =
    let cut = one_number m n us ws lt lt' (sym split ∙ split') in
    one_entries t m us o p more (subst (λ (k : ℕ). Entries t k us p) (sym cut.0) (subst (λ l. Entries t n l p) (sym cut.1) more'))

one_telling : IsOne TellsNeeds
one_telling rest o p (inl (short, is)) (inl (short', js)) = js ∙ sym is
one_telling rest o p (inl (short, is)) (inr (n, us, lt, split, more)) = absurd (short-number rest us n short split)
one_telling rest o p (inr (n, us, lt, split, more)) (inl (short, js)) = absurd (short-number rest us n short split)
one_telling rest o p (inr (m, us, lt, split, more)) (inr (n, ws, lt', split', more')) =
    let cut = one_number m n us ws lt lt' (sym split ∙ split') in
    one_count (Some m) us o p more (subst (λ (k : ℕ). Counts (Some k) us p) (sym cut.0) (subst (λ l. Counts (Some n) l p) (sym cut.1) more'))

one_form : (Next : List ℕ → Option ℕ → Type 0) → IsOne Next → IsOne (Forms Next)
one_form Next one rest o p (inl (lacks, is)) (inl (lacks', js)) = js ∙ sym is
one_form Next one rest o p (inl (lacks, is)) (inr (f, us, split, more)) = absurd (lacks f us split)
one_form Next one rest o p (inr (f, us, split, more)) (inl (lacks, js)) = absurd (lacks f us split)
one_form Next one rest o p (inr (f, us, split, more)) (inr (g, ws, split', more')) =
    let cut = one_form_byte f g us ws (sym split ∙ split') in
    one us o p more (subst (λ l. Next l p) (sym cut.1) more')

one_stop : (bytes : List ℕ) (o p : Option ℕ) → Stops bytes o → Stops bytes p → p ≡ o
one_stop bytes o p (inl (lacks, is)) (inl (lacks', js)) = js ∙ sym is
one_stop bytes o p (inl (lacks, is)) (inr (inl (rest, split, more))) = absurd (lacks None rest split)
one_stop bytes o p (inl (lacks, is)) (inr (inr (rest, split, more))) = absurd (lacks (Some 0) rest split)
one_stop bytes o p (inr (inl (rest, split, more))) (inl (lacks, js)) = absurd (lacks None rest split)
one_stop bytes o p (inr (inr (rest, split, more))) (inl (lacks, js)) = absurd (lacks (Some 0) rest split)
one_stop bytes o p (inr (inl (us, split, more))) (inr (inl (ws, split', more'))) =
    let same = append_cancel_left first_name us ws (sym split ∙ split') in one_form (Counts None) (one_count None) us o p more (subst (λ l. Forms (Counts None) l p) (sym same) more')
one_stop bytes o p (inr (inr (us, split, more))) (inr (inr (ws, split', more'))) =
    let same = append_cancel_left second_name us ws (sym split ∙ split') in one_form TellsNeeds one_telling us o p more (subst (λ l. Forms TellsNeeds l p) (sym same) more')
one_stop bytes o p (inr (inl (us, split, more))) (inr (inr (ws, split', more'))) = absurd (names_differ 0 us ws (sym split ∙ split'))
one_stop bytes o p (inr (inr (us, split, more))) (inr (inl (ws, split', more'))) = absurd (names_differ 0 ws us (sym split' ∙ split))

-- an outcome behind what is needs is one of the whole
behind-needs : (bytes : List ℕ) (t : Needs) (f : Form) (us : List ℕ) (o : Option ℕ) → FitsNeeds t → bytes ≡ image_name t ++ byte_of f ∷ (needs_bytes t ++ us) → Counts t us o → Stops bytes o
behind-needs bytes None f us o fits split counts = inr (inl (byte_of f ∷ us, split, inr (f, us, refl, counts)))
behind-needs bytes (Some m) f us o fits split counts = inr (inr (byte_of f ∷ (number_bytes m ++ us), split, inr (f, number_bytes m ++ us, refl, inr (m, us, fits, refl, counts))))

behind-head : (bytes : List ℕ) (t : Needs) (f : Form) (n : ℕ) (us : List ℕ) (o : Option ℕ) → FitsNeeds t → n < 2 ^ 32 → bytes ≡ head_bytes t f n ++ us → Entries t n us o → Stops bytes o
behind-head bytes t f n us o fits lt split ends = behind-needs bytes t f (number_bytes n ++ us) o fits (split ∙ head-cut t f n us) (inr (n, us, lt, refl, ends))

image-stops : (bytes : List ℕ) (i : Image) → IsImage bytes i → Stops bytes None
image-stops bytes i is =
    behind-head bytes i.needs i.form (length i.entries) (entries_bytes i.needs i.entries ++ []) None is.needs is.count (is.spelling ∙ sym (append-nil (image_bytes i)) ∙ image-cut i [])
    (i.entries, [], is.fits, refl, inr (refl, inl (refl, refl)))

names-no-form : (bytes : List ℕ) (t : Needs) (rest : List ℕ) (at : ℕ) → bytes ≡ image_name t ++ rest → LacksForm rest → at ≡ 4 → Stops bytes (Some at)
names-no-form bytes None rest at split lacks place = inr (inl (rest, split, inl (lacks, ap Some place)))
names-no-form bytes (Some n) rest at split lacks place = inr (inr (rest, split, inl (lacks, ap Some place)))

fault-stops : (bytes : List ℕ) (at : ℕ) → IsImageFault bytes at → Stops bytes (Some at)
fault-stops bytes at (inl lacks) = inl (lacks.lacks, ap Some lacks.place)
fault-stops bytes at (inr (inl lacks)) = names-no-form bytes lacks.needs lacks.rest at lacks.split lacks.lacks lacks.place
fault-stops bytes at (inr (inr (inl lacks))) =
    inr (inr (byte_of lacks.form ∷ lacks.rest, lacks.split, inr (lacks.form, lacks.rest, refl, inl (lacks.short, ap Some lacks.place))))
fault-stops bytes at (inr (inr (inr (inl lacks)))) =
    behind-needs bytes lacks.needs lacks.form lacks.rest (Some at) lacks.fits lacks.split (inl (lacks.short, ap Some lacks.place))
fault-stops bytes at (inr (inr (inr (inr (inl few))))) =
    behind-head bytes few.needs few.form few.count (entries_bytes few.needs few.entries ++ few.rest) (Some at) few.needs_fits few.small few.split
    (few.entries, few.rest, few.fits, refl, inl (few.fewer, (few.inner, few.fault, ap Some (omega (arith, few.place, length-head_bytes few.needs few.form few.count)))))
fault-stops bytes at (inr (inr (inr (inr (inr more))))) =
    let i = more.image in
    behind-head bytes i.needs i.form (length i.entries) (entries_bytes i.needs i.entries ++ more.rest) (Some at) more.needs more.count (more.split ∙ image-cut i more.rest)
    (i.entries, more.rest, more.fits, refl, inr (refl, inr (more.more, ap Some (omega (arith, more.place, length-image_bytes i, length-head_bytes i.needs i.form (length i.entries))))))

pub one_image_fault : HasOneFault IsImage IsImageFault
one_image_fault = one_fault IsImage IsImageFault Stops one_stop image-stops fault-stops
