-- Bytes spell a message or an image, or they have a fault place.
use Rattle.std.proofs.Common.{◌≡◌, ◌≢◌, ◌↔◌, ℕ, zero, suc, ◌+◌, ◌<◌, ◌^◌, ◌⊎◌, inl, inr, Bool, true, false, true≢false, IsTrue, List, [], ◌∷◌, ◌++◌, length, take, drop, get_or, codes, All, Some, None, w32, refl, sym, ap, ◌∙◌, arith, append-nil}
use Rattle.std.proofs.lemmas.Bool.{cases_eq, cases_lt}
use Rattle.std.proofs.lemmas.List.{take-append-drop, length-take-le}
use Rattle.std.proofs.lemmas.List.Elements.{All-head, All-tail, All-drop, All-cons}
use Rattle.std.proofs.lemmas.Nat.{be_bytes_4}
use Rattle.std.proofs.lemmas.Slice.Eq.{bytes_eq-Decides}
use Rattle.std.proofs.Math.Seq.{take-append_seam}
use Rattle.std.specs.Int.{from_be_bytes}
use Rattle.std.specs.Str.{bytes_eq}
use Rattle.np_code_points.specs.Forms.{byte_of}
use Rattle.np_code_points.specs.declared.forms.Form.{Form}
use Rattle.np_code_points.specs.declared.forms.Form.TheVariants.{Nfd, Nfc, Nfkd, Nfkc}
use Rattle.np_node.proofs.ImageLemmas.{entries-none, entries-cut, head-cut, image-cut, length-name}
use Rattle.np_node.proofs.MarkedLemmas.{key-same, key-other, marked-cut}
use Rattle.np_node.proofs.FieldLemmas.{entry-cut, field-cut}
use Rattle.np_node.proofs.MessageLemmas.{message-cut}
use Rattle.np_node.specs.Fields.{number_bytes, field_bytes, entry_bytes, marked_bytes, FitsFields, IsFieldFault, IsEntryFault, IsMarkedFault, LacksForm}
use Rattle.np_node.specs.Images.{Image, Needs, FitsNeeds, needs_bytes, spelled_entry, image_name, head_bytes, entries_bytes, image_bytes, IsImage, IsImageFault, IsSpellingFault}
use Rattle.np_node.specs.Laws.{SpellsOrHasFault}
use Rattle.np_node.specs.Messages.{Message, message_bytes, IsMessage, IsMessageFault}
use Rattle.np_node.specs.Strings.{Entry}

abbrev AreBytes : List ℕ → Type 0
AreBytes bytes = All (λ b. b < 256) bytes

-- something is in front, and bytes follow it
record Follows {A : Type 0} (spelled : A → List ℕ) (Fits : A → Type 0) (bytes : List ℕ) : Type 0 where
  value : A
  rest : List ℕ
  fits : Fits value
  split : bytes ≡ spelled value ++ rest
  small : AreBytes rest

-- what is in front, or the place where it isn't whole
abbrev Found : {A : Type 0} → (A → List ℕ) → (A → Type 0) → (List ℕ → ℕ → Type 0) → Type 0
Found spelled Fits IsFault = (bytes : List ℕ) → AreBytes bytes → Follows spelled Fits bytes ⊎ ((at : ℕ) × IsFault bytes at)

-- ---- fields

quad-small : (a b c d : ℕ) → a < 256 → b < 256 → c < 256 → d < 256 → (i : ℕ) → get_or (a ∷ b ∷ c ∷ d ∷ []) i 0 < 256
quad-small a b c d p q r s zero = p
quad-small a b c d p q r s (suc zero) = q
quad-small a b c d p q r s (suc (suc zero)) = r
quad-small a b c d p q r s (suc (suc (suc zero))) = s
quad-small a b c d p q r s (suc (suc (suc (suc i)))) = omega arith

number-quad : (a b c d : ℕ) → a < 256 → b < 256 → c < 256 → d < 256 → (from_be_bytes w32 (a ∷ b ∷ c ∷ d ∷ []) < 2 ^ 32) × (number_bytes (from_be_bytes w32 (a ∷ b ∷ c ∷ d ∷ [])) ≡ a ∷ b ∷ c ∷ d ∷ [])
unfolding number_bytes
number-quad a b c d p q r s = (omega (arith, p, q, r, s), be_bytes_4 (a ∷ b ∷ c ∷ d ∷ []) (from_be_bytes w32 (a ∷ b ∷ c ∷ d ∷ [])) refl (quad-small a b c d p q r s) refl)

abbrev IsSmall : ℕ → Type 0
IsSmall n = n < 2 ^ 32

number-found : (bytes : List ℕ) → AreBytes bytes → Follows number_bytes IsSmall bytes ⊎ (length bytes < 4)
number-found [] all = inr (omega arith)
number-found (a ∷ []) all = inr (omega arith)
number-found (a ∷ b ∷ []) all = inr (omega arith)
number-found (a ∷ b ∷ c ∷ []) all = inr (omega arith)
number-found (a ∷ b ∷ c ∷ d ∷ rest) all =
    let tail_b = All-tail (λ x. x < 256) a (b ∷ c ∷ d ∷ rest) all in
    let tail_c = All-tail (λ x. x < 256) b (c ∷ d ∷ rest) tail_b in
    let tail_d = All-tail (λ x. x < 256) c (d ∷ rest) tail_c in
    let quad = number-quad a b c d (All-head (λ x. x < 256) a (b ∷ c ∷ d ∷ rest) all) (All-head (λ x. x < 256) b (c ∷ d ∷ rest) tail_b) (All-head (λ x. x < 256) c (d ∷ rest) tail_c)
    (All-head (λ x. x < 256) d rest tail_d) in
    inl (record {
      value = from_be_bytes w32 (a ∷ b ∷ c ∷ d ∷ []);
      rest = rest;
      fits = quad.0;
      split = ap (λ l. l ++ rest) (sym quad.1);
      small = All-tail (λ x. x < 256) d rest tail_d;
    })

abbrev IsShort : List ℕ → Type 0
IsShort xs = length xs < 2 ^ 32

field-found : Found field_bytes IsShort IsFieldFault
field-found bytes all =
    elim (number-found bytes all) [
      | inr short ↦ inr (0, inl (record { short = short; place = refl }))
      | inl n ↦
          elim (cases_lt (length n.rest) n.value) [
            | inl lacks ↦ inr (4, inr (record { count = n.value; rest = n.rest; fits = n.fits; split = n.split; short = lacks; place = refl }))
            | inr le ↦
                let size : length (take n.value n.rest) ≡ n.value = length-take-le n.value n.rest le in
                inl (record {
                  value = take n.value n.rest;
                  rest = drop n.value n.rest;
                  fits = omega (arith, size, n.fits);
                  split = n.split ∙ (λ i. number_bytes (sym size i) ++ sym (take-append-drop n.value n.rest) i) ∙ sym (field-cut (take n.value n.rest) (drop n.value n.rest));
                  small = All-drop (λ x. x < 256) n.value n.rest n.small;
                })
          ]
    ]

entry-found : Found entry_bytes FitsFields IsEntryFault
entry-found bytes all =
    elim (field-found bytes all) [
      | inr (at, fault) ↦ inr (at, inl fault)
      | inl s ↦
          elim (field-found s.rest s.small) [
            | inr (at, fault) ↦ inr (length (field_bytes s.value) + at, inr (record { string = s.value; rest = s.rest; inner = at; fits = s.fits; split = s.split; fault = fault; place = refl }))
            | inl k ↦
                let e : Entry = record { string = s.value; key = k.value } in
                inl (record {
                  value = e;
                  rest = k.rest;
                  fits = record { string = s.fits; key = k.fits };
                  split = s.split ∙ ap (λ l. field_bytes s.value ++ l) k.split ∙ sym (entry-cut e k.rest);
                  small = k.small;
                })
          ]
    ]

-- ---- entries with markers

same-or-other : (xs ys : List ℕ) → (xs ≡ ys) ⊎ (xs ≢ ys)
same-or-other xs ys = by (bytes_eq xs ys) (bytes_eq-Decides xs ys)
  where
    by : (b : Bool) → (IsTrue b ↔ (xs ≡ ys)) → (xs ≡ ys) ⊎ (xs ≢ ys)
    by true h = inl (h.0 refl)
    by false h = inr (λ e. true≢false (sym (h.1 e)))

module _ (bytes : List ℕ) (s : Follows field_bytes IsShort bytes) where
  no-marker : ((more : List ℕ) → (s.rest ≢ 0 ∷ more) × (s.rest ≢ 1 ∷ more)) → (at : ℕ) × IsMarkedFault bytes at
  no-marker lacks =
      (length (field_bytes s.value), inr (inl (record { string = s.value; rest = s.rest; fits = s.fits; split = s.split; lacks = lacks; place = refl })))

  same-marker : (rest : List ℕ) → s.rest ≡ 0 ∷ rest → AreBytes rest → Follows marked_bytes FitsFields bytes
  same-marker rest is small =
      let e : Entry = record { string = s.value; key = s.value } in
      record {
        value = e;
        rest = rest;
        fits = record { string = s.fits; key = s.fits };
        split = s.split ∙ ap (λ l. field_bytes s.value ++ l) (is ∙ ap (λ l. l ++ rest) (sym (key-same e refl))) ∙ sym (marked-cut e rest);
        small = small;
      }

  other-marker : (rest : List ℕ) → s.rest ≡ 1 ∷ rest → AreBytes rest → Follows marked_bytes FitsFields bytes ⊎ ((at : ℕ) × IsMarkedFault bytes at)
  other-marker rest is small =
      let split : bytes ≡ field_bytes s.value ++ 1 ∷ rest = s.split ∙ ap (λ l. field_bytes s.value ++ l) is in
      elim (field-found rest small) [
        | inr (at, fault) ↦
            inr (length (field_bytes s.value) + 1 + at, inr (inr (inl (record { string = s.value; rest = rest; inner = at; fits = s.fits; split = split; fault = fault; place = refl }))))
        | inl k ↦
            elim (same-or-other k.value s.value) [
              | inl same ↦
                  inr (
                    length (field_bytes s.value),
                    inr (inr (inr (record {
                      string = s.value;
                      rest = k.rest;
                      fits = s.fits;
                      split = split ∙ ap (λ l. field_bytes s.value ++ 1 ∷ l) (k.split ∙ ap (λ l. field_bytes l ++ k.rest) same);
                      place = refl;
                    }))),
                  )
              | inr other ↦
                  let e : Entry = record { string = s.value; key = k.value } in
                  inl (record {
                    value = e;
                    rest = k.rest;
                    fits = record { string = s.fits; key = k.fits };
                    split = split ∙ ap (λ l. field_bytes s.value ++ 1 ∷ l) k.split ∙ ap (λ l. field_bytes s.value ++ (l ++ k.rest)) (sym (key-other e other)) ∙ sym (marked-cut e k.rest);
                    small = k.small;
                  })
            ]
      ]

  behind-string : (rest : List ℕ) → s.rest ≡ rest → AreBytes rest → Follows marked_bytes FitsFields bytes ⊎ ((at : ℕ) × IsMarkedFault bytes at)
  behind-string [] is small = inr (no-marker (λ more. ((λ e. omega (arith, ap length (sym is ∙ e))), (λ e. omega (arith, ap length (sym is ∙ e))))))
  behind-string (b ∷ rest) is small =
      let rest_small = All-tail (λ x. x < 256) b rest small in
      elim (cases_eq b 0) [
        | inl zero_ ↦ inl (same-marker rest (is ∙ ap (λ (x : ℕ). x ∷ rest) zero_) rest_small)
        | inr not_zero ↦
            elim (cases_eq b 1) [
              | inl one ↦ other-marker rest (is ∙ ap (λ (x : ℕ). x ∷ rest) one) rest_small
              | inr not_one ↦
                  inr (no-marker (λ more. ((λ e. not_zero (ap (λ l. get_or l 0 7) (sym is ∙ e))), (λ e. not_one (ap (λ l. get_or l 0 7) (sym is ∙ e))))))
            ]
      ]

marked-found : Found marked_bytes FitsFields IsMarkedFault
marked-found bytes all =
    elim (field-found bytes all) [ inr (at, fault) ↦ inr (at, inl fault) | inl s ↦ behind-string bytes s s.rest refl s.small ]

-- ---- forms

form-found : (bytes : List ℕ) → AreBytes bytes → ((form : Form) × (rest : List ℕ) × (bytes ≡ byte_of form ∷ rest) × AreBytes rest) ⊎ LacksForm bytes
form-found [] all = inr (λ form rest e. omega (arith, ap length e))
form-found (b ∷ rest) all =
    let small = All-tail (λ x. x < 256) b rest all in
    elim (cases_eq b 68) [
      | inl is ↦ inl (Nfd, rest, ap (λ (x : ℕ). x ∷ rest) is, small)
      | inr not_nfd ↦
          elim (cases_eq b 67) [
            | inl is ↦ inl (Nfc, rest, ap (λ (x : ℕ). x ∷ rest) is, small)
            | inr not_nfc ↦
                elim (cases_eq b 100) [
                  | inl is ↦ inl (Nfkd, rest, ap (λ (x : ℕ). x ∷ rest) is, small)
                  | inr not_nfkd ↦
                      elim (cases_eq b 99) [
                        | inl is ↦ inl (Nfkc, rest, ap (λ (x : ℕ). x ∷ rest) is, small)
                        | inr not_nfkc ↦ inr (λ form more e. none not_nfd not_nfc not_nfkd not_nfkc form (ap (λ l. get_or l 0 0) e))
                      ]
                ]
          ]
    ]
  where
    none : b ≢ 68 → b ≢ 67 → b ≢ 100 → b ≢ 99 → (form : Form) → b ≢ byte_of form
    none d c kd kc Nfd = d
    none d c kd kc Nfc = c
    none d c kd kc Nfkd = kd
    none d c kd kc Nfkc = kc

-- ---- messages

pub message_or_fault : SpellsOrHasFault IsMessage IsMessageFault
message_or_fault bytes all =
    elim (form-found bytes all) [
      | inr lacks ↦ inr (0, inl (record { lacks = lacks; place = refl }))
      | inl (form, rest, split, small) ↦
          elim (entry-found rest small) [
            | inr (at, fault) ↦ inr (1 + at, inr (inl (record { form = form; rest = rest; inner = at; split = split; fault = fault; place = refl })))
            | inl e ↦ ends (record { form = form; entry = e.value }) e.rest e.fits (split ∙ ap (λ l. byte_of form ∷ l) e.split ∙ sym (message-cut (record { form = form; entry = e.value }) e.rest))
          ]
    ]
  where
    ends : (m : Message) (rest : List ℕ) → FitsFields m.entry → bytes ≡ message_bytes m ++ rest → ((a : Message) × IsMessage bytes a) ⊎ ((at : ℕ) × IsMessageFault bytes at)
    ends m [] fits split = inl (m, record { fits = fits; spelling = split ∙ append-nil (message_bytes m) })
    ends m (x ∷ xs) fits split =
        inr (length (message_bytes m), inr (inr (record { message = m; rest = x ∷ xs; fits = fits; split = split; more = omega arith; place = refl })))

-- ---- images

spelled-found : (t : Needs) → Found (spelled_entry t) FitsFields (IsSpellingFault t)
spelled-found None = entry-found
spelled-found (Some count) = marked-found

record HasEntries (t : Needs) (n : ℕ) (bytes : List ℕ) : Type 0 where
  entries : List Entry
  rest : List ℕ
  counted : length entries ≡ n
  fits : All FitsFields entries
  split : bytes ≡ entries_bytes t entries ++ rest

record LacksEntries (t : Needs) (n : ℕ) (bytes : List ℕ) : Type 0 where
  entries : List Entry
  rest : List ℕ
  inner : ℕ
  fewer : length entries < n
  fits : All FitsFields entries
  split : bytes ≡ entries_bytes t entries ++ rest
  fault : IsSpellingFault t rest inner

no-entries : All FitsFields []
no-entries = λ k d lt. absurd (omega (arith, lt))

entries-found : (t : Needs) (n : ℕ) (bytes : List ℕ) → AreBytes bytes → HasEntries t n bytes ⊎ LacksEntries t n bytes
entries-found t zero bytes all = inl (record { entries = []; rest = bytes; counted = refl; fits = no-entries; split = sym (entries-none t bytes) })
entries-found t (suc n) bytes all =
    elim (spelled-found t bytes all) [
      | inr (at, fault) ↦ inr (record { entries = []; rest = bytes; inner = at; fewer = omega arith; fits = no-entries; split = sym (entries-none t bytes); fault = fault })
      | inl e ↦
          elim (entries-found t n e.rest e.small) [
            | inl more ↦
                inl (record {
                  entries = e.value ∷ more.entries;
                  rest = more.rest;
                  counted = ap suc more.counted;
                  fits = All-cons FitsFields e.value more.entries e.fits more.fits;
                  split = e.split ∙ ap (λ l. spelled_entry t e.value ++ l) more.split ∙ sym (entries-cut t e.value more.entries more.rest);
                })
            | inr lacks ↦
                inr (record {
                  entries = e.value ∷ lacks.entries;
                  rest = lacks.rest;
                  inner = lacks.inner;
                  fewer = omega (arith, lacks.fewer);
                  fits = All-cons FitsFields e.value lacks.entries e.fits lacks.fits;
                  split = e.split ∙ ap (λ l. spelled_entry t e.value ++ l) lacks.split ∙ sym (entries-cut t e.value lacks.entries lacks.rest);
                  fault = lacks.fault;
                })
          ]
    ]

abbrev IsImageOrFault : List ℕ → Type 0
IsImageOrFault bytes = ((i : Image) × IsImage bytes i) ⊎ ((at : ℕ) × IsImageFault bytes at)

image-ends : (bytes : List ℕ) (i : Image) (rest : List ℕ) → FitsNeeds i.needs → length i.entries < 2 ^ 32 → All FitsFields i.entries → bytes ≡ image_bytes i ++ rest → IsImageOrFault bytes
image-ends bytes i [] needs count fits split = inl (i, record { needs = needs; count = count; fits = fits; spelling = split ∙ append-nil (image_bytes i) })
image-ends bytes i (x ∷ xs) needs count fits split =
    inr (length (image_bytes i), inr (inr (inr (inr (inr (record { image = i; rest = x ∷ xs; needs = needs; count = count; fits = fits; split = split; more = omega arith; place = refl }))))))

behind-needs : (bytes : List ℕ) (t : Needs) (form : Form) (rest : List ℕ) → FitsNeeds t → bytes ≡ image_name t ++ byte_of form ∷ (needs_bytes t ++ rest) → AreBytes rest → IsImageOrFault bytes
behind-needs bytes t form rest needs split all =
    elim (number-found rest all) [
      | inr short ↦
          inr (5 + length (needs_bytes t), inr (inr (inr (inl (record { needs = t; form = form; rest = rest; fits = needs; split = split; short = short; place = refl })))))
      | inl n ↦
          let head : bytes ≡ head_bytes t form n.value ++ n.rest = split ∙ ap (λ l. image_name t ++ byte_of form ∷ (needs_bytes t ++ l)) n.split ∙ sym (head-cut t form n.value n.rest) in
          elim (entries-found t n.value n.rest n.small) [
            | inl has ↦
                let i : Image = record { needs = t; form = form; entries = has.entries } in
                image-ends bytes i has.rest needs (omega (arith, has.counted, n.fits)) has.fits
                (head ∙ (λ k. head_bytes t form (sym has.counted k) ++ has.split k) ∙ sym (image-cut i has.rest))
            | inr lacks ↦
                inr (
                  length (head_bytes t form n.value) + length (entries_bytes t lacks.entries) + lacks.inner,
                  inr (inr (inr (inr (inl (record {
                    needs = t;
                    form = form;
                    count = n.value;
                    entries = lacks.entries;
                    rest = lacks.rest;
                    inner = lacks.inner;
                    needs_fits = needs;
                    small = n.fits;
                    fits = lacks.fits;
                    split = head ∙ ap (λ l. head_bytes t form n.value ++ l) lacks.split;
                    fewer = lacks.fewer;
                    fault = lacks.fault;
                    place = refl;
                  }))))),
                )
          ]
    ]

first-layout : (bytes rest : List ℕ) → bytes ≡ codes "NPS1" ++ rest → AreBytes rest → IsImageOrFault bytes
first-layout bytes rest split all =
    elim (form-found rest all) [
      | inr lacks ↦ inr (4, inr (inl (record { needs = None; rest = rest; split = split; lacks = lacks; place = refl })))
      | inl (form, more, is, small) ↦ behind-needs bytes None form more tt (split ∙ ap (λ l. codes "NPS1" ++ l) is) small
    ]

second-layout : (bytes rest : List ℕ) → bytes ≡ codes "NPS2" ++ rest → AreBytes rest → IsImageOrFault bytes
second-layout bytes rest split all =
    elim (form-found rest all) [
      | inr lacks ↦ inr (4, inr (inl (record { needs = Some 0; rest = rest; split = split; lacks = lacks; place = refl })))
      | inl (form, more, is, small) ↦
          let behind : bytes ≡ codes "NPS2" ++ byte_of form ∷ more = split ∙ ap (λ l. codes "NPS2" ++ l) is in
          elim (number-found more small) [
            | inr short ↦ inr (5, inr (inr (inl (record { form = form; rest = more; split = behind; short = short; place = refl }))))
            | inl n ↦ behind-needs bytes (Some n.value) form n.rest n.fits (behind ∙ ap (λ l. codes "NPS2" ++ byte_of form ∷ l) n.split) n.small
          ]
    ]

neither-name : (bytes : List ℕ) → ((t : Needs) → take 4 bytes ≢ image_name t) → IsImageOrFault bytes
neither-name bytes lacks =
    inr (0, inl (record { lacks = λ t rest e. lacks t (ap (take 4) e ∙ ap (λ (n : ℕ). take n (image_name t ++ rest)) (sym (length-name t)) ∙ take-append_seam (image_name t) rest); place = refl }))

pub image_or_fault : SpellsOrHasFault IsImage IsImageFault
image_or_fault bytes all =
    let behind = All-drop (λ x. x < 256) 4 bytes all in
    let cut : bytes ≡ take 4 bytes ++ drop 4 bytes = sym (take-append-drop 4 bytes) in
    elim (same-or-other (take 4 bytes) (codes "NPS1")) [
      | inl first ↦ first-layout bytes (drop 4 bytes) (cut ∙ ap (λ l. l ++ drop 4 bytes) first) behind
      | inr not_first ↦
          elim (same-or-other (take 4 bytes) (codes "NPS2")) [
            | inl second ↦ second-layout bytes (drop 4 bytes) (cut ∙ ap (λ l. l ++ drop 4 bytes) second) behind
            | inr not_second ↦ neither-name bytes (by not_first not_second)
          ]
    ]
  where
    by : take 4 bytes ≢ codes "NPS1" → take 4 bytes ≢ codes "NPS2" → (t : Needs) → take 4 bytes ≢ image_name t
    by first second None = first
    by first second (Some n) = second
