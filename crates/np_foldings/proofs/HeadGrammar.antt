-- How a record is held against the one before is what the grammar says.
use Rattle.std.proofs.Common.{◌≡◌, ℕ, zero, suc, true, not, ◌&&◌, eqb, leb, ltb, Option, Some, None, refl, sym, ap, ◌∙◌, inl, inr, ⊎_elim}
use Rattle.std.proofs.lemmas.Bool.{false≢true, eqb-true, eq-eqb, leb-true, le-leb, and_parts, and_from, or_cases, or_left, or_right, both_ways, false_from_ne_true}
use borrow.Author.Tests.{ltb-true, lt-ltb}
use Rattle.np_foldings.specs.Fields.{Head}
use Rattle.np_foldings.specs.Statuses.{Status, Common, Full, Simple, Turkic, place_of}
use Rattle.np_foldings.specs.Tests.{IsOutOfOrder, IsBehind, Conflicts}
use Rattle.np_foldings.specs.inside.HeadReading.{is_behind, is_out_of_order, conflicts_as, conflicts}
use Rattle.np_foldings.proofs.FieldGrammar.{not_true}

abbrev status_placed : ℕ → Status
status_placed zero = Common
status_placed (suc zero) = Common
status_placed (suc (suc zero)) = Full
status_placed (suc (suc (suc zero))) = Simple
status_placed (suc (suc (suc (suc n)))) = Turkic

placed : (s : Status) → status_placed (place_of s) ≡ s
placed Common = refl
placed Full = refl
placed Simple = refl
placed Turkic = refl

pub same_status : (s t : Status) → place_of s ≡ place_of t → s ≡ t
same_status s t h = sym (placed s) ∙ ap status_placed h ∙ placed t

abbrev pub head_at : ℕ → Status → Head
head_at code status = record { code = code; status = status }

pub same_head : (h : Head) (code : ℕ) (status : Status) → h.code ≡ code → h.status ≡ status → h ≡ head_at code status
same_head h code status e f = ap (λ n. head_at n h.status) e ∙ ap (λ s. head_at code s) f

behind_said : (b : Option Head) (code : ℕ) (status : Status) → is_behind b code status ≡ true → IsBehind b code status
behind_said None code status h = absurd (false≢true h)
behind_said (Some b) code status h =
    let both = and_parts (eqb b.code code) (eqb (place_of b.status) (place_of status)) h in
    ap Some (same_head b code status (eqb-true b.code code both.0) (same_status b.status status (eqb-true (place_of b.status) (place_of status) both.1)))

behind_own : (code : ℕ) (status : Status) → is_behind (Some (head_at code status)) code status ≡ true
behind_own code status =
    and_from (eqb code code) (eqb (place_of status) (place_of status)) (eq-eqb code code refl) (eq-eqb (place_of status) (place_of status) refl)

behind_read : (b : Option Head) (code : ℕ) (status : Status) → IsBehind b code status → is_behind b code status ≡ true
behind_read b code status h = ap (λ x. is_behind x code status) h ∙ behind_own code status

pub order_said : (b : Option Head) (h : Head) → is_out_of_order b h ≡ true → IsOutOfOrder b h
order_said None h e = absurd (false≢true e)
order_said (Some b) h e =
    ⊎_elim
    (λ low. inl (ltb-true h.code b.code low))
    (λ same.
    let both = and_parts (eqb h.code b.code) (leb (place_of h.status) (place_of b.status)) same in
    inr (eqb-true h.code b.code both.0, leb-true (place_of h.status) (place_of b.status) both.1))
    (or_cases (ltb h.code b.code) (eqb h.code b.code && leb (place_of h.status) (place_of b.status)) e)

pub order_read : (b : Option Head) (h : Head) → IsOutOfOrder b h → is_out_of_order b h ≡ true
order_read None h e = absurd e
order_read (Some b) h e =
    let first = ltb h.code b.code in
    let second = eqb h.code b.code && leb (place_of h.status) (place_of b.status) in
    ⊎_elim
    (λ low. or_left first second (lt-ltb h.code b.code low))
    (λ same. or_right first second (and_from (eqb h.code b.code) (leb (place_of h.status) (place_of b.status)) (eq-eqb h.code b.code same.0) (le-leb (place_of h.status) (place_of b.status) same.1)))
    e

conflict_said : (s : Status) (b : Option Head) (code : ℕ) → conflicts_as s b code ≡ true → Conflicts b (head_at code s)
conflict_said Common b code h = absurd (false≢true h)
conflict_said Full b code h = inl (refl, behind_said b code Common h)
conflict_said Simple b code h =
    inr (refl, λ is. both_ways (is_behind b code Full) (not_true (is_behind b code Full) h) (behind_read b code Full is))
conflict_said Turkic b code h = absurd (false≢true h)

pub conflicts_said : (b : Option Head) (h : Head) → conflicts b h ≡ true → Conflicts b h
conflicts_said b h e = conflict_said h.status b h.code e

full_conflict : (s : Status) (b : Option Head) (code : ℕ) → s ≡ Full → IsBehind b code Common → conflicts_as s b code ≡ true
full_conflict s b code e is = ap (λ t. conflicts_as t b code) e ∙ behind_read b code Common is

simple_conflict : (s : Status) (b : Option Head) (code : ℕ) → s ≡ Simple → (IsBehind b code Full → ⊥) → conflicts_as s b code ≡ true
simple_conflict s b code e is =
    ap (λ t. conflicts_as t b code) e ∙ ap not (false_from_ne_true (is_behind b code Full) (λ t. is (behind_said b code Full t)))

pub conflicts_read : (b : Option Head) (h : Head) → Conflicts b h → conflicts b h ≡ true
conflicts_read b h e =
    ⊎_elim (λ full. full_conflict h.status b h.code full.0 full.1) (λ simple. simple_conflict h.status b h.code simple.0 simple.1) e
