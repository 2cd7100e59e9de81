use Rattle.std.proofs.Common.{◌≡◌, ◌-◌, ◌+◌, ◌<◌, ℕ, List, ◌++◌, get_or, length, replicate, slice_set, sym, ap, subst, ◌∙◌, inl, inr, refl, arith}
use Rattle.std.proofs.lemmas.Bool.{cases_eq, cases_lt}
use Rattle.std.proofs.lemmas.List.{get_or-append_right, get_or-replicate, get_or-set_other, get_or-set_same, get_or_append_left, get_or_past, length-replicate, take_all}
use Rattle.np_caseless.specs.inside.ImageTables.{IsCleared}
use Rattle.np_caseless.proofs.image_tables.clear.Goals as goal
use Rattle.np_caseless.proofs.image_tables.clear.Goals.{then-at-len+in_ok-resize, else-at-len}

-- a list that grows by its default reads as before
defaults : (n i d : ℕ) → get_or (replicate n d) i d ≡ d
defaults n i d =
    elim (cases_lt i n) [
      | inl lt ↦ get_or-replicate n i d d lt
      | inr past ↦ get_or_past (replicate n d) i d (omega (arith, past, length-replicate n d))
    ]

grown : (xs : List ℕ) (more i d : ℕ) → get_or (xs ++ replicate more d) i d ≡ get_or xs i d
grown xs more i d =
    elim (cases_lt i (length xs)) [
      | inl lt ↦ get_or_append_left xs (replicate more d) d i lt
      | inr past ↦
          get_or-append_right xs (replicate more d) (length xs) i d refl past ∙ defaults more (i - length xs) d ∙ sym (get_or_past xs i d past)
    ]

cleared : (before own : List ℕ) (code : ℕ) → code < length own → ((c : ℕ) → get_or own c 1 ≡ get_or before c 1)
    → IsCleared before (slice_set own code 0) code
cleared before own code within same =
    let none : get_or (slice_set own code 0) code 1 ≡ 0 = get_or-set_same own code 0 1 within in
    record {
      here = λ marked. cc;
      others = λ c marked.
          elim (cases_eq c code) [
            | inl here ↦ absurd (cc)
            | inr other ↦ sym (same c) ∙ sym (get_or-set_other own code c 0 1 other) ∙ marked
          ];
    }

pub returns : goal.returns
returns c =
    let before = c.args.own.now in
    let own = c.if-at-len.own in
    let at = c.from-at.result in
    subst (IsCleared before.items (slice_set own.items at 0)) c.from-at.ensures
    (cleared before.items own.items at
    (elim c.if-at-len.branch [
      | then-at-len+in_ok-resize w ↦ omega (arith, ap (λ v. v.len) w.own-is, w.in_ok-resize.ensures.len, own.ok.0)
      | else-at-len w ↦ omega (arith, w.if-at-len.false, c.len.ensures, ap (λ v. v.len) w.own-is, own.ok.0)
    ])
    (elim c.if-at-len.branch [
      | then-at-len+in_ok-resize w ↦ λ i.
          let whole = take_all (at + 1) before.items (omega (arith, w.if-at-len.true, c.len.ensures, before.ok.0)) in
          let more = ap (λ v. v.items) w.own-is ∙ w.in_ok-resize.ensures.items ∙ ap (λ (xs : List ℕ). xs ++ replicate (at + 1 - before.len) 1) whole in
          ap (λ (xs : List ℕ). get_or xs i 1) more ∙ grown before.items (at + 1 - before.len) i 1
      | else-at-len w ↦ λ i. ap (λ (xs : List ℕ). get_or xs i 1) (ap (λ v. v.items) w.own-is)
    ]))
