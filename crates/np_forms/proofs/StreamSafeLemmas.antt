-- The longest run of non-starters, counted and as a relation.
use Rattle.std.proofs.Common.{◌≡◌, ℕ, suc, ◌+◌, ◌<◌, ◌≤◌, ◌⊎◌, ◌↔◌, Bool, true, false, not, nat_lt, max, IsTrue, List, [], ◌∷◌, ◌++◌, length, flat_map, refl, sym, ap, subst, ◌∙◌, arith, inl, inr, eq-eqb}
use Rattle.np_forms.proofs.Words.{cases_Bool, cond-true, cond-false, and_parts, and_from, not-true, ltb-true, ltb-false, lt-ltb, le-ltb, list_all, IsSound}
use Rattle.np_forms.proofs.Words.{VersionData, class_of, is_starter, is_non_starter, decomposed, normal_form, longest_run, runs_over, is_reorderable, full_of}
use Rattle.np_code_points.specs.declared.forms.Form.TheVariants.{Nfkd}
use Rattle.np_forms.specs.StreamSafe.{HasRunOver, IsStreamSafe}
use Rattle.np_forms.proofs.OrderLemmas.{canonical_order-keeps, is_reorderable-true}
use Rattle.np_forms.proofs.ComposeLemmas.{not_starter_from}
use Rattle.np_forms.proofs.FormLemmas.{IsNormalForm-normal_form, normal_form_is}

-- all of `xs` up to `after` is non-starters, and with the k before them they are more than n
record FrontRun (v : VersionData) (n k : ℕ) (xs : List ℕ) : Type 0 where
  run : List ℕ
  after : List ℕ
  split : xs ≡ run ++ after
  non_starters : list_all (is_non_starter v) run ≡ true
  long : n < k + length run

module _ (v : VersionData) where
  abbrev ccc : ℕ → ℕ
  ccc = class_of v

  pub longest-nil : (n : ℕ) → longest_run ccc n [] ≡ n
  unfolding longest_run
  longest-nil n = refl

  pub longest-starter : (n c : ℕ) (cs : List ℕ) → is_starter ccc c ≡ true → longest_run ccc n (c ∷ cs) ≡ max n (longest_run ccc 0 cs)
  unfolding longest_run
  longest-starter n c cs h = cond-true _ _ _ h

  pub longest-non_starter : (n c : ℕ) (cs : List ℕ) → is_starter ccc c ≡ false → longest_run ccc n (c ∷ cs) ≡ longest_run ccc (suc n) cs
  unfolding longest_run
  longest-non_starter n c cs h = cond-false _ _ _ h

  pub longest-least : (n : ℕ) (cs : List ℕ) → n ≤ longest_run ccc n cs
  longest-least n [] = omega (arith, longest-nil n)
  longest-least n (c ∷ cs) =
      elim (cases_Bool (is_starter ccc c)) [
        | inl starter ↦ omega (arith, longest-starter n c cs starter)
        | inr non_starter ↦ omega (arith, longest-non_starter n c cs non_starter, longest-least (suc n) cs)
      ]

  longest-mono : (j k : ℕ) (cs : List ℕ) → j ≤ k → longest_run ccc j cs ≤ longest_run ccc k cs
  longest-mono j k [] h = omega (arith, longest-nil j, longest-nil k)
  longest-mono j k (c ∷ cs) h =
      elim (cases_Bool (is_starter ccc c)) [
        | inl starter ↦ omega (arith, longest-starter j c cs starter, longest-starter k c cs starter)
        | inr non_starter ↦ omega (arith, longest-non_starter j c cs non_starter, longest-non_starter k c cs non_starter, longest-mono (suc j) (suc k) cs (omega arith))
      ]

  longest-behind : (k : ℕ) (before rest : List ℕ) → longest_run ccc 0 rest ≤ longest_run ccc k (before ++ rest)
  longest-behind k [] rest = longest-mono 0 k rest (omega arith)
  longest-behind k (c ∷ cs) rest =
      elim (cases_Bool (is_starter ccc c)) [
        | inl starter ↦ omega (arith, longest-starter k c (cs ++ rest) starter, longest-behind 0 cs rest)
        | inr non_starter ↦ omega (arith, longest-non_starter k c (cs ++ rest) non_starter, longest-behind (suc k) cs rest)
      ]

  longest-front : (k : ℕ) (run rest : List ℕ) → list_all (is_non_starter v) run ≡ true → k + length run ≤ longest_run ccc k (run ++ rest)
  longest-front k [] rest h = omega (arith, longest-least k rest)
  longest-front k (c ∷ cs) rest h =
      let halves = and_parts (is_non_starter v c) (list_all (is_non_starter v) cs) h in
      omega (arith, longest-non_starter k c (cs ++ rest) (not-true (is_starter ccc c) halves.0), longest-front (suc k) cs rest halves.1)

  longest-run : (n : ℕ) (xs : List ℕ) → HasRunOver v n xs → n < longest_run ccc 0 xs
  longest-run n xs h =
      let behind = longest-behind 0 h.before (h.run ++ h.after) in
      let front = longest-front 0 h.run h.after h.non_starters in
      omega (arith, behind, front, h.long, ap (longest_run ccc 0) h.split)

  shifted : (n c : ℕ) (cs : List ℕ) → HasRunOver v n cs → HasRunOver v n (c ∷ cs)
  shifted n c cs h = record { before = c ∷ h.before; run = h.run; after = h.after; split = ap (λ l. c ∷ l) h.split; non_starters = h.non_starters; long = h.long }

  front_is_run : (n : ℕ) (xs : List ℕ) → FrontRun v n 0 xs → HasRunOver v n xs
  front_is_run n xs h = record { before = []; run = h.run; after = h.after; split = h.split; non_starters = h.non_starters; long = omega (arith, h.long) }

  run_of : (n k : ℕ) (xs : List ℕ) → n < longest_run ccc k xs → HasRunOver v n xs ⊎ FrontRun v n k xs
  run_of n k [] h = inr (record { run = []; after = []; split = refl; non_starters = refl; long = omega (arith, longest-nil k) })
  run_of n k (c ∷ cs) h =
      elim (cases_Bool (is_starter ccc c)) [
        | inl starter ↦
            elim (cases_Bool (nat_lt n k)) [
              | inl now ↦ inr (record { run = []; after = c ∷ cs; split = refl; non_starters = refl; long = omega (arith, ltb-true n k now) })
              | inr later ↦
                  let rest : n < longest_run ccc 0 cs = omega (arith, ltb-false n k later, longest-starter k c cs starter) in
                  elim (run_of n 0 cs rest) [ inl some ↦ inl (shifted n c cs some) | inr front ↦ inl (shifted n c cs (front_is_run n cs front)) ]
            ]
        | inr non_starter ↦
            elim (run_of n (suc k) cs (omega (arith, longest-non_starter k c cs non_starter))) [
              | inl some ↦ inl (shifted n c cs some)
              | inr front ↦ inr (record {
                run = c ∷ front.run;
                after = front.after;
                split = ap (λ l. c ∷ l) front.split;
                non_starters = and_from _ _ (ap not non_starter) front.non_starters;
                long = omega (arith, front.long);
              })
            ]
      ]

  -- ---- the steps of a count that stops past 30

  pub over-past : (n c : ℕ) (cs : List ℕ) → 30 < n → runs_over ccc n cs ≡ runs_over ccc n (c ∷ cs)
  over-past n c cs past = lt-ltb 30 _ (omega (arith, longest-least n cs)) ∙ sym (lt-ltb 30 _ (omega (arith, longest-least n (c ∷ cs))))

  pub over-starter : (n c : ℕ) (cs : List ℕ) → n ≤ 30 → class_of v c ≡ 0 → runs_over ccc 0 cs ≡ runs_over ccc n (c ∷ cs)
  over-starter n c cs few starter =
      let e = longest-starter n c cs (eq-eqb (ccc c) 0 starter) in
      elim (cases_Bool (nat_lt 30 (longest_run ccc 0 cs))) [
        | inl long ↦ long ∙ sym (lt-ltb 30 _ (omega (arith, ltb-true 30 _ long)))
        | inr short ↦ short ∙ sym (le-ltb 30 _ (omega (arith, ltb-false 30 _ short)))
      ]

  pub over-non_starter : (n c : ℕ) (cs : List ℕ) → 0 < class_of v c → runs_over ccc (n + 1) cs ≡ runs_over ccc n (c ∷ cs)
  over-non_starter n c cs non_starter =
      let same : suc n ≡ n + 1 = omega arith in
      ap (nat_lt 30) (sym (longest-non_starter n c cs (not_starter_from ccc c non_starter) ∙ ap (λ k. longest_run ccc k cs) same))

  pub over-end : (n : ℕ) → runs_over ccc n [] ≡ nat_lt 30 n
  over-end n = ap (nat_lt 30) (longest-nil n)

  -- canonical ordering leaves each run as long as it was

  longest-exchanged : (k : ℕ) (us : List ℕ) (a b : ℕ) (vs : List ℕ) → is_reorderable ccc a b ≡ true → longest_run ccc k (us ++ a ∷ b ∷ vs) ≡ longest_run ccc k (us ++ b ∷ a ∷ vs)
  longest-exchanged k [] a b vs pair =
      let classes = is_reorderable-true ccc a b pair in
      let first : is_starter ccc a ≡ false = not_starter_from ccc a (omega (arith, classes.0, classes.1)) in
      let second : is_starter ccc b ≡ false = not_starter_from ccc b classes.0 in
      longest-non_starter k a (b ∷ vs) first ∙ longest-non_starter (suc k) b vs second
      ∙ sym (longest-non_starter k b (a ∷ vs) second ∙ longest-non_starter (suc k) a vs first)
  longest-exchanged k (u ∷ us) a b vs pair =
      elim (cases_Bool (is_starter ccc u)) [
        | inl starter ↦ longest-starter k u (us ++ a ∷ b ∷ vs) starter ∙ ap (max k) (longest-exchanged 0 us a b vs pair) ∙ sym (longest-starter k u (us ++ b ∷ a ∷ vs) starter)
        | inr other ↦ longest-non_starter k u (us ++ a ∷ b ∷ vs) other ∙ longest-exchanged (suc k) us a b vs pair ∙ sym (longest-non_starter k u (us ++ b ∷ a ∷ vs) other)
      ]

  over-decomposed : (xs : List ℕ) → runs_over ccc 0 (decomposed v true xs) ≡ runs_over ccc 0 (flat_map (full_of v true) xs)
  unfolding decomposed
  over-decomposed xs = ap (nat_lt 30) (canonical_order-keeps ccc (longest_run ccc 0) (longest-exchanged 0) (flat_map (full_of v true) xs))

  -- a text is stream-safe exactly where the count of its full decomposition stays at 30 or below, as that of its NFKD form does
  pub IsStreamSafe-few : IsSound v → (xs : List ℕ) (b : Bool) → b ≡ not (runs_over ccc 0 (flat_map (full_of v true) xs)) → IsTrue b ↔ IsStreamSafe v xs
  unfolding normal_form
  IsStreamSafe-few sound xs b few =
      let nfkd = normal_form v Nfkd xs in
      let is : b ≡ not (runs_over ccc 0 nfkd) = few ∙ ap not (sym (over-decomposed xs)) in (
        λ yes.
            let short = ltb-false 30 _ (not-true (runs_over ccc 0 nfkd) (sym is ∙ yes)) in
            record { nfkd = nfkd; is = IsNormalForm-normal_form v sound Nfkd xs; short = λ run. let long = longest-run 30 nfkd run in absurd (omega arith) },
        λ safe.
            elim (cases_Bool (runs_over ccc 0 nfkd)) [
              | inl long ↦
                  let over : HasRunOver v 30 nfkd = elim (run_of 30 0 nfkd (ltb-true 30 _ long)) [ inl some ↦ some | inr front ↦ front_is_run 30 nfkd front ] in
                  absurd (safe.short (subst (HasRunOver v 30) (sym (normal_form_is v sound Nfkd xs safe.nfkd safe.is)) over))
              | inr short ↦ is ∙ ap not short
            ],
      )

-- what the checks of functions cite
pub ruleset over_answers = (over-non_starter, over-past, over-starter)
