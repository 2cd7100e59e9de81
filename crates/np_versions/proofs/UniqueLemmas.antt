-- At most one full decomposition: two rewritings of one list meet again, so none is lost by another.
use Rattle.std.proofs.Common.{◌≡◌, ℕ, zero, suc, ◌⊎◌, Bool, true, List, [], ◌∷◌, ◌++◌, arith, refl, sym, ap, subst, ◌∙◌, inl, inr, append_assoc}
use Rattle.np_versions.proofs.Words.{list_all, AtMostOneDecomposition, parts, Rewrites, is_final, VersionData, is_empty, nat_tests}
use Rattle.np_code_points.specs.Steps.{ReachesIn}

-- ---- two places of one list

-- c stands before d, and mid between them
record AreApart (b : List ℕ) (c : ℕ) (a e : List ℕ) (d : ℕ) (f : List ℕ) : Type 0 where
  mid : List ℕ
  front : e ≡ b ++ c ∷ mid
  back : a ≡ mid ++ d ∷ f

record AreOne (b : List ℕ) (c : ℕ) (a e : List ℕ) (d : ℕ) (f : List ℕ) : Type 0 where
  front : b ≡ e
  code : c ≡ d
  back : a ≡ f

places : (b : List ℕ) (c : ℕ) (a e : List ℕ) (d : ℕ) (f : List ℕ) → b ++ c ∷ a ≡ e ++ d ∷ f → AreOne b c a e d f ⊎ (AreApart b c a e d f ⊎ AreApart e d f b c a)
places [] c a [] d f h = inl (record { front = refl; code = cc; back = cc })
places [] c a (y ∷ e) d f h = inr (inl (record { mid = e; front = cc; back = cc }))
places (x ∷ b) c a [] d f h = inr (inr (record { mid = b; front = cc; back = cc }))
places (x ∷ b) c a (y ∷ e) d f h =
    let rest : b ++ c ∷ a ≡ e ++ d ∷ f = cc in
    elim (places b c a e d f rest) [
      | inl one ↦ (let front = one.front in inl (record { front = cc; code = one.code; back = one.back }))
      | inr other ↦ elim other [
        | inl before ↦ (let front = before.front in inr (inl (record { mid = before.mid; front = cc; back = before.back })))
        | inr after ↦ (let front = after.front in inr (inr (record { mid = after.mid; front = cc; back = after.back })))
      ]
    ]

all_at : (p : ℕ → Bool) (b : List ℕ) (c : ℕ) (a : List ℕ) → list_all p (b ++ c ∷ a) ≡ true → p c ≡ true
all_at p [] c a h = grind (arith, nat_tests)
all_at p (x ∷ b) c a h = grind (arith, nat_tests, all_at p b c a)

pub is_empty-true : (xs : List ℕ) → is_empty xs ≡ true → xs ≡ []
is_empty-true [] h = refl
is_empty-true (x ∷ xs) h = cc

module _ (v : VersionData) (compat : Bool) where
  -- nothing in a final list is rewritten
  no_step : (xs ys : List ℕ) → Rewrites v compat xs ys → list_all (is_final v compat) xs ≡ true → ⊥
  no_step xs ys r final =
      r.maps (is_empty-true _ (all_at (is_final v compat) r.before r.code r.after (sym (ap (list_all (is_final v compat)) r.old) ∙ final)))

  -- what two rewritings of one list meet in
  record Meets (ys zs : List ℕ) : Type 0 where
    list : List ℕ
    left : Rewrites v compat ys list
    right : Rewrites v compat zs list

  -- the first rewriting lies before the second
  meet : (xs ys zs : List ℕ) (r : Rewrites v compat xs ys) (s : Rewrites v compat xs zs) → AreApart r.before r.code r.after s.before s.code s.after → Meets ys zs
  meet xs ys zs r s apart =
      let p = parts v compat r.code in
      let q = parts v compat s.code in
      let mid = apart.mid in
      record {
        list = (r.before ++ (p ++ mid)) ++ (q ++ s.after);
        left = record {
          before = r.before ++ (p ++ mid);
          code = s.code;
          after = s.after;
          maps = s.maps;
          old = r.new ∙ ap (λ l. r.before ++ (p ++ l)) apart.back ∙ ap (λ l. r.before ++ l) (sym (append_assoc p mid (s.code ∷ s.after))) ∙ sym (append_assoc r.before (p ++ mid) (s.code ∷ s.after));
          new = refl;
        };
        right = record {
          before = r.before;
          code = r.code;
          after = mid ++ (q ++ s.after);
          maps = r.maps;
          old = s.new ∙ ap (λ l. l ++ (q ++ s.after)) apart.front ∙ append_assoc r.before (r.code ∷ mid) (q ++ s.after);
          new = append_assoc r.before (p ++ mid) (q ++ s.after) ∙ ap (λ l. r.before ++ l) (append_assoc p mid (q ++ s.after));
        };
      }

  turned : (ys zs : List ℕ) → Meets ys zs → Meets zs ys
  turned ys zs m = record { list = m.list; left = m.right; right = m.left }

  one_or_meet : (xs ys zs : List ℕ) → Rewrites v compat xs ys → Rewrites v compat xs zs → (ys ≡ zs) ⊎ Meets ys zs
  one_or_meet xs ys zs r s =
      elim (places r.before r.code r.after s.before s.code s.after (sym r.old ∙ s.old)) [
        | inl one ↦
            inl (r.new ∙ ap (λ l. l ++ (parts v compat r.code ++ r.after)) one.front
            ∙ ap (λ k. s.before ++ (parts v compat k ++ r.after)) one.code ∙ ap (λ l. s.before ++ (parts v compat s.code ++ l)) one.back ∙ sym s.new)
        | inr apart ↦ elim apart [ inl before ↦ inr (meet xs ys zs r s before) | inr after ↦ inr (turned zs ys (meet xs zs ys s r after)) ]
      ]

  -- a way to a final list can begin with any step, and is no longer for it
  record GoesOn (n : ℕ) (ys zs : List ℕ) : Type 0 where
    fewer : ℕ
    less : n ≡ suc fewer
    way : ReachesIn (Rewrites v compat) fewer ys zs

  goes_on : (n : ℕ) (xs ys zs : List ℕ) → Rewrites v compat xs ys → ReachesIn (Rewrites v compat) n xs zs → list_all (is_final v compat) zs ≡ true → GoesOn n ys zs
  goes_on zero xs ys zs r way final = absurd (no_step xs ys r (ap (list_all (is_final v compat)) way ∙ final))
  goes_on (suc n) xs ys zs r way final =
      elim (one_or_meet xs ys way.0 r way.1) [
        | inl same ↦ record { fewer = n; less = refl; way = subst (λ l. ReachesIn (Rewrites v compat) n l zs) (sym same) way.2 }
        | inr m ↦
            let rest = goes_on n way.0 m.list zs m.right way.2 final in
            record { fewer = n; less = refl; way = subst (λ k. ReachesIn (Rewrites v compat) k ys zs) (sym rest.less) (m.list, m.left, rest.way) }
      ]

  one_end : (n m : ℕ) (xs ys zs : List ℕ) → ReachesIn (Rewrites v compat) n xs ys → list_all (is_final v compat) ys ≡ true → ReachesIn (Rewrites v compat) m xs zs → list_all (is_final v compat) zs ≡ true → ys ≡ zs
  one_end zero zero xs ys zs one final_one two final_two = sym one ∙ two
  one_end zero (suc m) xs ys zs one final_one two final_two = absurd (no_step xs two.0 two.1 (ap (list_all (is_final v compat)) one ∙ final_one))
  one_end (suc n) m xs ys zs one final_one two final_two =
      let rest = goes_on m xs one.0 zs one.1 two final_two in
      one_end n rest.fewer one.0 ys zs one.2 final_one rest.way final_two

pub at_most_one : AtMostOneDecomposition
at_most_one v compat xs ys zs one two = one_end v compat one.reached.0 two.reached.0 xs ys zs one.reached.1 one.final two.reached.1 two.final
