-- Versions in a row.
use Rattle.std.proofs.Common.{◌≡◌, ℕ, zero, suc, ◌+◌, ◌-◌, ◌<◌, ◌≤◌, List, [], ◌∷◌, length, get_or, map, take, slice_get, Some, refl, sym, ap, subst, ◌∙◌, arith, All}
use Rattle.std.proofs.lemmas.List.Elements.{All-cons, All-nil}
use Rattle.np_chain.specs.Chain.{EachExtends, IsChain, IsSoundChain, IsFirstBroken, StandsAt}
use Rattle.np_chain.specs.Extension.{Extends}
use Rattle.np_chain.specs.declared.breaks.Break.{Break}
use Rattle.np_chain.proofs.AuditLemmas.{first-refutes}
use Rattle.np_chain.proofs.StabilityLemmas.{transitivity}
use Rattle.np_versions.specs.Conditions.{IsSound}
use Rattle.np_versions.specs.Versions.{VersionData}

Extends-self : (v : VersionData) → Extends v v
Extends-self v =
    record {
      keeps = λ c h. record { assigned = h; class = refl; kind = refl; mapping = refl };
      old_composites = λ c h. h;
      new_composites = λ c h _. h;
    }

each-later : (v : VersionData) (vs : List VersionData) (j : ℕ) (w : VersionData) → EachExtends v vs → slice_get vs j ≡ Some w → Extends v w
each-later v [] j w each h = cc
each-later v (u ∷ us) zero w each h = let same : u ≡ w = cc in subst (λ x. Extends v x) same each.0
each-later v (u ∷ us) (suc j) w each h = transitivity v u w each.0 (each-later u us j w each.1 h)

-- a later version extends an earlier one
chain-extends : (vs : List VersionData) (i j : ℕ) (v w : VersionData) → IsChain vs → i ≤ j → slice_get vs i ≡ Some v → slice_get vs j ≡ Some w → Extends v w
chain-extends [] i j v w chain le here there = absurd chain
chain-extends (x ∷ xs) zero zero v w chain le here there = let same : v ≡ w = cc in subst (λ u. Extends v u) same (Extends-self v)
chain-extends (x ∷ xs) zero (suc j) v w chain le here there = let same : x ≡ v = cc in subst (λ u. Extends u w) same (each-later x xs j w chain there)
chain-extends (x ∷ xs) (suc i) zero v w chain le here there = absurd (omega arith)
chain-extends (x ∷ []) (suc i) (suc j) v w chain le here there = cc
chain-extends (x ∷ y ∷ ys) (suc i) (suc j) v w chain le here there = chain-extends (y ∷ ys) i j v w chain.1 (omega arith) here there

-- what holds of the rest of a list
later : (x : VersionData) (xs : List VersionData) → All IsSound (x ∷ xs) → All IsSound xs
later x xs each k d lt = each (suc k) d (omega (arith, lt))

sound-at : (vs : List VersionData) (i : ℕ) (v : VersionData) → All IsSound vs → slice_get vs i ≡ Some v → IsSound v
sound-at [] i v each h = cc
sound-at (x ∷ xs) zero v each h = let same : x ≡ v = cc in subst IsSound same (each 0 x (omega arith))
sound-at (x ∷ xs) (suc i) v each h = sound-at xs i v (later x xs each) h

pub StandsAt-from : (vs : List VersionData) (i : ℕ) (v : VersionData) → IsSoundChain vs → slice_get vs i ≡ Some v → StandsAt vs i v
StandsAt-from vs i v is here =
    record {
      here = here;
      sound = sound-at vs i v is.sound here;
      earlier = λ j u le h. chain-extends vs j i u v is.chain le h here;
      later = λ j w le h. chain-extends vs i j v w is.chain le here h;
    }

pub chain-some : (vs : List VersionData) → IsChain vs → 0 < length vs
chain-some [] chain = absurd chain
chain-some (v ∷ vs) chain = omega arith

-- what stands at a place of a list, mapped
pub get-map : {A : Type 0} (f : A → VersionData) (xs : List A) (i : ℕ) (x : A) → i < length xs → x ≡ get_or xs i x → slice_get (map f xs) i ≡ Some (f x)
get-map f [] i x lt h = absurd (omega arith)
get-map f (y ∷ ys) zero x lt h = ap (λ z. Some (f z)) (sym h)
get-map f (y ∷ ys) (suc i) x lt h = get-map f ys i x (omega arith) h

-- ---- one more version

each-more : (x : VersionData) (xs : List VersionData) (k : ℕ) (v w : VersionData) → EachExtends x (take k xs) → slice_get (x ∷ xs) k ≡ Some v → slice_get xs k ≡ Some w → Extends v w → EachExtends x (take (suc k) xs)
each-more x [] k v w each here next ext = cc
each-more x (y ∷ ys) zero v w each here next ext =
    let first : v ≡ x = cc in
    let second : w ≡ y = cc in
    (subst (λ u. Extends x u) second (subst (λ u. Extends u w) first ext), tt)
each-more x (y ∷ ys) (suc k) v w each here next ext = (each.0, each-more y ys k v w each.1 here next ext)

chain-more : (vs : List VersionData) (k : ℕ) (v w : VersionData) → IsChain (take (suc k) vs) → slice_get vs k ≡ Some v → slice_get vs (suc k) ≡ Some w → Extends v w → IsChain (take (suc (suc k)) vs)
chain-more [] k v w chain here next ext = cc
chain-more (x ∷ xs) k v w chain here next ext = each-more x xs k v w chain here next ext

sound-more : (vs : List VersionData) (k : ℕ) (w : VersionData) → All IsSound (take k vs) → slice_get vs k ≡ Some w → IsSound w → All IsSound (take (suc k) vs)
sound-more [] k w each here sound = cc
sound-more (x ∷ xs) zero w each here sound = let same : w ≡ x = cc in All-cons IsSound x [] (subst IsSound same sound) (All-nil IsSound)
sound-more (x ∷ xs) (suc k) w each here sound = All-cons IsSound x (take (suc k) xs) (each 0 x (omega arith)) (sound-more xs k w (later x (take k xs) each) here sound)

pub more-chain : (vs : List VersionData) (at : ℕ) (v w : VersionData) → 1 ≤ at → IsSoundChain (take at vs) → slice_get vs (at - 1) ≡ Some v → slice_get vs at ≡ Some w → IsSound w → Extends v w → IsSoundChain (take (at + 1) vs)
more-chain vs zero v w le is here next sound ext = absurd (omega arith)
more-chain vs (suc k) v w le is here next sound ext =
    let before : suc k - 1 ≡ k = omega arith in
    let after : suc (suc k) ≡ suc k + 1 = omega arith in
    subst (λ n. IsSoundChain (take n vs)) after
    (record {
      chain = chain-more vs k v w is.chain (sym (ap (slice_get vs) before) ∙ here) next ext;
      sound = sound-more vs (suc k) w is.sound next sound;
    })

-- a chain has no place that breaks it
pub broken-refutes : (vs : List VersionData) (at : ℕ) (brk : Break) → IsFirstBroken vs at brk → IsChain vs → ⊥
broken-refutes vs at brk is chain =
    first-refutes is.old is.new brk is.first
    (chain-extends vs (at - 1) at is.old is.new chain (omega arith) is.before is.here)

length-mapped : {A : Type 0} (f : A → VersionData) (xs : List A) → length (map f xs) ≡ length xs
length-mapped f [] = refl
length-mapped f (x ∷ xs) = ap suc (length-mapped f xs)

pub mapped-length : {A : Type 0} (f : A → VersionData) (xs : List A) (vs : List VersionData) → map f xs ≡ vs → length xs ≡ length vs
mapped-length f xs vs e = sym (length-mapped f xs) ∙ ap length e

-- the table at a place of a chain
pub table-stands : {A : Type 0} (f : A → VersionData) (xs : List A) (vs : List VersionData) (i : ℕ) (x : A) → map f xs ≡ vs → IsSoundChain (map f xs) → i < length xs → x ≡ get_or xs i x → StandsAt vs i (f x)
table-stands f xs vs i x e is lt h = subst (λ l. StandsAt l i (f x)) e (StandsAt-from (map f xs) i (f x) is (get-map f xs i x lt h))

-- the last table of a chain
pub last-stands : {A : Type 0} (f : A → VersionData) (xs : List A) (vs : List VersionData) (x : A) → map f xs ≡ vs → IsSoundChain (map f xs) → x ≡ get_or xs (length xs - 1) x → StandsAt vs (length vs - 1) (f x)
last-stands f xs vs x e is h =
    let some = chain-some (map f xs) is.chain in
    let same = length-mapped f xs in
    subst (λ n. StandsAt vs (n - 1) (f x)) (mapped-length f xs vs e)
    (table-stands f xs vs (length xs - 1) x e is (omega arith) h)
