-- Each case of the machine has one answer.
use Rattle.std.proofs.Common.{◌≡◌, ℕ, ◌≤◌, List, [], ◌∷◌, ◌++◌, Bool, true, false, length, Option, Some, None, refl, sym, ap, ◌∙◌, inl, inr}
use Rattle.std.proofs.lemmas.Bool.{both_ways, and_parts}
use Rattle.std.specs.List.{Contains, list_all}
use Rattle.std.specs.Prelude.{MatchOption, encode_utf8_all}
use Rattle.np_forms.specs.Assigned.{IsAssigned}
use Rattle.np_versions.specs.Versions.{VersionData, is_assigned}
use Rattle.np_world.specs.World.{Setting, Scene, If, NamesUnassigned, Finds, Comes}
use Rattle.np_world.specs.declared.replies.Reply.{Reply}
use Rattle.np_world.specs.declared.replies.Reply.TheVariants.{Unassigned}

-- ---- the first unassigned place

record SameHeads (first second : List ℕ) (a b : ℕ) : Type 0 where
  fronts : first ≡ second
  heads : a ≡ b

-- lists that are one, parted at the first code point that a test refuses
same_heads : (p : ℕ → Bool) (first second later rest : List ℕ) (a b : ℕ) → first ++ a ∷ later ≡ second ++ b ∷ rest
    → list_all p first ≡ true → list_all p second ≡ true → p a ≡ false → p b ≡ false → SameHeads first second a b
same_heads p [] [] later rest a b same one other lacks misses = record { fronts = refl; heads = cc }
same_heads p [] (y ∷ ys) later rest a b same one other lacks misses =
    let head : a ≡ y = cc in absurd (both_ways _ lacks (ap p head ∙ (and_parts _ _ other).0))
same_heads p (x ∷ xs) [] later rest a b same one other lacks misses =
    let head : x ≡ b = cc in absurd (both_ways _ misses (sym (ap p head) ∙ (and_parts _ _ one).0))
same_heads p (x ∷ xs) (y ∷ ys) later rest a b same one other lacks misses =
    let head : x ≡ y = cc in
    let tail : xs ++ a ∷ later ≡ ys ++ b ∷ rest = cc in
    let more = same_heads p xs ys later rest a b tail (and_parts _ _ one).1 (and_parts _ _ other).1 lacks misses in
    record { fronts = ap (λ z. z ∷ xs) head ∙ ap (λ l. y ∷ l) more.fronts; heads = more.heads }

pub one_name : (v : VersionData) (s : List ℕ) (reply other : Reply) → NamesUnassigned v s reply → NamesUnassigned v s other → reply ≡ other
one_name v s reply other one two =
    let same = same_heads (is_assigned v) one.2.before two.2.before one.2.after two.2.after one.1 two.1 (sym one.2.split ∙ two.2.split) one.2.assigned two.2.assigned one.2.lacks two.2.lacks in
    let place : one.0 ≡ two.0 = one.2.place ∙ ap (λ l. length (encode_utf8_all l)) same.fronts ∙ sym two.2.place in
    one.3 ∙ ap (λ at. Unassigned at one.1) place ∙ ap (Unassigned two.0) same.heads ∙ sym two.3

-- ---- one case of the machine at a time

-- two answers of which each is known to be the same
pub both : {A : Type 0} (x y told : A) → x ≡ told → y ≡ told → x ≡ y
both x y told one two = one ∙ sym two

pub one_if : (C F S G T R : Type 0) → (F → G → R) → (S → T → R) → If C F S → If C G T → R
one_if C F S G T R first second (inl a) (inl b) = first a.1 b.1
one_if C F S G T R first second (inl a) (inr b) = absurd (b.0 a.0)
one_if C F S G T R first second (inr a) (inl b) = absurd (a.0 b.0)
one_if C F S G T R first second (inr a) (inr b) = second a.1 b.1

pub one_match : {A : Type 0} (o : Option A) (F G R : Type 0) (S T : A → Type 0) → (F → G → R) → ((x : A) → S x → T x → R) → MatchOption o F S → MatchOption o G T → R
one_match None F G R S T first second a b = first a b
one_match (Some x) F G R S T first second a b = second x a b

-- two replies and what they leave are the same
abbrev pub Same : Reply → Reply → Scene → Scene → Type 0
Same reply other after next = (reply ≡ other) × (after ≡ next)

pub same_as : (reply other told : Reply) (after next left : Scene) → (reply ≡ told) × (after ≡ left) → (other ≡ told) × (next ≡ left) → Same reply other after next
same_as reply other told after next left one two = (both reply other told one.0 two.0, both after next left one.1 two.1)

module _ (setting : Setting) (v : VersionData) (before : Scene) (reply other : Reply) (after next : Scene) where
  pub one_finding : (s : List ℕ) (told : Reply) (left : Scene) → Finds setting s told left before reply after → Finds setting s told left before other next → Same reply other after next
  one_finding s told left one two =
      one_if (Contains before.node.strings s) _ _ _ _ (Same reply other after next) (same_as reply other _ after next before)
      (λ a b. one_if (setting.room ≤ length before.node.strings) _ _ _ _ (Same reply other after next) (same_as reply other _ after next before) (same_as reply other told after next left) a b) one two

  pub one_coming : (s : List ℕ) (told : Reply) (left : Scene) → Comes setting v s told left before reply after → Comes setting v s told left before other next → Same reply other after next
  one_coming s told left one two =
      one_if (¬ (IsAssigned v s)) _ _ _ _ (Same reply other after next)
      (λ a b. (one_name v s reply other a.0 b.0, both after next before a.1 b.1))
      (λ a b. one_finding s told left a b) one two
