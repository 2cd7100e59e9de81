-- Lists that are written piece by piece.
use Rattle.std.proofs.Common.{◌≡◌, ℕ, ◌+◌, ◌<◌, true, false, List, [], ◌∷◌, ◌++◌, length, map, flat_map, take, inl, inr, Some, None, slice_get, refl, sym, ap, ◌∙◌, arith, append_assoc, codes}
use Rattle.std.specs.List.{enumerate_from}
use Rattle.std.specs.Option.{option_map}
use Rattle.std.proofs.lemmas.List.{take_more, flat_map_more, length-take-le}
use Rattle.std.proofs.lemmas.Bool.{false≢true, true≢false}
use Rattle.std.proofs.lemmas.Option.{get_or_from_slice_get, none-some, slice_get-map, slice_get_cases, slice_get_within}
use Rattle.np_code_points.specs.Codes.{code_digits}
use Rattle.np_code_points.proofs.Bytes.{behind}
use Rattle.np_world.specs.ReportTexts.{codes_text}
use Rattle.np_world.specs.inside.ReportWriting.{gap, is_nothing, joined_codes, numbered_lines}

-- ---- codes

pub joined_more : (cs : List ℕ) (c : ℕ) → joined_codes (cs ++ c ∷ []) ≡ joined_codes cs ++ (gap (is_nothing cs) ++ code_digits c)
joined_more [] c = refl
joined_more (a ∷ []) c = refl
joined_more (a ∷ b ∷ cs) c =
    ap (λ rest. code_digits a ++ (32 ∷ rest)) (joined_more (b ∷ cs) c)
    ∙ sym (append_assoc (code_digits a) (32 ∷ joined_codes (b ∷ cs)) (32 ∷ code_digits c))

pub more_is_something : (cs : List ℕ) (c : ℕ) → is_nothing (cs ++ c ∷ []) ≡ false
more_is_something [] c = refl
more_is_something (a ∷ cs) c = refl

-- what is written of code points, and whether that is nothing
pub codes_end : (cs : List ℕ) → is_nothing cs ≡ true → joined_codes cs ++ codes "-" ≡ codes_text cs
codes_end [] h = refl
codes_end (c ∷ cs) h = absurd (false≢true h)

pub codes_whole : (cs : List ℕ) → is_nothing cs ≡ false → joined_codes cs ≡ codes_text cs
codes_whole [] h = absurd (true≢false h)
codes_whole (c ∷ cs) h = refl

-- ---- numbered lines

pub enumerate_more : {A : Type 0} (n : ℕ) (xs : List A) (x : A) → enumerate_from n (xs ++ x ∷ []) ≡ enumerate_from n xs ++ (n + length xs, x) ∷ []
enumerate_more n [] x = ap (λ k. (k, x) ∷ []) (omega arith)
enumerate_more n (a ∷ xs) x =
    ap (λ rest. (n, a) ∷ rest) (enumerate_more (n + 1) xs x ∙ ap (λ k. enumerate_from (n + 1) xs ++ (k, x) ∷ []) (omega arith))

pub numbered_behind : {A : Type 0} (line : ℕ → A → List ℕ) (xs : List A) (x : A) → numbered_lines line (xs ++ x ∷ []) ≡ numbered_lines line xs ++ line (length xs) x
numbered_behind line xs x =
    ap (flat_map (λ p. line p.0 p.1)) (enumerate_more 0 xs x)
    ∙ sym (flat_map_more (λ p. line p.0 p.1) [] (enumerate_from 0 xs) (0 + length xs, x))
    ∙ ap (λ k. numbered_lines line xs ++ line k x) (omega arith)

pub numbered_more : {A : Type 0} (line : ℕ → A → List ℕ) (xs : List A) (k : ℕ) (x : A) → slice_get xs k ≡ Some x
    → numbered_lines line (take (k + 1) xs) ≡ numbered_lines line (take k xs) ++ line k x
numbered_more line xs k x here =
    let below = slice_get_within xs k x here in
    ap (numbered_lines line) (take_more xs k x below ∙ ap (λ y. take k xs ++ y ∷ []) (get_or_from_slice_get xs k x x here))
    ∙ numbered_behind line (take k xs) x
    ∙ ap (λ n. numbered_lines line (take k xs) ++ line n x) (length-take-le k xs (omega (arith, below)))

-- ---- lines of a list that is read by its places

pub lines_more : {A : Type 0} (line : A → List ℕ) (xs : List A) (k : ℕ) (x : A) → slice_get xs k ≡ Some x
    → flat_map line (take (k + 1) xs) ≡ flat_map line (take k xs) ++ line x
lines_more line xs k x here =
    ap (flat_map line) (take_more xs k x (slice_get_within xs k x here) ∙ ap (λ y. take k xs ++ y ∷ []) (get_or_from_slice_get xs k x x here))
    ∙ sym (flat_map_more line [] (take k xs) x)

-- a line more, where a list is read by its places
pub written_more : {A : Type 0} {out new : List ℕ} (old : List ℕ) (line : A → List ℕ) (xs : List A) (k : ℕ) (x : A) → slice_get xs k ≡ Some x
    → out ≡ old ++ flat_map line (take k xs) → new ≡ out ++ line x → new ≡ old ++ flat_map line (take (k + 1) xs)
written_more old line xs k x here before now = behind old _ _ before now ∙ ap (λ l. old ++ l) (sym (lines_more line xs k x here))

pub numbered_written_more : {A : Type 0} {out new : List ℕ} (old : List ℕ) (line : ℕ → A → List ℕ) (xs : List A) (k : ℕ) (x : A) → slice_get xs k ≡ Some x
    → out ≡ old ++ numbered_lines line (take k xs) → new ≡ out ++ line k x → new ≡ old ++ numbered_lines line (take (k + 1) xs)
numbered_written_more old line xs k x here before now = behind old _ _ before now ∙ ap (λ l. old ++ l) (sym (numbered_more line xs k x here))

pub nothing_there : {A : Type 0} (xs : List A) (k n : ℕ) → n ≡ length xs → k < n → slice_get xs k ≡ None → ⊥
nothing_there xs k n e h none = elim (slice_get_cases xs k).1 [
  | inl there ↦ none-some _ (sym none ∙ there.2)
  | inr past ↦ omega (arith, past.0, e, h)
]

pub mapped_there : {A B : Type 0} (f : A → B) (xs : List A) (k : ℕ) (x : A) → slice_get xs k ≡ Some x → slice_get (map f xs) k ≡ Some (f x)
mapped_there f xs k x here = slice_get-map f xs k ∙ ap (option_map f) here
