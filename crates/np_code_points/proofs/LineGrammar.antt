-- The lines and the returns meet the grammar, and nothing else does.
use Rattle.std.proofs.Common.{◌≡◌, ◌≢◌, ℕ, zero, suc, ◌≤◌, Bool, true, false, cond, eqb, List, [], ◌∷◌, ◌++◌, length, Option, Some, None, refl, sym, ap, subst, ◌∙◌, inl, inr, ⊎_elim, arith}
use Rattle.std.proofs.lemmas.Bool.{eqb-true, eqb-false, eq-eqb, ne_eqb}
use Rattle.std.proofs.lemmas.List.Elements.{All-nil, All-cons, All-head, All-tail}
use Rattle.np_code_points.specs.Lines.{HasNo, AreLines, DropsReturn}
use Rattle.np_code_points.specs.inside.LineCuts.{is_byte, before_byte, after_byte, lines_of, without_return}
use Rattle.np_code_points.proofs.LineLemmas.{lines_cut, lines_lone, length-after_first}

-- What stands before the first such byte, and behind it.
abbrev pub not_byte : ℕ → ℕ → Type 0
not_byte byte b = b ≢ byte

free_step : (t : Bool) (b x : ℕ) (before : List ℕ) → eqb x b ≡ t → HasNo b before → HasNo b (cond t [] (x ∷ before))
free_step true b x before e h = All-nil (not_byte b)
free_step false b x before e h = All-cons (not_byte b) x before (eqb-false x b e) h

pub before_free : (b : ℕ) (xs : List ℕ) → HasNo b (before_byte b xs)
before_free b [] = All-nil (not_byte b)
before_free b (x ∷ xs) = free_step (eqb x b) b x (before_byte b xs) refl (before_free b xs)

some_step : (t : Bool) (b x : ℕ) (xs rest before : List ℕ) (after : Option (List ℕ)) → eqb x b ≡ t → (after ≡ Some rest → xs ≡ before ++ b ∷ rest) → cond t (Some xs) after ≡ Some rest → x ∷ xs ≡ cond t [] (x ∷ before) ++ b ∷ rest
some_step true b x xs rest before after e ih h = let same : x ≡ b = eqb-true x b e in let tail : xs ≡ rest = cc in cc
some_step false b x xs rest before after e ih h = ap (λ r. x ∷ r) (ih h)

pub joined_some : (b : ℕ) (xs rest : List ℕ) → after_byte b xs ≡ Some rest → xs ≡ before_byte b xs ++ b ∷ rest
joined_some b [] rest h = absurd (cc)
joined_some b (x ∷ xs) rest h = some_step (eqb x b) b x xs rest (before_byte b xs) (after_byte b xs) refl (joined_some b xs rest) h

none_step : (t : Bool) (x : ℕ) (xs before : List ℕ) (after : Option (List ℕ)) → (after ≡ None → xs ≡ before) → cond t (Some xs) after ≡ None → x ∷ xs ≡ cond t [] (x ∷ before)
none_step true x xs before after ih h = absurd (cc)
none_step false x xs before after ih h = ap (λ r. x ∷ r) (ih h)

pub joined_none : (b : ℕ) (xs : List ℕ) → after_byte b xs ≡ None → xs ≡ before_byte b xs
joined_none b [] h = refl
joined_none b (x ∷ xs) h = none_step (eqb x b) x xs (before_byte b xs) (after_byte b xs) (joined_none b xs) h

-- a front without the byte is what stands before it
before_here : (t : Bool) (rest : List ℕ) (b : ℕ) → t ≡ true → cond t [] (b ∷ before_byte b rest) ≡ []
before_here t rest b e = ap (λ t. cond t [] (b ∷ before_byte b rest)) e

pub before_at : (b : ℕ) (front rest : List ℕ) → HasNo b front → before_byte b (front ++ b ∷ rest) ≡ front
before_at b [] rest h = before_here (eqb b b) rest b (eq-eqb b b refl)
before_at b (x ∷ xs) rest h =
    ap (λ t. cond t [] (x ∷ before_byte b (xs ++ b ∷ rest))) (ne_eqb x b (All-head (not_byte b) x xs h))
    ∙ ap (λ r. x ∷ r) (before_at b xs rest (All-tail (not_byte b) x xs h))

pub after_at : (b : ℕ) (front rest : List ℕ) → HasNo b front → after_byte b (front ++ b ∷ rest) ≡ Some rest
after_at b [] rest h = ap (λ t. cond t (Some rest) (after_byte b rest)) (eq-eqb b b refl)
after_at b (x ∷ xs) rest h =
    ap (λ t. cond t (Some (xs ++ b ∷ rest)) (after_byte b (xs ++ b ∷ rest))) (ne_eqb x b (All-head (not_byte b) x xs h))
    ∙ after_at b xs rest (All-tail (not_byte b) x xs h)

pub after_none : (b : ℕ) (xs : List ℕ) → HasNo b xs → after_byte b xs ≡ None
after_none b [] h = refl
after_none b (x ∷ xs) h =
    ap (λ t. cond t (Some xs) (after_byte b xs)) (ne_eqb x b (All-head (not_byte b) x xs h))
    ∙ after_none b xs (All-tail (not_byte b) x xs h)

-- The lines.
pub no_lines : lines_of [] ≡ []
unfolding lines_of
no_lines = refl

some_lines : (n : ℕ) (xs : List ℕ) (o : Option (List ℕ)) → length xs ≤ suc n → (xs ≢ []) → after_byte 10 xs ≡ o → ((ys : List ℕ) → length ys ≤ n → AreLines ys (lines_of ys)) → AreLines xs (lines_of xs)
some_lines n xs (Some rest) l ne h ih =
    subst (AreLines xs) (sym (lines_cut xs rest ne h))
    (before_free 10 xs, inl (rest, joined_some 10 xs rest h, ih rest (omega (arith, length-after_first (is_byte 10) xs rest h))))
some_lines n xs None l ne h ih =
    let whole = joined_none 10 xs h in
    subst (AreLines xs) (sym (lines_lone xs ne h)) (before_free 10 xs, inr (whole, (λ e. ne (whole ∙ e)), no_lines))

lines_within : (n : ℕ) (xs : List ℕ) → length xs ≤ n → AreLines xs (lines_of xs)
lines_within n [] l = subst (AreLines []) (sym no_lines) refl
lines_within zero (x ∷ xs) l = absurd (omega arith)
lines_within (suc n) (x ∷ xs) l = some_lines n (x ∷ xs) (after_byte 10 (x ∷ xs)) l (λ e. absurd (cc)) refl (lines_within n)

pub ended_filled : (xs : List ℕ) (b : ℕ) (rest : List ℕ) → xs ++ b ∷ rest ≢ []
ended_filled [] b rest e = absurd (cc)
ended_filled (x ∷ xs) b rest e = absurd (cc)

lines_ended : (line rest : List ℕ) → HasNo 10 line → lines_of (line ++ 10 ∷ rest) ≡ line ∷ lines_of rest
lines_ended line rest h =
    lines_cut (line ++ 10 ∷ rest) rest (ended_filled line 10 rest) (after_at 10 line rest h)
    ∙ ap (λ front. front ∷ lines_of rest) (before_at 10 line rest h)

lines_last : (line : List ℕ) → HasNo 10 line → (line ≢ []) → lines_of line ≡ line ∷ []
lines_last line h ne =
    let none = after_none 10 line h in
    lines_lone line ne none ∙ ap (λ ls. before_byte 10 line ∷ ls) no_lines ∙ ap (λ front. front ∷ []) (sym (joined_none 10 line none))

pub only_lines : (bytes : List ℕ) (lines : List (List ℕ)) → AreLines bytes lines → lines ≡ lines_of bytes
only_lines bytes [] h = sym (ap lines_of h ∙ no_lines)
only_lines bytes (line ∷ lines) h =
    ⊎_elim
    (λ more. ap (λ ls. line ∷ ls) (only_lines more.0 lines more.2) ∙ sym (lines_ended line more.0 h.0) ∙ ap lines_of (sym more.1))
    (λ last. ap (λ ls. line ∷ ls) last.2 ∙ sym (lines_last line h.0 last.1) ∙ ap lines_of (sym last.0))
    h.1

pub are_lines : (bytes : List ℕ) → AreLines bytes (lines_of bytes)
are_lines bytes = lines_within (length bytes) bytes (omega arith)

-- The return at the end of a line.
return_dropped : (text : List ℕ) → without_return (text ++ 13 ∷ []) ≡ text
return_dropped [] = refl
return_dropped (x ∷ []) = refl
return_dropped (x ∷ y ∷ ys) = ap (λ r. x ∷ r) (return_dropped (y ∷ ys))

ends_not : (text : List ℕ) → ((front : List ℕ) → text ≢ front ++ 13 ∷ []) → without_return text ≡ text
ends_not [] h = refl
ends_not (x ∷ []) h = ap (λ t. cond t [] (x ∷ [])) (ne_eqb x 13 (λ e. h [] (ap (λ z. z ∷ []) e)))
ends_not (x ∷ y ∷ ys) h = ap (λ r. x ∷ r) (ends_not (y ∷ ys) (λ front e. h (x ∷ front) (ap (λ r. x ∷ r) e)))

pub only_text : (line text : List ℕ) → DropsReturn line text → text ≡ without_return line
only_text line text h =
    ⊎_elim (λ e. sym (return_dropped text) ∙ ap without_return (sym e)) (λ w. sym (ends_not text w.1) ∙ ap without_return (sym w.0)) h

one_not : (x : ℕ) → (x ≢ 13) → (front : List ℕ) → x ∷ [] ≢ front ++ 13 ∷ []
one_not x ne [] e = let same : x ≡ 13 = cc in ne same
one_not x ne (f ∷ front) e = let rest : front ++ 13 ∷ [] ≡ [] = cc in ended_filled front 13 [] rest

last_step : (t : Bool) (x : ℕ) → eqb x 13 ≡ t → DropsReturn (x ∷ []) (cond t [] (x ∷ []))
last_step true x e = inl (ap (λ z. z ∷ []) (eqb-true x 13 e))
last_step false x e = inr (refl, one_not x (eqb-false x 13 e))

more_not : (x : ℕ) (text : List ℕ) → (text ≢ []) → ((front : List ℕ) → text ≢ front ++ 13 ∷ []) → (front : List ℕ) → x ∷ text ≢ front ++ 13 ∷ []
more_not x text filled h [] e = let none : text ≡ [] = cc in filled none
more_not x text filled h (f ∷ front) e = let rest : text ≡ front ++ 13 ∷ [] = cc in h front rest

longer : (x y : ℕ) (ys text : List ℕ) → DropsReturn (y ∷ ys) text → DropsReturn (x ∷ y ∷ ys) (x ∷ text)
longer x y ys text h =
    ⊎_elim (λ e. inl (ap (λ r. x ∷ r) e))
    (λ w. inr (ap (λ r. x ∷ r) w.0, more_not x text (λ none. let e = w.0 in absurd (cc)) w.1)) h

pub drops_return : (line : List ℕ) → DropsReturn line (without_return line)
drops_return [] = inr (refl, λ front e. ended_filled front 13 [] (sym e))
drops_return (x ∷ []) = last_step (eqb x 13) x refl
drops_return (x ∷ y ∷ ys) = longer x y ys (without_return (y ∷ ys)) (drops_return (y ∷ ys))
