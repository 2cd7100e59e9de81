use Rattle.std.proofs.Common.{◌≡◌, ℕ, ◌-◌, ◌≤◌, ◌++◌, Bool, true, false, eqb, get_or, List, [], ◌∷◌, length, refl, sym, ap, ◌∙◌, arith}
use Rattle.std.specs.Prelude.{codes}
use Rattle.std.proofs.lemmas.Bool.{false≢true, eq-eqb}
use Rattle.std.proofs.lemmas.List.{append_assoc, get_or_push, length_push}
use Rattle.np_ucd.proofs.FieldGrammar.{opens_is, closes_is}
use Rattle.np_ucd.specs.inside.FieldReading.{opens_range, closes_range}
use Rattle.np_ucd.proofs.fields.is_bracketed.Goals as goal

last_is : (name front tail : List ℕ) → name ≡ front ++ (tail ++ 62 ∷ []) → get_or name (length name - 1) 0 ≡ 62
last_is name front tail is =
    let pushed : name ≡ (front ++ tail) ++ 62 ∷ [] = is ∙ sym (append_assoc front tail (62 ∷ [])) in
    ap (λ xs. get_or xs (length xs - 1) 0) pushed
    ∙ get_or_push (front ++ tail) 62 0 (length ((front ++ tail) ++ 62 ∷ []) - 1) (omega (arith, length_push (front ++ tail) 62))

-- a name that ends so has its last byte
not_so : (name tail : List ℕ) (so : Bool) → (so ≡ true → (front : List ℕ) × (name ≡ front ++ (tail ++ 62 ∷ []))) → eqb (get_or name (length name - 1) 0) 62 ≡ false → so ≡ false
not_so name tail false said other = refl
not_so name tail true said other =
    let is = said refl in absurd (false≢true (sym other ∙ eq-eqb (get_or name (length name - 1) 0) 62 (last_is name is.0 tail is.1)))

last_of_none : (name : List ℕ) → length name ≤ 0 → eqb (get_or name (length name - 1) 0) 62 ≡ false
last_of_none [] h = refl
last_of_none (b ∷ bs) h = absurd (omega arith)

not_opening : (name : List ℕ) → eqb (get_or name (length name - 1) 0) 62 ≡ false → opens_range name ≡ false
not_opening name = not_so name (codes ", First") (opens_range name) ((opens_is name).0)

not_closing : (name : List ℕ) → eqb (get_or name (length name - 1) 0) 62 ≡ false → closes_range name ≡ false
not_closing name = not_so name (codes ", Last") (closes_range name) ((closes_is name).0)

pub returns-then-name-gt0-clause-opening : goal.returns-then-name-gt0-clause-opening
returns-then-name-gt0-clause-opening c = not_opening c.args.name.now

pub returns-then-name-gt0-clause-closing : goal.returns-then-name-gt0-clause-closing
returns-then-name-gt0-clause-closing c = not_closing c.args.name.now

pub returns-else-name-gt0-clause-opening : goal.returns-else-name-gt0-clause-opening
returns-else-name-gt0-clause-opening c = λ _. not_opening c.args.name.now (last_of_none c.args.name.now (omega (arith, c.if-name-gt0.false)))

pub returns-else-name-gt0-clause-closing : goal.returns-else-name-gt0-clause-closing
returns-else-name-gt0-clause-closing c = λ _. not_closing c.args.name.now (last_of_none c.args.name.now (omega (arith, c.if-name-gt0.false)))
