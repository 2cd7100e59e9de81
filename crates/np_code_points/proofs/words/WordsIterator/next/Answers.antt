use Rattle.std.proofs.Common.{◌≡◌, ℕ, ◌∷◌, List, Bool, eqb, length, false, ap, sym, ◌∙◌, rules}
use Rattle.np_code_points.specs.inside.LineCuts.{before_first, after_first}
use Rattle.np_code_points.specs.inside.WordCuts.{after_all, divides, words_by, or_nothing}
use Rattle.np_code_points.proofs.WordLemmas.{word_some, words_none}
use Rattle.np_code_points.proofs.words.WordsIterator.next.Goals as goal

pub returns-then-is_empty-clause-steps : goal.returns-then-is_empty-clause-steps
returns-then-is_empty-clause-steps c =
    let none = sym c.self.view_is
    ∙ words_none (divides c.self.inside.dividers) c.self.inside.rest.now c.after_dividers-text.result.now c.after_dividers-text.ensures (sym c.is_empty.ensures ∙ c.if-is_empty.true) in
    (none, none)

taken : (p : ℕ → Bool) (words : List (List ℕ)) (rest text word behind : List ℕ) → words_by p rest ≡ words → text ≡ after_all p rest → eqb (length text) 0 ≡ false → word ≡ before_first p text → behind ≡ or_nothing (after_first p text) → words ≡ word ∷ words_by p behind
taken p words rest text word behind view front filled is after =
    sym view ∙ word_some p rest text front filled ∙ ap (λ w. w ∷ words_by p (or_nothing (after_first p text))) (sym is) ∙ ap (λ r. word ∷ words_by p r) (sym after)

pub returns-clause-steps : goal.returns-clause-steps
returns-clause-steps c =
    taken (divides c.self.inside.dividers) c.args.self.now c.self.inside.rest.now c.after_dividers-text.result.now c.cut_word.result.0.now c.cut_word.result.1.now
    c.self.view_is c.after_dividers-text.ensures (sym c.is_empty.ensures ∙ c.if-is_empty.false) c.cut_word.ensures.word c.cut_word.ensures.rest

pub returns-clause-goes : goal.returns-clause-goes
returns-clause-goes c =
    let shorter = ap length (taken (divides c.self.inside.dividers) c.args.self.now c.self.inside.rest.now c.after_dividers-text.result.now c.cut_word.result.0.now c.cut_word.result.1.now
    c.self.view_is c.after_dividers-text.ensures (sym c.is_empty.ensures ∙ c.if-is_empty.false) c.cut_word.ensures.word c.cut_word.ensures.rest) in
    search rules
