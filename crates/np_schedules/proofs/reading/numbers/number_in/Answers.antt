use Rattle.std.proofs.Common.{sym, ◌∙◌, subst, List, ℕ}
use Rattle.std.specs.Str.Parse.{ParsesUnsigned}
use Rattle.np_schedules.proofs.NumberLemmas.{number_empty, number_long, number_plus, number_no_text, number_parsed}
use Rattle.np_schedules.proofs.reading.numbers.number_in.Goals as goal
use Rattle.np_schedules.proofs.reading.numbers.number_in.Goals.{then-is_empty-via-then-is_empty, then-is_empty-via-else-is_empty+then-word-gt-MOST_DIGITS, then-is_empty-via-else-is_empty+else-word-gt-MOST_DIGITS+then-word-eq-PLUS}

pub returns-then-is_empty : goal.returns-then-is_empty
returns-then-is_empty c = elim c.then-is_empty.branch [
  | then-is_empty-via-then-is_empty w ↦ sym (number_empty c.args.word.now (sym c.is_empty.ensures ∙ w.if-is_empty.true))
  | then-is_empty-via-else-is_empty+then-word-gt-MOST_DIGITS w ↦ sym (number_long c.args.word.now w.if-word-gt-MOST_DIGITS.true)
  | then-is_empty-via-else-is_empty+else-word-gt-MOST_DIGITS+then-word-eq-PLUS w ↦ sym (number_plus c.args.word.now (sym c.is_empty.ensures ∙ w.if-is_empty.false) w.if-word-eq-PLUS.true)
]

pub returns-in-Ok : goal.returns-in-Ok
returns-in-Ok c =
    c.ok.ensures.value
    ∙ number_parsed c.args.word.now c.parse.result (sym c.is_empty.ensures ∙ c.if-is_empty.false) c.if-word-gt-MOST_DIGITS.false c.if-word-eq-PLUS.false
    (subst (λ (bytes : List ℕ). ParsesUnsigned 32 10 bytes c.parse.result) c.in-Ok.ensures.cases.0 c.parse.ensures.value.0)

pub returns-in-Err : goal.returns-in-Err
returns-in-Err c = sym (number_no_text c.args.word.now c.in-Err.ensures.cases.0)
