use Rattle.std.proofs.Common.{cond, chars, string_bytes, Some, None, ap, ◌∙◌, rules}
use Rattle.np_code_points.specs.inside.WordValues.{scalars_of}
use Rattle.np_schedules.specs.inside.LineValues.{up_to_slash, halves_value}
use Rattle.np_schedules.proofs.PayloadLemmas.{lacks_by, not_true_false, not_false_true, halves_left, halves_alone, halves_right, halves_both}
use Rattle.np_schedules.proofs.reading.payloads.halves_in.Goals as goal

pub returns-in_err-left-clause-refused : goal.returns-in_err-left-clause-refused
returns-in_err-left-clause-refused c =
    lacks_by c.from_residual.result (scalars_of (up_to_slash c.args.words)) (halves_value c.args.words) (halves_left c.args.words) (search rules)

pub returns-then-not-left-clause-refused : goal.returns-then-not-left-clause-refused
returns-then-not-left-clause-refused c =
    let alone = not_true_false c.in_ok-left.left.at_slash c.if-not-left.true in
    halves_alone c.args.words (c.in_ok-left.ensures.rest ∙ ap (λ t. cond t (Some c.part_in.new.words) None) alone)

pub returns-in_err-right-clause-refused : goal.returns-in_err-right-clause-refused
returns-in_err-right-clause-refused c =
    let rest = c.part_in.new.words in
    let parted = c.in_ok-left.ensures.rest ∙ ap (λ t. cond t (Some rest) None) (not_false_true c.in_ok-left.left.at_slash c.if-not-left.false) in
    lacks_by c.from_residual-in_err-right.result (scalars_of rest) (halves_value c.args.words) (halves_right c.args.words rest parted) (search rules)

pub returns-clause-codes : goal.returns-clause-codes
returns-clause-codes c =
    let rest = c.part_in.new.words in
    let parted = c.in_ok-left.ensures.rest ∙ ap (λ t. cond t (Some rest) None) (not_false_true c.in_ok-left.left.at_slash c.if-not-left.false) in
    halves_both c.args.words rest (chars (string_bytes c.in_ok-left.left.string)) (chars (string_bytes c.in_ok-right.right))
    c.in_ok-left.ensures.codes parted c.in_ok-right.ensures.codes
