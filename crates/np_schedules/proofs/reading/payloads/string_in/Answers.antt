use Rattle.std.proofs.Common.{cond, Some, None, ap, ◌∙◌, rules}
use Rattle.np_code_points.specs.inside.WordValues.{scalars_of}
use Rattle.np_schedules.specs.inside.LineValues.{up_to_slash}
use Rattle.np_schedules.proofs.PayloadLemmas.{lacks_by, scalars_none, scalars_parted, scalars_whole}
use Rattle.np_schedules.proofs.reading.payloads.string_in.Goals as goal

pub returns-in_err-part-clause-refused : goal.returns-in_err-part-clause-refused
returns-in_err-part-clause-refused c =
    lacks_by c.from_residual.result (scalars_of (up_to_slash c.args.words)) (scalars_of c.args.words) (scalars_none c.args.words) (search rules)

pub returns-then-part-clause-refused : goal.returns-then-part-clause-refused
returns-then-part-clause-refused c =
    scalars_parted c.args.words c.part_in.new.words (c.in_ok-part.ensures.rest ∙ ap (λ t. cond t (Some c.part_in.new.words) None) c.if-part.true)

pub returns-clause-codes : goal.returns-clause-codes
returns-clause-codes c =
    scalars_whole c.args.words (c.in_ok-part.ensures.rest ∙ ap (λ t. cond t (Some c.part_in.new.words) None) c.if-part.false)
    ∙ c.in_ok-part.ensures.codes
