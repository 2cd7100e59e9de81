use Rattle.std.proofs.Common.{get_or, refl, ◌∙◌, arith}
use Rattle.np_code_points.specs.declared.codes.TheConstants.{HEX_VALUES}
use Rattle.np_code_points.proofs.HexLemmas.{value_is, below_16, above_15}
use Rattle.np_code_points.proofs.codes.hex_value.Goals as goal

pub returns-then-value-lt16 : goal.returns-then-value-lt16
returns-then-value-lt16 c =
    let here = below_16 c.args.byte (get_or HEX_VALUES c.from.result 0) (value_is c.args.byte c.from.result (get_or HEX_VALUES c.from.result 0) c.ranges.byte c.from.ensures refl) c.if-value-lt16.true in
    (here.0, c.from-then-value-lt16.ensures ∙ here.1)

pub returns-else-value-lt16 : goal.returns-else-value-lt16
returns-else-value-lt16 c =
    above_15 c.args.byte (get_or HEX_VALUES c.from.result 0) (value_is c.args.byte c.from.result (get_or HEX_VALUES c.from.result 0) c.ranges.byte c.from.ensures refl) (omega (arith, c.if-value-lt16.false))
