use Rattle.np_c.proofs.AsciiLemmas.{keeps_ascii}
use Rattle.np_c.proofs.keys.stays.Goals as goal

pub returns : goal.returns
returns g c = λ yes.
    let v = g.T.NormTable.model c.args.table.now in
    let passes = c.ascii_passes.ensures in
    keeps_ascii v c.args.form (passes.assigned yes) (passes.yes_starter yes) c.meets_conditions.ensures c.shortcuts.ensures.quick_span
    c.args.bytes.now (c.are_ascii.ensures.0 c.if-not-are_ascii.false)
