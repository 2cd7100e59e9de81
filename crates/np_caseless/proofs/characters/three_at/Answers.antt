use Rattle.std.proofs.Common.{arith}
use Rattle.np_caseless.proofs.CharacterLemmas.{three_at, three_fit, three_long}
use Rattle.np_caseless.proofs.characters.three_at.Goals as goal

pub bounds-bytes-at-2 : goal.bounds-bytes-at-2
bounds-bytes-at-2 c = omega (arith, three_long c.args.bytes.now c.args.at c.requires.utf8 c.requires.lead_byte)

pub bounds-bytes-at-3 : goal.bounds-bytes-at-3
bounds-bytes-at-3 c = three_long c.args.bytes.now c.args.at c.requires.utf8 c.requires.lead_byte

pub overflow_sub-code : goal.overflow_sub-code
overflow_sub-code c =
    three_fit c.args.bytes.now c.args.at c.requires.utf8 c.requires.lead_byte c.from.result c.from-2.result c.from-3.result
    c.from.ensures c.from-2.ensures c.from-3.ensures

pub returns-clause-here : goal.returns-clause-here
returns-clause-here c =
    three_at c.args.bytes.now c.args.at c.requires.utf8 c.requires.lead_byte c.from.result c.from-2.result c.from-3.result
    c.from.ensures c.from-2.ensures c.from-3.ensures
