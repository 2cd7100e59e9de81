use Rattle.np_caseless.proofs.CharacterLemmas.{two_at, two_fit, two_long}
use Rattle.np_caseless.proofs.characters.two_at.Goals as goal

pub bounds-bytes-at-2 : goal.bounds-bytes-at-2
bounds-bytes-at-2 c = two_long c.args.bytes.now c.args.at c.requires.utf8 c.requires.lead_byte

pub overflow_sub-code : goal.overflow_sub-code
overflow_sub-code c =
    two_fit c.args.bytes.now c.args.at c.requires.utf8 c.requires.lead_byte c.from.result c.from-2.result c.from.ensures c.from-2.ensures

pub returns-clause-here : goal.returns-clause-here
returns-clause-here c =
    two_at c.args.bytes.now c.args.at c.requires.utf8 c.requires.lead_byte c.from.result c.from-2.result c.from.ensures c.from-2.ensures
