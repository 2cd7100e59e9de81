use Rattle.std.proofs.Common.{◌∙◌, sym}
use Rattle.np_tables.proofs.Words.{not-true}
use Rattle.np_tables.proofs.PageLemmas.{never_second-unlisted, never_second-unmarked}
use Rattle.np_tables.proofs.page_hints.is_never_second.Goals as goal

pub returns-in-Some : goal.returns-in-Some
returns-in-Some c = λ is.
    never_second-unmarked c.args.version.now c.args.seconds.now c.args.code c.in-Some.at c.requires c.in-Some.ensures.within c.in-Some.ensures.row
    (sym c.is_late_jamo.ensures ∙ c.if-is_late_jamo.false) (not-true _ is)

pub returns-in-None : goal.returns-in-None
returns-in-None c = λ is. never_second-unlisted c.args.version.now c.args.code c.meets_conditions.ensures c.in-None.ensures.none
