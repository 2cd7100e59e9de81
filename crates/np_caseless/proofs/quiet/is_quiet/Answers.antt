use Rattle.std.proofs.Common.{◌∙◌, sym, ap₂}
use Rattle.std.specs.Prelude.{bytes_eq}
use Rattle.np_caseless.specs.Folded.{is_quiet}
use Rattle.np_caseless.proofs.ListedLemmas.{quiet_from}
use Rattle.np_caseless.proofs.quiet.is_quiet.Goals as goal

pub returns-in-Some : goal.returns-in-Some
unfolding is_quiet
returns-in-Some c = c.eq.ensures ∙ ap₂ bytes_eq (sym c.in-Some.ensures) c.from_ref.ensures.value

pub returns-in-None : goal.returns-in-None
returns-in-None c = sym (quiet_from c.args.foldings.now c.args.code c.in-None.ensures)
