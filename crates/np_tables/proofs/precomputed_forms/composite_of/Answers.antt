use Rattle.std.proofs.Common.{sym, subst}
use Rattle.np_tables.specs.inside.PageHints.{IsNeverSecond}
use Rattle.np_versions.proofs.CompositeLemmas.{composite-never}
use Rattle.np_tables.proofs.precomputed_forms.composite_of.Goals as goal

pub returns-then-is_never_second : goal.returns-then-is_never_second
returns-then-is_never_second c =
    sym (composite-never _ c.args.second (subst (IsNeverSecond _) c.from.ensures (c.is_never_second.ensures c.if-is_never_second.true)) c.args.first)
