use Rattle.std.proofs.Common.{◌≡◌, true, take}
use Rattle.std.specs.List.{list_all}
use Rattle.np_caseless.specs.Folded.{folded_by}
use Rattle.np_caseless.specs.inside.Images.{stays}
use Rattle.np_caseless.proofs.lent_parts.do_stay.Given as goal

abbrev pub invariant-loop-code : goal.invariant-loop-code
invariant-loop-code g l = list_all (stays (folded_by (g.T.NormTable.model l.table) l.foldings) l.compat) (take l.code-index l.codes) ≡ true
