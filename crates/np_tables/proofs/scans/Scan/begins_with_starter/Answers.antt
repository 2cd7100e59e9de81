use Rattle.std.proofs.Common.{sym, ◌∙◌}
use Rattle.std.proofs.lemmas.Bool.{eqb-true}
use Rattle.np_tables.proofs.LeftLemmas.{read_yes}
use Rattle.np_tables.proofs.scans.Scan.begins_with_starter.Goals as goal

pub returns-in-Some : goal.returns-in-Some
returns-in-Some c = λ same.
    read_yes c.args.self.now c.args.text.now 0 c.in-Some.few.c c.in-Some.few.count c.utf8.text c.in-Some.ensures (sym c.check_of.ensures ∙ eqb-true _ _ same)
