use Rattle.std.proofs.Common.{◌∙◌, sym}
use Rattle.std.proofs.lemmas.Slice.Eq.{bytes_eq-Decides}
use Rattle.np_caseless.specs.Folded.{folded_by}
use Rattle.np_caseless.proofs.LentLemmas.{last_once, last_twice}
use Rattle.np_caseless.proofs.quick_images.are_last.Goals as goal

pub returns-then-not-compat : goal.returns-then-not-compat
returns-then-not-compat g c = λ yes.
    let once = c.args.lists.0.now in
    let last = c.args.lists.1.now in
    last_once (folded_by (g.T.NormTable.model c.args.table.now) c.args.foldings.now) c.args.compat c.args.code once last c.if-not-compat.true
    (c.leads_once.ensures c.if-not-leads_once.false) ((bytes_eq-Decides last once).0 (sym c.eq.ensures ∙ yes))

pub returns : goal.returns
returns g c = λ yes.
    last_twice (folded_by (g.T.NormTable.model c.args.table.now) c.args.foldings.now) c.args.compat c.args.code c.args.lists.0.now c.args.lists.1.now
    c.if-not-compat.false (c.leads_once.ensures c.if-not-leads_once.false) (c.do_stay.ensures c.if-not-do_stay.false) (c.do_lead_to.ensures yes)
