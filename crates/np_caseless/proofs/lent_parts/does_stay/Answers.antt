use Rattle.std.proofs.Common.{◌∙◌, sym, ap, flat_map}
use Rattle.std.proofs.lemmas.List.{append-nil}
use Rattle.np_caseless.specs.Folded.{folded_by}
use Rattle.np_caseless.specs.inside.Images.{folded_parts}
use Rattle.np_caseless.proofs.ImageLemmas.{starter_stays, alone_stays}
use Rattle.np_caseless.proofs.lent_parts.does_stay.Goals as goal

pub returns-then-class-eq0 : goal.returns-then-class-eq0
returns-then-class-eq0 g c = λ yes.
    starter_stays (folded_by (g.T.NormTable.model c.args.table.now) c.args.foldings.now) c.args.compat c.args.code c.class.result c.class.ensures
    c.if-class-eq0.true

pub returns : goal.returns
returns g c = λ yes.
    let v = folded_by (g.T.NormTable.model c.args.table.now) c.args.foldings.now in
    let one = c.from_ref-one.ensures.value in
    alone_stays v c.args.compat c.args.code
    (sym (append-nil (folded_parts v c.args.compat c.args.code)) ∙ sym (ap (flat_map (folded_parts v c.args.compat)) one) ∙ sym
    (c.do_lead_to.ensures yes) ∙ one)
