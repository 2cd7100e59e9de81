use Rattle.std.proofs.Common.{◌++◌, ap, ◌∙◌}
use Rattle.np_forms.proofs.Words.{codes_of, with_classes}
use Rattle.np_forms.proofs.OrderLemmas.{codes-append, codes-with_classes}
use Rattle.np_forms.proofs.streams.Stream.take_front.Goals as goal

pub returns-in-Ok-clause-held : goal.returns-in-Ok-clause-held
returns-in-Ok-clause-held g c =
    let v = g.T.NormTable.model c.self.inside.table.now in
    let old = c.self.inside.held.pending.items in
    let front = c.hold_front.ensures.held.0 in
    rw (← c.self.view_is)
    (front, ap codes_of c.hold_front.ensures.held.1 ∙ codes-append old (with_classes v front) ∙ ap (λ l. codes_of old ++ l) (codes-with_classes v front))
