use Rattle.std.proofs.Common.{List, ℕ, ap}
use Rattle.np_forms.specs.ApartStreams.{ApartState}
use Rattle.np_forms.proofs.Words.{codes_of}
use Rattle.np_forms.proofs.StreamTextLemmas.{classes-classed}
use Rattle.np_forms.proofs.streams.Stream.into_apart.Goals as goal

pub returns : goal.returns
returns g c =
    let items = c.self.inside.held.pending.items in
    let apart : List ℕ → ApartState = λ l. record { form = c.self.inside.form; pending = codes_of items; classes = l } in
    rw (← c.self.view_is) (ap apart (classes-classed (g.T.NormTable.model c.self.inside.table.now) items c.self.invariant))
