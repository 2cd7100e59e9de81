use Rattle.std.proofs.Common.{subst, sym}
use Rattle.np_forms.specs.ApartStreams.{IsApartOf}
use Rattle.np_forms.proofs.StreamTextLemmas.{classed-from}
use Rattle.np_forms.proofs.streams.Stream.of_apart.Goals as goal

pub of_pending-requires : goal.of_pending-requires
of_pending-requires g c =
    let v = g.T.NormTable.model c.args.table.now in
    classed-from v c.apart.inside.pending.items (subst (IsApartOf v) (sym c.apart.view_is) c.requires)
