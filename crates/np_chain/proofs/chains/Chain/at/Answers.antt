use Rattle.std.proofs.Common.{◌≡◌, Some, map, length, ap, arith, refl, slice_get, subst}
use Rattle.std.proofs.lemmas.Option.{slice_get_read}
use Rattle.np_chain.proofs.ChainLemmas.{table-stands}
use Rattle.np_chain.proofs.chains.Chain.at.Goals as goal

pub returns-clause-stands : goal.returns-clause-stands
returns-clause-stands g c =
    let f = g.T.NormTable.model in
    let same = ap length c.self.view_is in
    let within = c.requires in
    table-stands f c.self.inside.tables.now (map f c.args.self.now) c.args.i c.index-tables-i.result (ap (map f) c.self.view_is) c.self.invariant
    (omega arith) c.index-tables-i.is

pub returns-clause-table : goal.returns-clause-table
returns-clause-table g c =
    let xs = c.self.inside.tables.now in
    let same = ap length c.self.view_is in
    let within = c.requires in
    let here = slice_get_read xs (length xs) c.args.i c.index-tables-i.result refl (omega arith) c.index-tables-i.is in
    subst (λ ys. slice_get ys c.args.i ≡ Some c.index-tables-i.result) c.self.view_is here
