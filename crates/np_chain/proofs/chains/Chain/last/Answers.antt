use Rattle.std.proofs.Common.{◌≡◌, ◌-◌, ℕ, Some, length, map, refl, ap, arith, slice_get, sym, subst}
use Rattle.std.proofs.lemmas.Option.{slice_get_read}
use Rattle.np_chain.specs.Chain.{StandsAt}
use Rattle.np_chain.proofs.ChainLemmas.{chain-some, last-stands, mapped-length}
use Rattle.np_chain.proofs.chains.Chain.last.Goals as goal

pub returns-clause-stands : goal.returns-clause-stands
returns-clause-stands g c =
    let f = g.T.NormTable.model in
    let vs = map f c.args.self.now in
    let x = c.index-tables-tables.result in
    subst (λ (n : ℕ). StandsAt vs (n - 1) (f x)) (sym (mapped-length f c.args.self.now vs refl))
    (last-stands f c.self.inside.tables.now vs x (ap (map f) c.self.view_is) c.self.invariant c.index-tables-tables.is)

pub returns-clause-table : goal.returns-clause-table
returns-clause-table g c =
    let f = g.T.NormTable.model in
    let xs = c.self.inside.tables.now in
    let some = chain-some (map f xs) c.self.invariant.chain in
    let same = mapped-length f xs (map f xs) refl in
    let here = slice_get_read xs (length xs) (length xs - 1) c.index-tables-tables.result refl (omega arith) c.index-tables-tables.is in
    subst (λ ys. slice_get ys (length ys - 1) ≡ Some c.index-tables-tables.result) c.self.view_is here
