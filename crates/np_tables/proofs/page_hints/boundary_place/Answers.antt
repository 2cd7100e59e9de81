use Rattle.np_tables.proofs.page_hints.boundary_place.Goals as goal

pub returns-in-Nfkc-clause-place : goal.returns-in-Nfkc-clause-place
returns-in-Nfkc-clause-place c = rw c.in-Nfkc.is
