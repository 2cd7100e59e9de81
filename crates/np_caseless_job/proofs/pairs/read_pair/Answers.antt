use Rattle.std.proofs.Common.{inr, subst}
use Rattle.std.proofs.lemmas.Result.{err_from_is_err_and}
use Rattle.np_caseless_job.specs.FoldedVersions.{FoldedReaders, IsFoldedFault}
use Rattle.np_caseless_job.proofs.FoldingLemmas.{same_readers}
use Rattle.np_caseless_job.proofs.pairs.read_pair.Goals as goal

pub returns-in_err-new-clause-refused : goal.returns-in_err-new-clause-refused
returns-in_err-new-clause-refused g c =
    let same = same_readers g.F.Read.remaining c.args.pair.now.second c.clear.new.self c.read_folded-2.new.files c.clear.ensures in
    let refused = subst (λ (r : FoldedReaders). IsFoldedFault 1 r c.in_err-new.field-0.0) same c.in_err-new.ensures.refused in
    let p = err_from_is_err_and c.from_residual-in_err-new.result c.from_residual-in_err-new.ensures.1 in
    rw (p.1, p.2) (inr ((c.in_ok-old.old, c.in_ok-old.ensures.folded), refused))
