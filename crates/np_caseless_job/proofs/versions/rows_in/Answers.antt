use Rattle.std.proofs.Common.{List, ℕ, ap, inr, subst}
use Rattle.np_code_points.specs.Watched.{device_of}
use Rattle.np_ucd.specs.FirstFaults.{IsFirstFault}
use Rattle.np_caseless_job.proofs.FoldingLemmas.{has_line, is_first}
use Rattle.np_caseless_job.proofs.versions.rows_in.Goals as goal

pub returns-in-Some-clause-refused : goal.returns-in-Some-clause-refused
returns-in-Some-clause-refused c =
    let lined = has_line c.in-Err.fault c.in-Some._line c.in-Some.ensures in
    let first = is_first (device_of c.new.result).now _ c.in-Err.fault lined c.in-Err.ensures.refused in
    inr (subst (λ (bs : List ℕ). IsFirstFault bs c.in-Err.fault) (ap (λ b. b.now) c.new.ensures.device) first, lined)
