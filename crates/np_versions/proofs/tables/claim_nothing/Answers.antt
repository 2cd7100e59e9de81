use Rattle.std.proofs.Common.{ap}
use Rattle.np_versions.proofs.Words.{chars-nil, list_all, is_assigned}
use Rattle.np_versions.proofs.tables.claim_nothing.Goals as goal

pub returns-clause-assigned : goal.returns-clause-assigned
returns-clause-assigned c = λ v. ap (list_all (is_assigned v)) chars-nil
