use Rattle.std.proofs.Common.{◌≡◌}
use Rattle.np_c.proofs.NameLemmas.{short}
use Rattle.np_c.specs.Names.{name_of_status}
use Rattle.np_c.proofs.names.status_name.Goals as goal

pub returns-clause-short : goal.returns-clause-short
returns-clause-short c =
    let named : c.name_at.result.now ≡ name_of_status c.args.status = c.name_at.ensures in
    rw named (short c.args.status)
