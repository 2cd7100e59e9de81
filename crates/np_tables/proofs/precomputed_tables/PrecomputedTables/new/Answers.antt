use Rattle.np_tables.proofs.PrecomputedFormLemmas.{each_form}
use Rattle.np_tables.proofs.precomputed_tables.PrecomputedTables.new.Goals as goal

pub returns : goal.returns
returns c = each_form c.args.version.now c.args.fulls.now _ c.in_ok-nfd.ensures c.in_ok-nfc.ensures c.in_ok-nfkd.ensures c.in_ok-nfkc.ensures
