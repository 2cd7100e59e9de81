use Rattle.np_ucd.specs.RowValues.{entry_of}
use Rattle.np_ucd.proofs.KeptLemmas.{entries-push}
use Rattle.np_ucd.proofs.kept_rows.KeptRows.push.Goals as goal

pub returns : goal.returns
returns c =
    rw (← c.self.view_is)
    (entries-push c.self.inside.codes.items c.args.row.now.mapping.items c.keep.new.codes.items c.self.inside.rows.items c.push.new.self.items c.in_ok-kept.kept (entry_of c.args.row.now)
    c.self.invariant c.in_ok-kept.ensures.grown c.in_ok-kept.ensures.row c.in_ok-push.ensures.items)
