use Rattle.std.proofs.Common.{arith}
use Rattle.np_ucd.specs.RowValues.{lent_entry}
use Rattle.np_tables.proofs.FullListLemmas.{one_more, grown_more}
use Rattle.np_tables.proofs.fulls.full_ranges.Goals as goal

pub loop-at-preserved : goal.loop-at-preserved
loop-at-preserved c =
    record {
      grown = grown_more c.args.codes.now.items c.loop-at.codes.items c.push_full.new.codes.items _ c.loop-at.invariant.grown c.in_ok-push_full.ensures;
      state = rw c.in_ok-push.ensures.items
          (one_more c.args.version.now c.args.compat c.args.version.now.entries c.loop-at.at c.loop-at.codes.items c.push_full.new.codes.items c.loop-at.parts.items
          (record { start = c.len-start.result; end = c.len-end.result }) (lent_entry c.row_in.result) c.loop-at.invariant.state c.row_in.ensures.place c.in_ok-push_full.ensures
          (omega arith) (omega arith));
    }
