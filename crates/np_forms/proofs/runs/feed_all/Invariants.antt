use Rattle.std.proofs.Common.{◌≡◌, ◌≤◌, ◌-◌, [], false, vec_len}
use Rattle.np_forms.proofs.Words.{device_of, has_failed, Goes}
use Rattle.np_forms.specs.inside.Running.{IsCounted}
use Rattle.np_forms.proofs.runs.feed_all.Given as goal

abbrev pub invariant-chunks : goal.invariant-chunks
invariant-chunks g l = record {
  goes : Goes l.fn.stream l.stream (g.R.Read.remaining (device_of l.fn.source)) (g.R.Read.remaining (device_of l.source)) (g.W.Write.contents (device_of l.fn.target)) (g.W.Write.contents (device_of l.target)) l.fn.input.kept.items l.input.kept.items l.fn.input.total l.input.total l.fn.output.count l.output.count;
  version : l.stream.version ≡ l.fn.stream.version;
  moved : l.stream.ready ≡ [];
  empty : l.output.text ≡ [];
  reads : has_failed l.source ≡ false;
  writes : has_failed l.target ≡ false;
  fits : l.input.total ≤ 4294967295;
  inside : vec_len l.input.kept ≤ l.input.total;
  counted : IsCounted l.stream (l.input.total - vec_len l.input.kept) l.output.count;
}

abbrev pub decreases-chunks : goal.decreases-chunks
decreases-chunks g l = 4294967296 - l.input.total
