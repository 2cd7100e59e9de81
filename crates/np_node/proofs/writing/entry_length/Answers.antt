use Rattle.std.proofs.Common.{arith}
use Rattle.np_node.proofs.WritingLemmas.{length-entry_bytes}
use Rattle.np_node.proofs.writing.entry_length.Goals as goal

pub returns : goal.returns
returns c = omega (arith, length-entry_bytes (record { string = c.args.string.now; key = c.args.key.now }))
