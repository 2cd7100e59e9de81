use Rattle.std.proofs.Common.{arith, length}
use Rattle.np_node.proofs.FieldLemmas.{length-number_bytes}
use Rattle.np_node.proofs.WritingLemmas.{written-field}
use Rattle.np_node.proofs.writing.put_field.Goals as goal

pub put_bytes-requires : goal.put_bytes-requires
put_bytes-requires c = omega (arith, c.put_number-behind.ensures.place, c.put_number-behind.ensures.size, c.requires.room, length-number_bytes (length c.args.bytes.now))

pub returns : goal.returns
returns c = written-field _ _ _ _ _ _ c.args.bytes.now c.put_number-behind.ensures c.put_bytes.ensures
