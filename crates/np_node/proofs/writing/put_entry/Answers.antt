use Rattle.std.proofs.Common.{arith}
use Rattle.np_node.proofs.FieldLemmas.{length-field_bytes}
use Rattle.np_node.proofs.WritingLemmas.{written-entry}
use Rattle.np_node.proofs.writing.put_entry.Goals as goal

pub put_field-requires-clause-room : goal.put_field-requires-clause-room
put_field-requires-clause-room c =
    omega (arith, c.put_field-behind.ensures.place, c.put_field-behind.ensures.size, c.requires.room, length-field_bytes c.args.string.now)

pub returns : goal.returns
returns c = written-entry _ _ _ _ _ _ (record { string = c.args.string.now; key = c.args.key.now }) c.put_field-behind.ensures c.put_field.ensures
