use Rattle.std.proofs.Common.{ℕ, [], ◌∷◌, ap, arith, length}
use Rattle.np_node.proofs.WritingLemmas.{length-entry_bytes, length-message_bytes, written-as, written-message, written-whole}
use Rattle.np_node.specs.Fields.{entry_bytes}
use Rattle.np_node.specs.LentMessages.{message_lent}
use Rattle.np_node.specs.Messages.{message_bytes}
use Rattle.np_node.proofs.lent_messages.LentMessage.put.Goals as goal

pub put_bytes-at-requires : goal.put_bytes-at-requires
put_bytes-at-requires c = omega (arith, c.requires, length-message_bytes (message_lent c.args.self.now))

pub put_entry-requires-clause-room : goal.put_entry-requires-clause-room
put_entry-requires-clause-room c =
    omega (
      arith,
      c.requires,
      length-message_bytes (message_lent c.args.self.now),
      length-entry_bytes (message_lent c.args.self.now).entry,
      ap length c.as_bytes.ensures.value,
      ap length c.as_bytes-2.ensures.value,
      c.put_bytes-at.ensures.place,
      c.put_bytes-at.ensures.size,
    )

pub returns : goal.returns
returns c =
    let m = message_lent c.args.self.now in
    written-whole c.args.room.now c.put_entry.new.room (message_bytes m) c.put_entry.result
    (written-message c.args.room.now c.put_bytes-at.new.room c.put_entry.new.room 0 c.put_bytes-at.result c.put_entry.result m
    (written-as _ _ _ _ _ _ (ap (λ (b : ℕ). b ∷ []) c.byte.ensures) c.put_bytes-at.ensures)
    (written-as _ _ _ _ _ _ (λ i. entry_bytes (record { string = c.as_bytes.ensures.value i; key = c.as_bytes-2.ensures.value i })) c.put_entry.ensures))
    c.requires
