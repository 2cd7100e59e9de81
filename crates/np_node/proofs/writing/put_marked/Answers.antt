use Rattle.std.proofs.Common.{◌≢◌, arith}
use Rattle.std.proofs.lemmas.Bool.{both_ways}
use Rattle.np_node.proofs.FieldLemmas.{length-field_bytes}
use Rattle.np_node.proofs.WritingLemmas.{length-other-key, marked-least, written-other, written-same}
use Rattle.np_node.specs.Strings.{Entry}
use Rattle.np_node.proofs.writing.put_marked.Goals as goal

pub put_field-behind-requires-clause-room : goal.put_field-behind-requires-clause-room
put_field-behind-requires-clause-room c = omega (arith, c.requires.room, marked-least (record { string = c.args.string.now; key = c.args.key.now }))

pub put_bytes-requires : goal.put_bytes-requires
put_bytes-requires c =
    omega (
      arith,
      c.put_field-behind.ensures.place,
      c.put_field-behind.ensures.size,
      c.requires.room,
      length-field_bytes c.args.string.now,
      marked-least (record { string = c.args.string.now; key = c.args.key.now }),
    )

pub put_bytes-other-requires : goal.put_bytes-other-requires
put_bytes-other-requires c =
    omega (
      arith,
      c.put_field-behind.ensures.place,
      c.put_field-behind.ensures.size,
      c.requires.room,
      length-field_bytes c.args.string.now,
      marked-least (record { string = c.args.string.now; key = c.args.key.now }),
    )

pub put_field-requires-clause-room : goal.put_field-requires-clause-room
put_field-requires-clause-room c =
    let e : Entry = record { string = c.args.string.now; key = c.args.key.now } in
    let other : e.key ≢ e.string = λ same. both_ways c.same_bytes.result c.if-same_bytes.false (c.same_bytes.ensures.1 same) in
    omega (
      arith,
      c.put_bytes-other.ensures.place,
      c.put_bytes-other.ensures.size,
      c.put_field-behind.ensures.place,
      c.put_field-behind.ensures.size,
      c.requires.room,
      length-field_bytes c.args.string.now,
      length-other-key e other,
    )

pub returns-then-same_bytes : goal.returns-then-same_bytes
returns-then-same_bytes c =
    written-same _ _ _ _ _ _ (record { string = c.args.string.now; key = c.args.key.now }) c.put_field-behind.ensures c.put_bytes.ensures (c.same_bytes.ensures.0 c.if-same_bytes.true)

pub returns : goal.returns
returns c =
    written-other _ _ _ _ _ _ _ _ (record { string = c.args.string.now; key = c.args.key.now }) c.put_field-behind.ensures c.put_bytes-other.ensures c.put_field.ensures
    (λ same. both_ways c.same_bytes.result c.if-same_bytes.false (c.same_bytes.ensures.1 same))
