use Rattle.std.proofs.Common.{ℕ, ◌+◌, ap, arith, length, ◌∙◌, sym}
use Rattle.np_node.proofs.WritingLemmas.{length-entry_bytes, length-message_bytes}
use Rattle.np_node.specs.Fields.{entry_bytes}
use Rattle.np_node.specs.LentMessages.{message_lent}
use Rattle.np_node.specs.Strings.{Entry}
use Rattle.np_node.proofs.lent_messages.LentMessage.length.Goals as goal

pub overflow_add-result : goal.overflow_add-result
overflow_add-result c =
    let e : Entry = record { string = c.as_bytes.result.now; key = c.as_bytes-2.result.now } in
    let fits = c.args.self.now.fits in
    omega (arith, c.entry_length.ensures, length-entry_bytes e, ap length c.as_bytes.ensures.value, ap length c.as_bytes-2.ensures.value, fits.string, fits.key)

pub returns : goal.returns
returns c =
    ap (λ (n : ℕ). 1 + n) (c.entry_length.ensures ∙ (λ i. length (entry_bytes (record { string = c.as_bytes.ensures.value i; key = c.as_bytes-2.ensures.value i }))))
    ∙ sym (length-message_bytes (message_lent c.args.self.now))
