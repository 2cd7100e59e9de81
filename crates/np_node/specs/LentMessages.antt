-- Messages that aren't spelled yet.
use Rattle.std.specs.Prelude.{◌≡◌, ℕ, List, Contains}
use Rattle.np_node.specs.Messages.{Message, message_bytes}
use Rattle.np_node.specs.Nodes.{State}
use Rattle.np_node.specs.Strings.{IsKey}
use Rattle.np_node.specs.declared.lent_messages.LentMessage.{LentMessage}

abbrev pub message_lent : LentMessage → Message
message_lent m = record { form = m.form; entry = record { string = m.string.now; key = m.key.now } }

-- the message spells the string, which the node keeps, and its key, as the one that `accept` gave
pub record TellsString (node : State) (string message : List ℕ) : Type 0 where
  pub key : List ℕ
  pub kept : Contains node.entries (record { string = string; key = key })
  pub is_key : IsKey node.version node.form string key
  pub spelling : message ≡ message_bytes (record { form = node.form; entry = record { string = string; key = key } })
