-- A string has one message along a chain.
use Rattle.std.proofs.Common.{◌≡◌, ℕ, List, ap, subst, sym, ◌∙◌}
use Rattle.np_node.proofs.KeyLemmas.{one_key}
use Rattle.np_node.proofs.NodeLemmas.{All-Contains}
use Rattle.np_node.specs.Laws.{Exchange}
use Rattle.np_node.specs.Messages.{message_bytes}
use Rattle.np_node.specs.Strings.{Entry, IsEntry, IsKey}
use Rattle.np_world.specs.Laws.{OneMessage}

abbrev entry_with : List ℕ → List ℕ → Entry
entry_with string key = record { string = string; key = key }

pub one_message : Exchange → OneMessage
one_message exchange vs i j node other string message again in_node in_other form is also tells retells =
    let first : IsEntry node.version node.form (entry_with string tells.key) = All-Contains (IsEntry node.version node.form) node.entries (entry_with string tells.key) is.entries tells.kept in
    let second : IsEntry other.version other.form (entry_with string retells.key) =
    All-Contains (IsEntry other.version other.form) other.entries (entry_with string retells.key) also.entries retells.kept in
    let moved = exchange vs i j node.version other.version node.form string tells.key in_node in_other first.keepable.assigned second.keepable.assigned tells.is_key in
    let key : IsKey other.version other.form string tells.key = subst (λ f. IsKey other.version f string tells.key) form moved in
    let same : tells.key ≡ retells.key = one_key other.version also.sound other.form string tells.key retells.key key retells.is_key in
    tells.spelling ∙ ap (λ f. message_bytes (record { form = f; entry = entry_with string tells.key })) form
    ∙ ap (λ k. message_bytes (record { form = other.form; entry = entry_with string k })) same ∙ sym retells.spelling
