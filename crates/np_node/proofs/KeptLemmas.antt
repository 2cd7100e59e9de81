-- What holds of the strings and keys that a node keeps.
use Rattle.std.proofs.Common.{◌≡◌, ℕ, ◌<◌, [], List, length, slice_get, Some, Contains, IsUtf8, sym, subst, ◌∙◌, arith}
use Rattle.std.proofs.lemmas.List.{get_or-map, length-map}
use Rattle.np_node.proofs.KeyLemmas.{fits-entry}
use Rattle.np_node.proofs.NodeLemmas.{All-Contains, All-at}
use Rattle.np_node.specs.Fields.{FitsFields}
use Rattle.np_node.specs.Nodes.{State, IsKept, IsNode}
use Rattle.np_node.specs.Strings.{Entry, IsEntry}

module _ (node : State) (is : IsNode node) where
  -- a kept string is a text
  pub kept-utf8 : (string : List ℕ) → IsKept node.entries string → IsUtf8 string
  kept-utf8 string (k, lt, same) =
      let e : Entry = record { string = string; key = [] } in
      let within : k < length node.entries = omega (arith, lt, length-map node.entries (λ (x : Entry). x.string)) in
      let here = is.entries k e within in
      subst IsUtf8 (sym (get_or-map (λ (x : Entry). x.string) node.entries k e string within) ∙ same) here.keepable.utf8

  -- each kept string stands beside its key
  pub kept-entry : (e : Entry) → Contains node.entries e → IsEntry node.version node.form e
  kept-entry e has = All-Contains (IsEntry node.version node.form) node.entries e is.entries has

  -- the lengths of an entry are numbers of four bytes
  pub kept-fits : (e : Entry) → Contains node.entries e → FitsFields e
  kept-fits e has = fits-entry node.version is.sound node.form e (kept-entry e has)

  pub fits-at : (n : ℕ) (e : Entry) → slice_get node.entries n ≡ Some e → FitsFields e
  fits-at n e here = fits-entry node.version is.sound node.form e (All-at (IsEntry node.version node.form) node.entries n e is.entries here)
