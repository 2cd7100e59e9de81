-- What a node tells of two strings is what the machine tells.
use Rattle.std.proofs.Common.{◌≡◌, ℕ, ◌-◌, ◌<◌, ◌≤◌, ◌↔◌, List, length, get_or, map, slice_get, Some, refl, sym, subst, ◌∙◌, arith, inl, inr}
use Rattle.std.proofs.lemmas.List.{get_or-map, length-map}
use Rattle.std.proofs.lemmas.Option.{slice_get_within}
use Rattle.std.specs.Prelude.{chars, IsUtf8}
use Rattle.np_chain.proofs.ChainLemmas.{StandsAt-from}
use Rattle.np_chain.specs.Chain.{Extends}
use Rattle.np_chain.specs.Laws.{Stability}
use Rattle.np_code_points.specs.Forms.{is_compat}
use Rattle.np_code_points.specs.declared.forms.Form.{Form}
use Rattle.np_forms.specs.Forms.{IsEquivalent}
use Rattle.np_forms.specs.Laws.{SameForms}
use Rattle.np_node.specs.Nodes.{IsKept}
use Rattle.np_node.specs.Strings.{Entry, IsEntry}
use Rattle.np_versions.specs.Conditions.{IsSound}
use Rattle.np_versions.specs.Versions.{VersionData}
use Rattle.np_world.specs.Reports.{PlacedNode}
use Rattle.np_world.specs.World.{MachineNode, Scene, Asks, If, OnlyReplies}
use Rattle.np_world.specs.Moments.{Rules, AreRules}
use Rattle.np_world.specs.declared.replies.Reply.{Reply}
use Rattle.np_world.specs.declared.replies.Reply.TheVariants.{NotKept, Equal, Different}
use Rattle.np_world.specs.inside.Mirrors.{Mirrors, NodeSteps, setting_of}
use Rattle.np_world.proofs.NodeStepLemmas.{Deed, scene, bytes_of, has_text, table_here, says}

-- ---- equivalence under two versions

-- an entry with this string
pub record HasEntry (v : VersionData) (form : Form) (bytes : List ℕ) : Type 0 where
  pub entry : Entry
  pub is : IsEntry v form entry
  pub string : entry.string ≡ bytes

pub same_under : Stability → SameForms → (v w : VersionData) (form : Form) → IsSound v → IsSound w → Extends v w → (a b : Entry) → IsEntry v form a → IsEntry v form b
    → IsEquivalent v (is_compat form) (chars a.string) (chars b.string) ↔ IsEquivalent w (is_compat form) (chars a.string) (chars b.string)
same_under stability forms v w form sound_v sound_w extends a b is_a is_b =
    let late_a = (stability v w form (chars a.string) (chars a.key) sound_v sound_w extends is_a.keepable.assigned is_a.key.normal).0 in
    let late_b = (stability v w form (chars b.string) (chars b.key) sound_v sound_w extends is_b.keepable.assigned is_b.key.normal).0 in
    let early = forms v form (chars a.string) (chars b.string) (chars a.key) (chars b.key) sound_v is_a.key.normal is_b.key.normal in
    let late = forms w form (chars a.string) (chars b.string) (chars a.key) (chars b.key) sound_w late_a late_b in
    (λ h. late.0 (early.1 h), λ h. early.0 (late.1 h))

module _ {T : Type 0} (model : T → VersionData) (rules : Rules T) (old : PlacedNode T) (twin : MachineNode) (last : VersionData) (m : Mirrors model rules old twin) where
  -- an entry of a kept string
  entry_of : (bytes : List ℕ) → IsKept old.node.entries bytes → HasEntry (model old.node.table) old.node.form bytes
  entry_of bytes kept =
      let e : Entry = record { string = bytes; key = bytes } in
      let within : kept.0 < length old.node.entries = omega (arith, kept.1, length-map old.node.entries (λ (x : Entry). x.string)) in
      record {
        entry = get_or old.node.entries kept.0 e;
        is = m.node.entries kept.0 e within;
        string = sym (get_or-map (λ (x : Entry). x.string) old.node.entries kept.0 e bytes within) ∙ kept.2;
      }

  pub equivalent_last : AreRules model rules → Stability → SameForms → slice_get (map model rules.tables) (length rules.tables - 1) ≡ Some last → (left right : List ℕ) → IsKept old.node.entries left → IsKept old.node.entries right
      → IsEquivalent (model old.node.table) (is_compat old.node.form) (chars left) (chars right) ↔ IsEquivalent last (is_compat rules.form) (chars left) (chars right)
  equivalent_last are stability same end left right one other =
      let vs = map model rules.tables in
      let stands = StandsAt-from vs old.index (model old.node.table) are.chain (table_here model rules old twin m) in
      let ends = StandsAt-from vs (length rules.tables - 1) last are.chain end in
      let before : old.index ≤ length rules.tables - 1 = omega (arith, slice_get_within vs old.index (model old.node.table) (table_here model rules old twin m), length-map rules.tables model) in
      let a = entry_of left one in
      let b = entry_of right other in
      let both = same_under stability same (model old.node.table) last old.node.form m.node.sound ends.sound (stands.later (length rules.tables - 1) last before end) a.entry b.entry a.is b.is in
      subst (λ f. IsEquivalent (model old.node.table) (is_compat old.node.form) (chars left) (chars right) ↔ IsEquivalent last (is_compat f) (chars left) (chars right)) m.form
      (subst (λ y. IsEquivalent (model old.node.table) (is_compat old.node.form) (chars left) (chars y) ↔ IsEquivalent last (is_compat old.node.form) (chars left) (chars y)) b.string
      (subst (λ x. IsEquivalent (model old.node.table) (is_compat old.node.form) (chars x) (chars b.entry.string) ↔ IsEquivalent last (is_compat old.node.form) (chars x) (chars b.entry.string)) a.string both))

-- ---- asking

-- what is so in a case is so in one that means the same
if_same : {A B : Type 0} (P Q : Type 0) → P ↔ Q → If P A B → If Q A B
if_same P Q same (inl (is, a)) = inl (same.0 is, a)
if_same P Q same (inr (not, b)) = inr (λ is. not (same.1 is), b)

-- a reply in each case, and nothing changes
if_only : (P : Type 0) (first second reply : Reply) (before : Scene) → If P (reply ≡ first) (reply ≡ second) → If P (OnlyReplies first before reply before) (OnlyReplies second before reply before)
if_only P first second reply before (inl (is, same)) = inl (is, (same, refl))
if_only P first second reply before (inr (not, same)) = inr (not, (same, refl))

module _ {T : Type 0} (model : T → VersionData) (rules : Rules T) (old new : PlacedNode T) (left right : List ℕ) (told : List (List ℕ)) (same : new ≡ old) where
  abbrev pub deed_ask : Deed
  deed_ask version last = Asks (setting_of model rules) last (chars left) (chars right)

  pub asks-none : IsUtf8 left → IsUtf8 right → ¬ (IsKept old.node.entries left × IsKept old.node.entries right) → NodeSteps model rules deed_ask old told NotKept new told
  asks-none one other lacks =
      says model rules deed_ask old new told NotKept same
      (λ node strings last are m sent end. inr (λ has. lacks (bytes_of model rules old node m left one has.0, bytes_of model rules old node m right other has.1), (refl, refl)))

  pub asks-kept : Stability → SameForms → IsKept old.node.entries left → IsKept old.node.entries right → (reply : Reply)
      → If (IsEquivalent (model old.node.table) (is_compat old.node.form) (chars left) (chars right)) (reply ≡ Equal) (reply ≡ Different) → NodeSteps model rules deed_ask old told reply new told
  asks-kept stability forms one other reply is =
      says model rules deed_ask old new told reply same
      (λ node strings last are m sent end. inl (
        (has_text model rules old node m left one, has_text model rules old node m right other),
        if_only _ Equal Different reply (scene node strings) (if_same _ _ (equivalent_last model rules old node last m are stability forms end left right one other) is),
      ))
