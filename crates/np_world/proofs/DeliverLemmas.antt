-- What was sent and receives a node is what the machine delivers: its shape and its key are never refused.
use Rattle.std.proofs.Common.{◌≡◌, ℕ, ◌≤◌, List, length, slice_get, Some, refl, sym, subst, arith, inl, inr}
use Rattle.std.proofs.lemmas.Option.{slice_get_past}
use Rattle.std.specs.Prelude.{chars}
use Rattle.np_chain.specs.Chain.{IsSoundChain}
use Rattle.np_forms.specs.Assigned.{IsAssigned}
use Rattle.np_node.specs.Laws.{Exchange, HasOneFault, SpellsOne}
use Rattle.np_node.specs.Messages.{Message, IsMessage, IsMessageFault}
use Rattle.np_node.specs.Strings.{Entry, IsEntry, IsKey}
use Rattle.np_versions.specs.Versions.{VersionData}
use Rattle.np_world.specs.Reports.{PlacedNode}
use Rattle.np_world.specs.World.{Setting, Scene, If, NamesUnassigned, Comes, keeping, Finds, Receives, Delivers, Forges}
use Rattle.np_world.specs.Moments.{Rules}
use Rattle.np_world.specs.declared.replies.Reply.{Reply}
use Rattle.np_world.specs.declared.replies.Reply.TheVariants.{Kept, NoMessage, OtherForm, KeyDiffers}
use Rattle.np_world.specs.inside.Mirrors.{IsMessageOf, NodeSteps, setting_of}
use Rattle.np_world.proofs.ForgeLemmas.{one_entry}
use Rattle.np_world.proofs.SentLemmas.{length-messages, match-none, match-some, message_at}
use Rattle.np_world.proofs.StringLemmas.{assigned_stable}
use Rattle.np_world.proofs.NodeStepLemmas.{Deed, says}

-- where the condition doesn't hold
second : (C F S : Type 0) → If C F S → ¬ C → S
second C F S (inl h) not = absurd (not h.0)
second C F S (inr h) not = h.1

module _ (setting : Setting) (v : VersionData) (place : ℕ) (chain : IsSoundChain setting.versions) (here : slice_get setting.versions place ≡ Some v) (exchange : Exchange) (before after : Scene) (reply : Reply) where
  -- a string that is assigned under two versions has one key
  comes : (e : Entry) (w : VersionData) (other : ℕ) → slice_get setting.versions other ≡ Some w → IsEntry w setting.form e
      → If (¬ (IsAssigned v (chars e.string))) (NamesUnassigned v (chars e.string) reply × (after ≡ before))
      (If (¬ (IsKey v setting.form e.string e.key)) ((reply ≡ KeyDiffers) × (after ≡ before)) (Finds setting (chars e.string) Kept (keeping (chars e.string) before) before reply after))
      → Comes setting v (chars e.string) Kept (keeping (chars e.string) before) before reply after
  comes e w other there is (inl h) = inl h
  comes e w other there is (inr h) =
      let assigned = assigned_stable v (chars e.string) h.0 in
      let key : IsKey v setting.form e.string e.key =
      exchange setting.versions other place w v setting.form e.string e.key (record { chain = chain; here = there }) (record { chain = chain; here = here }) is.keepable.assigned assigned is.key in
      inr (h.0, second _ _ _ h.1 (λ not. not key))

  -- a string that is right beside its key under some version of the chain
  comes_right : (e : Entry) (w : VersionData) (other : ℕ) → slice_get setting.versions other ≡ Some w → IsEntry w setting.form e → Receives setting v e.string e.key before reply after
      → Comes setting v (chars e.string) Kept (keeping (chars e.string) before) before reply after
  comes_right e w other there is receives =
      comes e w other there is (second _ _ _ (second _ _ _ receives (λ long. absurd (omega (arith, long, is.keepable.short)))) (λ not. not is.keepable.utf8))

  module _ (one : SpellsOne IsMessage) (none : HasOneFault IsMessage IsMessageFault) (bytes string : List ℕ) (of : IsMessageOf setting bytes string) where
    abbrev told : Message
    told = record { form = setting.form; entry = of.entry }

    comes_told : (m : Message) → told ≡ m → If ((m.form ≡ setting.form) → ⊥) ((reply ≡ OtherForm) × (after ≡ before)) (Receives setting v m.entry.string m.entry.key before reply after)
        → Comes setting v (chars of.entry.string) Kept (keeping (chars of.entry.string) before) before reply after
    comes_told m same does =
        let here_too = subst (λ (x : Message). If ((x.form ≡ setting.form) → ⊥) ((reply ≡ OtherForm) × (after ≡ before)) (Receives setting v x.entry.string x.entry.key before reply after)) (sym same) does in
        comes_right of.entry of.version of.place of.here of.is (second _ _ _ here_too (λ other. other refl))

    -- the bytes of a message that was sent
    pub comes_sent : Forges setting v bytes before reply after → Comes setting v string Kept (keeping string before) before reply after
    comes_sent (inl bad) = absurd ((none bytes bad.0 bad.1).0 told of.message)
    comes_sent (inr good) =
        subst (λ s. Comes setting v s Kept (keeping s before) before reply after) (sym of.text) (comes_told good.0 (one_entry one bytes told good.0 of.message good.1) good.2)

module _ {T : Type 0} (model : T → VersionData) (rules : Rules T) (old new : PlacedNode T) (number : ℕ) (told : List (List ℕ)) where
  abbrev pub deed_deliver : Deed
  deed_deliver version last = Delivers (setting_of model rules) version number

  pub delivers-none : length told ≤ number → new ≡ old → NodeSteps model rules deed_deliver old told NoMessage new told
  delivers-none past same =
      says model rules deed_deliver old new told NoMessage same
      (λ node strings last are m sent end.
      match-none strings number (slice_get_past strings number (omega (arith, past, length-messages (setting_of model rules) told strings sent))) _ _ (refl, refl))

  pub delivers-sent : (b : List ℕ) (reply : Reply) → SpellsOne IsMessage → HasOneFault IsMessage IsMessageFault → Exchange → slice_get told number ≡ Some b
      → NodeSteps model rules (λ version last. Forges (setting_of model rules) version b) old told reply new told → NodeSteps model rules deed_deliver old told reply new told
  delivers-sent b reply one none exchange here node_steps = λ node strings version last are m sent present end.
      let node_step = node_steps node strings version last are m sent present end in
      let has = message_at (setting_of model rules) told strings number b sent here in
      let before : Scene = record { node = node; sent = strings } in
      let after : Scene = record { node = node_step.next; sent = node_step.more } in
      record {
        next = node_step.next;
        more = node_step.more;
        does = match-some strings number has.string has.here _ (λ s. Comes (setting_of model rules) version s Kept (keeping s before) before reply after)
            (comes_sent (setting_of model rules) version node.index are.chain present exchange before after reply one none b has.string has.of node_step.does);
        mirrors = node_step.mirrors;
        messages = node_step.messages;
      }
