-- A node has an image exactly where an event saved it.
use Rattle.std.proofs.Common.{◌≡◌, ◌↔◌, ◌⊎◌, ℕ, zero, suc, List, [], ◌∷◌, ◌++◌, Bool, true, false, set, Option, Some, None, Result, Ok, Err, IsSome, slice_get, refl, sym, ap, subst, ◌∙◌, arith, inl, inr, append_assoc, append-nil}
use Rattle.std.proofs.lemmas.Bool.{both_ways}
use Rattle.std.proofs.lemmas.List.Elements.{Contains-append_left, Contains-push, Contains-push_cases}
use Rattle.std.specs.List.{Contains}
use Rattle.std.specs.Prelude.{MatchOption}
use Rattle.np_node.specs.Nodes.{NodeState}
use Rattle.np_node.specs.declared.faults.ImageFault.{ImageFault}
use Rattle.np_schedules.specs.Events.{Event, Accept, Deliver, Upgrade, Save, Restart, Ask, Forge, Forget, RestartUnder, node_of}
use Rattle.np_versions.specs.Versions.{VersionData}
use Rattle.np_world.specs.Reports.{PlacedNode}
use Rattle.np_world.specs.Calls.{Stage, CallsTake, CallsUpgrade, LeavesAgain, Calls}
use Rattle.np_world.specs.Histories.{IsDone, IsHistory}
use Rattle.np_world.specs.Moments.{Rules, Moment, AreNewAt}
use Rattle.np_world.specs.declared.replies.Reply.{Reply}
use Rattle.np_world.specs.declared.replies.Reply.TheVariants.{NoMessage}
use Rattle.np_world.specs.inside.Worlds.{image_of, LeavesImages}

abbrev pub HaveImages : {T : Type 0} → List (PlacedNode T) → List Event → Type 0
HaveImages nodes events = (k : ℕ) → IsSome (image_of nodes k) ↔ Contains events (Save k)

-- ---- what a call does to the image of its node

-- whether an event saves a node
abbrev pub saves : Event → Bool
saves (Save node) = true
saves other = false

module _ {T : Type 0} (model : T → VersionData) (rules : Rules T) (before after : Stage T) (reply : Reply) where
  kept_by_delivery : (o : Option (List ℕ)) → MatchOption o ((reply ≡ NoMessage) × (after ≡ before)) (λ bytes. CallsTake model bytes before reply after) → after.placed.image ≡ before.placed.image
  kept_by_delivery None calls = ap (λ (s : Stage T). s.placed.image) calls.1
  kept_by_delivery (Some bytes) calls = calls.stays.image

  kept_by_upgrade : CallsUpgrade rules before reply after → after.placed.image ≡ before.placed.image
  kept_by_upgrade (inl goes) = ap (λ (s : Stage T). s.placed.image) goes.now
  kept_by_upgrade (inr stays) = ap (λ (s : Stage T). s.placed.image) stays.same

  kept_by_restart : (place : ℕ) (answer : Result (NodeState T) ImageFault) → LeavesAgain place answer before reply after → after.placed.image ≡ before.placed.image
  kept_by_restart place (Ok node) leaves = ap (λ (s : Stage T). s.placed.image) leaves.1
  kept_by_restart place (Err refused) leaves = ap (λ (s : Stage T). s.placed.image) leaves.1

  image_kept : (event : Event) → saves event ≡ false → Calls model rules event before reply after → after.placed.image ≡ before.placed.image
  image_kept (Accept node string) other calls = calls.stays.image
  image_kept (Deliver node message) other calls = kept_by_delivery (slice_get before.sent message) calls
  image_kept (Upgrade node) other calls = kept_by_upgrade calls
  image_kept (Save node) other calls = absurd (both_ways true other refl)
  image_kept (Restart node) other calls = kept_by_restart before.placed.index calls.answer calls.leaves
  image_kept (Ask node left right) other calls = ap (λ (s : Stage T). s.placed.image) calls.same
  image_kept (Forge node bytes) other calls = calls.stays.image
  image_kept (Forget node string) other calls = calls.stays.image
  image_kept (RestartUnder node place) other calls = kept_by_restart place calls.answer calls.leaves

-- ---- what an event does to all images

module _ {T : Type 0} where
  same_images : (nodes : List (PlacedNode T)) (n k : ℕ) (old new : PlacedNode T) → slice_get nodes n ≡ Some old → new.image ≡ old.image → image_of (set nodes n new) k ≡ image_of nodes k
  same_images [] n k old new here same = refl
  same_images (m ∷ ms) zero zero old new here same = let is : m ≡ old = cc in same ∙ sym (ap (λ (p : PlacedNode T). p.image) is)
  same_images (m ∷ ms) zero (suc k) old new here same = refl
  same_images (m ∷ ms) (suc n) zero old new here same = refl
  same_images (m ∷ ms) (suc n) (suc k) old new here same = same_images ms n k old new here same

  -- an event that saves no node leaves all images
  leaves_all : (event : Event) (old new : List (PlacedNode T)) → saves event ≡ false → ((k : ℕ) → image_of new k ≡ image_of old k) → LeavesImages event old new
  leaves_all event old new kept same k = (
    λ some. inl (subst (λ o. IsSome o) (same k) some),
    λ h.
        elim h [
          | inl some ↦ subst (λ o. IsSome o) (sym (same k)) some
          | inr is ↦ absurd (both_ways _ kept (ap saves is))
        ],
  )

  -- an event that saves a node
  set_image : (nodes : List (PlacedNode T)) (n k : ℕ) (old new : PlacedNode T) → slice_get nodes n ≡ Some old → IsSome new.image → IsSome (image_of (set nodes n new) k) ↔ (IsSome (image_of nodes k) ⊎ (n ≡ k))
  set_image [] n k old new here some = absurd (cc)
  set_image (m ∷ ms) zero zero old new here some = (λ is. inr refl, λ h. some)
  set_image (m ∷ ms) zero (suc k) old new here some = (λ is. inl is, λ h. elim h [ inl is ↦ is | inr same ↦ absurd (omega arith) ])
  set_image (m ∷ ms) (suc n) zero old new here some = (λ is. inl is, λ h. elim h [ inl is ↦ is | inr same ↦ absurd (omega arith) ])
  set_image (m ∷ ms) (suc n) (suc k) old new here some =
      let rest = set_image ms n k old new here some in (
        λ is. elim (rest.0 is) [ inl was ↦ inl was | inr same ↦ inr (ap suc same) ],
        λ h. elim h [ inl was ↦ rest.1 (inl was) | inr same ↦ rest.1 (inr (omega arith)) ],
      )

  images_saved : (nodes : List (PlacedNode T)) (n : ℕ) (old new : PlacedNode T) → slice_get nodes n ≡ Some old → IsSome new.image → LeavesImages (Save n) nodes (set nodes n new)
  images_saved nodes n old new here some k =
      let at = set_image nodes n k old new here some in (
        λ h. elim (at.0 h) [ inl was ↦ inl was | inr same ↦ inr (ap Save same) ],
        λ h.
            elim h [
              | inl was ↦ at.1 (inl was)
              | inr saved ↦ let one : Save n ≡ Save k = cc in let same : n ≡ k = cc in at.1 (inr same)
            ],
      )

  -- ---- what all events did

  images_new : (rules : Rules T) (places : List ℕ) (nodes : List (PlacedNode T)) → AreNewAt rules places nodes → (k : ℕ) → image_of nodes k ≡ None
  images_new rules [] [] new k = refl
  images_new rules [] (n ∷ ns) new k = absurd new
  images_new rules (p ∷ ps) [] new k = absurd new
  images_new rules (p ∷ ps) (n ∷ ns) new zero = ap (λ (x : PlacedNode T). x.image) new.0.is
  images_new rules (p ∷ ps) (n ∷ ns) new (suc k) = images_new rules ps ns new.1 k

  pub images_none : (rules : Rules T) (places : List ℕ) (nodes : List (PlacedNode T)) → AreNewAt rules places nodes → HaveImages nodes []
  images_none rules places nodes new k =
      (λ some. absurd (both_ways _ refl (subst (λ o. IsSome o) (images_new rules places nodes new k) some)), λ has. absurd (omega (arith, has.1)))

  images_more : (old new : List (PlacedNode T)) (events : List Event) (event : Event) → HaveImages old events → LeavesImages event old new → HaveImages new (events ++ event ∷ [])
  images_more old new events event have leaves k = (
    λ some.
        elim ((leaves k).0 some) [
          | inl was ↦ Contains-append_left events (event ∷ []) (Save k) ((have k).0 was)
          | inr is ↦ subst (Contains (events ++ event ∷ [])) is (Contains-push events event)
        ],
    λ has.
        elim (Contains-push_cases events event (Save k) has) [
          | inl before ↦ (leaves k).1 (inl ((have k).1 before))
          | inr is ↦ (leaves k).1 (inr is)
        ],
  )

module _ {T : Type 0} (model : T → VersionData) (rules : Rules T) where
  -- one event
  leaves_images : (before after : Moment T) (event : Event) (reply : Reply) → IsDone model rules before event reply after → LeavesImages event before.nodes after.nodes
  leaves_images before after event reply done =
      subst (λ l. LeavesImages event before.nodes l) (sym done.nodes) (by event done)
    where
      kept : (e : Event) (d : IsDone model rules before e reply after) → saves e ≡ false → LeavesImages e before.nodes (set before.nodes (node_of e) d.new)
      kept e d other =
          leaves_all e before.nodes (set before.nodes (node_of e) d.new) other (λ k. same_images before.nodes (node_of e) k d.old d.new d.named
          (image_kept model rules (record { placed = d.old; sent = before.sent }) (record { placed = d.new; sent = after.sent }) reply e other d.calls))

      by : (e : Event) (d : IsDone model rules before e reply after) → LeavesImages e before.nodes (set before.nodes (node_of e) d.new)
      by (Save node) d =
          images_saved before.nodes node d.old d.new d.named (subst (λ o. IsSome o) (sym (ap (λ (s : Stage T). s.placed.image) d.calls.now)) refl)
      by (Accept node string) d = kept (Accept node string) d refl
      by (Deliver node message) d = kept (Deliver node message) d refl
      by (Upgrade node) d = kept (Upgrade node) d refl
      by (Restart node) d = kept (Restart node) d refl
      by (Ask node left right) d = kept (Ask node left right) d refl
      by (Forge node bytes) d = kept (Forge node bytes) d refl
      by (Forget node string) d = kept (Forget node string) d refl
      by (RestartUnder node place) d = kept (RestartUnder node place) d refl

  -- one event after another, behind those that were
  pub images_are : (events seen : List Event) (before after : Moment T) (replies : List Reply) → HaveImages before.nodes seen → IsHistory model rules before events replies after
      → HaveImages after.nodes (seen ++ events)
  images_are [] seen before after replies have history =
      subst (λ (m : Moment T). HaveImages m.nodes (seen ++ [])) (sym history.1) (subst (HaveImages before.nodes) (sym (append-nil seen)) have)
  images_are (event ∷ events) seen before after replies have (reply, rest, between, same, done, later) =
      let more = images_more before.nodes between.nodes seen event have (leaves_images before between event reply done) in
      subst (HaveImages after.nodes) (append_assoc seen (event ∷ []) events) (images_are events (seen ++ event ∷ []) between after rest more later)
