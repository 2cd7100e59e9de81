-- What the code does with a node is a call of it, and what it does with its nodes is an event that is done.
use Rattle.std.proofs.Common.{◌≡◌, ℕ, zero, suc, ◌+◌, ◌<◌, ◌≤◌, List, [], ◌∷◌, ◌++◌, length, get_or, set, map, slice_get, Option, Some, None, Result, Ok, Err, refl, sym, ap, subst, ◌∙◌, arith}
use Rattle.std.proofs.lemmas.List.{set-get_or}
use Rattle.std.proofs.lemmas.List.Elements.{Contains-push}
use Rattle.std.proofs.lemmas.Option.{slice_get-map}
use Rattle.std.proofs.lemmas.Result.{IfOk-weaker}
use Rattle.std.specs.Option.{option_map}
use Rattle.std.specs.Prelude.{IfOk}
use Rattle.std.specs.declared.vec.Vec.{Vec}
use Rattle.std.specs.declared.alloc.Global.{Global}
use Rattle.np_chain.specs.Chain.{Extends, StandsAt}
use Rattle.np_node.specs.Accepting.{AnswersAccept, KeepsAndTells, LeavesAccepted}
use Rattle.np_node.specs.LentMessages.{TellsString}
use Rattle.np_node.specs.Nodes.{NodeState, State, state_of, with_entry}
use Rattle.np_node.specs.Strings.{Entry}
use Rattle.np_node.specs.Taking.{AnswersTake, LeavesTaken}
use Rattle.np_node.specs.declared.accepting.Accepted.{Accepted}
use Rattle.np_node.specs.declared.faults.NodeFault.{NodeFault}
use Rattle.np_node.specs.declared.taking.Taken.{Taken}
use Rattle.np_schedules.specs.Events.{Event, node_of}
use Rattle.np_versions.specs.Versions.{VersionData}
use Rattle.np_world.specs.Reports.{PlacedNode}
use Rattle.np_world.specs.Calls.{Stage, StaysPlaced, CallsTake, Calls}
use Rattle.np_world.specs.Histories.{IsDone}
use Rattle.np_world.specs.Moments.{Rules}
use Rattle.np_world.specs.Told.{reply_to}
use Rattle.np_world.specs.declared.replay_nodes.ReplayNode.{ReplayNode}
use Rattle.np_world.specs.declared.replies.Reply.{Reply}
use Rattle.np_world.specs.declared.replies.Reply.TheVariants.{Kept}
use Rattle.np_world.specs.inside.Views.{bytes_of, placed_of, stage_of, moment_of}

-- ---- one node

-- what holds of each reply holds where there is one
pub if_told : {E : Type 0} (back : Result Reply E) (P : Reply → Type 0) → ((reply : Reply) → back ≡ Ok reply → P reply) → IfOk back P
if_told (Ok reply) P holds = holds reply refl
if_told (Err e) P holds = tt

pub accept_answers : (node : State) (bytes text : List ℕ) (r x : Result Accepted NodeFault) → bytes ≡ text → r ≡ x → AnswersAccept node bytes r → AnswersAccept node text x
accept_answers node bytes text r x same is h = subst (λ a. AnswersAccept node text a) is (subst (λ l. AnswersAccept node l r) same h)

pub accept_leaves : {T : Type 0} (model : T → VersionData) (old new : NodeState T) (bytes text : List ℕ) (r x : Result Accepted NodeFault) → bytes ≡ text → r ≡ x → LeavesAccepted model old new bytes r → LeavesAccepted model old new text x
accept_leaves model old new bytes text r x same is h = subst (λ a. LeavesAccepted model old new text a) is (subst (λ l. LeavesAccepted model old new l r) same h)

-- the message that `accept` gave tells the string
pub tells_kept : {T : Type 0} (model : T → VersionData) (old new : NodeState T) (bytes message : List ℕ) → KeepsAndTells model old new bytes message → TellsString (state_of model new) bytes message
tells_kept model old new bytes message tells =
    let e : Entry = record { string = bytes; key = tells.key } in
    let told : TellsString (state_of model (with_entry old e)) bytes message = record { key = tells.key; kept = Contains-push old.entries e; is_key = tells.is_key; spelling = tells.spelling } in
    subst (λ n. TellsString (state_of model n) bytes message) (sym tells.kept) told

-- a message is taken
pub takes : {T : Type 0} (model : T → VersionData) (bytes : List ℕ) (before after : Stage T) {E : Type 0} (back : Result Reply E) (r : Result Taken NodeFault)
    → AnswersTake (state_of model before.placed.node) bytes r → LeavesTaken before.placed.node after.placed.node bytes r → StaysPlaced before after → after.sent ≡ before.sent
    → ((reply : Reply) → back ≡ Ok reply → reply_to Kept r ≡ Ok reply) → IfOk back (λ reply. CallsTake model bytes before reply after)
takes model bytes before after back r answers leaves stays sent told =
    if_told back (λ reply. CallsTake model bytes before reply after) (λ reply is. record { answer = r; answers = answers; leaves = leaves; stays = stays; sent = sent; told = told reply is })

abbrev pub stage_with : {T : Type 0} → ℕ → NodeState T → Option (List ℕ) → List (List ℕ) → Stage T
stage_with index node image sent = record { placed = record { index = index; node = node; image = image }; sent = sent }

abbrev pub placed_with : {T : Type 0} → ℕ → NodeState T → PlacedNode T
placed_with index node = record { index = index; node = node; image = None }

-- the next version extends the present one
pub next_extends : {T : Type 0} (model : T → VersionData) (tables : List T) (index : ℕ) (t : T) (w : VersionData) → slice_get tables index ≡ Some t → StandsAt (map model tables) (index + 1) w → Extends (model t) w
next_extends model tables index t w here stands = stands.earlier index (model t) (omega arith) (slice_get-map model tables index ∙ ap (option_map model) here)

-- ---- all nodes

bytes-push : (sent : List (Vec ℕ Global)) (b : Vec ℕ Global) → bytes_of (sent ++ b ∷ []) ≡ bytes_of sent ++ b.items ∷ []
bytes-push [] b = refl
bytes-push (x ∷ xs) b = ap (λ l. x.items ∷ l) (bytes-push xs b)

pub bytes_pushed : (sent more : List (Vec ℕ Global)) (b : Vec ℕ Global) → more ≡ sent ++ b ∷ [] → bytes_of more ≡ bytes_of sent ++ b.items ∷ []
bytes_pushed sent more b pushed = ap bytes_of pushed ∙ bytes-push sent b

pub length-bytes : (sent : List (Vec ℕ Global)) → length (bytes_of sent) ≡ length sent
length-bytes [] = refl
length-bytes (x ∷ xs) = ap suc (length-bytes xs)

-- the message of a number
pub bytes_at : (sent : List (Vec ℕ Global)) (k : ℕ) (b : Vec ℕ Global) → k < length sent → b ≡ get_or sent k b → slice_get (bytes_of sent) k ≡ Some b.items
bytes_at [] k b lt is = absurd (omega arith)
bytes_at (x ∷ xs) zero b lt is = ap (λ (v : Vec ℕ Global). Some v.items) (sym is)
bytes_at (x ∷ xs) (suc k) b lt is = bytes_at xs k b (omega arith) is

pub bytes_past : (sent : List (Vec ℕ Global)) (k : ℕ) → length sent ≤ k → slice_get (bytes_of sent) k ≡ None
bytes_past [] k past = refl
bytes_past (x ∷ xs) zero past = absurd (omega arith)
bytes_past (x ∷ xs) (suc k) past = bytes_past xs k (omega arith)

module _ {T : Type 0} where
  pub held_at : (nodes : List (ReplayNode T)) (k : ℕ) (d : ReplayNode T) → k < length nodes → slice_get (map placed_of nodes) k ≡ Some (placed_of (get_or nodes k d))
  held_at [] k d lt = absurd (omega arith)
  held_at (n ∷ ns) zero d lt = refl
  held_at (n ∷ ns) (suc k) d lt = held_at ns k d (omega arith)

  held-set : (nodes : List (ReplayNode T)) (k : ℕ) (new : ReplayNode T) → map placed_of (set nodes k new) ≡ set (map placed_of nodes) k (placed_of new)
  held-set [] k new = refl
  held-set (n ∷ ns) zero new = refl
  held-set (n ∷ ns) (suc k) new = ap (λ l. placed_of n ∷ l) (held-set ns k new)

module _ {T : Type 0} (model : T → VersionData) (rules : Rules T) (nodes : List (ReplayNode T)) (sent more : List (Vec ℕ Global)) where
  pub done : {event said : Event} → said ≡ event → node_of said < length nodes → (d new : ReplayNode T) (reply : Reply)
      → Calls model rules event (stage_of (get_or nodes (node_of event) d) (bytes_of sent)) reply (stage_of new (bytes_of more))
      → IsDone model rules (moment_of nodes sent) said reply (moment_of (set nodes (node_of event) new) more)
  done {event} {said} same named d new reply calls =
      let within : node_of event < length nodes = omega (arith, named, ap node_of same) in
      let is : IsDone model rules (moment_of nodes sent) event reply (moment_of (set nodes (node_of event) new) more) = record {
        old = placed_of (get_or nodes (node_of event) d);
        new = placed_of new;
        named = held_at nodes (node_of event) d within;
        calls = calls;
        nodes = held-set nodes (node_of event) new;
      } in
      subst (λ e. IsDone model rules (moment_of nodes sent) e reply (moment_of (set nodes (node_of event) new) more)) (sym same) is

  -- the same where the call may want memory
  pub ok_done : {event said : Event} → said ≡ event → node_of said < length nodes → (d new : ReplayNode T) {E : Type 0} (r : Result Reply E)
      → IfOk r (λ reply. Calls model rules event (stage_of (get_or nodes (node_of event) d) (bytes_of sent)) reply (stage_of new (bytes_of more)))
      → IfOk r (λ reply. IsDone model rules (moment_of nodes sent) said reply (moment_of (set nodes (node_of event) new) more))
  ok_done same named d new r calls = IfOk-weaker r _ _ (λ reply call. done same named d new reply call) calls

module _ {T : Type 0} (model : T → VersionData) (rules : Rules T) (nodes : List (ReplayNode T)) (sent : List (Vec ℕ Global)) where
  -- what is asked changes nothing
  pub undone : {event said : Event} → said ≡ event → node_of said < length nodes → (d : ReplayNode T) (reply : Reply)
      → Calls model rules event (stage_of (get_or nodes (node_of event) d) (bytes_of sent)) reply (stage_of (get_or nodes (node_of event) d) (bytes_of sent))
      → IsDone model rules (moment_of nodes sent) said reply (moment_of nodes sent)
  undone {event} {said} same named d reply calls =
      subst (λ l. IsDone model rules (moment_of nodes sent) said reply (moment_of l sent)) (set-get_or nodes (node_of event) d)
      (done model rules nodes sent sent same named d (get_or nodes (node_of event) d) reply calls)
