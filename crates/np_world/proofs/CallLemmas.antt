-- Each call of a node is a step of the machine.
use Rattle.std.proofs.Common.{◌≡◌, ℕ, ◌+◌, ◌<◌, ◌≤◌, List, Bool, true, false, length, map, slice_get, Option, Some, None, Result, Ok, Err, refl, sym, ap, subst, ◌∙◌, arith, inl, inr}
use Rattle.std.proofs.lemmas.Bool.{both_ways}
use Rattle.std.proofs.lemmas.Option.{slice_get-map, slice_get_within}
use Rattle.std.specs.Option.{option_map}
use Rattle.std.specs.Prelude.{chars, IfOk, IsUtf8, MatchOption}
use Rattle.np_chain.proofs.ChainLemmas.{StandsAt-from}
use Rattle.np_chain.specs.Chain.{StandsAt}
use Rattle.np_chain.specs.Laws.{Stability}
use Rattle.np_code_points.specs.declared.Memory.{Memory}
use Rattle.np_forms.specs.Laws.{SameForms}
use Rattle.np_node.specs.Accepting.{AnswersKeep, LeavesKept}
use Rattle.np_node.specs.Comparing.{AnswersSame}
use Rattle.np_node.specs.Forgetting.{Forgets}
use Rattle.np_node.specs.Images.{IsImage, IsImageFault}
use Rattle.np_node.specs.Laws.{Exchange, HasOneFault, NeverFewer, Saved, SpellsOne}
use Rattle.np_node.specs.Messages.{IsMessage, IsMessageFault}
use Rattle.np_node.specs.Nodes.{NodeState, state_of}
use Rattle.np_node.specs.declared.faults.ImageFault.{ImageFault}
use Rattle.np_node.specs.declared.faults.NodeFault.{NodeFault}
use Rattle.np_node.specs.declared.faults.NodeFault.TheVariants as fault
use Rattle.np_node.specs.declared.taking.Taken.{Taken}
use Rattle.np_node.specs.declared.taking.Taken.TheVariants as taken
use Rattle.np_schedules.specs.Events.{Event, Accept, Deliver, Upgrade, Save, Restart, Ask, Forge, Forget, RestartUnder}
use Rattle.np_versions.specs.Versions.{VersionData}
use Rattle.np_world.specs.Reports.{PlacedNode}
use Rattle.np_world.specs.Calls.{Stage, StaysPlaced, Sends, CallsTake, CallsUpgrade, CallsImage, AnswersAgain, LeavesAgain, Calls}
use Rattle.np_world.specs.Moments.{Rules, AreRules, empty_node}
use Rattle.np_world.specs.Told.{comparing_reply, forgetting_reply, refusal_of, reply_to}
use Rattle.np_world.specs.World.{MachineNode, Accepts, Asks, Delivers, Does, Forges, Forgets as MachineForgets, Restarts, RestartsUnder, Saves, Upgrades}
use Rattle.np_world.specs.declared.replies.Reply.{Reply}
use Rattle.np_world.specs.declared.replies.Reply.TheVariants.{Sent, Known, NoMessage, Equal, Different, Version, LastVersion, Saved as TheSaved}
use Rattle.np_world.specs.inside.Mirrors.{Mirrors, NodeSteps, setting_of}
use Rattle.np_world.specs.inside.Restarting.{BeginsAgain, RefusesToBegin}
use Rattle.np_world.proofs.AcceptLemmas.{accepts-kept, accepts-known, accepts-refused}
use Rattle.np_world.proofs.AskLemmas.{asks-kept, asks-none}
use Rattle.np_world.proofs.DeliverLemmas.{delivers-none, delivers-sent}
use Rattle.np_world.proofs.ForgeLemmas.{forges}
use Rattle.np_world.proofs.ForgettingLemmas.{forgets-gone, forgets-none}
use Rattle.np_world.proofs.NodeStepLemmas.{Deed, node_stepped, same_placed}
use Rattle.np_world.proofs.RestartLemmas.{begins-empty, begins-saved, only_memory, refuses, restart-refused, restarts, restarts-under}
use Rattle.np_world.proofs.SaveLemmas.{saves, stays_last, upgrades}
use Rattle.np_world.proofs.SentLemmas.{ended}

-- the laws that the steps rest on
pub record TheLaws : Type 0 where
  pub message : SpellsOne IsMessage
  pub message_fault : HasOneFault IsMessage IsMessageFault
  pub image : SpellsOne IsImage
  pub image_fault : HasOneFault IsImage IsImageFault
  pub exchange : Exchange
  pub saved : Saved
  pub fewer : NeverFewer
  pub stability : Stability
  pub forms : SameForms

module _ {T : Type 0} (model : T → VersionData) (rules : Rules T) where
  -- a call is a step of the machine
  abbrev Steps : Deed → Stage T → Reply → Stage T → Type 0
  Steps deed before reply after = NodeSteps model rules deed before.placed before.sent reply after.placed after.sent

  -- nothing is sent
  unsent : (deed : Deed) (before after : Stage T) (reply : Reply) → after.sent ≡ before.sent → NodeSteps model rules deed before.placed before.sent reply after.placed before.sent → Steps deed before reply after
  unsent deed before after reply same steps = subst (λ l. NodeSteps model rules deed before.placed before.sent reply after.placed l) (sym same) steps

  -- the rules hold, and some node of the machine is mirrored
  where_mirrored : (deed : Deed) (before after : Stage T) (reply : Reply)
      → (AreRules model rules → (twin : MachineNode) → Mirrors model rules before.placed twin → Steps deed before reply after) → Steps deed before reply after
  where_mirrored deed before after reply steps = λ node strings version last are m sent present end. steps are node m node strings version last are m sent present end

  -- ---- strings

  accepted : (before after : Stage T) (bytes : List ℕ) (reply : Reply) (r : Result Taken NodeFault) → IsUtf8 bytes → AnswersKeep (state_of model before.placed.node) bytes r
      → LeavesKept model before.placed.node after.placed.node bytes r → StaysPlaced before after → Sends model bytes r before after → reply_to (Sent (length before.sent)) r ≡ Ok reply
      → Steps (λ v end. Accepts (setting_of model rules) v (chars bytes)) before reply after
  accepted before after bytes reply (Ok taken.Kept) utf8 answers leaves stays sends told =
      let is : Sent (length before.sent) ≡ reply = cc in
      subst (λ said. Steps (λ v end. Accepts (setting_of model rules) v (chars bytes)) before said after) is
      (accepts-kept model rules before.placed after.placed bytes sends.0 before.sent after.sent answers leaves sends.1 stays.index stays.image sends.2)
  accepted before after bytes reply (Ok taken.Known) utf8 answers leaves stays sends told =
      let is : Known ≡ reply = cc in
      subst (λ said. Steps (λ v end. Accepts (setting_of model rules) v (chars bytes)) before said after) is
      (unsent _ before after Known sends (accepts-known model rules before.placed after.placed bytes before.sent answers.0 answers.1 (same_placed after.placed before.placed stays.index leaves stays.image)))
  accepted before after bytes reply (Err f) utf8 answers leaves stays sends told =
      unsent _ before after reply sends
      (subst (λ (said : Result Reply Memory). IfOk said (λ said. NodeSteps model rules (λ v end. Accepts (setting_of model rules) v (chars bytes)) before.placed before.sent said after.placed before.sent)) told
      (accepts-refused model rules before.placed after.placed bytes before.sent f utf8 answers (same_placed after.placed before.placed stays.index leaves stays.image)))

  -- the message of a node, or what anybody made
  took : TheLaws → (before after : Stage T) (bytes : List ℕ) (reply : Reply) → CallsTake model bytes before reply after
      → NodeSteps model rules (λ v end. Forges (setting_of model rules) v bytes) before.placed before.sent reply after.placed before.sent
  took laws before after bytes reply calls =
      subst (λ (said : Result Reply Memory). IfOk said (λ said. NodeSteps model rules (λ v end. Forges (setting_of model rules) v bytes) before.placed before.sent said after.placed before.sent)) calls.told
      (forges model rules before.placed after.placed bytes before.sent laws.message calls.stays.index calls.stays.image calls.answer calls.answers calls.leaves)

  delivered : TheLaws → (before after : Stage T) (message : ℕ) (reply : Reply) (o : Option (List ℕ)) → slice_get before.sent message ≡ o
      → MatchOption o ((reply ≡ NoMessage) × (after ≡ before)) (λ bytes. CallsTake model bytes before reply after)
      → Steps (λ v end. Delivers (setting_of model rules) v message) before reply after
  delivered laws before after message reply None here calls =
      subst (λ (a : Stage T). Steps (λ v end. Delivers (setting_of model rules) v message) before reply a) (sym calls.1)
      (subst (λ said. Steps (λ v end. Delivers (setting_of model rules) v message) before said before) (sym calls.0)
      (delivers-none model rules before.placed before.placed message before.sent (ended before.sent message here) refl))
  delivered laws before after message reply (Some bytes) here calls =
      unsent _ before after reply calls.sent
      (delivers-sent model rules before.placed after.placed message before.sent bytes reply laws.message laws.message_fault laws.exchange here (took laws before after bytes reply calls))

  forgot : (before after : Stage T) (bytes : List ℕ) (reply : Reply) (answer : Bool) → IsUtf8 bytes → Forgets before.placed.node after.placed.node bytes answer → StaysPlaced before after
      → after.sent ≡ before.sent → reply ≡ forgetting_reply answer → Steps (λ v end. MachineForgets (chars bytes)) before reply after
  forgot before after bytes reply true utf8 leaves stays sent told =
      unsent _ before after reply sent
      (subst (λ said. NodeSteps model rules (λ v end. MachineForgets (chars bytes)) before.placed before.sent said after.placed before.sent) (sym told)
      (forgets-gone model rules before.placed after.placed bytes utf8 before.sent leaves.0 leaves.1 stays.index stays.image leaves.2))
  forgot before after bytes reply false utf8 leaves stays sent told =
      unsent _ before after reply sent
      (subst (λ said. NodeSteps model rules (λ v end. MachineForgets (chars bytes)) before.placed before.sent said after.placed before.sent) (sym told)
      (forgets-none model rules before.placed after.placed bytes utf8 before.sent leaves.0 stays.index stays.image leaves.1))

  compared : TheLaws → (before : Stage T) (left right : List ℕ) (reply : Reply) (answer : Option Bool) → IsUtf8 left → IsUtf8 right → AnswersSame (state_of model before.placed.node) left right answer
      → reply ≡ comparing_reply answer → Steps (λ v end. Asks (setting_of model rules) end (chars left) (chars right)) before reply before
  compared laws before left right reply None first second answers told =
      subst (λ said. Steps (λ v end. Asks (setting_of model rules) end (chars left) (chars right)) before said before) (sym told)
      (asks-none model rules before.placed before.placed left right before.sent refl first second answers)
  compared laws before left right reply (Some true) first second answers told =
      subst (λ said. Steps (λ v end. Asks (setting_of model rules) end (chars left) (chars right)) before said before) (sym told)
      (asks-kept model rules before.placed before.placed left right before.sent refl laws.stability laws.forms answers.0 answers.1 Equal (inl (answers.2.0 refl, refl)))
  compared laws before left right reply (Some false) first second answers told =
      subst (λ said. Steps (λ v end. Asks (setting_of model rules) end (chars left) (chars right)) before said before) (sym told)
      (asks-kept model rules before.placed before.placed left right before.sent refl laws.stability laws.forms answers.0 answers.1 Different
      (inr (λ is. both_ways false refl (answers.2.1 is), refl)))

  -- ---- versions and images

  upgraded : TheLaws → (before after : Stage T) (reply : Reply) → CallsUpgrade rules before reply after → Steps (λ v end. Upgrades (setting_of model rules)) before reply after
  upgraded laws before after reply (inl goes) =
      let moved : Stage T = record before { placed = record before.placed { index = before.placed.index + 1; node = record before.placed.node { table = goes.table } } } in
      subst (λ (a : Stage T). Steps (λ v end. Upgrades (setting_of model rules)) before reply a) (sym goes.now)
      (subst (λ said. Steps (λ v end. Upgrades (setting_of model rules)) before said moved) (sym goes.told)
      (node_stepped model rules (λ v end. Upgrades (setting_of model rules)) before.placed moved.placed before.sent before.sent (Version (before.placed.index + 1))
      (λ node strings last are m sent end. upgrades model rules before.placed node m strings last goes.table moved.placed before.sent are laws.saved laws.fewer
      (slice_get_within rules.tables (before.placed.index + 1) goes.table goes.next) goes.next refl refl refl sent)))
  upgraded laws before after reply (inr stays) =
      subst (λ (a : Stage T). Steps (λ v end. Upgrades (setting_of model rules)) before reply a) (sym stays.same)
      (subst (λ said. Steps (λ v end. Upgrades (setting_of model rules)) before said before) (sym stays.told)
      (node_stepped model rules (λ v end. Upgrades (setting_of model rules)) before.placed before.placed before.sent before.sent LastVersion
      (λ node strings last are m sent end.
      let some : before.placed.index < length rules.tables = slice_get_within rules.tables before.placed.index before.placed.node.table m.table in
      let at_last : length rules.tables ≤ before.placed.index + 1 = stays.last in
      stays_last model rules before.placed node m strings last before.placed before.sent (omega (arith, some)) (omega (arith, some, at_last)) refl sent)))

  imaged : (before after : Stage T) (reply : Reply) → CallsImage model before reply after → Steps (λ v end. Saves) before reply after
  imaged before after reply calls =
      let moved : Stage T = record before { placed = record before.placed { image = Some calls.image } } in
      subst (λ (a : Stage T). Steps (λ v end. Saves) before reply a) (sym calls.now)
      (subst (λ said. Steps (λ v end. Saves) before said moved) (sym calls.told)
      (node_stepped model rules (λ v end. Saves) before.placed moved.placed before.sent before.sent TheSaved
      (λ node strings last are m sent end. saves model rules before.placed node m strings last calls.image moved.placed before.sent calls.spelling refl refl refl sent)))

  module _ (laws : TheLaws) (are : AreRules model rules) (placed : PlacedNode T) (place : ℕ) (t : T) (here : slice_get rules.tables place ≡ Some t) where
    stands : StandsAt (map model rules.tables) place (model t)
    stands = StandsAt-from (map model rules.tables) place (model t) are.chain (slice_get-map model rules.tables place ∙ ap (option_map model) here)

    begins : (node : NodeState T) (image : Option (List ℕ)) → placed.image ≡ image → AnswersAgain model rules t image (Ok node) → BeginsAgain model rules placed place node
    begins node None none answers =
        let is : node ≡ empty_node rules t = cc in begins-empty model rules placed place t here are node stands none is
    begins node (Some image) some answers = begins-saved model rules placed place t here are laws.saved laws.image image some node stands answers

    refused_by : (twin : MachineNode) → Mirrors model rules placed twin → (refused : ImageFault) (image : Option (List ℕ)) → placed.image ≡ image → AnswersAgain model rules t image (Err refused)
        → RefusesToBegin model rules placed place refused.fault
    refused_by twin m refused None none answers = absurd (cc)
    refused_by twin m refused (Some image) some answers =
        refuses model rules placed place t here are laws.saved laws.image image some twin m laws.image_fault refused.entry refused.fault answers

  restored_under : TheLaws → (before after : Stage T) (reply : Reply) (place : ℕ) (t : T) → slice_get rules.tables place ≡ Some t → (answer : Result (NodeState T) ImageFault)
      → AnswersAgain model rules t before.placed.image answer → LeavesAgain place answer before reply after → Steps (λ v end. RestartsUnder (setting_of model rules) place) before reply after
  restored_under laws before after reply place t here (Ok node) answers leaves =
      where_mirrored _ before after reply (λ are twin m.
      let begun : Stage T = record before { placed = record before.placed { index = place; node = node } } in
      subst (λ (a : Stage T). Steps (λ v end. RestartsUnder (setting_of model rules) place) before reply a) (sym leaves.1)
      (subst (λ said. Steps (λ v end. RestartsUnder (setting_of model rules) place) before said begun) (sym leaves.0)
      (restarts-under model rules before.placed begun.placed before.sent place node (begins laws are before.placed place t here node before.placed.image refl answers) refl)))
  restored_under laws before after reply place t here (Err refused) answers leaves =
      where_mirrored _ before after reply (λ are twin m.
      subst (λ (a : Stage T). Steps (λ v end. RestartsUnder (setting_of model rules) place) before reply a) (sym leaves.1)
      (subst (λ (said : Result Reply Memory). IfOk said (λ said. Steps (λ v end. RestartsUnder (setting_of model rules) place) before said before)) leaves.0
      (restart-refused model rules before.placed before.placed before.sent place refused.fault
      (refused_by laws are before.placed place t here twin m refused before.placed.image refl answers) refl)))

  restored : TheLaws → (before after : Stage T) (reply : Reply) (t : T) → slice_get rules.tables before.placed.index ≡ Some t → (answer : Result (NodeState T) ImageFault)
      → AnswersAgain model rules t before.placed.image answer → LeavesAgain before.placed.index answer before reply after → Steps (λ v end. Restarts) before reply after
  restored laws before after reply t here (Ok node) answers leaves =
      where_mirrored _ before after reply (λ are twin m.
      let begun : Stage T = record before { placed = record before.placed { index = before.placed.index; node = node } } in
      subst (λ (a : Stage T). Steps (λ v end. Restarts) before reply a) (sym leaves.1)
      (subst (λ said. Steps (λ v end. Restarts) before said begun) (sym leaves.0)
      (restarts model rules before.placed begun.placed before.sent node (begins laws are before.placed before.placed.index t here node before.placed.image refl answers) refl)))
  restored laws before after reply t here (Err refused) answers leaves =
      where_mirrored _ before after reply (λ are twin m.
      let memory = only_memory model rules before.placed twin m refused.fault (refused_by laws are before.placed before.placed.index t here twin m refused before.placed.image refl answers) in
      let none : refusal_of fault.Memory ≡ Ok reply = sym (ap refusal_of memory) ∙ leaves.0 in
      absurd (cc))

  -- ---- each event

  pub call_steps : TheLaws → (event : Event) (before after : Stage T) (reply : Reply) → Calls model rules event before reply after
      → NodeSteps model rules (λ v end. Does (setting_of model rules) v end event) before.placed before.sent reply after.placed after.sent
  call_steps laws (Accept node string) before after reply calls =
      subst (λ s. Steps (λ v end. Accepts (setting_of model rules) v s) before reply after) (sym calls.spells.text_is)
      (accepted before after calls.bytes reply calls.answer calls.spells.utf8 calls.answers calls.leaves calls.stays calls.sends calls.told)
  call_steps laws (Deliver node message) before after reply calls = delivered laws before after message reply (slice_get before.sent message) refl calls
  call_steps laws (Upgrade node) before after reply calls = upgraded laws before after reply calls
  call_steps laws (Save node) before after reply calls = imaged before after reply calls
  call_steps laws (Restart node) before after reply calls = restored laws before after reply calls.restores.table calls.restores.here calls.answer calls.restores.answers calls.leaves
  call_steps laws (Ask node left right) before after reply calls =
      subst (λ (a : Stage T). Steps (λ v end. Asks (setting_of model rules) end left right) before reply a) (sym calls.same)
      (subst (λ l. Steps (λ v end. Asks (setting_of model rules) end l right) before reply before) (sym calls.spells_left.text_is)
      (subst (λ r. Steps (λ v end. Asks (setting_of model rules) end (chars calls.first) r) before reply before) (sym calls.spells_right.text_is)
      (compared laws before calls.first calls.second reply calls.answer calls.spells_left.utf8 calls.spells_right.utf8 calls.answers calls.told)))
  call_steps laws (Forge node bytes) before after reply calls = unsent _ before after reply calls.sent (took laws before after bytes reply calls)
  call_steps laws (Forget node string) before after reply calls =
      subst (λ s. Steps (λ v end. MachineForgets s) before reply after) (sym calls.spells.text_is)
      (forgot before after calls.bytes reply calls.answer calls.spells.utf8 calls.leaves calls.stays calls.sent calls.told)
  call_steps laws (RestartUnder node place) before after reply calls =
      restored_under laws before after reply place calls.restores.table calls.restores.here calls.answer calls.restores.answers calls.leaves
