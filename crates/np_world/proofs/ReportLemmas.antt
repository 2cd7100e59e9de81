-- What holds of nodes and messages that mirror the machine's run.
use Rattle.std.proofs.Common.{◌≡◌, ℕ, zero, suc, ◌-◌, ◌≤◌, ◌⊎◌, ◌↔◌, List, [], ◌∷◌, length, get_or, map, slice_get, Option, Some, None, Bool, true, false, IsTrue, refl, sym, ap, subst, ◌∙◌, arith, inl, inr}
use Rattle.std.proofs.lemmas.List.{length-map}
use Rattle.std.proofs.lemmas.Option.{slice_get_within}
use Rattle.std.specs.Option.{option_map, option_and_then}
use Rattle.std.specs.Prelude.{chars, IfSome, IsSomeAnd, MatchOption}
use Rattle.np_chain.proofs.ChainLemmas.{StandsAt-from}
use Rattle.np_chain.specs.Laws.{Stability}
use Rattle.np_code_points.specs.declared.forms.Form.{Form}
use Rattle.np_code_points.specs.Forms.{is_compat}
use Rattle.np_forms.specs.Forms.{IsEquivalent}
use Rattle.np_forms.specs.Laws.{SameForms}
use Rattle.np_node.proofs.KeyLemmas.{later_entry}
use Rattle.np_node.specs.Comparing.{AnswersSame}
use Rattle.np_node.specs.Nodes.{NodeState, state_of, IsKept}
use Rattle.np_node.specs.Strings.{Entry, IsEntry}
use Rattle.np_versions.specs.Versions.{VersionData}
use Rattle.np_schedules.specs.Events.{Event, ScheduleData}
use Rattle.np_world.specs.Histories.{TellsTheRun, report_at, schedule_of}
use Rattle.np_world.specs.Laws.{OneRun}
use Rattle.np_world.specs.Moments.{Rules, Moment}
use Rattle.np_world.specs.Reports.{index_at, node_at, PlacedNode}
use Rattle.np_world.specs.Runs.{AgreeOn, AnswerAlike, AreKeysUnder, HasOneRun, InTheRun, IsLast, IsMessageUnder, IsNodeOf, IsSavedBy, LendsImages, LendsMessages, NeverSaved, texts_in}
use Rattle.np_world.specs.World.{Setting, MachineNode, World, IsRun, start}
use Rattle.np_world.specs.declared.replies.Reply.{Reply}
use Rattle.np_world.specs.inside.Mirrors.{Mirrors, IsMessageOf, AreMessages, HasSaved, setting_of}
use Rattle.np_world.specs.inside.Worlds.{AreMirrored, EndsRun}
use Rattle.np_world.proofs.AskLemmas.{equivalent_last}
use Rattle.np_world.proofs.NodeStepLemmas.{table_here}

-- ---- what stands at a place of mirrored lists

record AreBoth {T : Type 0} (model : T → VersionData) (rules : Rules T) (held : List (PlacedNode T)) (nodes : List MachineNode) (k : ℕ) : Type 0 where
  placed : PlacedNode T
  node : MachineNode
  first : slice_get held k ≡ Some placed
  second : slice_get nodes k ≡ Some node
  mirrors : Mirrors model rules placed node

both_at : {T : Type 0} (model : T → VersionData) (rules : Rules T) (held : List (PlacedNode T)) (nodes : List MachineNode) (k : ℕ) → AreMirrored model rules held nodes
    → ((slice_get held k ≡ None) × (slice_get nodes k ≡ None)) ⊎ AreBoth model rules held nodes k
both_at model rules [] [] k are = inl (refl, refl)
both_at model rules [] (n ∷ ns) k are = absurd are
both_at model rules (m ∷ ms) [] k are = absurd are
both_at model rules (m ∷ ms) (n ∷ ns) zero are = inr (record { placed = m; node = n; first = refl; second = refl; mirrors = are.0 })
both_at model rules (m ∷ ms) (n ∷ ns) (suc k) are =
    elim (both_at model rules ms ns k are.1) [
      | inl none ↦ inl none
      | inr both ↦ inr (record { placed = both.placed; node = both.node; first = both.first; second = both.second; mirrors = both.mirrors })
    ]

record IsSentAt (told : List (List ℕ)) (strings : List (List ℕ)) (k : ℕ) (P : List ℕ → List ℕ → Type 0) : Type 0 where
  bytes : List ℕ
  string : List ℕ
  first : slice_get told k ≡ Some bytes
  second : slice_get strings k ≡ Some string
  is : P bytes string

sent_at : (setting : Setting) (told : List (List ℕ)) (strings : List (List ℕ)) (k : ℕ) → AreMessages setting told strings
    → ((slice_get told k ≡ None) × (slice_get strings k ≡ None)) ⊎ IsSentAt told strings k (IsMessageOf setting)
sent_at setting [] [] k are = inl (refl, refl)
sent_at setting [] (s ∷ ss) k are = absurd are
sent_at setting (b ∷ bs) [] k are = absurd are
sent_at setting (b ∷ bs) (s ∷ ss) zero are = inr (record { bytes = b; string = s; first = refl; second = refl; is = are.0 })
sent_at setting (b ∷ bs) (s ∷ ss) (suc k) are =
    elim (sent_at setting bs ss k are.1) [
      | inl none ↦ inl none
      | inr both ↦ inr (record { bytes = both.bytes; string = both.string; first = both.first; second = both.second; is = both.is })
    ]

-- ---- two answers

record TellsIn (v : VersionData) (form : Form) (left right : List ℕ) (answer : Option Bool) : Type 0 where
  equal : Bool
  is : answer ≡ Some equal
  tells : IsTrue equal ↔ IsEquivalent v (is_compat form) (chars left) (chars right)

same_truth : (a b : Bool) → (IsTrue a → IsTrue b) → (IsTrue b → IsTrue a) → a ≡ b
same_truth true true there back = refl
same_truth true false there back = sym (there refl)
same_truth false true there back = back refl
same_truth false false there back = refl

module _ {T : Type 0} {model : T → VersionData} {rules : Rules T} {places : List ℕ} {events : List Event} {replies : List Reply} {final : Moment T}
    (is : EndsRun model rules places events replies final) where
  abbrev schedule : ScheduleData
  schedule = schedule_of rules places events

  abbrev at : (i : ℕ) → ((slice_get final.nodes i ≡ None) × (slice_get is.world.nodes i ≡ None)) ⊎ AreBoth model rules final.nodes is.world.nodes i
  at i = both_at model rules final.nodes is.world.nodes i is.shows.nodes

  -- the run that the nodes mirror is the only one
  only_run : OneRun → (others : List Reply) (other : World) → IsRun (setting_of model rules) (start places) events others other → (others ≡ replies) × (other ≡ is.world)
  only_run once others other run = once (setting_of model rules) (start places) events others replies other is.world run is.run

  one_is : OneRun → HasOneRun model rules.tables rules.form schedule
  one_is once = ((replies, is.world), is.run, the_one)
    where
      the_one : (other : List Reply × World) → IsRun (setting_of model rules) (start places) events other.0 other.1 → other ≡ (replies, is.world)
      the_one (others, world) run =
          let same = only_run once others world run in
          let by_replies : (others, world) ≡ (replies, world) = ap (λ (rs : List Reply). (rs, world)) same.0 in
          let by_world : (replies, world) ≡ (replies, is.world) = ap (λ (w : World). (replies, w)) same.1 in
          by_replies ∙ by_world

  in_the_run : OneRun → (P : List Reply → World → Type 0) → P replies is.world → InTheRun model rules.tables rules.form schedule P
  in_the_run once P holds others other run =
      let same = only_run once others other run in
      subst (λ rs. P rs other) (sym same.0) (subst (P replies) (sym same.1) holds)

  indices_are : OneRun → InTheRun model rules.tables rules.form schedule (λ others world. (i : ℕ) → index_at (report_at replies final) i ≡ option_map (λ node. node.index) (slice_get world.nodes i))
  indices_are once = in_the_run once (λ others world. (i : ℕ) → index_at (report_at replies final) i ≡ option_map (λ node. node.index) (slice_get world.nodes i)) (λ i.
      elim (at i) [
        | inl none ↦ ap (option_map (λ (n : PlacedNode T). n.index)) none.0 ∙ sym (ap (option_map (λ (n : MachineNode). n.index)) none.1)
        | inr both ↦ ap (option_map (λ (n : PlacedNode T). n.index)) both.first ∙ ap Some both.mirrors.index ∙ sym (ap (option_map (λ (n : MachineNode). n.index)) both.second)
      ])

  strings_are : OneRun → InTheRun model rules.tables rules.form schedule
      (λ others world. (i : ℕ) → option_map (λ node. texts_in node.entries) (node_at (report_at replies final) i) ≡ option_map (λ node. node.strings) (slice_get world.nodes i))
  strings_are once = in_the_run once (λ others world. (i : ℕ) → option_map (λ node. texts_in node.entries) (node_at (report_at replies final) i) ≡ option_map (λ node. node.strings) (slice_get world.nodes i)) (λ i.
      elim (at i) [
        | inl none ↦ ap (λ o. option_map (λ (n : NodeState T). texts_in n.entries) (option_map (λ (n : PlacedNode T). n.node) o)) none.0 ∙ sym (ap (option_map (λ (n : MachineNode). n.strings)) none.1)
        | inr both ↦ ap (λ o. option_map (λ (n : NodeState T). texts_in n.entries) (option_map (λ (n : PlacedNode T). n.node) o)) both.first ∙ ap Some (sym both.mirrors.strings)
            ∙ sym (ap (option_map (λ (n : MachineNode). n.strings)) both.second)
      ])

  nodes_are : (i : ℕ) → MatchOption (node_at (report_at replies final) i) (index_at (report_at replies final) i ≡ None)
      (λ node. IsNodeOf rules.tables rules.form rules.room (index_at (report_at replies final) i) node)
  nodes_are i =
      let IsOf : Option (PlacedNode T) → Type 0 = λ o. MatchOption (option_map (λ (n : PlacedNode T). n.node) o) (option_map (λ (n : PlacedNode T). n.index) o ≡ None)
      (λ node. IsNodeOf rules.tables rules.form rules.room (option_map (λ (n : PlacedNode T). n.index) o) node) in
      elim (at i) [
        | inl none ↦ subst IsOf (sym none.0) refl
        | inr both ↦ subst IsOf (sym both.first)
            (record { place = both.placed.index; index_is = refl; table_is = both.mirrors.table; form_is = both.mirrors.form; room_is = both.mirrors.room })
      ]

  -- a fact of each node
  if_node : (P : NodeState T → Type 0) → ((placed : PlacedNode T) (node : MachineNode) → Mirrors model rules placed node → P placed.node) → (i : ℕ) → IfSome (node_at (report_at replies final) i) P
  if_node P each i =
      elim (at i) [
        | inl none ↦ subst (λ o. IfSome (option_map (λ (n : PlacedNode T). n.node) o) P) (sym none.0) tt
        | inr both ↦ subst (λ o. IfSome (option_map (λ (n : PlacedNode T). n.node) o) P) (sym both.first) (each both.placed both.node both.mirrors)
      ]

  module _ (once : OneRun) (stability : Stability) (forms : SameForms) (last : VersionData) (end : IsLast (map model rules.tables) last) where
    ends_at : slice_get (map model rules.tables) (length rules.tables - 1) ≡ Some last
    ends_at = ap (λ n. slice_get (map model rules.tables) (n - 1)) (sym (length-map rules.tables model)) ∙ end

    -- a string beside its key under an earlier version is so under the last
    last_entry : (place : ℕ) (v : VersionData) → slice_get (map model rules.tables) place ≡ Some v → (entry : Entry) → IsEntry v rules.form entry → IsEntry last rules.form entry
    last_entry place v here entry is_entry =
        let vs = map model rules.tables in
        let stands = StandsAt-from vs place v is.rules_hold.chain here in
        let ends = StandsAt-from vs (length rules.tables - 1) last is.rules_hold.chain ends_at in
        let before : place ≤ length rules.tables - 1 = omega (arith, slice_get_within vs place v here, length-map rules.tables model) in
        later_entry stability v last stands.sound ends.sound (stands.later (length rules.tables - 1) last before ends_at) rules.form entry is_entry

    keys_are : (i : ℕ) → IfSome (node_at (report_at replies final) i) (λ node. AreKeysUnder last rules.form node.entries)
    keys_are = if_node (λ node. AreKeysUnder last rules.form node.entries) (λ placed node m k d lt.
        let here = table_here model rules placed node m in
        let e = get_or placed.node.entries k d in
        (last_entry placed.index (model placed.node.table) here e (subst (λ f. IsEntry (model placed.node.table) f e) m.form (m.node.entries k d lt))).key)

    agree_on : (i : ℕ) → IfSome (node_at (report_at replies final) i) (λ node. AgreeOn (model node.table) last rules.form node.entries)
    agree_on = if_node (λ node. AgreeOn (model node.table) last rules.form node.entries) (λ placed node m left right one other.
        subst (λ f. IsEquivalent (model placed.node.table) (is_compat f) (chars left) (chars right) ↔ IsEquivalent last (is_compat rules.form) (chars left) (chars right)) m.form
        (equivalent_last model rules placed node last m is.rules_hold stability forms ends_at left right one other))

    -- what a node answers of two strings that it keeps is whether they are equivalent under the last version
    answer_is : (placed : PlacedNode T) (node : MachineNode) → Mirrors model rules placed node → (left right : List ℕ) → IsKept placed.node.entries left → IsKept placed.node.entries right
        → (answer : Option Bool) → AnswersSame (state_of model placed.node) left right answer → TellsIn last rules.form left right answer
    answer_is placed node m left right one other None answers = absurd (answers (one, other))
    answer_is placed node m left right one other (Some equal) answers =
        let same = equivalent_last model rules placed node last m is.rules_hold stability forms ends_at left right one other in
        record { equal = equal; is = refl; tells = (λ t. same.0 (answers.2.0 t), λ e. answers.2.1 (same.1 e)) }

    tells_alike : (i j : ℕ) → IfSome (node_at (report_at replies final) i) (λ node. IfSome (node_at (report_at replies final) j) (λ other. AnswerAlike last rules.form (state_of model node) (state_of model other)))
    tells_alike i j =
        if_node (λ node. IfSome (node_at (report_at replies final) j) (λ other. AnswerAlike last rules.form (state_of model node) (state_of model other))) (λ placed node m.
        if_node (λ other. AnswerAlike last rules.form (state_of model placed.node) (state_of model other)) (λ next twin n left right one other here there first second answers says.
        let a = answer_is placed node m left right one other first answers in
        let b = answer_is next twin n left right here there second says in
        let same = same_truth b.equal a.equal (λ t. a.tells.1 (b.tells.0 t)) (λ t. b.tells.1 (a.tells.0 t)) in
        record { equal = a.equal; first = a.is; second = b.is ∙ ap Some same; tells = a.tells }) j) i

    sent_are : InTheRun model rules.tables rules.form schedule (LendsMessages last rules.form (report_at replies final))
    sent_are = in_the_run once (LendsMessages last rules.form (report_at replies final)) (λ i.
        let lent : Option (List ℕ) → Option (List ℕ) → Type 0 = λ o l. MatchOption o (l ≡ None) (λ string. IsSomeAnd l (IsMessageUnder last rules.form string)) in
        elim (sent_at (setting_of model rules) final.sent is.world.sent i is.shows.sent) [
          | inl none ↦ subst (λ o. lent o (slice_get final.sent i)) (sym none.1) none.0
          | inr both ↦
              subst (λ o. lent o (slice_get final.sent i)) (sym both.second)
              (subst (λ l. IsSomeAnd l (IsMessageUnder last rules.form both.string)) (sym both.first)
              (record { entry = both.is.entry; text = sym both.is.text; is = last_entry both.is.place both.is.version both.is.here both.is.entry both.is.is; spelling = both.is.message.spelling }))
        ])

    image_is : (node : MachineNode) (version : VersionData) (image : Option (List ℕ)) → HasSaved (setting_of model rules) version image node.saved node.saved_at
        → MatchOption image (NeverSaved node) (IsSavedBy (map model rules.tables) last rules.form node)
    image_is node version None has = has
    image_is node version (Some bytes) has = record {
      at = has.at;
      saver = has.saver;
      saved = has.place;
      saver_is = has.saver_is;
      image = record {
        entries = has.entries;
        texts = sym has.strings;
        are = λ k d lt. last_entry has.at has.saver has.saver_is (get_or has.entries k d) (has.node.entries k d lt);
        spelling = has.spelling;
      };
    }

    saved_are : InTheRun model rules.tables rules.form schedule (LendsImages (map model rules.tables) last rules.form (report_at replies final))
    saved_are = in_the_run once (LendsImages (map model rules.tables) last rules.form (report_at replies final)) (λ i.
        let lent : Option MachineNode → Option (PlacedNode T) → Type 0 = λ o e.
        MatchOption o (option_and_then (λ (n : PlacedNode T). n.image) e ≡ None)
        (λ node. MatchOption (option_and_then (λ (n : PlacedNode T). n.image) e) (NeverSaved node) (IsSavedBy (map model rules.tables) last rules.form node)) in
        elim (at i) [
          | inl none ↦ subst (λ o. lent o (slice_get final.nodes i)) (sym none.1) (ap (option_and_then (λ (n : PlacedNode T). n.image)) none.0)
          | inr both ↦
              subst (λ o. lent o (slice_get final.nodes i)) (sym both.second)
              (subst (lent (Some both.node)) (sym both.first)
              (image_is both.node (model both.placed.node.table) both.placed.image both.mirrors.saved))
        ])

  pub tells_the_run : OneRun → Stability → SameForms → TellsTheRun model rules.tables rules.form (schedule_of rules places events) (report_at replies final)
  tells_the_run once stability forms =
      record {
        run = one_is once;
        replies = in_the_run once (λ others world. replies ≡ others) refl;
        indices = indices_are once;
        strings = strings_are once;
        keys = λ last end. keys_are once stability forms last end;
        nodes = nodes_are;
        sent = λ last end. sent_are once stability forms last end;
        saved = λ last end. saved_are once stability forms last end;
        images = is.images;
        equivalence = λ last end. agree_on once stability forms last end;
        alike = λ last end. tells_alike once stability forms last end;
      }
