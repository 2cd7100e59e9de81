-- What a node does that goes on to the next version or saves is what the machine does.
use Rattle.std.proofs.Common.{◌≡◌, ℕ, ◌+◌, ◌-◌, ◌<◌, ◌≤◌, List, length, map, slice_get, Option, Some, None, refl, sym, ap, subst, ◌∙◌, arith, inl, inr}
use Rattle.std.proofs.lemmas.List.{length-map}
use Rattle.std.proofs.lemmas.Option.{slice_get-map}
use Rattle.std.specs.Option.{option_map}
use Rattle.np_chain.specs.Chain.{Extends, StandsAt}
use Rattle.np_code_points.specs.declared.forms.Form.{Form}
use Rattle.np_node.specs.Images.{image_bytes}
use Rattle.np_node.specs.Laws.{IsIn, NeverFewer, Saved}
use Rattle.np_node.specs.Nodes.{State, state_of, IsNode}
use Rattle.np_node.specs.Strings.{Entry}
use Rattle.np_versions.specs.Counts.{assigned_count}
use Rattle.np_versions.specs.Versions.{VersionData}
use Rattle.np_world.specs.Reports.{PlacedNode}
use Rattle.np_world.specs.World.{MachineNode, Saves, Upgrades}
use Rattle.np_world.specs.Moments.{Rules, AreRules}
use Rattle.np_world.specs.declared.replies.Reply.TheVariants.{Version, LastVersion, Saved as TheSaved}
use Rattle.np_world.specs.inside.Mirrors.{saved_state, HasSaved, Mirrors, AreMessages, IsNodeStep, setting_of}
use Rattle.np_world.proofs.NodeStepLemmas.{same_placed, table_here, node_steps_to}

-- ---- states

abbrev make_state : VersionData → Form → ℕ → List Entry → State
make_state v form room entries = record { version = v; form = form; room = room; entries = entries }

module _ {T : Type 0} (model : T → VersionData) (rules : Rules T) (old : PlacedNode T) (twin : MachineNode) (m : Mirrors model rules old twin) where
  -- ---- going on to the next version

  in_present : AreRules model rules → IsIn (map model rules.tables) old.index (model old.node.table)
  in_present are = record { chain = are.chain; here = table_here model rules old twin m }

  next_fewer : AreRules model rules → NeverFewer → (w : VersionData) → slice_get (map model rules.tables) (old.index + 1) ≡ Some w → assigned_count (model old.node.table) ≤ assigned_count w
  next_fewer are fewer w next =
      fewer (map model rules.tables) old.index (old.index + 1) (model old.node.table) w (in_present are) (record { chain = are.chain; here = next }) (omega arith)

  next_saved : AreRules model rules → Saved → NeverFewer → (w : VersionData) → slice_get (map model rules.tables) (old.index + 1) ≡ Some w → IsNode (record (state_of model old.node) { version = w })
  next_saved are saved fewer w next =
      (saved (map model rules.tables) old.index (old.index + 1) w (state_of model old.node) (in_present are) (record { chain = are.chain; here = next }) (next_fewer are fewer w next) m.node).holds

  -- what was saved needs no more under a version with no fewer code points
  lifted : (w : VersionData) → assigned_count (model old.node.table) ≤ assigned_count w → (image : Option (List ℕ)) → HasSaved (setting_of model rules) (model old.node.table) image twin.saved twin.saved_at
      → HasSaved (setting_of model rules) w image twin.saved twin.saved_at
  lifted w more None has = has
  lifted w more (Some bytes) has = record {
    at = has.at;
    saver = has.saver;
    place = has.place;
    saver_is = has.saver_is;
    entries = has.entries;
    spelling = has.spelling;
    node = has.node;
    strings = has.strings;
    no_fewer = omega (arith, has.no_fewer, more);
  }

  pub upgrades : (strings : List (List ℕ)) (last : VersionData) (t : T) (new : PlacedNode T) (told : List (List ℕ)) → AreRules model rules → Saved → NeverFewer → old.index + 1 < length rules.tables → slice_get rules.tables (old.index + 1) ≡ Some t
      → new.index ≡ old.index + 1 → new.image ≡ old.image → new.node ≡ record old.node { table = t } → AreMessages (setting_of model rules) told strings
      → IsNodeStep model rules (λ v end. Upgrades (setting_of model rules)) twin strings (model old.node.table) last (Version (old.index + 1)) new told
  upgrades strings last t new told are saved fewer some next index image node messages =
      let after = slice_get-map model rules.tables (old.index + 1) ∙ ap (option_map model) next in
      let moved : PlacedNode T = record { index = old.index + 1; node = record old.node { table = t }; image = old.image } in
      let place : old.index + 1 ≡ twin.index + 1 = ap (λ k. k + 1) m.index in
      node_steps_to model rules (λ v end. Upgrades (setting_of model rules)) twin (record twin { index = twin.index + 1 }) strings (model old.node.table) last (Version (old.index + 1)) new moved told (same_placed new moved index node image)
      (inl (omega (arith, some, m.index, length-map rules.tables model), (ap Version place, refl)))
      (record {
        index = place;
        table = next;
        form = m.form;
        room = m.room;
        node = next_saved are saved fewer (model t) after;
        strings = m.strings;
        saved = lifted (model t) (next_fewer are fewer (model t) after) old.image m.saved;
      })
      messages

  pub stays_last : (strings : List (List ℕ)) (last : VersionData) (new : PlacedNode T) (told : List (List ℕ)) → 0 < length rules.tables → length rules.tables - 1 ≤ old.index → new ≡ old → AreMessages (setting_of model rules) told strings
      → IsNodeStep model rules (λ v end. Upgrades (setting_of model rules)) twin strings (model old.node.table) last LastVersion new told
  stays_last strings last new told some end same messages =
      node_steps_to model rules (λ v end. Upgrades (setting_of model rules)) twin twin strings (model old.node.table) last LastVersion new old told same
      (inr (λ lt. absurd (omega (arith, some, end, lt, m.index, length-map rules.tables model)), (refl, refl))) m messages

  -- the next version extends the present one
  pub next_extends : AreRules model rules → (w : VersionData) → StandsAt (map model rules.tables) (old.index + 1) w → Extends (model old.node.table) w
  next_extends are w stands = stands.earlier old.index (model old.node.table) (omega arith) (table_here model rules old twin m)

  -- ---- saving

  state_is : state_of model old.node ≡ saved_state (setting_of model rules) (model old.node.table) old.node.entries
  state_is =
      ap (λ f. make_state (model old.node.table) f old.node.room old.node.entries) m.form
      ∙ ap (λ r. make_state (model old.node.table) rules.form r old.node.entries) m.room

  pub saves : (strings : List (List ℕ)) (last : VersionData) (bytes : List ℕ) (new : PlacedNode T) (told : List (List ℕ))
      → bytes ≡ image_bytes (record { needs = Some (assigned_count (model old.node.table)); form = old.node.form; entries = old.node.entries })
      → new.index ≡ old.index → new.node ≡ old.node → new.image ≡ Some bytes → AreMessages (setting_of model rules) told strings
      → IsNodeStep model rules (λ v end. Saves) twin strings (model old.node.table) last TheSaved new told
  saves strings last bytes new told spelling index node image messages =
      let moved : PlacedNode T = record old { image = Some bytes } in
      let count = assigned_count (model old.node.table) in
      node_steps_to model rules (λ v end. Saves) twin (record twin { saved = twin.strings; saved_at = Some twin.index }) strings (model old.node.table) last TheSaved new moved told (same_placed new moved index node image) (refl, refl)
      (record {
        index = m.index;
        table = m.table;
        form = m.form;
        room = m.room;
        node = m.node;
        strings = m.strings;
        saved =
            record {
              at = twin.index;
              saver = model old.node.table;
              place = refl;
              saver_is = ap (slice_get (map model rules.tables)) (sym m.index) ∙ table_here model rules old twin m;
              entries = old.node.entries;
              spelling = spelling ∙ ap (λ f. image_bytes (record { needs = Some count; form = f; entries = old.node.entries })) m.form;
              node = subst IsNode state_is m.node;
              strings = m.strings;
              no_fewer = omega arith;
            };
      })
      messages
