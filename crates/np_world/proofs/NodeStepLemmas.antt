-- A node and the node of the machine that it mirrors.
use Rattle.std.proofs.Common.{◌≡◌, ℕ, ◌-◌, List, [], ◌∷◌, ◌++◌, length, map, slice_get, Option, Some, sym, ap, subst, ◌∙◌, arith, inl, inr, refl}
use Rattle.std.proofs.lemmas.Option.{slice_get-map}
use Rattle.std.specs.List.{Contains}
use Rattle.std.specs.Option.{option_map}
use Rattle.std.specs.Prelude.{chars, IsUtf8}
use Rattle.np_node.specs.Nodes.{NodeState, state_of, IsKept, HasPlace, HasNoPlace, with_entry}
use Rattle.np_node.specs.Strings.{Entry, IsKey}
use Rattle.np_versions.specs.Versions.{VersionData}
use Rattle.np_world.specs.Reports.{PlacedNode}
use Rattle.np_world.specs.World.{MachineNode, Scene, with_string, Finds}
use Rattle.np_world.specs.Moments.{Rules, AreRules}
use Rattle.np_world.specs.declared.replies.Reply.{Reply}
use Rattle.np_world.specs.declared.replies.Reply.TheVariants.{Known, Full}
use Rattle.np_world.specs.inside.Mirrors.{Mirrors, AreMessages, IsNodeStep, NodeSteps, setting_of}
use Rattle.np_world.proofs.StringLemmas.{length-texts, texts-push, text_is_kept, bytes_are_kept, IsNode-with_entry}

-- ---- nodes with the same fields

abbrev placed_node : {T : Type 0} → ℕ → NodeState T → Option (List ℕ) → PlacedNode T
placed_node index node image = record { index = index; node = node; image = image }

pub same_placed : {T : Type 0} (new old : PlacedNode T) → new.index ≡ old.index → new.node ≡ old.node → new.image ≡ old.image → new ≡ old
same_placed new old i n m =
    ap (λ x. placed_node x new.node new.image) i ∙ ap (λ x. placed_node old.index x new.image) n ∙ ap (λ x. placed_node old.index old.node x) m

-- ---- what a step of a node meets

abbrev pub scene : MachineNode → List (List ℕ) → Scene
scene node strings = record { node = node; sent = strings }

abbrev pub Deed : Type 1
Deed = VersionData → VersionData → Scene → Reply → Scene → Type 0

module _ {T : Type 0} (model : T → VersionData) (rules : Rules T) (old : PlacedNode T) (twin : MachineNode) (m : Mirrors model rules old twin) where
  -- the node's version stands in the row
  pub table_here : slice_get (map model rules.tables) old.index ≡ Some (model old.node.table)
  table_here = slice_get-map model rules.tables old.index ∙ ap (option_map model) m.table

  -- the version of the machine's node is that of the node's table
  pub version_is : (version : VersionData) → slice_get (map model rules.tables) twin.index ≡ Some version → model old.node.table ≡ version
  version_is version here =
      let same : Some (model old.node.table) ≡ Some version = sym table_here ∙ ap (slice_get (map model rules.tables)) m.index ∙ here in
      cc

  pub has_text : (bytes : List ℕ) → IsKept old.node.entries bytes → Contains twin.strings (chars bytes)
  has_text bytes kept = subst (λ l. Contains l (chars bytes)) (sym m.strings) (text_is_kept old.node.entries bytes kept)

  pub bytes_of : (bytes : List ℕ) → IsUtf8 bytes → Contains twin.strings (chars bytes) → IsKept old.node.entries bytes
  bytes_of bytes utf8 has = bytes_are_kept (state_of model old.node) bytes m.node utf8 (subst (λ l. Contains l (chars bytes)) m.strings has)

  count_is : length twin.strings ≡ length old.node.entries
  count_is = ap length m.strings ∙ length-texts old.node.entries

  -- a node that keeps one entry more
  pub keeps_more : (new : PlacedNode T) (e : Entry) → new.index ≡ old.index → new.image ≡ old.image → new.node ≡ with_entry old.node e → HasPlace (state_of model old.node) e.string
      → IsKey (model old.node.table) old.node.form e.string e.key → Mirrors model rules new (with_string twin (chars e.string))
  keeps_more new e index image node place key =
      let same : new ≡ record old { node = with_entry old.node e } = same_placed new (record old { node = with_entry old.node e }) index node image in
      subst (λ w. Mirrors model rules w (with_string twin (chars e.string))) (sym same)
      (record {
        index = m.index;
        table = m.table;
        form = m.form;
        room = m.room;
        node = IsNode-with_entry (state_of model old.node) e m.node place key;
        strings = ap (λ l. l ++ chars e.string ∷ []) m.strings ∙ sym (texts-push old.node.entries e);
        saved = m.saved;
      })

  -- ---- what a string finds that may be kept

  pub finds-known : (strings : List (List ℕ)) (bytes : List ℕ) (told : Reply) (next : Scene) → IsKept old.node.entries bytes → Finds (setting_of model rules) (chars bytes) told next (scene twin strings) Known (scene twin strings)
  finds-known strings bytes told next has = inl (has_text bytes has, (refl, refl))

  pub finds-full : (strings : List (List ℕ)) (bytes : List ℕ) (told : Reply) (next : Scene) → HasNoPlace (state_of model old.node) bytes → Finds (setting_of model rules) (chars bytes) told next (scene twin strings) Full (scene twin strings)
  finds-full strings bytes told next place =
      inr (λ has. place.new.absent (bytes_of bytes place.new.keepable.utf8 has), inl (omega (arith, place.full, count_is, m.room), (refl, refl)))

  pub finds-place : (strings : List (List ℕ)) (bytes : List ℕ) (told reply : Reply) (next after : Scene) → HasPlace (state_of model old.node) bytes → (reply ≡ told) × (after ≡ next)
      → Finds (setting_of model rules) (chars bytes) told next (scene twin strings) reply after
  finds-place strings bytes told reply next after place gives =
      inr (λ has. place.new.absent (bytes_of bytes place.new.keepable.utf8 has), inr (λ full. absurd (omega (arith, place.room, full, count_is, m.room)), gives))

-- ---- steps of a node

module _ {T : Type 0} (model : T → VersionData) (rules : Rules T) (deed : Deed) (old new : PlacedNode T) (told more : List (List ℕ)) (reply : Reply) where
  -- a step of a node under the version of the node's table is one under that of the machine's node
  pub node_stepped : ((node : MachineNode) (strings : List (List ℕ)) (last : VersionData) → AreRules model rules → Mirrors model rules old node → AreMessages (setting_of model rules) told strings
      → slice_get (map model rules.tables) (length rules.tables - 1) ≡ Some last
      → IsNodeStep model rules deed node strings (model old.node.table) last reply new more) → NodeSteps model rules deed old told reply new more
  node_stepped node_step = λ node strings version last are m sent here end.
      subst (λ v. IsNodeStep model rules deed node strings v last reply new more) (version_is model rules old node m version here) (node_step node strings last are m sent end)

-- the machine's node goes on as the node does
pub node_steps_to : {T : Type 0} (model : T → VersionData) (rules : Rules T) (deed : Deed) (node next : MachineNode) (strings : List (List ℕ)) (version last : VersionData) (reply : Reply) (new moved : PlacedNode T) (told : List (List ℕ)) → new ≡ moved
    → deed version last (scene node strings) reply (scene next strings) → Mirrors model rules moved next → AreMessages (setting_of model rules) told strings → IsNodeStep model rules deed node strings version last reply new told
node_steps_to model rules deed node next strings version last reply new moved told same does mirrors messages =
    record { next = next; more = strings; does = does; mirrors = subst (λ w. Mirrors model rules w next) (sym same) mirrors; messages = messages }

-- nothing but the reply
pub says : {T : Type 0} (model : T → VersionData) (rules : Rules T) (deed : Deed) (old new : PlacedNode T) (told : List (List ℕ)) (reply : Reply) → new ≡ old
    → ((node : MachineNode) (strings : List (List ℕ)) (last : VersionData) → AreRules model rules → Mirrors model rules old node → AreMessages (setting_of model rules) told strings
    → slice_get (map model rules.tables) (length rules.tables - 1) ≡ Some last
    → deed (model old.node.table) last (scene node strings) reply (scene node strings)) → NodeSteps model rules deed old told reply new told
says model rules deed old new told reply same does =
    node_stepped model rules deed old new told told reply
    (λ node strings last are m sent end. node_steps_to model rules deed node node strings (model old.node.table) last reply new old told same (does node strings last are m sent end) m sent)
