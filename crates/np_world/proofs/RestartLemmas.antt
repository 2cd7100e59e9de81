-- What a node does that begins again is what the machine does.
use Rattle.std.proofs.Common.{◌≡◌, ℕ, ◌<◌, ◌≤◌, List, [], map, slice_get, Option, Some, None, refl, sym, ap, subst, ◌∙◌, arith, inl, inr, ⊎_elim, append-nil}
use Rattle.std.proofs.lemmas.Bool.{cases_lt}
use Rattle.std.proofs.lemmas.Option.{slice_get-map}
use Rattle.std.specs.Option.{option_map}
use Rattle.std.specs.Prelude.{IfOk}
use Rattle.np_chain.specs.Chain.{StandsAt}
use Rattle.np_code_points.specs.declared.forms.Form.{Form}
use Rattle.np_node.specs.Images.{Image, Needs, IsImage, IsImageFault}
use Rattle.np_node.specs.Laws.{IsIn, HasOneFault, Saved, SpellsOne}
use Rattle.np_node.specs.Nodes.{NodeState}
use Rattle.np_node.specs.Restoring.{IsOlder, IsRestored, IsRestoreFault}
use Rattle.np_node.specs.Strings.{Entry}
use Rattle.np_node.specs.declared.faults.NodeFault.{NodeFault}
use Rattle.np_node.specs.declared.faults.NodeFault.TheVariants as fault
use Rattle.np_versions.specs.Counts.{assigned_count}
use Rattle.np_versions.specs.Versions.{VersionData}
use Rattle.np_world.specs.Reports.{PlacedNode}
use Rattle.np_world.specs.World.{Setting, MachineNode, Scene, HasOlderTables, Restarts, RestartsUnder}
use Rattle.np_world.specs.Moments.{Rules, AreRules}
use Rattle.np_world.specs.declared.replies.Reply.{Reply}
use Rattle.np_world.specs.declared.replies.Reply.TheVariants.{Restarted, OlderTables}
use Rattle.np_world.specs.inside.Mirrors.{texts_of, saved_state, HasImage, HasSaved, Mirrors, NodeSteps, setting_of}
use Rattle.np_world.specs.inside.Restarting.{BeginsAgain, RefusesToBegin}
use Rattle.np_world.specs.Told.{refusal_of}
use Rattle.np_world.proofs.CaseLemmas.{both, one_if, same_as, Same}
use Rattle.np_world.proofs.NodeStepLemmas.{table_here, says, node_stepped, node_steps_to}

-- ---- the machine

same_older : (setting : Setting) (node : MachineNode) (place need have other more : ℕ) → HasOlderTables setting node place need have → HasOlderTables setting node place other more → (need ≡ other) × (have ≡ more)
same_older setting node place need have other more a b =
    let at : Some a.at ≡ Some b.at = sym a.saved ∙ b.saved in
    let places : a.at ≡ b.at = cc in
    let savers : Some a.saver ≡ Some b.saver = sym a.saver_is ∙ ap (slice_get setting.versions) places ∙ b.saver_is in
    let saver : a.saver ≡ b.saver = cc in
    let versions : Some a.version ≡ Some b.version = sym a.version_is ∙ b.version_is in
    let version : a.version ≡ b.version = cc in
    (a.need_is ∙ ap assigned_count saver ∙ sym b.need_is, a.have_is ∙ ap assigned_count version ∙ sym b.have_is)

pub one_restart : (setting : Setting) (before : Scene) (reply other : Reply) (after next : Scene) (place : ℕ) → RestartsUnder setting place before reply after → RestartsUnder setting place before other next → Same reply other after next
one_restart setting before reply other after next place one two =
    one_if _ _ _ _ _ (Same reply other after next)
    (λ a b.
    let same = same_older setting before.node place a.0.0 a.0.1 b.0.0 b.0.1 a.0.2 b.0.2 in
    (a.0.3 ∙ ap (λ n. OlderTables n a.0.1) same.0 ∙ ap (OlderTables b.0.0) same.1 ∙ sym b.0.3, both after next before a.1 b.1))
    (same_as reply other _ after next _) one two

-- ---- what was saved

abbrev pub make_node : {T : Type 0} → T → Form → ℕ → List Entry → NodeState T
make_node table form room entries = record { table = table; form = form; room = room; entries = entries }

same_node : {T : Type 0} (node : NodeState T) (table : T) (form : Form) (room : ℕ) → node.table ≡ table → node.form ≡ form → node.room ≡ room → node ≡ make_node table form room node.entries
same_node node table form room t f r =
    ap (λ x. make_node x node.form node.room node.entries) t ∙ ap (λ x. make_node table x node.room node.entries) f ∙ ap (λ x. make_node table form x node.entries) r

abbrev with_needs : Needs → Form → List Entry → Image
with_needs needs form entries = record { needs = needs; form = form; entries = entries }

-- where a version is not older than one that saved, it assigns no fewer code points
not_fewer : (v : VersionData) (needs : Needs) (count : ℕ) → needs ≡ Some count → ¬ IsOlder v needs → count ≤ assigned_count v
not_fewer v needs count is young =
    ⊎_elim (λ lt. absurd (young (subst (IsOlder v) (sym is) lt))) (λ ge. ge) (cases_lt (assigned_count v) count)

-- a node whose last save needs no more than a version assigns doesn't have older tables under it
not_older : (setting : Setting) (twin : MachineNode) (version : VersionData) (place need have : ℕ) (image : Option (List ℕ)) → slice_get setting.versions place ≡ Some version
    → HasSaved setting version image twin.saved twin.saved_at → HasOlderTables setting twin place need have → ⊥
not_older setting twin version place need have None here has older =
    let none : None ≡ Some older.at = sym has.1 ∙ older.saved in absurd (cc)
not_older setting twin version place need have (Some bytes) here has older =
    let at : Some has.at ≡ Some older.at = sym has.place ∙ older.saved in
    let places : has.at ≡ older.at = cc in
    let savers : Some has.saver ≡ Some older.saver = sym has.saver_is ∙ ap (slice_get setting.versions) places ∙ older.saver_is in
    let saver : has.saver ≡ older.saver = cc in
    let versions : Some version ≡ Some older.version = sym here ∙ older.version_is in
    let same : version ≡ older.version = cc in
    let needed = older.need_is ∙ ap assigned_count (sym saver) in
    let there = older.have_is ∙ ap assigned_count (sym same) in
    let few = has.no_fewer in
    let fewer = older.fewer in
    omega (arith, needed, there, few, fewer)

module _ {T : Type 0} (model : T → VersionData) (rules : Rules T) (placed : PlacedNode T) (place : ℕ) (t : T) (here : slice_get rules.tables place ≡ Some t) (are : AreRules model rules) where
  -- the version at the place
  version_here : slice_get (map model rules.tables) place ≡ Some (model t)
  version_here = slice_get-map model rules.tables place ∙ ap (option_map model) here

  -- ---- nothing was saved

  pub begins-empty : (node : NodeState T) → StandsAt (map model rules.tables) place (model t) → placed.image ≡ None → node ≡ make_node t rules.form rules.room [] → BeginsAgain model rules placed place node
  begins-empty node stands none is = λ twin m.
      let has = subst (λ i. HasSaved (setting_of model rules) (model placed.node.table) i twin.saved twin.saved_at) none m.saved in
      subst (λ n. Mirrors model rules (record { index = place; node = n; image = placed.image }) (record twin { index = place; strings = twin.saved })) (sym is)
      (record {
        index = refl;
        table = here;
        form = refl;
        room = refl;
        node = record { sound = stands.sound; entries = λ k d lt. absurd (omega arith); unlike = λ i j d lt within. absurd (omega arith); fits = omega arith; room = are.room };
        strings = has.0;
        saved = subst (λ i. HasSaved (setting_of model rules) (model t) i twin.saved twin.saved_at) (sym none) has;
      })

  -- ---- there is an image

  module _ (saved : Saved) (one : SpellsOne IsImage) (bytes : List ℕ) (some : placed.image ≡ Some bytes) where
    has_image : (twin : MachineNode) → Mirrors model rules placed twin → HasImage (setting_of model rules) (model placed.node.table) bytes twin.saved twin.saved_at
    has_image twin m = subst (λ i. HasSaved (setting_of model rules) (model placed.node.table) i twin.saved twin.saved_at) some m.saved

    module _ (twin : MachineNode) (m : Mirrors model rules placed twin) where
      in_saver : IsIn (map model rules.tables) (has_image twin m).at (has_image twin m).saver
      in_saver = record { chain = are.chain; here = (has_image twin m).saver_is }

      spelled : IsImage bytes (with_needs (Some (assigned_count (has_image twin m).saver)) rules.form (has_image twin m).entries)
      spelled =
          let as_saved = saved (map model rules.tables) (has_image twin m).at (has_image twin m).at (has_image twin m).saver
          (saved_state (setting_of model rules) (has_image twin m).saver (has_image twin m).entries) in_saver in_saver (omega arith) (has_image twin m).node in
          subst (λ l. IsImage l (with_needs (Some (assigned_count (has_image twin m).saver)) rules.form (has_image twin m).entries)) (sym (has_image twin m).spelling)
          (as_saved.spelled (Some (assigned_count (has_image twin m).saver)) refl)

      -- whatever else the bytes spell is that image
      same_image : (other : Image) → IsImage bytes other → with_needs (Some (assigned_count (has_image twin m).saver)) rules.form (has_image twin m).entries ≡ other
      same_image other is =
          (one bytes [] (with_needs (Some (assigned_count (has_image twin m).saver)) rules.form (has_image twin m).entries) other spelled (subst (λ l. IsImage l other) (sym (append-nil bytes)) is)).0

      needs_is : (needs : Needs) (entries : List Entry) → IsImage bytes (with_needs needs rules.form entries) → needs ≡ Some (assigned_count (has_image twin m).saver)
      needs_is needs entries is = sym (ap (λ (x : Image). x.needs) (same_image (with_needs needs rules.form entries) is))

    pub begins-saved : (node : NodeState T) → StandsAt (map model rules.tables) place (model t) → IsRestored model t rules.form rules.room bytes node → BeginsAgain model rules placed place node
    begins-saved node stands is = λ twin m.
        let has = has_image twin m in
        let entries : has.entries ≡ node.entries = ap (λ (x : Image). x.entries) (same_image twin m (with_needs is.needs rules.form node.entries) is.image) in
        let enough = not_fewer (model t) is.needs (assigned_count has.saver) (needs_is twin m is.needs node.entries is.image) is.has_room.young in
        subst (λ n. Mirrors model rules (record { index = place; node = n; image = placed.image }) (record twin { index = place; strings = twin.saved })) (sym (same_node node t rules.form rules.room is.table_is is.form_is is.room_is))
        (record {
          index = refl;
          table = here;
          form = refl;
          room = refl;
          node = record { sound = stands.sound; entries = is.right.0; unlike = is.right.1; fits = is.has_room.fits; room = are.room };
          strings = has.strings ∙ ap texts_of entries;
          saved = subst (λ i. HasSaved (setting_of model rules) (model t) i twin.saved twin.saved_at) (sym some)
              (record {
                at = has.at;
                saver = has.saver;
                place = has.place;
                saver_is = has.saver_is;
                entries = has.entries;
                spelling = has.spelling;
                node = has.node;
                strings = has.strings;
                no_fewer = enough;
              });
        })

    -- ---- refusals

    module _ (twin : MachineNode) (m : Mirrors model rules placed twin) (unlike : HasOneFault IsImage IsImageFault) where
      -- the tables are older
      older_refuses : (entry : Option ℕ) (f : NodeFault) → assigned_count (model t) < assigned_count (has_image twin m).saver → IsRestoreFault (model t) rules.form rules.room bytes entry f → RefusesToBegin model rules placed place f
      older_refuses None (fault.OlderTables need have) lt h = λ other n.
          let has = has_image other n in
          let same : Some need ≡ Some (assigned_count has.saver) = sym h.has.is ∙ needs_is other n h.needs h.entries h.spelled in
          record {
            at = has.at;
            saver = has.saver;
            version = model t;
            saved = has.place;
            saver_is = has.saver_is;
            version_is = version_here;
            need_is = cc;
            have_is = h.has.has;
            fewer = h.has.fewer;
          }
      older_refuses None fault.Memory lt h = tt
      older_refuses None (fault.Malformed at) lt h = (unlike bytes at h).0 _ (spelled twin m)
      older_refuses None fault.OtherForm lt h = h.other (sym (ap (λ (x : Image). x.form) (same_image twin m h.image h.spelled)))
      older_refuses None fault.TooLong lt h = h
      older_refuses None (fault.NotUtf8 at) lt h = h
      older_refuses None (fault.Unassigned at code) lt h = h
      older_refuses None fault.KeyDiffers lt h = h
      older_refuses None fault.Full lt h =
          let enough = not_fewer (model t) h.needs (assigned_count (has_image twin m).saver) (needs_is twin m h.needs h.entries h.spelled) h.has.young in
          absurd (omega (arith, lt, enough))
      older_refuses (Some n) f lt h =
          let enough = not_fewer (model t) h.needs (assigned_count (has_image twin m).saver) (needs_is twin m h.needs h.entries h.spelled) h.has.0.young in
          absurd (omega (arith, lt, enough))

      -- they are not: then memory ran out
      young_refuses : (entry : Option ℕ) (f : NodeFault) → assigned_count (has_image twin m).saver ≤ assigned_count (model t) → IsRestoreFault (model t) rules.form rules.room bytes entry f → RefusesToBegin model rules placed place f
      young_refuses entry f ge h =
          let has = has_image twin m in
          let state = saved_state (setting_of model rules) has.saver has.entries in
          let as_saved = saved (map model rules.tables) has.at place (model t) state (in_saver twin m) (record { chain = are.chain; here = version_here }) ge has.node in
          let memory : f ≡ fault.Memory = as_saved.taken (Some (assigned_count has.saver)) entry f refl
          (subst (λ l. IsRestoreFault (model t) rules.form rules.room l entry f) has.spelling h) in
          subst (RefusesToBegin model rules placed place) (sym memory) tt

      pub refuses : (entry : Option ℕ) (f : NodeFault) → IsRestoreFault (model t) rules.form rules.room bytes entry f → RefusesToBegin model rules placed place f
      refuses entry f h =
          ⊎_elim (λ lt. older_refuses entry f lt h) (λ ge. young_refuses entry f ge h) (cases_lt (assigned_count (model t)) (assigned_count (has_image twin m).saver))

-- ---- steps of a node

abbrev placed_node : {T : Type 0} → ℕ → NodeState T → Option (List ℕ) → PlacedNode T
placed_node index node image = record { index = index; node = node; image = image }

module _ {T : Type 0} (model : T → VersionData) (rules : Rules T) (old new : PlacedNode T) (told : List (List ℕ)) where
  pub restarts : (node : NodeState T) → BeginsAgain model rules old old.index node → new ≡ placed_node old.index node old.image → NodeSteps model rules (λ v end. Restarts) old told Restarted new told
  restarts node begins same =
      node_stepped model rules (λ v end. Restarts) old new told told Restarted
      (λ twin strings last are m sent end.
      node_steps_to model rules (λ v end. Restarts) twin (record twin { strings = twin.saved }) strings (model old.node.table) last Restarted new (placed_node old.index node old.image) told same (refl, refl)
      (subst (λ k. Mirrors model rules (placed_node old.index node old.image) (record twin { index = k; strings = twin.saved })) m.index (begins twin m)) sent)

  module _ (place : ℕ) where
    pub restarts-under : (node : NodeState T) → BeginsAgain model rules old place node → new ≡ placed_node place node old.image
        → NodeSteps model rules (λ v end. RestartsUnder (setting_of model rules) place) old told Restarted new told
    restarts-under node begins same =
        node_stepped model rules (λ v end. RestartsUnder (setting_of model rules) place) old new told told Restarted
        (λ twin strings last are m sent end.
        let next : MachineNode = record twin { index = place; strings = twin.saved } in
        let begun = begins twin m in
        let stands = table_here model rules (placed_node place node old.image) next begun in
        node_steps_to model rules (λ v end. RestartsUnder (setting_of model rules) place) twin next strings (model old.node.table) last Restarted new (placed_node place node old.image) told same
        (inr (λ older. not_older (setting_of model rules) twin (model node.table) place older.0 older.1 old.image stands begun.saved older.2, (refl, refl)))
        begun sent)

    pub restart-refused : (f : NodeFault) → RefusesToBegin model rules old place f → new ≡ old
        → IfOk (refusal_of f) (λ reply. NodeSteps model rules (λ v end. RestartsUnder (setting_of model rules) place) old told reply new told)
    restart-refused (fault.OlderTables need have) refuses same =
        says model rules (λ v end. RestartsUnder (setting_of model rules) place) old new told (OlderTables need have) same
        (λ twin strings last are m sent end. let older = refuses twin m in inl ((need, have, older), ((need, have, older, refl), refl)))
    restart-refused fault.Memory refuses same = tt
    restart-refused (fault.Malformed at) refuses same = absurd refuses
    restart-refused fault.OtherForm refuses same = absurd refuses
    restart-refused fault.TooLong refuses same = absurd refuses
    restart-refused (fault.NotUtf8 at) refuses same = absurd refuses
    restart-refused (fault.Unassigned at code) refuses same = absurd refuses
    restart-refused fault.KeyDiffers refuses same = absurd refuses
    restart-refused fault.Full refuses same = absurd refuses

-- under its own version a node never has older tables
module _ {T : Type 0} (model : T → VersionData) (rules : Rules T) (old : PlacedNode T) (twin : MachineNode) (m : Mirrors model rules old twin) where
  pub only_memory : (f : NodeFault) → RefusesToBegin model rules old old.index f → f ≡ fault.Memory
  only_memory (fault.OlderTables need have) refuses =
      absurd (not_older (setting_of model rules) twin (model old.node.table) old.index need have old.image (table_here model rules old twin m) m.saved (refuses twin m))
  only_memory fault.Memory refuses = refl
  only_memory (fault.Malformed at) refuses = absurd refuses
  only_memory fault.OtherForm refuses = absurd refuses
  only_memory fault.TooLong refuses = absurd refuses
  only_memory (fault.NotUtf8 at) refuses = absurd refuses
  only_memory (fault.Unassigned at code) refuses = absurd refuses
  only_memory fault.KeyDiffers refuses = absurd refuses
  only_memory fault.Full refuses = absurd refuses
