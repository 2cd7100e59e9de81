-- What a node answers to bytes that reach it as a message is what the machine does.
use Rattle.std.proofs.Common.{◌≡◌, ◌≢◌, ℕ, ◌<◌, ◌≤◌, List, [], length, refl, sym, ap, subst, ◌∙◌, arith, inl, inr, Result, Ok, Err, append-nil}
use Rattle.std.specs.Prelude.{chars, IsUtf8, IfOk}
use Rattle.np_forms.specs.Assigned.{IsAssigned}
use Rattle.np_node.specs.Laws.{HasOneFault, SpellsOne}
use Rattle.np_node.specs.Messages.{Message, IsMessage, IsMessageFault}
use Rattle.np_node.specs.Nodes.{state_of, with_entry}
use Rattle.np_node.specs.Strings.{Entry, IsEntry, IsKey}
use Rattle.np_node.specs.Taking.{AnswersTake, LeavesTaken}
use Rattle.np_node.specs.declared.faults.NodeFault.{NodeFault}
use Rattle.np_node.specs.declared.faults.NodeFault.TheVariants as fault
use Rattle.np_node.specs.declared.taking.Taken.{Taken}
use Rattle.np_node.specs.declared.taking.Taken.TheVariants as taken
use Rattle.np_versions.specs.Versions.{VersionData}
use Rattle.np_world.specs.Reports.{PlacedNode}
use Rattle.np_world.specs.World.{Setting, MachineNode, Scene, If, NamesNotUtf8, keeping, Finds, Receives, Forges}
use Rattle.np_world.specs.Moments.{Rules}
use Rattle.np_world.specs.declared.replies.Reply.{Reply}
use Rattle.np_world.specs.declared.replies.Reply.TheVariants.{Kept, Known, Full, TooLong, Unassigned, Malformed, OtherForm, NotUtf8, KeyDiffers}
use Rattle.np_world.specs.inside.Mirrors.{Mirrors, NodeSteps, setting_of}
use Rattle.np_world.specs.Told.{refusal_of, reply_to}
use Rattle.np_world.proofs.CaseLemmas.{Same, both, one_finding, one_if, one_name, same_as}
use Rattle.np_world.proofs.StringLemmas.{not_assigned, not_utf8}
use Rattle.np_world.proofs.NodeStepLemmas.{Deed, scene, finds-known, finds-full, finds-place, keeps_more, same_placed, node_stepped, says}

-- bytes tell one string and key at most
pub one_entry : SpellsOne IsMessage → (bytes : List ℕ) (m n : Message) → IsMessage bytes m → IsMessage bytes n → m ≡ n
one_entry one bytes m n first second = (one bytes [] m n first (subst (λ l. IsMessage l n) (sym (append-nil bytes)) second)).0

not_long : (n : ℕ) → n ≤ 65536 → ¬ (65536 < n)
not_long n short long = omega (arith, short, long)

module _ {T : Type 0} (model : T → VersionData) (rules : Rules T) (old new : PlacedNode T) (bytes : List ℕ) where
  abbrev pub deed_forge : Deed
  deed_forge version last = Forges (setting_of model rules) version bytes

  -- a message of the nodes' form
  receives : (twin : MachineNode) → Mirrors model rules old twin → (e : Entry) → IsMessage bytes (record { form = old.node.form; entry = e }) → (before after : Scene) (reply : Reply)
      → Receives (setting_of model rules) (model old.node.table) e.string e.key before reply after → Forges (setting_of model rules) (model old.node.table) bytes before reply after
  receives twin m e is before after reply does = inr (record { form = old.node.form; entry = e }, is, inr (λ other. other m.form, does))

  -- a string that may be kept, beside its key
  finds : (twin : MachineNode) → Mirrors model rules old twin → (e : Entry) → IsMessage bytes (record { form = old.node.form; entry = e }) → (before after : Scene) (reply : Reply) → IsEntry (model old.node.table) old.node.form e
      → Finds (setting_of model rules) (chars e.string) Kept (keeping (chars e.string) before) before reply after → Forges (setting_of model rules) (model old.node.table) bytes before reply after
  finds twin m e is before after reply right does =
      receives twin m e is before after reply
      (inr (
        not_long (length e.string) right.keepable.short,
        inr (
          λ not. not right.keepable.utf8,
          inr (λ not. not right.keepable.assigned, inr (λ not. not (subst (λ f. IsKey (model old.node.table) f e.string e.key) m.form right.key), does)),
        ),
      ))

  -- the refusals, in the order of the faults
  forges-refused : (told : List (List ℕ)) (f : NodeFault) → AnswersTake (state_of model old.node) bytes (Err f) → new ≡ old → IfOk (refusal_of f) (λ reply. NodeSteps model rules deed_forge old told reply new told)
  forges-refused told (fault.Malformed at) answers same =
      says model rules deed_forge old new told (Malformed at) same (λ node strings last are m sent end. inl (at, answers, (refl, refl)))
  forges-refused told fault.OtherForm answers same =
      says model rules deed_forge old new told OtherForm same
      (λ node strings last are m sent end. inr (answers.message, answers.spelled, inl (λ form. answers.other (form ∙ sym m.form), (refl, refl))))
  forges-refused told fault.TooLong answers same =
      says model rules deed_forge old new told TooLong same
      (λ node strings last are m sent end. receives node m answers.entry answers.spelled (scene node strings) (scene node strings) TooLong (inl (answers.has, (refl, refl))))
  forges-refused told (fault.NotUtf8 at) answers same =
      let e = answers.entry in
      says model rules deed_forge old new told (NotUtf8 at) same
      (λ node strings last are m sent end. receives node m e answers.spelled (scene node strings) (scene node strings) (NotUtf8 at)
      (inr (not_long (length e.string) answers.has.0, inl (not_utf8 e.string at answers.has.1 answers.has.2, ((at, answers.has.1, refl), refl)))))
  forges-refused told (fault.Unassigned at code) answers same =
      let e = answers.entry in
      says model rules deed_forge old new told (Unassigned at code) same
      (λ node strings last are m sent end. receives node m e answers.spelled (scene node strings) (scene node strings) (Unassigned at code)
      (inr (
        not_long (length e.string) answers.has.0,
        inr (λ not. not answers.has.1, inl (not_assigned (model old.node.table) (chars e.string) at code answers.has.2, ((at, code, answers.has.2, refl), refl))),
      )))
  forges-refused told fault.KeyDiffers answers same =
      let e = answers.entry in
      let keepable = answers.has.0 in
      says model rules deed_forge old new told KeyDiffers same
      (λ node strings last are m sent end. receives node m e answers.spelled (scene node strings) (scene node strings) KeyDiffers
      (inr (
        not_long (length e.string) keepable.short,
        inr (
          λ not. not keepable.utf8,
          inr (λ not. not keepable.assigned, inl (λ key. answers.has.1 (subst (λ f. IsKey (model old.node.table) f e.string e.key) (sym m.form) key), (refl, refl))),
        ),
      )))
  forges-refused told fault.Full answers same =
      let e = answers.entry in
      says model rules deed_forge old new told Full same
      (λ node strings last are m sent end. finds node m e answers.spelled (scene node strings) (scene node strings) Full answers.has.0 (finds-full model rules old node m strings e.string _ _ answers.has.1))
  forges-refused told fault.Memory answers same = tt
  forges-refused told (fault.OlderTables need have) answers same = absurd answers

  forges-known : (told : List (List ℕ)) → AnswersTake (state_of model old.node) bytes (Ok taken.Known) → new ≡ old → NodeSteps model rules deed_forge old told Known new told
  forges-known told answers same =
      let e = answers.entry in
      says model rules deed_forge old new told Known same
      (λ node strings last are m sent end. finds node m e answers.spelled (scene node strings) (scene node strings) Known answers.has.0 (finds-known model rules old node m strings e.string _ _ answers.has.1))

  forges-kept : (told : List (List ℕ)) → SpellsOne IsMessage → AnswersTake (state_of model old.node) bytes (Ok taken.Kept) → LeavesTaken old.node new.node bytes (Ok taken.Kept)
      → new.index ≡ old.index → new.image ≡ old.image → NodeSteps model rules deed_forge old told Kept new told
  forges-kept told one answers leaves index image =
      let e = answers.entry in
      let same : leaves.0 ≡ e = ap (λ (x : Message). x.entry) (one_entry one bytes (record { form = old.node.form; entry = leaves.0 }) (record { form = old.node.form; entry = e }) leaves.1 answers.spelled) in
      let kept : new.node ≡ with_entry old.node e = leaves.2 ∙ ap (with_entry old.node) same in
      node_stepped model rules deed_forge old new told told Kept
      (λ node strings last are m sent end.
      let after : Scene = keeping (chars e.string) (scene node strings) in
      record {
        next = after.node;
        more = strings;
        does = finds node m e answers.spelled (scene node strings) after Kept answers.has.0 (finds-place model rules old node m strings e.string Kept Kept after after answers.has.1 (refl, refl));
        mirrors = keeps_more model rules old node m new e index image kept answers.has.1 answers.has.0.key;
        messages = sent;
      })

  pub forges : (told : List (List ℕ)) → SpellsOne IsMessage → new.index ≡ old.index → new.image ≡ old.image → (r : Result Taken NodeFault)
      → AnswersTake (state_of model old.node) bytes r → LeavesTaken old.node new.node bytes r → IfOk (reply_to Kept r) (λ reply. NodeSteps model rules deed_forge old told reply new told)
  forges told one index image (Ok taken.Known) answers leaves = forges-known told answers (same_placed new old index leaves image)
  forges told one index image (Ok taken.Kept) answers leaves = forges-kept told one answers leaves index image
  forges told one index image (Err f) answers leaves = forges-refused told f answers (same_placed new old index leaves image)

-- ---- one answer

-- the longest prefix that is a text has one length
one_place : (bytes : List ℕ) (reply other : Reply) → NamesNotUtf8 bytes reply → NamesNotUtf8 bytes other → reply ≡ other
one_place bytes reply other first second =
    let below = second.1.longest first.0 first.1.within first.1.valid in
    let above = first.1.longest second.0 second.1.within second.1.valid in
    let same : first.0 ≡ second.0 = omega (arith, below, above) in
    first.2 ∙ ap NotUtf8 same ∙ sym second.2

module _ (setting : Setting) (v : VersionData) (before : Scene) (reply other : Reply) (after next : Scene) where
  one_receiving : (string key : List ℕ) → Receives setting v string key before reply after → Receives setting v string key before other next → Same reply other after next
  one_receiving string key first second =
      one_if (65536 < length string) _ _ _ _ (Same reply other after next) (same_as reply other TooLong after next before)
      (λ a b. one_if (¬ (IsUtf8 string)) _ _ _ _ (Same reply other after next) (λ c d. (one_place string reply other c.0 d.0, both after next before c.1 d.1))
      (λ c d. one_if (¬ (IsAssigned v (chars string))) _ _ _ _ (Same reply other after next) (λ e f. (one_name v (chars string) reply other e.0 f.0, both after next before e.1 f.1))
      (λ e f. one_if (¬ (IsKey v setting.form string key)) _ _ _ _ (Same reply other after next) (same_as reply other KeyDiffers after next before)
      (λ g h. one_finding setting v before reply other after next (chars string) _ _ g h) e f) c d) a b) first second

  -- bytes that reach a node have one reply, and leave one scene
  pub forges_once : SpellsOne IsMessage → HasOneFault IsMessage IsMessageFault → (bytes : List ℕ) → Forges setting v bytes before reply after → Forges setting v bytes before other next → Same reply other after next
  forges_once one none bytes (inl a) (inl b) = (a.2.0 ∙ ap Malformed ((none bytes b.0 b.1).1 a.0 a.1) ∙ sym b.2.0, both after next before a.2.1 b.2.1)
  forges_once one none bytes (inl a) (inr b) = absurd ((none bytes a.0 a.1).0 b.0 b.1)
  forges_once one none bytes (inr a) (inl b) = absurd ((none bytes b.0 b.1).0 a.0 a.1)
  forges_once one none bytes (inr a) (inr b) =
      let m : Message = a.0 in
      let same : b.0 ≡ m = one_entry one bytes b.0 m b.1 a.1 in
      one_if (m.form ≢ setting.form) _ _ _ _ (Same reply other after next) (same_as reply other OtherForm after next before)
      (λ c d. one_receiving m.entry.string m.entry.key c d) a.2
      (subst (λ (x : Message). If (x.form ≢ setting.form) ((other ≡ OtherForm) × (next ≡ before)) (Receives setting v x.entry.string x.entry.key before other next)) same b.2)
