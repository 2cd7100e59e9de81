-- What a node answers to a string that it is given is what the machine does.
use Rattle.std.proofs.Common.{◌≡◌, ℕ, ◌<◌, ◌≤◌, List, [], ◌∷◌, ◌++◌, length, refl, sym, ap, subst, arith, inl, inr, Err}
use Rattle.std.specs.Prelude.{chars, encode_utf8_all, IsUtf8, IfOk}
use Rattle.np_node.proofs.KeyLemmas.{fits-entry}
use Rattle.np_node.specs.Accepting.{AnswersAccept, KeepsString}
use Rattle.np_node.specs.LentMessages.{TellsString}
use Rattle.np_node.specs.Messages.{IsMessage}
use Rattle.np_node.specs.Nodes.{NodeState, state_of, IsKept, HasPlace, with_entry}
use Rattle.np_node.specs.Strings.{Entry, IsEntry, IsKeepable}
use Rattle.np_node.specs.declared.faults.NodeFault.{NodeFault}
use Rattle.np_node.specs.declared.faults.NodeFault.TheVariants as fault
use Rattle.np_versions.specs.Versions.{VersionData}
use Rattle.np_world.specs.Reports.{PlacedNode}
use Rattle.np_world.specs.World.{Scene, sending, Finds, Accepts}
use Rattle.np_world.specs.Moments.{Rules}
use Rattle.np_world.specs.declared.replies.Reply.{Reply}
use Rattle.np_world.specs.declared.replies.Reply.TheVariants.{Sent, Known, Full, TooLong, Unassigned}
use Rattle.np_world.specs.inside.Mirrors.{Mirrors, IsMessageOf, AreMessages, NodeSteps, setting_of}
use Rattle.np_world.specs.Told.{refusal_of}
use Rattle.np_world.proofs.SentLemmas.{length-messages, messages-push}
use Rattle.np_world.proofs.StringLemmas.{byte_length-chars, not_assigned, not_utf8}
use Rattle.np_world.proofs.NodeStepLemmas.{Deed, scene, table_here, finds-known, finds-full, finds-place, keeps_more, node_stepped, says}

module _ {T : Type 0} (model : T → VersionData) (rules : Rules T) (old new : PlacedNode T) (bytes : List ℕ) where
  abbrev pub deed_accept : Deed
  deed_accept version last = Accepts (setting_of model rules) version (chars bytes)

  short_text : IsUtf8 bytes → length bytes ≤ 65536 → ¬ (65536 < length (encode_utf8_all (chars bytes)))
  short_text utf8 short long = omega (arith, short, long, byte_length-chars bytes utf8)

  -- a string that may be kept
  finds : (before after : Scene) (reply : Reply) → IsKeepable (model old.node.table) bytes
      → Finds (setting_of model rules) (chars bytes) (Sent (length before.sent)) (sending (chars bytes) before) before reply after
      → Accepts (setting_of model rules) (model old.node.table) (chars bytes) before reply after
  finds before after reply keepable does = inr (short_text keepable.utf8 keepable.short, inr (λ not. not keepable.assigned, does))

  pub accepts-known : (told : List (List ℕ)) → IsKeepable (model old.node.table) bytes → IsKept old.node.entries bytes → new ≡ old → NodeSteps model rules deed_accept old told Known new told
  accepts-known told keepable kept same =
      says model rules deed_accept old new told Known same
      (λ node strings last are m sent end. finds (scene node strings) (scene node strings) Known keepable (finds-known model rules old node m strings bytes _ _ kept))

  -- the refusals, in the order of the faults
  pub accepts-refused : (told : List (List ℕ)) (f : NodeFault) → IsUtf8 bytes → AnswersAccept (state_of model old.node) bytes (Err f) → new ≡ old → IfOk (refusal_of f) (λ reply. NodeSteps model rules deed_accept old told reply new told)
  accepts-refused told (fault.Malformed at) utf8 answers same = absurd answers
  accepts-refused told fault.OtherForm utf8 answers same = absurd answers
  accepts-refused told fault.TooLong utf8 answers same =
      says model rules deed_accept old new told TooLong same
      (λ node strings last are m sent end. inl (omega (arith, answers, byte_length-chars bytes utf8), (refl, refl)))
  accepts-refused told (fault.NotUtf8 at) utf8 answers same = absurd (not_utf8 bytes at answers.1 answers.2 utf8)
  accepts-refused told (fault.Unassigned at code) utf8 answers same =
      says model rules deed_accept old new told (Unassigned at code) same
      (λ node strings last are m sent end. inr (short_text utf8 answers.0, inl (not_assigned (model old.node.table) (chars bytes) at code answers.2, ((at, code, answers.2, refl), refl))))
  accepts-refused told fault.KeyDiffers utf8 answers same = absurd answers
  accepts-refused told fault.Full utf8 answers same =
      says model rules deed_accept old new told Full same
      (λ node strings last are m sent end. finds (scene node strings) (scene node strings) Full answers.new.keepable (finds-full model rules old node m strings bytes _ _ answers))
  accepts-refused told fault.Memory utf8 answers same = tt
  accepts-refused told (fault.OlderTables need have) utf8 answers same = absurd answers

  -- the message is that of the string, made under the node's version
  is_of : (message : List ℕ) (twin : _) → Mirrors model rules old twin → IsKeepable (model old.node.table) bytes → (entry : Entry) → TellsString (state_of model (with_entry old.node entry)) bytes message
      → IsMessageOf (setting_of model rules) message (chars bytes)
  is_of message twin m keepable entry tells =
      let e : Entry = record { string = bytes; key = tells.key } in
      let is : IsEntry (model old.node.table) old.node.form e = record { keepable = keepable; key = tells.is_key } in
      record {
        entry = e;
        place = old.index;
        version = model old.node.table;
        here = table_here model rules old twin m;
        is = subst (λ f. IsEntry (model old.node.table) f e) m.form is;
        message = subst (λ f. IsMessage message (record { form = f; entry = e })) m.form (record { fits = fits-entry (model old.node.table) m.node.sound old.node.form e is; spelling = tells.spelling });
        text = refl;
      }

  pub accepts-kept : (message : List ℕ) (sent told : List (List ℕ)) → HasPlace (state_of model old.node) bytes → KeepsString model old.node new.node bytes → TellsString (state_of model new.node) bytes message
      → new.index ≡ old.index → new.image ≡ old.image → told ≡ sent ++ message ∷ [] → NodeSteps model rules deed_accept old sent (Sent (length sent)) new told
  accepts-kept message sent told place keeps tells index image more =
      let e : Entry = record { string = bytes; key = keeps.key } in
      let told_after : TellsString (state_of model (with_entry old.node e)) bytes message = subst (λ (n : NodeState T). TellsString (state_of model n) bytes message) keeps.kept tells in
      node_stepped model rules deed_accept old new sent told (Sent (length sent))
      (λ node strings last are m messages end.
      let here : length sent ≡ length strings = length-messages (setting_of model rules) sent strings messages in
      let after : Scene = sending (chars bytes) (scene node strings) in
      record {
        next = after.node;
        more = after.sent;
        does = finds (scene node strings) after (Sent (length sent)) place.new.keepable
            (finds-place model rules old node m strings bytes (Sent (length strings)) (Sent (length sent)) after after place (ap Sent here, refl));
        mirrors = keeps_more model rules old node m new e index image keeps.kept place keeps.is_key;
        messages = subst (λ l. AreMessages (setting_of model rules) l after.sent) (sym more)
            (messages-push (setting_of model rules) sent strings message (chars bytes) messages (is_of message node m place.new.keepable e told_after));
      })
