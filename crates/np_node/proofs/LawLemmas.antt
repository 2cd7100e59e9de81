-- What is told and saved along a chain.
use Rattle.std.proofs.Common.{◌≡◌, ℕ, ◌<◌, ◌≤◌, ◌^◌, inl, inr, false, true≢false, List, [], ◌∷◌, ◌++◌, length, take, chars, IsUtf8, Option, Some, None, Result, Ok, Err, refl, sym, ap, subst, ◌∙◌, arith, append-nil}
use Rattle.std.proofs.lemmas.Bool.{and_parts, cases_lt}
use Rattle.std.proofs.lemmas.List.{take_all}
use Rattle.std.proofs.lemmas.List.Elements.{All-weaker}
use Rattle.std.specs.List.{list_all}
use Rattle.np_chain.proofs.AsManyLemmas.{as_many_law}
use Rattle.np_chain.proofs.ChainLemmas.{StandsAt-from}
use Rattle.np_chain.proofs.StabilityLemmas.{stability}
use Rattle.np_chain.specs.Chain.{Extends, StandsAt}
use Rattle.np_code_points.specs.Text.{IsLongestValidPrefix}
use Rattle.np_code_points.specs.declared.forms.Form.{Form}
use Rattle.np_forms.proofs.FormLemmas.{one_form, normal_form_is}
use Rattle.np_forms.specs.Assigned.{IsAssigned, IsFirstUnassigned}
use Rattle.np_forms.specs.Forms.{IsNormalForm}
use Rattle.np_node.proofs.ImageLemmas.{one_image, one_image_fault}
use Rattle.np_node.proofs.KeyLemmas.{fits-entry}
use Rattle.np_node.proofs.MessageLemmas.{one_message, one_message_fault}
use Rattle.np_node.proofs.NodeLemmas.{IsNode-later, All-at, unlike-take}
use Rattle.np_node.specs.Fields.{FitsFields}
use Rattle.np_node.specs.Images.{Image, Needs, FitsNeeds, image_bytes, IsImage}
use Rattle.np_node.specs.Laws.{Exchange, IsFairAnswer, FairExchange, NeverFewer, Restored, Saved, TellsCount, image_of}
use Rattle.np_node.specs.Messages.{Message, message_bytes, IsMessage}
use Rattle.np_node.specs.Nodes.{State, state_of, IsKept, IsNode}
use Rattle.np_node.specs.Restoring.{Holds, HasNoRoom, HasWrong, IsOlder, IsWrong, IsFirstWrong, IsRestoreFault, NeedsMore, place_behind}
use Rattle.np_node.specs.Strings.{Entry, most_bytes, IsEntry}
use Rattle.np_node.specs.Taking.{AnswersTake, AnswersEntry, Tells}
use Rattle.np_node.specs.declared.faults.NodeFault.{NodeFault}
use Rattle.np_node.specs.declared.faults.NodeFault.TheVariants.{Malformed, OtherForm, TooLong, NotUtf8, Unassigned, KeyDiffers, Full, Memory, OlderTables}
use Rattle.np_node.specs.declared.taking.Taken.{Taken}
use Rattle.np_versions.proofs.CountLemmas.{count-le}
use Rattle.np_versions.specs.Conditions.{IsSound}
use Rattle.np_versions.specs.Counts.{assigned_count}
use Rattle.np_versions.specs.Versions.{VersionData, is_assigned}

-- ---- keys

-- a key under one version is the key under a version that it extends, or that extends it
pub exchange : Exchange
exchange vs i j v w form string key in_v in_w has_v has_w is =
    let v_stands = StandsAt-from vs i v in_v.chain in_v.here in
    let w_stands = StandsAt-from vs j w in_w.chain in_w.here in
    elim (cases_lt j i) [
      | inl before ↦
          let ext : Extends w v = v_stands.earlier j w (omega (arith, before)) in_w.here in
          let other = one_form w form (chars string) w_stands.sound in
          let moved = (stability w v form (chars string) other.0 w_stands.sound v_stands.sound ext has_w other.1).0 in
          let same : other.0 ≡ chars key =
          normal_form_is v v_stands.sound form (chars string) other.0 moved ∙ sym (normal_form_is v v_stands.sound form (chars string) (chars key) is.normal) in
          record { utf8 = is.utf8; normal = subst (λ l. IsNormalForm w form (chars string) l) same other.1 }
      | inr behind ↦
          let ext : Extends v w = v_stands.later j w behind in_w.here in
          record { utf8 = is.utf8; normal = (stability v w form (chars string) (chars key) v_stands.sound w_stands.sound ext has_v is.normal).0 }
    ]

-- ---- strings that may be kept have no fault

not-assigned : (v : VersionData) (before : List ℕ) (code : ℕ) (after : List ℕ) → IsAssigned v (before ++ code ∷ after) → is_assigned v code ≡ false → ⊥
not-assigned v [] code after all lacks = true≢false (sym (and_parts (is_assigned v code) (list_all (is_assigned v) after) all).0 ∙ lacks)
not-assigned v (x ∷ xs) code after all lacks = not-assigned v xs code after (and_parts (is_assigned v x) (list_all (is_assigned v) (xs ++ code ∷ after)) all).1 lacks

assigned-lacks : (v : VersionData) (xs : List ℕ) (at code : ℕ) → IsAssigned v xs → IsFirstUnassigned v xs at code → ⊥
assigned-lacks v xs at code all first = not-assigned v first.before code first.after (subst (IsAssigned v) first.split all) first.lacks

utf8-breaks : (string : List ℕ) (at : ℕ) → IsUtf8 string → IsLongestValidPrefix string at → at < length string → ⊥
utf8-breaks string at utf8 longest lt =
    let whole : IsUtf8 (take (length string) string) = subst IsUtf8 (sym (take_all (length string) string (omega arith))) utf8 in
    omega (arith, lt, longest.longest (length string) (omega arith) whole)

short-long : (n : ℕ) → n ≤ most_bytes → most_bytes < n → ⊥
short-long n le lt = omega (arith, le, lt)

-- ---- messages

told-entry : (node : State) (entry : Entry) (P : Entry → Type 0) → FitsFields entry → Tells node (message_bytes (record { form = node.form; entry = entry })) P → P entry
told-entry node entry P fits tells =
    let m : Message = record { form = node.form; entry = entry } in
    let same = one_message (message_bytes m) [] m (record { form = node.form; entry = tells.entry }) (record { fits = fits; spelling = refl })
    (subst (λ l. IsMessage l (record { form = node.form; entry = tells.entry })) (sym (append-nil (message_bytes m))) tells.spelled) in
    subst P (sym (ap (λ (n : Message). n.entry) same.0)) tells.has

pub fair_exchange : FairExchange
fair_exchange vs i j v node entry answer in_v in_w right = by answer
  where
    v_sound : IsSound v
    v_sound = (StandsAt-from vs i v in_v.chain in_v.here).sound

    fits : FitsFields entry
    fits = fits-entry v v_sound node.form entry right

    m : Message
    m = record { form = node.form; entry = entry }

    spelled : IsMessage (message_bytes m) m
    spelled = record { fits = fits; spelling = refl }

    by : (r : Result Taken NodeFault) → AnswersTake node (message_bytes m) r → IsFairAnswer node.version entry.string r
    by (Ok taken) h = tt
    by (Err Full) h = tt
    by (Err Memory) h = tt
    by (Err (Malformed at)) h = (one_message_fault (message_bytes m) at h).0 m spelled
    by (Err (OlderTables need have)) h = h
    by (Err OtherForm) h =
        let same = one_message (message_bytes m) [] m h.message spelled (subst (λ l. IsMessage l h.message) (sym (append-nil (message_bytes m))) h.spelled) in
        h.other (sym (ap (λ (n : Message). n.form) same.0))
    by (Err TooLong) h =
        short-long (length entry.string) right.keepable.short (told-entry node entry (λ e. AnswersEntry node e (Err TooLong)) fits h)
    by (Err (NotUtf8 at)) h =
        let fault = told-entry node entry (λ e. AnswersEntry node e (Err (NotUtf8 at))) fits h in utf8-breaks entry.string at right.keepable.utf8 fault.1 fault.2
    by (Err (Unassigned at code)) h = (told-entry node entry (λ e. AnswersEntry node e (Err (Unassigned at code))) fits h).2
    by (Err KeyDiffers) h =
        let fault = told-entry node entry (λ e. AnswersEntry node e (Err KeyDiffers)) fits h in
        fault.1 (exchange vs i j v node.version node.form entry.string entry.key in_v in_w right.keepable.assigned fault.0.assigned right.key)

-- ---- images

-- a right entry whose string isn't there yet has nothing wrong
nothing-wrong : (v : VersionData) (form : Form) (before : List Entry) (e : Entry) (place : ℕ) (fault : NodeFault) → IsEntry v form e → ¬ IsKept before e.string → IsWrong v form before e place fault → ⊥
nothing-wrong v form before e place TooLong is absent h = short-long (length e.string) is.keepable.short h
nothing-wrong v form before e place (NotUtf8 at) is absent h = utf8-breaks e.string at is.keepable.utf8 h.1 h.2
nothing-wrong v form before e place (Unassigned at code) is absent h = assigned-lacks v (chars e.string) at code is.keepable.assigned h.2
nothing-wrong v form before e place KeyDiffers is absent h = h.1 is.key
nothing-wrong v form before e place (Malformed at) is absent h = absent h.1
nothing-wrong v form before e place OtherForm is absent h = h
nothing-wrong v form before e place Full is absent h = h
nothing-wrong v form before e place Memory is absent h = h
nothing-wrong v form before e place (OlderTables need have) is absent h = h

-- the count of a version's code points is a number of four bytes
small-count : (v : VersionData) → assigned_count v < 2 ^ 32
unfolding assigned_count
small-count v = omega (arith, count-le (is_assigned v) 0x110000)

-- an image that a version isn't older than, of what is kept under it
module _ (node : State) (t : Needs) (is : IsNode node) (young : ¬ IsOlder node.version t) where
  fits-told : (s : Needs) → ¬ IsOlder node.version s → FitsNeeds s
  fits-told None young = tt
  fits-told (Some need) young = elim (cases_lt (assigned_count node.version) need) [ inl older ↦ absurd (young older) | inr le ↦ omega (arith, le, small-count node.version) ]

  is-image : IsImage (image_bytes (image_of t node)) (image_of t node)
  is-image =
      record {
        needs = fits-told t young;
        count = omega (arith, is.fits, is.room);
        fits = All-weaker (IsEntry node.version node.form) FitsFields (fits-entry node.version is.sound node.form) node.entries is.entries;
        spelling = refl;
      }

  same-image : (other : Image) → IsImage (image_bytes (image_of t node)) other → image_of t node ≡ other
  same-image other h =
      (one_image (image_bytes (image_of t node)) [] (image_of t node) other is-image (subst (λ l. IsImage l other) (sym (append-nil (image_bytes (image_of t node)))) h)).0

  held : (P : Needs → List Entry → Type 0) → Holds node.form (image_bytes (image_of t node)) P → P t node.entries
  held P h = subst (λ (n : Image). P n.needs n.entries) (sym (same-image (record { needs = h.needs; form = node.form; entries = h.entries }) h.spelled)) h.has

  wrong : (n : ℕ) (fault : NodeFault) → IsFirstWrong node.version t node.form node.entries n fault → ⊥
  wrong n fault first =
      nothing-wrong node.version node.form (take n node.entries) first.entry (place_behind t node.form (length node.entries) (take n node.entries)) fault
      (All-at (IsEntry node.version node.form) node.entries n first.entry is.entries first.here)
      (λ kept. unlike-take node.entries n first.entry is.unlike first.here kept) first.wrong

  needs-no-more : (need have : ℕ) → NeedsMore node.version t need have → ⊥
  needs-no-more need have more =
      young (subst (IsOlder node.version) (sym more.is) (subst (λ (k : ℕ). k < need) more.has more.fewer))

  -- is refused for want of memory alone
  pub refused-memory : (entry : Option ℕ) (fault : NodeFault) → IsRestoreFault node.version node.form node.room (image_bytes (image_of t node)) entry fault → (entry ≡ None) × (fault ≡ Memory)
  refused-memory None (Malformed at) h = absurd ((one_image_fault (image_bytes (image_of t node)) at h).0 (image_of t node) is-image)
  refused-memory None OtherForm h = absurd (h.other (sym (ap (λ (n : Image). n.form) (same-image h.image h.spelled))))
  refused-memory None (OlderTables need have) h = absurd (needs-no-more need have (held (λ needs es. NeedsMore node.version needs need have) h))
  refused-memory None Full h = absurd (let none = held (HasNoRoom node.version node.room) h in omega (arith, none.more, is.fits))
  refused-memory None Memory h = (refl, refl)
  refused-memory None TooLong h = absurd h
  refused-memory None (NotUtf8 at) h = absurd h
  refused-memory None (Unassigned at code) h = absurd h
  refused-memory None KeyDiffers h = absurd h
  refused-memory (Some n) fault h = absurd (wrong n fault (held (HasWrong node.version node.form node.room n fault) h).1)

pub restored : {T : Type 0} (model : T → VersionData) → Restored model
restored model node t (Ok again) is young h =
    let same = same-image (state_of model node) t is young (record { needs = h.needs; form = node.form; entries = again.entries }) h.image in
    (λ i. record { table = h.table_is i; form = h.form_is i; room = h.room_is i; entries = sym (ap (λ (n : Image). n.entries) same) i })
restored model node t (Err refused) is young h =
    let memory = refused-memory (state_of model node) t is young refused.entry refused.fault h in (λ i. record { entry = memory.0 i; fault = memory.1 i })

pub never_fewer : NeverFewer
never_fewer vs i j v w in_v in_w le =
    let v_stands = StandsAt-from vs i v in_v.chain in_v.here in
    let w_stands = StandsAt-from vs j w in_w.chain in_w.here in
    (as_many_law v w w_stands.sound (v_stands.later j w le in_w.here)).0

-- a version that assigns no fewer isn't older
not-older : (v w : VersionData) (t : Needs) → assigned_count v ≤ assigned_count w → TellsCount v t → ¬ IsOlder w t
not-older v w None le tells = λ older. older
not-older v w (Some count) le tells = λ older. omega (arith, le, tells, older)

pub saved : Saved
saved vs i j w node in_v in_w le is =
    record {
      holds = later;
      spelled = λ t tells. is-image node t is (not-older node.version node.version t (omega arith) tells);
      taken = λ t entry fault tells h. (refused-memory (record node { version = w }) t later (not-older node.version w t le tells) entry fault h).1;
    }
  where
    w_sound : IsSound w
    w_sound = (StandsAt-from vs j w in_w.chain in_w.here).sound

    v_stands : StandsAt vs i node.version
    v_stands = StandsAt-from vs i node.version in_v.chain in_v.here

    ext : Extends node.version w
    ext =
        elim (cases_lt j i) [
          | inl before ↦ (as_many_law w node.version v_stands.sound (v_stands.earlier j w (omega (arith, before)) in_w.here)).1 le
          | inr behind ↦ v_stands.later j w behind in_w.here
        ]

    later : IsNode (record node { version = w })
    later = IsNode-later stability node w w_sound ext is
