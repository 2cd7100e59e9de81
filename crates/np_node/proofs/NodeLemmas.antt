-- What holds of a node as strings come to it, and along an extension.
use Rattle.std.proofs.Common.{◌≡◌, ◌≢◌, ℕ, zero, suc, ◌<◌, List, [], ◌∷◌, ◌++◌, length, take, slice_get, Some, get_or, All, AllPairs, Contains, Bool, false, true≢false, IsTrue, ◌↔◌, Result, Ok, Err, OnOk, OnErr, refl, sym, ap, subst, ◌∙◌, arith, length-append}
use Rattle.std.proofs.lemmas.List.{get_or-map, length-map}
use Rattle.std.proofs.lemmas.List.Elements.{All-push, All-weaker, All-head, All-tail}
use Rattle.std.proofs.lemmas.List.Quantifiers.{all_pairs_push}
use Rattle.np_chain.specs.Chain.{Extends}
use Rattle.np_chain.specs.Laws.{Stability}
use Rattle.np_code_points.specs.declared.forms.Form.{Form}
use Rattle.np_node.proofs.KeyLemmas.{later_entry, one_key}
use Rattle.np_node.specs.Accepting.{AnswersAccept, AnswersKeep}
use Rattle.np_node.specs.Nodes.{State, strings_of, HasPlace, IsKept, AreUnlike, IsNode}
use Rattle.np_node.specs.Strings.{Entry, IsEntry, IsKey, IsStringFault}
use Rattle.np_node.specs.Taking.{AnswersEntry}
use Rattle.np_node.specs.declared.faults.NodeFault.{NodeFault}
use Rattle.np_node.specs.declared.faults.NodeFault.TheVariants.{Malformed, OtherForm, TooLong, NotUtf8, Unassigned, KeyDiffers, Full, Memory, OlderTables}
use Rattle.np_versions.specs.Conditions.{IsSound}
use Rattle.np_versions.specs.Versions.{VersionData}

-- ---- elements

get_or-any : {A : Type 0} (xs : List A) (k : ℕ) (d e : A) → k < length xs → get_or xs k d ≡ get_or xs k e
get_or-any [] k d e lt = absurd (omega arith)
get_or-any (x ∷ xs) zero d e lt = refl
get_or-any (x ∷ xs) (suc k) d e lt = get_or-any xs k d e (omega arith)

-- what holds of each element holds of one that the list contains
pub All-Contains : {A : Type 0} (P : A → Type 0) (xs : List A) (x : A) → All P xs → Contains xs x → P x
All-Contains P xs x all (k, lt, is) = subst P is (all k x lt)

-- the string of an entry is kept
pub entry_is_kept : (entries : List Entry) (e : Entry) → Contains entries e → IsKept entries e.string
entry_is_kept entries e has = (
  has.0,
  omega (arith, has.1, length-map entries (λ (x : Entry). x.string)),
  get_or-map (λ (x : Entry). x.string) entries has.0 e e.string has.1 ∙ ap (λ (x : Entry). x.string) has.2,
)

-- ---- one more entry

strings-push : (es : List Entry) (e : Entry) → strings_of (es ++ e ∷ []) ≡ strings_of es ++ e.string ∷ []
strings-push [] e = refl
strings-push (x ∷ xs) e = ap (λ l. x.string ∷ l) (strings-push xs e)

-- a string that isn't kept is unlike each that is
unlike-absent : (es : List Entry) (string : List ℕ) → ¬ IsKept es string → (k : ℕ) (d : List ℕ) → k < length (strings_of es) → get_or (strings_of es) k d ≢ string
unlike-absent es string absent k d lt same =
    absent (k, lt, get_or-any (strings_of es) k string d lt ∙ same)

pub unlike-push : (es : List Entry) (e : Entry) → AreUnlike es → ¬ IsKept es e.string → AreUnlike (es ++ e ∷ [])
unlike-push es e unlike absent =
    subst (AllPairs (λ a b. a ≢ b)) (sym (strings-push es e))
    (all_pairs_push (λ a b. a ≢ b) (strings_of es) e.string unlike (unlike-absent es e.string absent))

pub IsNode-push : (node : State) (e : Entry) → IsNode node → HasPlace node e.string → IsKey node.version node.form e.string e.key → IsNode (record node { entries = node.entries ++ e ∷ [] })
IsNode-push node e is place key =
    record {
      sound = is.sound;
      entries = All-push (IsEntry node.version node.form) node.entries e is.entries (record { keepable = place.new.keepable; key = key });
      unlike = unlike-push node.entries e is.unlike place.new.absent;
      fits = omega (arith, place.room, length-append node.entries (e ∷ []));
      room = is.room;
    }

-- ---- an extension

pub IsNode-later : (stability : Stability) (node : State) (w : VersionData) → IsSound w → Extends node.version w → IsNode node → IsNode (record node { version = w })
IsNode-later stability node w sound ext is =
    record {
      sound = sound;
      entries = All-weaker (IsEntry node.version node.form) (IsEntry w node.form) (later_entry stability node.version w is.sound sound ext node.form) node.entries is.entries;
      unlike = is.unlike;
      fits = is.fits;
      room = is.room;
    }

-- ---- answers

-- what holds of both ends of a call holds of what it left
pub either : {A T E : Type 0} (r : Result T E) (P : A → Type 0) (new a b : A) → OnOk r (new ≡ a) → OnErr r (new ≡ b) → P a → P b → P new
either (Ok x) P new a b ok err pa pb = subst P (sym ok) pa
either (Err x) P new a b ok err pa pb = subst P (sym err) pb

-- what is wrong with a string is one of three faults
string_faults : (v : VersionData) (string : List ℕ) (Wanted : NodeFault → Type 0) → (IsStringFault v string TooLong → Wanted TooLong)
    → ((at : ℕ) → IsStringFault v string (NotUtf8 at) → Wanted (NotUtf8 at)) → ((at code : ℕ) → IsStringFault v string (Unassigned at code) → Wanted (Unassigned at code))
    → (fault : NodeFault) → IsStringFault v string fault → Wanted fault
string_faults v string Wanted long cut lacks TooLong h = long h
string_faults v string Wanted long cut lacks (NotUtf8 at) h = cut at h
string_faults v string Wanted long cut lacks (Unassigned at code) h = lacks at code h
string_faults v string Wanted long cut lacks (Malformed at) h = absurd h
string_faults v string Wanted long cut lacks OtherForm h = absurd h
string_faults v string Wanted long cut lacks KeyDiffers h = absurd h
string_faults v string Wanted long cut lacks Full h = absurd h
string_faults v string Wanted long cut lacks Memory h = absurd h
string_faults v string Wanted long cut lacks (OlderTables need have) h = absurd h

-- it is refused with it
pub refuses-accept : (node : State) (string : List ℕ) (fault : NodeFault) → IsStringFault node.version string fault → AnswersAccept node string (Err fault)
refuses-accept node string = string_faults node.version string (λ fault. AnswersAccept node string (Err fault)) (λ h. h) (λ at h. h) (λ at code h. h)

pub refuses-keep : (node : State) (string : List ℕ) (fault : NodeFault) → IsStringFault node.version string fault → AnswersKeep node string (Err fault)
refuses-keep node string fault h = refuses-accept node string fault h

pub refuses-entry : (node : State) (e : Entry) (fault : NodeFault) → IsStringFault node.version e.string fault → AnswersEntry node e (Err fault)
refuses-entry node e = string_faults node.version e.string (λ fault. AnswersEntry node e (Err fault)) (λ h. h) (λ at h. h) (λ at code h. h)

-- a string that stands beside one key has no other
pub other-key : (v : VersionData) (form : Form) (string k l : List ℕ) (b : Bool) → IsSound v → IsKey v form string k → (IsTrue b ↔ (k ≡ l)) → b ≡ false → ¬ IsKey v form string l
other-key v form string k l b sound is same off has = true≢false (sym (same.1 (one_key v sound form string k l is has)) ∙ off)

-- ---- the first entries

-- what holds of each holds of the one at a place
pub All-at : (P : Entry → Type 0) (es : List Entry) (n : ℕ) (e : Entry) → All P es → slice_get es n ≡ Some e → P e
All-at P [] n e all here = cc
All-at P (x ∷ xs) zero e all here = let same : x ≡ e = cc in subst P same (All-head P x xs all)
All-at P (x ∷ xs) (suc n) e all here = All-at P xs n e (All-tail P x xs all) here

unlike-tail : (x : Entry) (xs : List Entry) → AreUnlike (x ∷ xs) → AreUnlike xs
unlike-tail x xs unlike = λ i j d lt within. unlike (suc i) (suc j) d (omega (arith, lt)) (omega (arith, within))

kept-at : (es : List Entry) (n : ℕ) (e : Entry) → slice_get es n ≡ Some e → IsKept es e.string
kept-at [] n e here = cc
kept-at (x ∷ xs) zero e here = let same : x ≡ e = cc in (0, omega arith, ap (λ (y : Entry). y.string) same)
kept-at (x ∷ xs) (suc n) e here = let (k, lt, is) = kept-at xs n e here in (suc k, omega (arith, lt), is)

unlike-head : (x : Entry) (xs : List Entry) (s : List ℕ) → AreUnlike (x ∷ xs) → IsKept xs s → x.string ≢ s
unlike-head x xs s unlike (k, lt, is) same = unlike 0 (suc k) s (omega arith) (omega (arith, lt)) (same ∙ sym is)

-- no entry before a place has the string there
pub unlike-take : (es : List Entry) (n : ℕ) (e : Entry) → AreUnlike es → slice_get es n ≡ Some e → ¬ IsKept (take n es) e.string
unlike-take [] n e unlike here kept = cc
unlike-take (x ∷ xs) zero e unlike here (k, lt, is) = omega (arith, lt)
unlike-take (x ∷ xs) (suc n) e unlike here (zero, lt, is) = unlike-head x xs e.string unlike (kept-at xs n e here) is
unlike-take (x ∷ xs) (suc n) e unlike here (suc k, lt, is) = unlike-take xs n e (unlike-tail x xs unlike) here (k, omega (arith, lt), is)
