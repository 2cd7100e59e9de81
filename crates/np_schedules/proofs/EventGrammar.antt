-- The lines of events say what the grammar says.
use Rattle.std.proofs.Common.{◌≡◌, ◌⊎◌, inl, inr, ⊎_elim, ℕ, ◌+◌, ◌*◌, Bool, true, false, ◌&&◌, cond, List, [], ◌∷◌, ◌++◌, length, Option, Some, None, option_map, codes, refl, sym, ap, subst, ◌∙◌, arith}
use Rattle.std.specs.Char.{digit_value}
use Rattle.std.specs.List.{AllZip}
use Rattle.std.specs.Option.{option_and_then}
use Rattle.std.specs.Str.{bytes_eq}
use Rattle.std.proofs.lemmas.Bool.{cond-true, cond-false, and_from, and_parts, false_from_ne_true}
use Rattle.np_code_points.specs.Codes.{IsScalarOf, is_hex_digit}
use Rattle.np_code_points.specs.declared.words.Dividers.TheVariants.{Blanks}
use Rattle.np_code_points.specs.inside.WordCuts.{words_of}
use Rattle.np_code_points.specs.inside.WordValues.{scalars_of, scalar_value}
use Rattle.np_code_points.proofs.CodeLemmas.{code_value-short}
use Rattle.np_code_points.proofs.ValueGrammar.{scalar_from, from_scalar, zip_from, from_zip}
use Rattle.np_code_points.proofs.WordGrammar.{are_words, only_words}
use Rattle.np_schedules.specs.Events.{Event, Accept, Deliver, Upgrade, Save, Restart, Ask, Forge, Forget, RestartUnder}
use Rattle.np_schedules.specs.ScheduleLines.{IsNumber, IsNumberBelow, AreHexPairs, AreHexWords, HasHead, SaysOf, IsEventLine}
use Rattle.np_schedules.specs.declared.reading.verbs.Verb.{Verb}
use Rattle.np_schedules.specs.declared.reading.verbs.Verb.TheVariants as verb
use Rattle.np_schedules.specs.inside.LineValues.{number_value, below_value, is_slash, up_to_slash, behind_slash, halves_value, hex_pairs, hex_words, verb_named, deliver_value, alone_value, restart_value, said_value, at_node, event_value}
use Rattle.np_schedules.proofs.LineGrammar.{gave, maps, tested, same_bytes, number_said, said_number, below_said, said_below}

-- The names of events.
abbrev name_of : Verb → List ℕ
name_of verb.Accept = codes "accept"
name_of verb.Deliver = codes "deliver"
name_of verb.Upgrade = codes "upgrade"
name_of verb.Save = codes "save"
name_of verb.Restart = codes "restart"
name_of verb.Ask = codes "ask"
name_of verb.Forge = codes "forge"
name_of verb.Forget = codes "forget"

name_step : (name : List ℕ) (v w : Verb) (rest : Option Verb) (t : Bool) → bytes_eq name (name_of v) ≡ t → (rest ≡ Some w → name ≡ name_of w) → cond t (Some v) rest ≡ Some w → name ≡ name_of w
name_step name v w rest true e more h = let same : v ≡ w = cc in same_bytes name (name_of v) e ∙ ap name_of same
name_step name v w rest false e more h = more h

none_named : (name : List ℕ) (w : Verb) → None ≡ Some w → name ≡ name_of w
none_named name w h = absurd (cc)

named : (name : List ℕ) (w : Verb) → verb_named name ≡ Some w → name ≡ name_of w
unfolding verb_named
named name w =
    name_step name verb.Accept w _ (bytes_eq name (codes "accept")) refl
    (name_step name verb.Deliver w _ (bytes_eq name (codes "deliver")) refl
    (name_step name verb.Upgrade w _ (bytes_eq name (codes "upgrade")) refl
    (name_step name verb.Save w _ (bytes_eq name (codes "save")) refl
    (name_step name verb.Restart w _ (bytes_eq name (codes "restart")) refl
    (name_step name verb.Ask w _ (bytes_eq name (codes "ask")) refl
    (name_step name verb.Forge w _ (bytes_eq name (codes "forge")) refl
    (name_step name verb.Forget w _ (bytes_eq name (codes "forget")) refl
    (none_named name w))))))))

-- The strings on both sides of '/'.
behind_step : (t : Bool) (word : List ℕ) (words up second : List (List ℕ)) (behind : Option (List (List ℕ))) → is_slash word ≡ t → (behind ≡ Some second → words ≡ up ++ codes "/" ∷ second) → cond t (Some words) behind ≡ Some second → word ∷ words ≡ cond t [] (word ∷ up) ++ codes "/" ∷ second
behind_step true word words up second behind e more h =
    let head = same_bytes word (codes "/") e in let tail : words ≡ second = cc in cc
behind_step false word words up second behind e more h = ap (λ ws. word ∷ ws) (more h)

slash_between : (words second : List (List ℕ)) → behind_slash words ≡ Some second → words ≡ up_to_slash words ++ codes "/" ∷ second
unfolding behind_slash up_to_slash
slash_between [] second h = absurd (cc)
slash_between (word ∷ words) second h =
    behind_step (is_slash word) word words (up_to_slash words) second (behind_slash words) refl (slash_between words second) h

-- a code point is no '/'
pub no_slash : (word : List ℕ) (code : ℕ) → IsScalarOf word code → is_slash word ≡ false
no_slash word code h =
    false_from_ne_true (is_slash word)
    (λ e. let none = code_value-short word (let long = ap length (same_bytes word (codes "/") e) in omega (arith, long)) in
    let some = h.0 in absurd (cc))

up_to : (first second : List (List ℕ)) (left : List ℕ) → AllZip IsScalarOf first left → up_to_slash (first ++ codes "/" ∷ second) ≡ first
unfolding up_to_slash
up_to [] second left h = refl
up_to (word ∷ first) second [] h = absurd h
up_to (word ∷ first) second (code ∷ left) h =
    cond-false (is_slash word) [] (word ∷ up_to_slash (first ++ codes "/" ∷ second)) (no_slash word code h.0)
    ∙ ap (λ ws. word ∷ ws) (up_to first second left h.1)

behind : (first second : List (List ℕ)) (left : List ℕ) → AllZip IsScalarOf first left → behind_slash (first ++ codes "/" ∷ second) ≡ Some second
unfolding behind_slash
behind [] second left h = refl
behind (word ∷ first) second [] h = absurd h
behind (word ∷ first) second (code ∷ left) h =
    cond-false (is_slash word) (Some (first ++ codes "/" ∷ second)) (behind_slash (first ++ codes "/" ∷ second)) (no_slash word code h.0)
    ∙ behind first second left h.1

scalars_said : (words : List (List ℕ)) (string : List ℕ) → scalars_of words ≡ Some string → AllZip IsScalarOf words string
scalars_said = zip_from scalar_value IsScalarOf scalar_from

said_scalars : (words : List (List ℕ)) (string : List ℕ) → AllZip IsScalarOf words string → scalars_of words ≡ Some string
said_scalars = from_zip scalar_value IsScalarOf from_scalar

record Halves (words : List (List ℕ)) (halves : List ℕ × List ℕ) : Type 0 where
  first : List (List ℕ)
  second : List (List ℕ)
  are : words ≡ first ++ codes "/" ∷ second
  left : AllZip IsScalarOf first halves.0
  right : AllZip IsScalarOf second halves.1

halves_said : (words : List (List ℕ)) (halves : List ℕ × List ℕ) → halves_value words ≡ Some halves → Halves words halves
unfolding halves_value
halves_said words halves h =
    let outer = gave (λ left. option_map (λ right. (left, right)) (option_and_then scalars_of (behind_slash words))) (scalars_of (up_to_slash words)) halves h in
    let inner = maps (λ right. (outer.from, right)) (option_and_then scalars_of (behind_slash words)) halves outer.gives in
    let last = gave scalars_of (behind_slash words) inner.from inner.was in
    let left : outer.from ≡ halves.0 = ap (λ (p : List ℕ × List ℕ). p.0) inner.gives in
    let right : inner.from ≡ halves.1 = ap (λ (p : List ℕ × List ℕ). p.1) inner.gives in
    record {
      first = up_to_slash words;
      second = last.from;
      are = slash_between words last.from last.was;
      left = scalars_said (up_to_slash words) halves.0 (outer.was ∙ ap Some left);
      right = scalars_said last.from halves.1 (last.gives ∙ ap Some right);
    }

said_halves : (first second : List (List ℕ)) (left right : List ℕ) → AllZip IsScalarOf first left → AllZip IsScalarOf second right → halves_value (first ++ codes "/" ∷ second) ≡ Some (left, right)
unfolding halves_value
said_halves first second left right h k =
    let words = first ++ codes "/" ∷ second in
    ap (option_and_then (λ left. option_map (λ right. (left, right)) (option_and_then scalars_of (behind_slash words)))) (ap scalars_of (up_to first second left h) ∙ said_scalars first left h)
    ∙ ap (λ o. option_map (λ right. (left, right)) (option_and_then scalars_of o)) (behind first second left h)
    ∙ ap (option_map (λ right. (left, right))) (said_scalars second right k)

-- Bytes in hex digits.
pairs_said : (word bytes : List ℕ) → hex_pairs word ≡ Some bytes → AreHexPairs word bytes
unfolding hex_pairs
pairs_said [] bytes h = cc
pairs_said (high ∷ []) bytes h = absurd (cc)
pairs_said (high ∷ low ∷ digits) bytes h =
    let is = tested (is_hex_digit high && is_hex_digit low) (option_map (λ bytes. (digit_value high * 16 + digit_value low) ∷ bytes) (hex_pairs digits)) bytes h in
    let both = and_parts (is_hex_digit high) (is_hex_digit low) is.0 in
    let more = maps (λ bytes. (digit_value high * 16 + digit_value low) ∷ bytes) (hex_pairs digits) bytes is.1 in
    (both.0, both.1, more.from, sym more.gives, pairs_said digits more.from more.was)

said_pairs : (word bytes : List ℕ) → AreHexPairs word bytes → hex_pairs word ≡ Some bytes
unfolding hex_pairs
said_pairs [] bytes h = ap Some (sym h)
said_pairs (high ∷ []) bytes h = absurd h
said_pairs (high ∷ low ∷ digits) bytes h =
    cond-true (is_hex_digit high && is_hex_digit low) (option_map (λ bytes. (digit_value high * 16 + digit_value low) ∷ bytes) (hex_pairs digits)) None
    (and_from (is_hex_digit high) (is_hex_digit low) h.0 h.1)
    ∙ ap (option_map (λ bytes. (digit_value high * 16 + digit_value low) ∷ bytes)) (said_pairs digits h.2 h.4)
    ∙ ap Some (sym h.3)

hex_said : (words : List (List ℕ)) (bytes : List ℕ) → hex_words words ≡ Some bytes → AreHexWords words bytes
unfolding hex_words
hex_said [] bytes h = cc
hex_said (word ∷ []) bytes h = pairs_said word bytes h
hex_said (word ∷ more ∷ words) bytes h = absurd (cc)

said_hex : (words : List (List ℕ)) (bytes : List ℕ) → AreHexWords words bytes → hex_words words ≡ Some bytes
unfolding hex_words
said_hex [] bytes h = ap Some (sym h)
said_hex (word ∷ []) bytes h = said_pairs word bytes h
said_hex (word ∷ more ∷ words) bytes h = absurd h

-- What stands behind the node.
alone_said : (event : Event) (words : List (List ℕ)) (other : Event) → alone_value event words ≡ Some other → (words ≡ []) × (event ≡ other)
unfolding alone_value
alone_said event [] other h = (refl, cc)
alone_said event (word ∷ words) other h = absurd (cc)

record Delivery (node : ℕ) (words : List (List ℕ)) (event : Event) : Type 0 where
  word : List ℕ
  message : ℕ
  are : words ≡ word ∷ []
  number : IsNumber word message
  gives : Deliver node message ≡ event

delivery_said : (node : ℕ) (words : List (List ℕ)) (event : Event) → deliver_value node words ≡ Some event → Delivery node words event
unfolding deliver_value
delivery_said node [] event h = absurd (cc)
delivery_said node (word ∷ []) event h =
    let m = maps (Deliver node) (number_value word) event h in
    record { word = word; message = m.from; are = refl; number = number_said word m.from m.was; gives = m.gives }
delivery_said node (word ∷ more ∷ words) event h = absurd (cc)

record Restarting (versions node : ℕ) (words : List (List ℕ)) (event : Event) : Type 0 where
  word : List ℕ
  version : ℕ
  are : words ≡ word ∷ []
  number : IsNumberBelow versions word version
  gives : RestartUnder node version ≡ event

abbrev RestartSaid : ℕ → ℕ → List (List ℕ) → Event → Type 0
RestartSaid versions node words event = ((words ≡ []) × (Restart node ≡ event)) ⊎ Restarting versions node words event

restart_said : (versions node : ℕ) (words : List (List ℕ)) (event : Event) → restart_value versions node words ≡ Some event → RestartSaid versions node words event
unfolding restart_value
restart_said versions node [] event h = inl (refl, cc)
restart_said versions node (word ∷ []) event h =
    let m = maps (RestartUnder node) (below_value versions word) event h in
    inr (record { word = word; version = m.from; are = refl; number = below_said versions word m.from m.was; gives = m.gives })
restart_said versions node (word ∷ more ∷ words) event h = absurd (cc)

-- an event's name, its node and the words behind it
abbrev said_words : Verb → List ℕ → List (List ℕ) → List (List ℕ)
said_words v at words = name_of v ∷ at ∷ words

head : (v : Verb) (nodes node : ℕ) (at : List ℕ) (words behind : List (List ℕ)) → IsNumberBelow nodes at node → words ≡ behind → HasHead nodes (said_words v at words) (name_of v) node behind
head v nodes node at words behind below same = record { at = at; are = ap (λ ws. name_of v ∷ at ∷ ws) same; number = below }

said : (v : Verb) (versions nodes node : ℕ) (at : List ℕ) (words : List (List ℕ)) (event : Event) → IsNumberBelow nodes at node → said_value versions v node words ≡ Some event
    → SaysOf versions nodes (said_words v at words) event
said verb.Accept versions nodes node at words event below h =
    let m = maps (Accept node) (scalars_of words) event h in
    subst (SaysOf versions nodes (said_words verb.Accept at words)) m.gives (record { behind = words; head = head verb.Accept nodes node at words words below refl; codes_are = scalars_said words m.from m.was })
said verb.Deliver versions nodes node at words event below h =
    let d = delivery_said node words event h in
    subst (SaysOf versions nodes (said_words verb.Deliver at words)) d.gives (record { word = d.word; head = head verb.Deliver nodes node at words (d.word ∷ []) below d.are; number = d.number })
said verb.Upgrade versions nodes node at words event below h =
    let a = alone_said (Upgrade node) words event h in
    subst (SaysOf versions nodes (said_words verb.Upgrade at words)) a.1 (head verb.Upgrade nodes node at words [] below a.0)
said verb.Save versions nodes node at words event below h =
    let a = alone_said (Save node) words event h in
    subst (SaysOf versions nodes (said_words verb.Save at words)) a.1 (head verb.Save nodes node at words [] below a.0)
said verb.Restart versions nodes node at words event below h =
    ⊎_elim
    (λ a. subst (SaysOf versions nodes (said_words verb.Restart at words)) a.1 (head verb.Restart nodes node at words [] below a.0))
    (λ r. subst (SaysOf versions nodes (said_words verb.Restart at words)) r.gives (record { word = r.word; head = head verb.Restart nodes node at words (r.word ∷ []) below r.are; number = r.number }))
    (restart_said versions node words event h)
said verb.Ask versions nodes node at words event below h =
    let m = maps (λ (halves : List ℕ × List ℕ). Ask node halves.0 halves.1) (halves_value words) event h in
    let s = halves_said words m.from m.was in
    subst (SaysOf versions nodes (said_words verb.Ask at words)) m.gives
    (record { first = s.first; second = s.second; head = head verb.Ask nodes node at words (s.first ++ codes "/" ∷ s.second) below s.are; left_codes = s.left; right_codes = s.right })
said verb.Forge versions nodes node at words event below h =
    let m = maps (Forge node) (hex_words words) event h in
    subst (SaysOf versions nodes (said_words verb.Forge at words)) m.gives (record { behind = words; head = head verb.Forge nodes node at words words below refl; digits = hex_said words m.from m.was })
said verb.Forget versions nodes node at words event below h =
    let m = maps (Forget node) (scalars_of words) event h in
    subst (SaysOf versions nodes (said_words verb.Forget at words)) m.gives (record { behind = words; head = head verb.Forget nodes node at words words below refl; codes_are = scalars_said words m.from m.was })

event_words : (versions nodes : ℕ) (words : List (List ℕ)) (event : Event) → event_value versions nodes words ≡ Some event → SaysOf versions nodes words event
unfolding event_value
event_words versions nodes [] event h = absurd (cc)
event_words versions nodes (name ∷ []) event h = absurd (cc)
event_words versions nodes (name ∷ at ∷ words) event h =
    let v = gave (λ v. at_node versions nodes at v words) (verb_named name) event h in
    let n = gave (λ node. said_value versions v.from node words) (below_value nodes at) event v.gives in
    subst (λ name. SaysOf versions nodes (name ∷ at ∷ words) event) (sym (named name v.from v.was))
    (said v.from versions nodes n.from at words event (below_said nodes at n.from n.was) n.gives)

pub event_said : (versions nodes : ℕ) (text : List ℕ) (event : Event) → event_value versions nodes (words_of Blanks text) ≡ Some event → IsEventLine versions nodes text event
event_said versions nodes text event h =
    record { words = words_of Blanks text; are = are_words Blanks text; says = event_words versions nodes (words_of Blanks text) event h }

-- the words of an event's name say what those behind its node say
verb_words : (versions nodes node : ℕ) (at : List ℕ) (v : Verb) (words : List (List ℕ)) → IsNumberBelow nodes at node → event_value versions nodes (said_words v at words) ≡ said_value versions v node words
unfolding event_value verb_named
verb_words versions nodes node at verb.Accept words below = ap (option_and_then (λ node. said_value versions verb.Accept node words)) (said_below nodes at node below)
verb_words versions nodes node at verb.Deliver words below = ap (option_and_then (λ node. said_value versions verb.Deliver node words)) (said_below nodes at node below)
verb_words versions nodes node at verb.Upgrade words below = ap (option_and_then (λ node. said_value versions verb.Upgrade node words)) (said_below nodes at node below)
verb_words versions nodes node at verb.Save words below = ap (option_and_then (λ node. said_value versions verb.Save node words)) (said_below nodes at node below)
verb_words versions nodes node at verb.Restart words below = ap (option_and_then (λ node. said_value versions verb.Restart node words)) (said_below nodes at node below)
verb_words versions nodes node at verb.Ask words below = ap (option_and_then (λ node. said_value versions verb.Ask node words)) (said_below nodes at node below)
verb_words versions nodes node at verb.Forge words below = ap (option_and_then (λ node. said_value versions verb.Forge node words)) (said_below nodes at node below)
verb_words versions nodes node at verb.Forget words below = ap (option_and_then (λ node. said_value versions verb.Forget node words)) (said_below nodes at node below)

from_head : (versions nodes node : ℕ) (v : Verb) (words behind : List (List ℕ)) → HasHead nodes words (name_of v) node behind → event_value versions nodes words ≡ said_value versions v node behind
from_head versions nodes node v words behind h = ap (event_value versions nodes) h.are ∙ verb_words versions nodes node h.at v behind h.number

delivered : (node : ℕ) (word : List ℕ) (message : ℕ) → IsNumber word message → deliver_value node (word ∷ []) ≡ Some (Deliver node message)
unfolding deliver_value
delivered node word message h = ap (option_map (Deliver node)) (said_number word message h)

alone_is : (event : Event) → alone_value event [] ≡ Some event
unfolding alone_value
alone_is event = refl

restarted : (versions node : ℕ) (word : List ℕ) (version : ℕ) → IsNumberBelow versions word version → restart_value versions node (word ∷ []) ≡ Some (RestartUnder node version)
unfolding restart_value
restarted versions node word version h = ap (option_map (RestartUnder node)) (said_below versions word version h)

restart_is : (versions node : ℕ) → restart_value versions node [] ≡ Some (Restart node)
unfolding restart_value
restart_is versions node = refl

words_event : (versions nodes : ℕ) (words : List (List ℕ)) (event : Event) → SaysOf versions nodes words event → event_value versions nodes words ≡ Some event
words_event versions nodes words (Accept node string) h =
    from_head versions nodes node verb.Accept words h.behind h.head ∙ ap (option_map (Accept node)) (said_scalars h.behind string h.codes_are)
words_event versions nodes words (Deliver node message) h =
    from_head versions nodes node verb.Deliver words (h.word ∷ []) h.head ∙ delivered node h.word message h.number
words_event versions nodes words (Upgrade node) h = from_head versions nodes node verb.Upgrade words [] h ∙ alone_is (Upgrade node)
words_event versions nodes words (Save node) h = from_head versions nodes node verb.Save words [] h ∙ alone_is (Save node)
words_event versions nodes words (Restart node) h = from_head versions nodes node verb.Restart words [] h ∙ restart_is versions node
words_event versions nodes words (Ask node left right) h =
    from_head versions nodes node verb.Ask words (h.first ++ codes "/" ∷ h.second) h.head
    ∙ ap (option_map (λ (halves : List ℕ × List ℕ). Ask node halves.0 halves.1)) (said_halves h.first h.second left right h.left_codes h.right_codes)
words_event versions nodes words (Forge node bytes) h =
    from_head versions nodes node verb.Forge words h.behind h.head ∙ ap (option_map (Forge node)) (said_hex h.behind bytes h.digits)
words_event versions nodes words (Forget node string) h =
    from_head versions nodes node verb.Forget words h.behind h.head ∙ ap (option_map (Forget node)) (said_scalars h.behind string h.codes_are)
words_event versions nodes words (RestartUnder node version) h =
    from_head versions nodes node verb.Restart words (h.word ∷ []) h.head ∙ restarted versions node h.word version h.number

pub said_event : (versions nodes : ℕ) (text : List ℕ) (event : Event) → IsEventLine versions nodes text event → event_value versions nodes (words_of Blanks text) ≡ Some event
said_event versions nodes text event h = ap (event_value versions nodes) (sym (only_words Blanks text h.words h.are)) ∙ words_event versions nodes h.words event h.says
