-- What the lines of a schedule say, as functions of their words; `specs/ScheduleLines` says it in relations.
use Rattle.std.specs.Prelude.{ℕ, ◌+◌, ◌*◌, Bool, ◌&&◌, nat_le, nat_lt, List, [], ◌∷◌, length, Option, Some, None, option_map, option_and_then, codes, if◌then◌else◌}
use Rattle.std.specs.Char.{digit_value}
use Rattle.std.specs.Str.{bytes_eq, all_ascii_digits}
use Rattle.std.specs.Str.Parse.{digits_value}
use Rattle.np_code_points.specs.Codes.{is_hex_digit}
use Rattle.np_code_points.specs.inside.WordValues.{values_of, scalars_of, if_short}
use Rattle.np_schedules.specs.Events.{Event, Accept, Deliver, Upgrade, Save, Restart, Ask, Forge, Forget, RestartUnder}
use Rattle.np_schedules.specs.declared.reading.verbs.Verb.{Verb}
use Rattle.np_schedules.specs.declared.reading.verbs.Verb.TheVariants as verb

-- 1 to 9 decimal digits
abbrev pub is_number : List ℕ → Bool
is_number word = (nat_le 1 (length word) && nat_le (length word) 9) && all_ascii_digits word

unfoldable pub number_value : List ℕ → Option ℕ
number_value word = if is_number word then Some (digits_value 10 word) else None

abbrev pub if_below : ℕ → ℕ → Option ℕ
if_below bound number = if nat_lt number bound then Some number else None

unfoldable pub below_value : ℕ → List ℕ → Option ℕ
below_value bound word = option_and_then (if_below bound) (number_value word)

unfoldable pub room_value : List (List ℕ) → Option ℕ
room_value [] = None
room_value (name ∷ []) = None
room_value (name ∷ word ∷ []) = if bytes_eq name (codes "room") then below_value 65537 word else None
room_value (name ∷ word ∷ more ∷ words) = None

unfoldable pub starts_value : ℕ → List (List ℕ) → Option (List ℕ)
starts_value versions [] = None
starts_value versions (name ∷ words) =
    if bytes_eq name (codes "nodes") then option_and_then (if_short 64) (values_of (below_value versions) words) else None

-- the words before the first '/', and those behind it
abbrev pub is_slash : List ℕ → Bool
is_slash word = bytes_eq word (codes "/")

unfoldable pub up_to_slash : List (List ℕ) → List (List ℕ)
up_to_slash [] = []
up_to_slash (word ∷ words) = if is_slash word then [] else word ∷ up_to_slash words

unfoldable pub behind_slash : List (List ℕ) → Option (List (List ℕ))
behind_slash [] = None
behind_slash (word ∷ words) = if is_slash word then Some words else behind_slash words

-- the strings on both sides of the only '/'
unfoldable pub halves_value : List (List ℕ) → Option (List ℕ × List ℕ)
halves_value words =
    option_and_then (λ left. option_map (λ right. (left, right)) (option_and_then scalars_of (behind_slash words))) (scalars_of (up_to_slash words))

-- two hex digits for each byte
unfoldable pub hex_pairs : List ℕ → Option (List ℕ)
hex_pairs [] = Some []
hex_pairs (high ∷ []) = None
hex_pairs (high ∷ low ∷ digits) =
    if is_hex_digit high && is_hex_digit low then option_map (λ bytes. (digit_value high * 16 + digit_value low) ∷ bytes) (hex_pairs digits) else None

unfoldable pub hex_words : List (List ℕ) → Option (List ℕ)
hex_words [] = Some []
hex_words (word ∷ []) = hex_pairs word
hex_words (word ∷ more ∷ words) = None

unfoldable pub verb_named : List ℕ → Option Verb
verb_named name =
    if bytes_eq name (codes "accept") then Some verb.Accept
    else (if bytes_eq name (codes "deliver") then Some verb.Deliver
    else (if bytes_eq name (codes "upgrade") then Some verb.Upgrade
    else (if bytes_eq name (codes "save") then Some verb.Save
    else (if bytes_eq name (codes "restart") then Some verb.Restart
    else (if bytes_eq name (codes "ask") then Some verb.Ask
    else (if bytes_eq name (codes "forge") then Some verb.Forge
    else (if bytes_eq name (codes "forget") then Some verb.Forget else None)))))))

unfoldable pub deliver_value : ℕ → List (List ℕ) → Option Event
deliver_value node [] = None
deliver_value node (word ∷ []) = option_map (Deliver node) (number_value word)
deliver_value node (word ∷ more ∷ words) = None

unfoldable pub alone_value : Event → List (List ℕ) → Option Event
alone_value event [] = Some event
alone_value event (word ∷ words) = None

-- a restart under the node's version, or under the one that the word behind the node names, of so many
unfoldable pub restart_value : ℕ → ℕ → List (List ℕ) → Option Event
restart_value versions node [] = Some (Restart node)
restart_value versions node (word ∷ []) = option_map (RestartUnder node) (below_value versions word)
restart_value versions node (word ∷ more ∷ words) = None

-- what the words behind the node say
abbrev pub said_value : ℕ → Verb → ℕ → List (List ℕ) → Option Event
said_value versions verb.Accept node words = option_map (Accept node) (scalars_of words)
said_value versions verb.Deliver node words = deliver_value node words
said_value versions verb.Upgrade node words = alone_value (Upgrade node) words
said_value versions verb.Save node words = alone_value (Save node) words
said_value versions verb.Restart node words = restart_value versions node words
said_value versions verb.Ask node words = option_map (λ (halves : List ℕ × List ℕ). Ask node halves.0 halves.1) (halves_value words)
said_value versions verb.Forge node words = option_map (Forge node) (hex_words words)
said_value versions verb.Forget node words = option_map (Forget node) (scalars_of words)

abbrev pub at_node : ℕ → ℕ → List ℕ → Verb → List (List ℕ) → Option Event
at_node versions nodes at verb words = option_and_then (λ node. said_value versions verb node words) (below_value nodes at)

unfoldable pub event_value : ℕ → ℕ → List (List ℕ) → Option Event
event_value versions nodes [] = None
event_value versions nodes (name ∷ []) = None
event_value versions nodes (name ∷ at ∷ words) = option_and_then (λ verb. at_node versions nodes at verb words) (verb_named name)
