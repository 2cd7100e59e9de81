-- The lines of a schedule, by their words: spaces and tabs stand between them.
use Rattle.std.specs.Prelude.{◌≡◌, true, ℕ, ◌+◌, ◌*◌, ◌<◌, ◌≤◌, List, [], ◌∷◌, ◌++◌, length, codes}
use Rattle.std.specs.Char.{digit_value}
use Rattle.std.specs.List.{All, AllZip}
use Rattle.std.specs.Str.Parse.{digits_value}
use Rattle.np_code_points.specs.Codes.{IsScalarOf, is_hex_digit}
use Rattle.np_code_points.specs.Words.{AreWords}
use Rattle.np_code_points.specs.declared.words.Dividers.TheVariants.{Blanks}
use Rattle.np_schedules.specs.Events.{Event, Accept, Deliver, Upgrade, Save, Restart, Ask, Forge, Forget, RestartUnder}

-- a number: 1 to 9 decimal digits
pub record IsNumber (word : List ℕ) (number : ℕ) : Type 0 where
  pub some : 1 ≤ length word
  pub few : length word ≤ 9
  pub digits : All (λ b. (48 ≤ b) × (b ≤ 57)) word
  pub value : number ≡ digits_value 10 word

-- a number below a bound
abbrev pub IsNumberBelow : ℕ → List ℕ → ℕ → Type 0
IsNumberBelow bound word number = IsNumber word number × (number < bound)

-- two hex digits of either case for each byte
abbrev pub AreHexPairs : List ℕ → List ℕ → Type 0
AreHexPairs [] bytes = bytes ≡ []
AreHexPairs (high ∷ []) bytes = ⊥
AreHexPairs (high ∷ low ∷ digits) bytes =
    (is_hex_digit high ≡ true) × (is_hex_digit low ≡ true)
    × (rest : List ℕ) × (bytes ≡ (digit_value high * 16 + digit_value low) ∷ rest) × AreHexPairs digits rest

-- no word for no bytes, or one word of hex digits
abbrev pub AreHexWords : List (List ℕ) → List ℕ → Type 0
AreHexWords [] bytes = bytes ≡ []
AreHexWords (word ∷ []) bytes = AreHexPairs word bytes
AreHexWords (word ∷ more ∷ words) bytes = ⊥

-- an event's name, the number of a node, of which there are so many, and the words behind it
pub record HasHead (nodes : ℕ) (words : List (List ℕ)) (name : List ℕ) (node : ℕ) (behind : List (List ℕ)) : Type 0 where
  pub at : List ℕ
  pub are : words ≡ name ∷ at ∷ behind
  pub number : IsNumberBelow nodes at node

-- behind the node stands a string: a word for each code point
pub record SaysString (nodes : ℕ) (words : List (List ℕ)) (name : List ℕ) (node : ℕ) (string : List ℕ) : Type 0 where
  pub behind : List (List ℕ)
  pub head : HasHead nodes words name node behind
  pub codes_are : AllZip IsScalarOf behind string

-- behind the node stands the number of a message
pub record SaysMessage (nodes : ℕ) (words : List (List ℕ)) (node message : ℕ) : Type 0 where
  pub word : List ℕ
  pub head : HasHead nodes words (codes "deliver") node (word ∷ [])
  pub number : IsNumber word message

-- behind the node stands the number of a version, of which there are so many
pub record SaysVersion (versions nodes : ℕ) (words : List (List ℕ)) (node version : ℕ) : Type 0 where
  pub word : List ℕ
  pub head : HasHead nodes words (codes "restart") node (word ∷ [])
  pub number : IsNumberBelow versions word version

-- behind the node stand two strings, and '/' between them
pub record SaysStrings (nodes : ℕ) (words : List (List ℕ)) (node : ℕ) (left right : List ℕ) : Type 0 where
  pub first : List (List ℕ)
  pub second : List (List ℕ)
  pub head : HasHead nodes words (codes "ask") node (first ++ codes "/" ∷ second)
  pub left_codes : AllZip IsScalarOf first left
  pub right_codes : AllZip IsScalarOf second right

-- behind the node stand bytes
pub record SaysBytes (nodes : ℕ) (words : List (List ℕ)) (node : ℕ) (bytes : List ℕ) : Type 0 where
  pub behind : List (List ℕ)
  pub head : HasHead nodes words (codes "forge") node behind
  pub digits : AreHexWords behind bytes

-- words are an event, where there are so many versions and so many nodes
abbrev pub SaysOf : ℕ → ℕ → List (List ℕ) → Event → Type 0
SaysOf versions nodes words (Accept node string) = SaysString nodes words (codes "accept") node string
SaysOf versions nodes words (Deliver node message) = SaysMessage nodes words node message
SaysOf versions nodes words (Upgrade node) = HasHead nodes words (codes "upgrade") node []
SaysOf versions nodes words (Save node) = HasHead nodes words (codes "save") node []
SaysOf versions nodes words (Restart node) = HasHead nodes words (codes "restart") node []
SaysOf versions nodes words (Ask node left right) = SaysStrings nodes words node left right
SaysOf versions nodes words (Forge node bytes) = SaysBytes nodes words node bytes
SaysOf versions nodes words (Forget node string) = SaysString nodes words (codes "forget") node string
SaysOf versions nodes words (RestartUnder node version) = SaysVersion versions nodes words node version

-- a line is an event, where there are so many versions and so many nodes
pub record IsEventLine (versions nodes : ℕ) (text : List ℕ) (event : Event) : Type 0 where
  pub words : List (List ℕ)
  pub are : AreWords Blanks text words
  pub says : SaysOf versions nodes words event

-- the first line: the room of each node
pub record IsRoomLine (text : List ℕ) (room : ℕ) : Type 0 where
  pub word : List ℕ
  pub are : AreWords Blanks text (codes "room" ∷ word ∷ [])
  pub number : IsNumber word room
  pub most : room ≤ 65536

-- the second line: the place of each node's first version, of so many versions
pub record IsNodesLine (versions : ℕ) (text : List ℕ) (starts : List ℕ) : Type 0 where
  pub words : List (List ℕ)
  pub are : AreWords Blanks text (codes "nodes" ∷ words)
  pub numbers : AllZip (IsNumberBelow versions) words starts
  pub some : 1 ≤ length starts
  pub few : length starts ≤ 64
