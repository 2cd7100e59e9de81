-- Words whose form is named in lower case, as the programs read it.
use Rattle.std.specs.Prelude.{ℕ, ◌==◌, ◌&&◌, ◌||◌, Bool, false, List, [], ◌∷◌, codes, map, is_some, if◌then◌else◌}
use Rattle.std.specs.List.{starts_with}
use Rattle.std.specs.Char.{to_ascii_lowercase}
use Rattle.std.specs.Str.{bytes_eq}
use Rattle.np_code_points.specs.Forms.{form_named}
use Rattle.np_habits.specs.declared.form_words.Place.{Place}
use Rattle.np_habits.specs.declared.form_words.Place.TheVariants.{Any, Form, File}

abbrev pub lowered : List ℕ → List ℕ
lowered word = map to_ascii_lowercase word

-- the name of a form, in lower case
abbrev pub is_form : List ℕ → Bool
is_form word = is_some (form_named word)

-- --form= and the name of a form, in lower case
abbrev pub is_joined_form : List ℕ → Bool
is_joined_form word =
    bytes_eq word (codes "--form=nfd") || (bytes_eq word (codes "--form=nfc") || (bytes_eq word (codes "--form=nfkd") || bytes_eq word (codes "--form=nfkc")))

-- whether a form is named at a place, in whichever case
abbrev pub is_named : Place → List ℕ → Bool
is_named Any word = is_joined_form (lowered word) && starts_with (λ a b. a == b) word (codes "--form=")
is_named Form word = is_form (lowered word)
is_named File word = false

-- a word at a place: the name of a form is in lower case
abbrev pub plain_word : Place → List ℕ → List ℕ
plain_word place word = if is_named place word then lowered word else word

-- what stands behind a word: behind --form a form, and behind -- files alone
abbrev pub place_behind : Place → List ℕ → Place
place_behind Any word = if bytes_eq word (codes "--form") then Form else (if bytes_eq word (codes "--") then File else Any)
place_behind Form word = Any
place_behind File word = File

abbrev pub plain_from : Place → List (List ℕ) → List (List ℕ)
plain_from place [] = []
plain_from place (w ∷ ws) = plain_word place w ∷ plain_from (place_behind place w) ws

-- words, in which forms are named in lower case
abbrev pub plain_of : List (List ℕ) → List (List ℕ)
plain_of words = plain_from Any words
