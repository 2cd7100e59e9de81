-- The laws of lines and words: each relation holds of one list, and of no other.
use Rattle.std.specs.Prelude.{ℕ, List}
use Rattle.np_code_points.specs.Lines.{AreLines, DropsReturn, AreDataLines}
use Rattle.np_code_points.specs.One.{HasOne}
use Rattle.np_code_points.specs.Words.{Dividers, AreWords}

-- bytes are cut into lines in one way
abbrev pub HasOneCut : Type 0
HasOneCut = (bytes : List ℕ) → HasOne (AreLines bytes)

-- a line is one text without its return
abbrev pub HasOneText : Type 0
HasOneText = (line : List ℕ) → HasOne (DropsReturn line)

-- a file has one list of data lines
abbrev pub HasOneListOfDataLines : Type 0
HasOneListOfDataLines = (bytes : List ℕ) → HasOne (AreDataLines bytes)

-- a text is cut into words in one way
abbrev pub HasOneListOfWords : Type 0
HasOneListOfWords = (d : Dividers) (text : List ℕ) → HasOne (AreWords d text)
