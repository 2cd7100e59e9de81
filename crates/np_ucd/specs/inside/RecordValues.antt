-- The records of the code as contracts see them.
use Rattle.std.specs.Prelude.{◌≡◌, ℕ, Bool, false, List, Option, Some, ◌⊎◌}
use Rattle.np_ucd.specs.declared.records as code
use Rattle.np_code_points.specs.Inputs.{IsReadPastLimit}
use Rattle.np_ucd.specs.Reading.{IsReadInPart}
use Rattle.np_ucd.specs.Tests.{UcdFault, TooLarge, ReadFailed, Memory}
use Rattle.np_ucd.specs.inside.RecordReading.{Neighbour, neighbour_of, field, closes, has_other_count, has_bad_code, is_out_of_order, has_bad_category, has_bad_class}

abbrev pub neighbour_value : code.Neighbour.Neighbour → Neighbour
neighbour_value n = record { line = n.line; code = n.code; category = n.category; class = n.class; opens = n.opens }

-- A record that no test in front of its mapping's fits, and what was read of it.
pub record IsHead (before : Option Neighbour) (line : ℕ) (text : List ℕ) (neighbour : Neighbour) (closing : Bool) (mapping : List ℕ) : Type 0 where
  pub count : has_other_count text ≡ false
  pub code : has_bad_code text ≡ false
  pub order : is_out_of_order before text ≡ false
  pub category : has_bad_category text ≡ false
  pub class : has_bad_class text ≡ false
  pub neighbour_is : neighbour ≡ neighbour_of line text
  pub closing_is : closing ≡ closes text
  pub mapping_is : mapping ≡ field 5 text

-- want of memory, or the fault that is there
abbrev pub IsMemoryOr : Option UcdFault → UcdFault → Type 0
IsMemoryOr fault e = (e ≡ Memory) ⊎ (fault ≡ Some e)

-- why a file was not read whole, as `specs/Reading` says it
abbrev pub IsUnread : Option (List ℕ) → Option (List ℕ) → UcdFault → Type 0
IsUnread before after TooLarge = IsReadPastLimit before after
IsUnread before after ReadFailed = IsReadInPart before after
IsUnread before after Memory = IsReadInPart before after
IsUnread before after _ = ⊥

-- a file's first fault is this one, by the function
abbrev pub Names : (List ℕ → Option UcdFault) → List ℕ → UcdFault → Type 0
Names fault_in bytes fault = fault_in bytes ≡ Some fault
