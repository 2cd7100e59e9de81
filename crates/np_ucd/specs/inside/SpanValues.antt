-- A run of listed code points of the code, as contracts see it.
use Rattle.std.specs.Prelude.{ℕ, max, List, [], ◌∷◌, Option, Some, None}
use Rattle.std.specs.List.Sorted.{IsNonDecreasingBy}
use Rattle.np_ucd.specs.declared.exclusions.Listing.{Listing}
use Rattle.np_ucd.specs.Listed.{Span}

abbrev pub span_of : Listing → Span
span_of l = record { first = l.first; last = l.last }

-- what a line that can be read lists
abbrev pub spans_of_listing : Option Listing → List Span
spans_of_listing None = []
spans_of_listing (Some listing) = span_of listing ∷ []

-- each last code point raised to those before it
abbrev pub raised : ℕ → List Listing → List Listing
raised last [] = []
raised last (l ∷ ls) = record { first = l.first; last = max l.last last } ∷ raised (max l.last last) ls

-- neither the first code points nor the last ones fall
pub record AreRising (listings : List Listing) : Type 0 where
  pub firsts : IsNonDecreasingBy (λ l. l.first) listings
  pub lasts : IsNonDecreasingBy (λ l. l.last) listings
