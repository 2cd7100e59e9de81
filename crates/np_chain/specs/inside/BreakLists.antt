-- The breaks as a function: a way to the one list of `AreBreaks`.
use Rattle.std.specs.Prelude.{ℕ, zero, suc, List, [], ◌∷◌, ◌++◌, Option, Some, None}
use Rattle.np_chain.specs.declared.breaks.Break.{Break}
use Rattle.np_chain.specs.declared.breaks.BreakKind.{BreakKind}
use Rattle.np_versions.specs.Versions.{VersionData}
use Rattle.np_chain.specs.inside.BreakTests.{break_of}

abbrev pub break_list : Option BreakKind → ℕ → List Break
break_list None c = []
break_list (Some kind) c = record { kind = kind; code = c } ∷ []

-- a way to the one list of `AreBreaks`: the breaks of the code points below n
unfoldable pub breaks_below : VersionData → VersionData → ℕ → List Break
breaks_below old new zero = []
breaks_below old new (suc n) = breaks_below old new n ++ break_list (break_of old new n) n

unfoldable pub breaks_of : VersionData → VersionData → List Break
breaks_of old new = breaks_below old new 0x110000
