-- A folding of the code as contracts see it.
use Rattle.np_foldings.specs.declared.foldings as code
use Rattle.np_foldings.specs.Foldings.{Folding}

abbrev pub folding_of : code.Folding.Folding → Folding
folding_of f = record { code = f.code; mapping = f.mapping.items }
