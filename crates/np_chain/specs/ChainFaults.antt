-- Why versions are no chain.
use Rattle.std.specs.Prelude.{◌≡◌, List, []}
use Rattle.np_chain.specs.Chain.{IsFirstBroken}
use Rattle.np_chain.specs.declared.chains.ChainFault.{ChainFault}
use Rattle.np_chain.specs.declared.chains.ChainFault.TheVariants.{NoVersion, Broken}
use Rattle.np_versions.specs.Versions.{VersionData}

abbrev pub IsFaultOf : List VersionData → ChainFault → Type 0
IsFaultOf vs NoVersion = vs ≡ []
IsFaultOf vs (Broken at brk) = IsFirstBroken vs at brk
