use Rattle.std.proofs.Common.{subst}
use Rattle.np_ucd.specs.Entries.{AreRows}
use Rattle.np_versions.specs.Versions.{VersionData}
use Rattle.np_versions.proofs.FaultLemmas.{sound-faultless}
use Rattle.np_versions.proofs.version.Version.of_faultless.Goals as goal

pub invariant_of-result : goal.invariant_of-result
invariant_of-result c =
    (sound-faultless c.args.characters.value (subst (λ (v : VersionData). AreRows v.entries) c.deref.ensures c.are_in_order.ensures) c.requires.faultless, c.requires.pairs)
