use Rattle.std.proofs.Common.{◌≡◌, arith}
use Rattle.std.proofs.lemmas.Grind.{common_steps}
use Rattle.std.specs.Prelude.{option_map}
use Rattle.np_versions.specs.declared.faults.TableFault.TheVariants.{MapsToUnassigned, TooDeep, TooLong, AmbiguousPair, HangulWrong}
use Rattle.np_versions.proofs.faults.least_fault.Goals as goal

pub returns : goal.returns
returns c =
    let mapped : c.map-mapped.result ≡ option_map MapsToUnassigned c.args.firsts.now.mapped = grind (arith, common_steps, c.map-mapped.ensures.cases) in
    let deep : c.map-deep.result ≡ option_map TooDeep c.args.firsts.now.deep = grind (arith, common_steps, c.map-deep.ensures.cases) in
    let long : c.map-long.result ≡ option_map TooLong c.args.firsts.now.long = grind (arith, common_steps, c.map-long.ensures.cases) in
    let ambiguous : c.map-ambiguous.result ≡ option_map AmbiguousPair c.args.firsts.now.ambiguous = grind (arith, common_steps, c.map-ambiguous.ensures.cases) in
    let hangul : c.map-hangul.result ≡ option_map HangulWrong c.args.firsts.now.hangul = grind (arith, common_steps, c.map-hangul.ensures.cases) in
    cc
