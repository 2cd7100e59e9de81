use Rattle.std.proofs.Common.{eq-eqb, eqb-true}
use Rattle.np_c.proofs.LaneLemmas.{lanes_pass, low_lanes}
use Rattle.np_c.proofs.ascii.are_lanes_ascii.Goals as goal

pub returns : goal.returns
returns c = (
  λ yes. low_lanes c.args.bytes.now c.args.from c.requires (eqb-true _ 0 yes),
  λ low. eq-eqb _ 0 (lanes_pass c.args.bytes.now c.args.from c.requires low),
)
