use Rattle.std.proofs.Common.{sym, ap, is_some, ◌∙◌}
use Rattle.np_c.proofs.exports.npss_close.Goals as goal

pub returns : goal.returns
returns c = sym c.take-content.new.self.is_held ∙ ap is_some c.take-content.ensures.left
