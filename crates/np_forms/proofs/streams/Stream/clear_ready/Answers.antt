use Rattle.std.proofs.Common.{refl}
use Rattle.np_forms.proofs.streams.Stream.clear_ready.Goals as goal

pub returns : goal.returns
returns g c = rw (← c.self.view_is, c.clear.ensures.items) refl
