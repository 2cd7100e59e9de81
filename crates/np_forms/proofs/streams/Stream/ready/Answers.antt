use Rattle.std.proofs.Common.{ap, ◌∙◌}
use Rattle.np_forms.specs.Streams.{StreamState}
use Rattle.np_forms.proofs.streams.Stream.ready.Goals as goal

pub returns : goal.returns
returns g c = c.deref.ensures.value ∙ ap (λ (s : StreamState). s.ready) c.self.view_is
