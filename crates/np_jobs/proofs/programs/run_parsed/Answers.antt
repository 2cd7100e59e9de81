use Rattle.std.proofs.Common.{ap, inl, inr}
use Rattle.np_code_points.specs.Watched.{device_of}
use Rattle.np_jobs.proofs.programs.run_parsed.Goals as goal

pub returns-in-Ok-clause-done : goal.returns-in-Ok-clause-done
returns-in-Ok-clause-done g c =
    rw c.in-Ok.is (elim c.run.ensures [
      | inl ends ↦ inl ends
      | inr unopened ↦ inr (unopened.0, ap (λ d. g.I.Read.remaining (device_of d)) unopened.1, ap (λ d. g.O.Write.contents (device_of d)) unopened.2)
    ])
