use Rattle.std.proofs.Common.{ap, inl, inr}
use Rattle.np_code_points.specs.Watched.{device_of}
use Rattle.np_program.proofs.program.NpssProgram.run.Goals as goal

pub returns-in-Audit : goal.returns-in-Audit
returns-in-Audit g c =
    let unread = ap (λ d. g.I.Read.remaining (device_of d)) c.run_audit.ensures.unread in
    rw c.in-Audit.is (elim c.run_audit.ensures.ends [
      | inl ends ↦ inl (ends.0, ends.1, ends.2, unread)
      | inr unopened ↦ inr unopened
    ])

pub returns-in-Replay : goal.returns-in-Replay
returns-in-Replay g c =
    let unread = ap (λ d. g.I.Read.remaining (device_of d)) c.run_replay.ensures.unread in
    let ends = rw (c.as_str.ensures.value, c.as_slice.ensures.value) at c.run_replay.ensures.ends in
    rw c.in-Replay.is (elim ends [
      | inl done ↦ inl (done.0, done.1, done.2, unread)
      | inr unopened ↦ inr unopened
    ])
