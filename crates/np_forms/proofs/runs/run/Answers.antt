use Rattle.std.proofs.Common.{ap}
use Rattle.np_forms.proofs.Words.{device_of}
use Rattle.np_forms.proofs.RunningLemmas.{cut_start, run_all}
use Rattle.np_forms.proofs.runs.run.Goals as goal

pub returns-in_default-clause-ends : goal.returns-in_default-clause-ends
returns-in_default-clause-ends g c =
    let new = c.new-stream.ensures in
    cut_start c.meets_conditions.ensures (ap (λ d. g.R.Read.remaining d) c.clear.ensures.device) (ap (λ d. g.W.Write.contents d) c.clear-2.ensures.device) new.version new.form new.ready new.begins

pub returns-clause-ends : goal.returns-clause-ends
returns-clause-ends g c =
    let new = c.new-stream.ensures in
    run_all c.meets_conditions.ensures (ap (λ d. g.R.Read.remaining d) c.clear.ensures.device) (ap (λ d. g.W.Write.contents d) c.clear-2.ensures.device) new.version new.form new.ready new.begins
    c.in-Ok.ensures.0 c.in-Ok.ensures.1 (g.R.Read.remaining (device_of c.run_on.new.source)) (g.W.Write.contents (device_of c.run_on.new.target)) c.run_on.result c.run_on.ensures.ends
