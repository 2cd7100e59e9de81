use Rattle.std.proofs.Common.{ℕ, ap}
use Rattle.std.specs.declared.alloc.Global.{Global}
use Rattle.std.specs.declared.vec.Vec.{Vec}
use Rattle.np_schedules.specs.inside.LineValues.{starts_value}
use Rattle.np_schedules.proofs.LineLemmas.{refused, said, starts_are}
use Rattle.np_schedules.proofs.reading.lines.starts_in.Goals as goal

pub returns-clause-ok : goal.returns-clause-ok
returns-clause-ok c = said (starts_are c.args.versions c.args.text.now) (λ (starts : Vec ℕ Global). starts.items) c.starts_of.result (ap (starts_value c.args.versions) c.new.ensures.same) c.starts_of.ensures.starts

pub returns-clause-refused : goal.returns-clause-refused
returns-clause-refused c = refused (starts_are c.args.versions c.args.text.now) c.starts_of.result (ap (starts_value c.args.versions) c.new.ensures.same) c.starts_of.ensures.refused
