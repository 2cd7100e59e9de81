use Rattle.std.proofs.Common.{ap}
use Rattle.np_schedules.specs.inside.LineValues.{event_value}
use Rattle.np_schedules.specs.EventLines.{event_of}
use Rattle.np_schedules.proofs.LineLemmas.{refused, said, event_is}
use Rattle.np_schedules.proofs.reading.lines.event_in.Goals as goal

pub returns-clause-ok : goal.returns-clause-ok
returns-clause-ok c = said (event_is c.args.versions c.args.nodes c.args.text.now) event_of c.event_of_words.result (ap (event_value c.args.versions c.args.nodes) c.new.ensures.same) c.event_of_words.ensures.event

pub returns-clause-refused : goal.returns-clause-refused
returns-clause-refused c = refused (event_is c.args.versions c.args.nodes c.args.text.now) c.event_of_words.result (ap (event_value c.args.versions c.args.nodes) c.new.ensures.same) c.event_of_words.ensures.refused
