use Rattle.std.proofs.Common.{ap, ◌∙◌}
use Rattle.np_schedules.specs.inside.LineValues.{room_value}
use Rattle.np_schedules.proofs.LineLemmas.{told, room_is}
use Rattle.np_schedules.proofs.reading.lines.room_in.Goals as goal

pub returns : goal.returns
returns c = told (room_is c.args.text.now) c.room_of.result (c.room_of.ensures ∙ ap room_value c.new.ensures.same)
