use Rattle.std.proofs.Common.{◌≡◌, Bool, true, false, not, option_map, refl, ◌∙◌}
use Rattle.std.proofs.lemmas.Bool.{false≢true, not-false}
use Rattle.np_ucd.specs.RowValues.{entry_of}
use Rattle.np_ucd.specs.inside.RecordValues.{neighbour_value}
use Rattle.np_ucd.proofs.DataLemmas.{opening_adds, record_adds}
use Rattle.np_ucd.proofs.data.take_record.Goals as goal
use Rattle.np_ucd.proofs.data.take_record.Goals.{then-not-neighbour+in_ok-push, else-not-neighbour}

not_opening : (b : Bool) → not b ≡ true → b ≡ false
not_opening true h = absurd (false≢true h)
not_opening false h = refl

pub returns-clause-rows : goal.returns-clause-rows
returns-clause-rows c =
    let n = c.in_ok-neighbour.field-0.neighbour in
    let row = c.in_ok-neighbour.field-0.row in
    elim c.if-not-neighbour.branch [
      | then-not-neighbour+in_ok-push w ↦
          w.rows-is
          ∙ record_adds c.args.line.number c.args.line.text.now (option_map neighbour_value c.args.before) (neighbour_value n) (entry_of row)
          c.args.rows.now w.push.new.self
          c.in_ok-neighbour.ensures.neighbour (not_opening n.opens w.if-not-neighbour.true) c.in_ok-neighbour.ensures.row
          w.in_ok-push.ensures
      | else-not-neighbour w ↦
          w.rows-is
          ∙ opening_adds c.args.line.number c.args.line.text.now (option_map neighbour_value c.args.before) (neighbour_value n) (entry_of row)
          c.args.rows.now c.in_ok-neighbour.ensures.neighbour (not-false n.opens w.if-not-neighbour.false)
    ]
