use Rattle.std.proofs.Common.{◌++◌, ◌∷◌, [], map, option_map, ap, ◌∙◌, sym, arith}
use Rattle.std.proofs.lemmas.List.{map_push}
use Rattle.np_ucd.specs.Entries.{Entry}
use Rattle.np_ucd.specs.RowValues.{entry_of, lent_entry}
use Rattle.np_ucd.proofs.KeptLemmas.{walked, within-some}
use Rattle.np_ucd.proofs.data.all_owned.Goals as goal
use Rattle.np_ucd.proofs.data.all_owned.Goals.{in-Some+in_ok-owned+in_ok-push, in_default}

pub loop-at-preserved : goal.loop-at-preserved
loop-at-preserved c = elim c.match-get.branch [
  | in-Some+in_ok-owned+in_ok-push w ↦
      rw (w.rows-is, w.in_ok-push.ensures.items)
      (map_push entry_of c.loop-at.rows.items w.in_ok-owned.field-0
      ∙ ap (λ (e : Entry). map entry_of c.loop-at.rows.items ++ e ∷ []) w.in_ok-owned.ensures
      ∙ walked c.args.kept.now (map entry_of c.loop-at.rows.items) c.loop-at.at (lent_entry w.in-Some.row) c.loop-at.invariant
      (sym c.get.ensures ∙ ap (option_map lent_entry) w.in-Some.is))
  | in_default w ↦
      absurd (within-some c.args.kept.now c.loop-at.at (omega (arith, c.len-at-end.ensures, c.loop-at-test.true))
      (sym c.get.ensures ∙ ap (option_map lent_entry) w.in_default.is))
]
