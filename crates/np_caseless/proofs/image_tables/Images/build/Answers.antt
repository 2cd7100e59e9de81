use Rattle.np_caseless.specs.Folded.{folded_by}
use Rattle.np_caseless.proofs.ImageTableLemmas.{all_own, told_rows}
use Rattle.np_caseless.proofs.image_tables.Images.build.Goals as goal

pub returns : goal.returns
returns g c = λ mapped.
    let v = folded_by (g.T.NormTable.model c.args.table.now) c.args.foldings.now in
    record {
      own =
          all_own (folded_by (g.T.NormTable.model c.args.table.now) c.args.foldings.now) c.meets_conditions.ensures c.args.compat
          c.of_foldings.new.own.items c.clear_syllables.new.own.items c.of_rows.new.own.items c.in_ok-of_foldings.ensures.cleared
          c.in_ok-clear_syllables.ensures.less c.in_ok-clear_syllables.ensures.told c.in_ok-of_rows.ensures.less
          (told_rows v c.args.compat c.args.mapped.now c.of_rows.new.own.items mapped c.in_ok-of_rows.ensures.told);
      of_foldings = c.in_ok-of_foldings.ensures.known;
      of_rows = c.in_ok-of_rows.ensures.known;
    }
