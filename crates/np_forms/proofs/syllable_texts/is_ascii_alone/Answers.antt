use Rattle.np_forms.proofs.SyllableTextLemmas.{ascii-alone}
use Rattle.np_forms.proofs.syllable_texts.is_ascii_alone.Goals as goal

pub returns : goal.returns
returns g c = λ on. ascii-alone (g.T.NormTable.model c.args.table.now) c.meets_conditions.ensures c.args.form (c.ascii_passes.ensures.assigned on) (c.ascii_passes.ensures.yes_starter on)
