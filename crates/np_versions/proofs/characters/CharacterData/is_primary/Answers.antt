use Rattle.std.proofs.Common.{sym, ◌∙◌}
use Rattle.np_versions.proofs.CompositeLemmas.{primary-test, primary-file, primary-syllable}
use Rattle.np_versions.proofs.characters.CharacterData.is_primary.Goals as goal

pub returns-then-is_composed : goal.returns-then-is_composed
returns-then-is_composed c =
    sym (primary-test c.args.self.now c.args.code (primary-syllable c.args.self.now c.args.code c.is_composed.ensures.rows (sym c.is_composed.ensures.on ∙ c.if-is_composed.true)))

pub returns : goal.returns
returns c = c.is_file_primary.ensures ∙ primary-file c.args.self.now c.args.code (sym c.is_composed.ensures.on ∙ c.if-is_composed.false)
