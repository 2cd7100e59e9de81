use Rattle.np_versions.proofs.syllables.arithmetic_pair.Goals as goal

pub returns-else-has_hangul-clause-some : goal.returns-else-has_hangul-clause-some
returns-else-has_hangul-clause-some c = tt

pub returns-else-has_hangul-clause-pair : goal.returns-else-has_hangul-clause-pair
returns-else-has_hangul-clause-pair c = tt
