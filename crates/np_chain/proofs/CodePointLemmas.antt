-- A break is one of a code point.
use Rattle.np_chain.specs.Laws.{AreOfCodePoints}
use Rattle.np_chain.specs.declared.breaks.BreakKind.TheVariants.{Lost, ClassChanged, MappingChanged, NowExcluded, NowIncluded, NewComposite}
use Rattle.np_versions.proofs.CompositeLemmas.{primary-assigned}

pub of_code_points : AreOfCodePoints
of_code_points old new c Lost sound_old sound_new has = sound_old.bounded c has.0
of_code_points old new c ClassChanged sound_old sound_new has = sound_old.bounded c has.0.in_old
of_code_points old new c MappingChanged sound_old sound_new has = sound_old.bounded c has.0.in_old
of_code_points old new c NowExcluded sound_old sound_new has = sound_old.bounded c (primary-assigned old c has.0)
of_code_points old new c NowIncluded sound_old sound_new has = sound_old.bounded c has.0
of_code_points old new c NewComposite sound_old sound_new has = sound_new.bounded c (primary-assigned new c has.1.primary)
