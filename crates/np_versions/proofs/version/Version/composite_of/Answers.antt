use Rattle.std.proofs.Common.{Some, subst, ◌∙◌}
use Rattle.np_versions.specs.Conditions.{IsSound}
use Rattle.np_versions.proofs.TableLemmas.{pair-syllable, pair-found, pair-none, pair-value}
use Rattle.np_versions.proofs.version.Version.composite_of.Goals as goal

pub returns-in-Some-clause-some : goal.returns-in-Some-clause-some
returns-in-Some-clause-some c =
    let sound = subst IsSound c.self.view_is c.self.invariant.0 in
    pair-syllable c.args.self.now c.deref.result.now (c.deref.ensures ∙ c.self.view_is) sound.rows c.args.first c.args.second c.in-Some.syllable c.in-Some.ensures.some c.in-Some.ensures.pair

pub returns-in-Some-clause-value : goal.returns-in-Some-clause-value
returns-in-Some-clause-value c =
    pair-value c.args.self.now (subst IsSound c.self.view_is c.self.invariant.0) c.args.first c.args.second (Some c.in-Some.syllable) (returns-in-Some-clause-some c) tt

pub returns-in-None-clause-some : goal.returns-in-None-clause-some
returns-in-None-clause-some c =
    pair-found c.args.self.now c.self.inside.characters.value c.self.view_is c.self.inside.pairs c.self.invariant.1 c.args.first c.args.second c.find.result c.find.ensures.some

pub returns-in-None-clause-none : goal.returns-in-None-clause-none
returns-in-None-clause-none c =
    pair-none c.args.self.now c.deref.result.now c.self.inside.characters.value (c.deref.ensures ∙ c.self.view_is) c.self.view_is c.self.inside.pairs c.self.invariant.1 c.args.first c.args.second
    c.in-None.ensures.none c.find.result c.find.ensures.none

pub returns-in-None-clause-value : goal.returns-in-None-clause-value
returns-in-None-clause-value c =
    pair-value c.args.self.now (subst IsSound c.self.view_is c.self.invariant.0) c.args.first c.args.second c.find.result (returns-in-None-clause-some c) (returns-in-None-clause-none c)
