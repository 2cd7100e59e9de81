use Rattle.std.proofs.Common.{◌≡◌, max, ap, ◌∙◌}
use Rattle.std.proofs.lemmas.Bool.{both_ways}
use Rattle.np_versions.proofs.AmbiguityLemmas.{twin_ambiguous, beside_ambiguous, beside_least}
use Rattle.np_versions.proofs.ambiguity.suspect_at.Goals as goal

pub returns-then-has_smaller_twin-clause-ambiguous : goal.returns-then-has_smaller_twin-clause-ambiguous
returns-then-has_smaller_twin-clause-ambiguous c =
    twin_ambiguous c.args.characters.now c.args.pairs.now c.requires.of_file c.args.place c.from.result c.at-here.result (c.has_smaller_twin.ensures.0 c.if-has_smaller_twin.true) c.at-here.ensures.place c.from.ensures

pub returns-in-Some-clause-ambiguous : goal.returns-in-Some-clause-ambiguous
returns-in-Some-clause-ambiguous c =
    let greater : c.max.result ≡ max c.in-Some.syllable c.at-here.result.code = c.max.ensures ∙ ap (λ x. max x c.from-in-Some-2.result) c.from-in-Some.ensures ∙ ap (max c.in-Some.syllable) c.from-in-Some-2.ensures in
    beside_ambiguous c.args.characters.now c.args.pairs.now c.requires.of_file c.args.place c.max.result c.in-Some.syllable c.at-here.result c.are_in_order.ensures c.at-here.ensures.place c.in-Some.ensures.some c.in-Some.ensures.pair greater

pub returns-in-Some-clause-least : goal.returns-in-Some-clause-least
returns-in-Some-clause-least c =
    let greater : c.max.result ≡ max c.in-Some.syllable c.at-here.result.code = c.max.ensures ∙ ap (λ x. max x c.from-in-Some-2.result) c.from-in-Some.ensures ∙ ap (max c.in-Some.syllable) c.from-in-Some-2.ensures in
    beside_least c.args.characters.now c.args.pairs.now c.args.place c.max.result c.in-Some.syllable c.at-here.result c.at-here.ensures.place c.in-Some.ensures.some c.in-Some.ensures.pair greater
    (λ twin. both_ways _ c.if-has_smaller_twin.false (c.has_smaller_twin.ensures.1 twin))
