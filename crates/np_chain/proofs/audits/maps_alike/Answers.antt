use Rattle.std.proofs.Common.{◌≡◌, ◌∙◌, sym, ap₂}
use Rattle.std.proofs.lemmas.Bool.{and_left}
use Rattle.std.specs.Prelude.{bytes_eq}
use Rattle.np_versions.specs.Versions.{file_mapping}
use Rattle.np_chain.specs.inside.BreakTests.{is_same_kind}
use Rattle.np_chain.proofs.SyllableLemmas.{alike-syllable, alike-listed, alike-when}
use Rattle.np_chain.proofs.audits.maps_alike.Goals as goal

pub returns-then-is_syllable : goal.returns-then-is_syllable
returns-then-is_syllable c =
    sym
    (alike-syllable c.args.old.now c.args.new.now c.args.code c.meets_conditions.ensures c.meets_conditions-2.ensures c.requires.old c.requires.new
    (sym c.is_syllable.ensures ∙ c.if-is_syllable.true))

pub returns-then-not-same_kind : goal.returns-then-not-same_kind
returns-then-not-same_kind c =
    let listed = alike-listed c.args.old.now c.args.new.now c.args.code (sym c.is_syllable.ensures ∙ c.if-is_syllable.false) in
    let kinds = ap₂ is_same_kind c.kind_of.ensures c.kind_of-2.ensures in
    sym (and_left _ _ (sym kinds ∙ sym c.same_kind.ensures ∙ c.if-not-same_kind.true)) ∙ listed

pub returns : goal.returns
returns c =
    let kinds = ap₂ is_same_kind c.kind_of.ensures c.kind_of-2.ensures in
    let old : c.mapping_of-2.result.now ≡ file_mapping c.args.old.now c.args.code = c.mapping_of-2.ensures in
    let maps = ap₂ bytes_eq c.mapping_of.ensures old in
    c.eq.ensures ∙ maps
    ∙ alike-when c.args.old.now c.args.new.now c.args.code (sym c.is_syllable.ensures ∙ c.if-is_syllable.false)
    (sym kinds ∙ sym c.same_kind.ensures ∙ c.if-not-same_kind.false)
