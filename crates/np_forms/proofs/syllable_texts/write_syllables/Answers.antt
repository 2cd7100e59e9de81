use Rattle.std.proofs.Common.{◌≡◌, ◌∙◌, sym, subst, IfNone, IfSome}
use Rattle.np_forms.proofs.Words.{AppendsForm, IsReadAssigned, BeginsWithSyllable}
use Rattle.np_forms.proofs.SegmentLemmas.{goes-both, goes-start}
use Rattle.np_forms.proofs.SyllableTextLemmas.{goes-syllable, syllable-read}
use Rattle.np_forms.proofs.TextLemmas.{IsReadAssigned-both, IsReadAssigned-start}
use Rattle.np_forms.proofs.syllable_texts.write_syllables.Goals as goal

pub returns-then-not-hangul-clause-goes : goal.returns-then-not-hangul-clause-goes
returns-then-not-hangul-clause-goes g c = goes-start _ _ _ _ c.utf8.text

pub returns-then-not-hangul-clause-read : goal.returns-then-not-hangul-clause-read
returns-then-not-hangul-clause-read g c = IsReadAssigned-start _ _ c.utf8.text

pub returns-in_default-clause-goes : goal.returns-in_default-clause-goes
returns-in_default-clause-goes g c = goes-start _ _ _ _ c.utf8.text

pub returns-in_default-clause-read : goal.returns-in_default-clause-read
returns-in_default-clause-read g c = IsReadAssigned-start _ _ c.utf8.text

pub scan-init : goal.scan-init
scan-init g c = (c.args.text.now, goes-start _ _ _ _ c.utf8.text, IsReadAssigned-start _ _ c.utf8.text, c.in-Some.ensures)

pub scan-preserved-in-Some-syllable_front : goal.scan-preserved-in-Some-syllable_front
scan-preserved-in-Some-syllable_front g c =
    let on = sym c.hangul.ensures ∙ c.if-not-hangul.false in
    let begins = c.scan.invariant.3 in (
      _,
      goes-both _ _ _ _ _ c.args.out.now c.scan.out c.push_syllable.new.out c.scan.invariant.1
          (goes-syllable _ c.meets_conditions.ensures on _ c.requires _ _ c.scan.syllable c.scan.out c.push_syllable.new.out begins c.in_ok-push_syllable.ensures),
      IsReadAssigned-both _ _ _ _ c.scan.invariant.2 (syllable-read _ on _ _ c.scan.syllable begins),
      c.in-Some-syllable_front.ensures,
    )

pub returns-in_default-2-clause-goes : goal.returns-in_default-2-clause-goes
returns-in_default-2-clause-goes g c =
    let on = sym c.hangul.ensures ∙ c.if-not-hangul.false in
    let same : c.write_space.new.out ≡ c.push_syllable.new.out = subst (λ j. IfNone j (c.write_space.new.out ≡ c.push_syllable.new.out)) c.in_default-2.is c.in_ok-spaced.ensures.none in
    goes-both _ _ c.args.text.now c.scan.invariant.0 _ c.args.out.now c.scan.out c.write_space.new.out c.scan.invariant.1
    (goes-syllable _ c.meets_conditions.ensures on _ c.requires c.scan.invariant.0 _ c.scan.syllable c.scan.out c.write_space.new.out c.scan.invariant.3 (same ∙ c.in_ok-push_syllable.ensures))

pub returns-in_default-2-clause-read : goal.returns-in_default-2-clause-read
returns-in_default-2-clause-read g c =
    let read = syllable-read _ (sym c.hangul.ensures ∙ c.if-not-hangul.false) c.scan.invariant.0 c.scan.later.now c.scan.syllable c.scan.invariant.3 in
    IsReadAssigned-both _ c.args.text.now c.scan.invariant.0 c.scan.later.now c.scan.invariant.2 read

pub scan-preserved : goal.scan-preserved
scan-preserved g c =
    let v = g.T.NormTable.model c.args.normalizer.now.table.now in
    let form = c.args.normalizer.now.form in
    let rest = c.scan.invariant.0 in
    let later = c.scan.later.now in
    let between = c.push_syllable.new.out in
    let on = sym c.hangul.ensures ∙ c.if-not-hangul.false in
    let made = goes-both v form _ rest later c.args.out.now c.scan.out between c.scan.invariant.1
    (goes-syllable v c.meets_conditions.ensures on form c.requires rest later c.scan.syllable c.scan.out between c.scan.invariant.3 c.in_ok-push_syllable.ensures) in
    let read = IsReadAssigned-both v _ rest later c.scan.invariant.2 (syllable-read v on rest later c.scan.syllable c.scan.invariant.3) in (
      _,
      goes-both v form _ later _ c.args.out.now between c.write_space.new.out made (subst (λ j. IfSome j (λ next. AppendsForm v form later next.begun.now between c.write_space.new.out)) c.in-Some-2.is c.in_ok-spaced.ensures.goes),
      IsReadAssigned-both v _ later _ read (subst (λ j. IfSome j (λ next. IsReadAssigned v later next.begun.now)) c.in-Some-2.is c.in_ok-spaced.ensures.read),
      subst (λ j. IfSome j (λ next. BeginsWithSyllable next.begun.now next.rest.now next.syllable)) c.in-Some-2.is c.in_ok-spaced.ensures.begins,
    )
