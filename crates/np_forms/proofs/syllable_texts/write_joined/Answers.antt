use Rattle.std.proofs.Common.{◌≡◌, ◌∙◌, ap, arith, length, length-append, subst, IfNone, IfSome}
use Rattle.np_forms.proofs.Words.{AppendsForm, IsReadAssigned, BeginsWithSyllable}
use Rattle.np_forms.proofs.SegmentLemmas.{goes-both, goes-start}
use Rattle.np_forms.proofs.SyllableTextLemmas.{goes-joined, syllable-begins, syllable-read}
use Rattle.np_forms.proofs.TextLemmas.{IsReadAssigned-both, IsReadAssigned-start}
use Rattle.np_forms.proofs.syllable_texts.write_joined.Goals as goal

pub returns-in_default-clause-goes : goal.returns-in_default-clause-goes
returns-in_default-clause-goes g c = goes-start _ _ _ _ c.utf8.text

pub returns-in_default-clause-read : goal.returns-in_default-clause-read
returns-in_default-clause-read g c = IsReadAssigned-start _ _ c.utf8.text

pub scan-init : goal.scan-init
scan-init g c = (goes-start _ _ _ _ c.utf8.text, IsReadAssigned-start _ _ c.utf8.text, c.in-Some.ensures)

pub scan-preserved-in-Some-syllable_front : goal.scan-preserved-in-Some-syllable_front
scan-preserved-in-Some-syllable_front g c =
    let begins = c.scan.invariant.2 in
    let following = c.in-Some-syllable_front.ensures in
    let at = syllable-begins _ c.meets_conditions.ensures c.requires.on _ (λ _. c.requires.leading_consonants) _ c.in-Some-syllable_front.behind.now c.in-Some-syllable_front.next following in (
      goes-both _ _ _ _ _ c.args.out.now c.scan.out c.push_joined.new.out c.scan.invariant.0
          (goes-joined _ c.meets_conditions.ensures c.requires.on _ c.requires.form _ _ c.scan.syllable c.scan.out c.push_joined.new.out begins at c.in_ok-push_joined.ensures),
      IsReadAssigned-both _ _ _ _ c.scan.invariant.1 (syllable-read _ c.requires.on _ _ c.scan.syllable begins),
      following,
    )

pub returns-in_default-2-clause-goes : goal.returns-in_default-2-clause-goes
returns-in_default-2-clause-goes g c =
    let at = c.has_boundary_before.ensures c.if-not-has_boundary_before.false in
    let same : c.write_space.new.out ≡ c.push_joined-in-scan.new.out = subst (λ j. IfNone j (c.write_space.new.out ≡ c.push_joined-in-scan.new.out)) c.in_default-2.is c.in_ok-spaced.ensures.none in
    goes-both _ _ c.args.text.now _ _ c.args.out.now c.scan.out c.write_space.new.out c.scan.invariant.0
    (goes-joined _ c.meets_conditions.ensures c.requires.on _ c.requires.form _ _ c.scan.syllable c.scan.out c.write_space.new.out c.scan.invariant.2 at (same ∙ c.in_ok-push_joined-2.ensures))

pub returns-in_default-2-clause-read : goal.returns-in_default-2-clause-read
returns-in_default-2-clause-read g c =
    IsReadAssigned-both _ c.args.text.now c.scan.rest.now c.scan.later.now c.scan.invariant.1 (syllable-read _ c.requires.on c.scan.rest.now c.scan.later.now c.scan.syllable c.scan.invariant.2)

pub scan-preserved : goal.scan-preserved
scan-preserved g c =
    let v = g.T.NormTable.model c.args.normalizer.now.table.now in
    let form = c.args.normalizer.now.form in
    let later = c.scan.later.now in
    let between = c.push_joined-in-scan.new.out in
    let begins = c.scan.invariant.2 in
    let at = c.has_boundary_before.ensures c.if-not-has_boundary_before.false in
    let made = goes-both v form _ _ later c.args.out.now c.scan.out between c.scan.invariant.0
    (goes-joined v c.meets_conditions.ensures c.requires.on form c.requires.form _ later c.scan.syllable c.scan.out between begins at c.in_ok-push_joined-2.ensures) in
    let read = IsReadAssigned-both v _ _ later c.scan.invariant.1 (syllable-read v c.requires.on _ later c.scan.syllable begins) in (
      goes-both v form _ later _ c.args.out.now between c.write_space.new.out made (subst (λ j. IfSome j (λ next. AppendsForm v form later next.begun.now between c.write_space.new.out)) c.in-Some-2.is c.in_ok-spaced.ensures.goes),
      IsReadAssigned-both v _ later _ read (subst (λ j. IfSome j (λ next. IsReadAssigned v later next.begun.now)) c.in-Some-2.is c.in_ok-spaced.ensures.read),
      subst (λ j. IfSome j (λ next. BeginsWithSyllable next.begun.now next.rest.now next.syllable)) c.in-Some-2.is c.in_ok-spaced.ensures.begins,
    )

pub scan-smaller-in-Some-syllable_front : goal.scan-smaller-in-Some-syllable_front
scan-smaller-in-Some-syllable_front g c = c.scan.invariant.2.shorter

pub scan-smaller : goal.scan-smaller
scan-smaller g c =
    let goes = subst (λ j. IfSome j (λ next. AppendsForm (g.T.NormTable.model c.args.normalizer.now.table.now) c.args.normalizer.now.form c.scan.later.now next.begun.now c.push_joined-in-scan.new.out c.write_space.new.out)) c.in-Some-2.is c.in_ok-spaced.ensures.goes in
    omega (arith, c.scan.invariant.2.shorter, ap length goes.end.parts, length-append goes.end.front c.in-Some-2.spaced.begun.now)
