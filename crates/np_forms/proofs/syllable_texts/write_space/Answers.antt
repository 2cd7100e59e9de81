use Rattle.std.proofs.Common.{◌≡◌, ◌++◌, encode_utf8, subst, IfSome}
use Rattle.np_forms.specs.inside.Copies.{IsCopiedAlone}
use Rattle.np_forms.proofs.SegmentLemmas.{goes-copied}
use Rattle.np_forms.proofs.SyllableTextLemmas.{space-copied, syllable-begins}
use Rattle.np_forms.proofs.TextLemmas.{IsReadAssigned-next, IsReadAssigned-start}
use Rattle.np_forms.proofs.syllable_texts.write_space.Goals as goal

pub returns-clause-goes : goal.returns-clause-goes
returns-clause-goes g c =
    let v = g.T.NormTable.model c.args.normalizer.now.table.now in
    let form = c.args.normalizer.now.form in
    let text = c.args.text.now in
    let begins = c.in-Some-syllable_front.ensures in
    let at = syllable-begins v c.meets_conditions.ensures c.requires.on form c.requires.leading_consonants _ c.in-Some-syllable_front.rest.now c.in-Some-syllable_front.syllable begins in
    let alone = subst (λ j. IfSome j (λ cut. IsCopiedAlone v form cut.0)) c.in-Some.is c.requires.alone in
    let parts = subst (λ j. IfSome j (λ cut. text ≡ encode_utf8 cut.0 ++ cut.1.now)) c.in-Some.is c.requires.parts in
    goes-copied v form text (encode_utf8 c.in-Some.c) _ c.args.out.now c.append_char.new.self (space-copied v form text _ c.in-Some.c alone c.utf8.text parts at) c.in_ok-append_char.ensures

pub returns-clause-read : goal.returns-clause-read
returns-clause-read g c =
    let v = g.T.NormTable.model c.args.normalizer.now.table.now in
    let text = c.args.text.now in
    let alone = subst (λ j. IfSome j (λ cut. IsCopiedAlone v c.args.normalizer.now.form cut.0)) c.in-Some.is c.requires.alone in
    let parts = subst (λ j. IfSome j (λ cut. text ≡ encode_utf8 cut.0 ++ cut.1.now)) c.in-Some.is c.requires.parts in
    IsReadAssigned-next v text text c.in-Some.c c.in-Some.later.now (IsReadAssigned-start v text c.utf8.text) parts alone.assigned
