use Rattle.std.proofs.Common.{◌≡◌, ◌++◌, encode_utf8, subst, IfSome}
use Rattle.np_forms.specs.inside.Copies.{IsCopiedAlone}
use Rattle.np_forms.proofs.SyllableTextLemmas.{space-begins}
use Rattle.np_forms.proofs.syllable_texts.has_boundary_before.Goals as goal

pub returns-in-Some : goal.returns-in-Some
returns-in-Some g c = λ _.
    let v = g.T.NormTable.model c.args.table.now in
    let form = c.args.form in
    space-begins v form _ c.in-Some._later.now c.in-Some._c (subst (λ j. IfSome j (λ cut. IsCopiedAlone v form cut.0)) c.in-Some.is c.requires.alone) c.utf8.text
    (subst (λ j. IfSome j (λ cut. c.args.text.now ≡ encode_utf8 cut.0 ++ cut.1.now)) c.in-Some.is c.requires.parts)
