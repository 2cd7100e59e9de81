use Rattle.std.proofs.Common.{inl, inr, sym, subst, chars}
use Rattle.np_forms.specs.Forms.{IsNormalForm}
use Rattle.np_c.specs.Answers.{IsOwnFormAnswer}
use Rattle.np_c.specs.declared.answers.Answer.{Answer}
use Rattle.np_c.proofs.AnswerLemmas.{tells}
use Rattle.np_c.proofs.comparing.tell_form.Goals as goal

pub returns-in-Ok-is_form : goal.returns-in-Ok-is_form
returns-in-Ok-is_form g c =
    let v = g.T.NormTable.model c.args.table.now in
    let text = c.args.bytes.now in
    let form = c.in-Some.form in
    let Own : Type 0 = IsNormalForm v form (chars text) (chars text) in
    let same : IsNormalForm v form (chars c.in-Ok.text.now) (chars c.in-Ok.text.now) → Own = subst (λ bs. IsNormalForm v form (chars bs) (chars bs)) c.in-Ok.ensures.text in
    let back : Own → IsNormalForm v form (chars c.in-Ok.text.now) (chars c.in-Ok.text.now) = subst (λ bs. IsNormalForm v form (chars bs) (chars bs)) (sym c.in-Ok.ensures.text) in
    let answer = tells Own c.in-Ok-is_form.yes (λ yes. same (c.in-Ok-is_form.ensures.0 yes), λ own. c.in-Ok-is_form.ensures.1 (back own)) in
    subst (λ (a : Answer). IsOwnFormAnswer v c.args.letter text a) (sym c.answer_of_truth.ensures) (inr (form, c.in-Some.ensures.some, inl (c.in-Ok.ensures.valid, answer)))
