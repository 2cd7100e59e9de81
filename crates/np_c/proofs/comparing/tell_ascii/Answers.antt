use Rattle.std.proofs.Common.{IsTrue, inr, sym, subst}
use Rattle.np_c.specs.Ascii.{IsAsciiAnswer, KeepsAscii}
use Rattle.np_c.specs.declared.answers.Answer.{Answer}
use Rattle.np_c.proofs.AsciiLemmas.{keeps_ascii, tells_ascii}
use Rattle.np_c.proofs.comparing.tell_ascii.Goals as goal

pub returns : goal.returns
returns g c =
    let v = g.T.NormTable.model c.args.table.now in
    let form = c.in-Some.form in
    let passes = c.ascii_passes in
    let keeps : IsTrue passes.result → KeepsAscii v form = λ yes. keeps_ascii v form (passes.ensures.assigned yes) (passes.ensures.yes_starter yes) c.meets_conditions.ensures c.shortcuts.ensures.quick_span in
    subst (λ (a : Answer). IsAsciiAnswer v c.args.letter a) (sym c.answer_of_truth.ensures) (inr (form, c.in-Some.ensures.some, tells_ascii v form passes.result keeps))
