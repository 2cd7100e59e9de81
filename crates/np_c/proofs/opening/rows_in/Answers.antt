use Rattle.std.proofs.Common.{◌≡◌, ◌∙◌, List, ℕ, ap, sym, subst}
use Rattle.np_code_points.specs.Watched.{device_of}
use Rattle.np_ucd.specs.AllRows.{AreAllRows}
use Rattle.np_ucd.specs.FirstFaults.{HasNoFault, IsFirstFault}
use Rattle.np_c.specs.Files.{Fits, IsFileRefused}
use Rattle.np_c.specs.declared.answers.Answer.{Answer}
use Rattle.np_c.specs.inside.FaultAnswers.{file_answer}
use Rattle.np_c.proofs.AnswerLemmas.{refused_file}
use Rattle.np_c.proofs.opening.rows_in.Goals as goal

pub returns-in-Ok-clause-fits : goal.returns-in-Ok-clause-fits
returns-in-Ok-clause-fits c =
    let h = c.in-Ok.ensures.rows in
    subst Fits (h.1.whole ∙ ap (λ b. b.now) c.new.ensures.device) h.1.size

pub returns-in-Ok-clause-rows : goal.returns-in-Ok-clause-rows
returns-in-Ok-clause-rows c =
    let h = c.in-Ok.ensures.rows in
    let same : h.0 ≡ c.args.bytes.now = h.1.whole ∙ ap (λ b. b.now) c.new.ensures.device in
    (subst HasNoFault same h.2, subst (λ (bs : List ℕ). AreAllRows bs c.in-Ok.rows) same h.3)

pub returns-in-Err-clause-refused : goal.returns-in-Err-clause-refused
returns-in-Err-clause-refused c =
    let told = refused_file 7 1 IsFirstFault (device_of c.new.result).now _ c.in-Err.fault c.in-Err.ensures.refused in
    subst (λ (a : Answer). IsFileRefused 7 1 IsFirstFault c.args.bytes.now a) (sym c.of_file.ensures)
    (subst (λ (bs : List ℕ). IsFileRefused 7 1 IsFirstFault bs (file_answer 7 1 c.in-Err.fault)) (ap (λ b. b.now) c.new.ensures.device) told)
