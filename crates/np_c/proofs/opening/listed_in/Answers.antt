use Rattle.std.proofs.Common.{◌≡◌, ◌↔◌, ◌∙◌, List, ℕ, true, ap, sym, subst}
use Rattle.np_code_points.specs.Watched.{device_of}
use Rattle.np_ucd.specs.Exclusions.{AreReadable, IsFirstBadLine, IsListedIn}
use Rattle.np_ucd.specs.Listed.{is_listed}
use Rattle.np_c.specs.Files.{Fits, IsFileRefused}
use Rattle.np_c.specs.declared.answers.Answer.{Answer}
use Rattle.np_c.specs.inside.FaultAnswers.{file_answer}
use Rattle.np_c.proofs.AnswerLemmas.{refused_file}
use Rattle.np_c.proofs.opening.listed_in.Goals as goal

pub returns-in-Ok-clause-fits : goal.returns-in-Ok-clause-fits
returns-in-Ok-clause-fits c =
    let h = c.in-Ok.ensures.listed in
    subst Fits (h.1.whole ∙ ap (λ b. b.now) c.new.ensures.device) h.1.size

pub returns-in-Ok-clause-listed : goal.returns-in-Ok-clause-listed
returns-in-Ok-clause-listed c =
    let h = c.in-Ok.ensures.listed in
    let same : h.0 ≡ c.args.bytes.now = h.1.whole ∙ ap (λ b. b.now) c.new.ensures.device in
    (subst AreReadable same h.2, subst (λ (bs : List ℕ). (code : ℕ) → (is_listed c.in-Ok.listed code ≡ true) ↔ IsListedIn bs code) same h.3)

pub returns-in-Err-clause-refused : goal.returns-in-Err-clause-refused
returns-in-Err-clause-refused c =
    let told = refused_file 8 2 IsFirstBadLine (device_of c.new.result).now _ c.in-Err.fault c.in-Err.ensures.refused in
    subst (λ (a : Answer). IsFileRefused 8 2 IsFirstBadLine c.args.bytes.now a) (sym c.of_file.ensures)
    (subst (λ (bs : List ℕ). IsFileRefused 8 2 IsFirstBadLine bs (file_answer 8 2 c.in-Err.fault)) (ap (λ b. b.now) c.new.ensures.device) told)
