use Rattle.std.proofs.lemmas.Result.{IfOk-weaker}
use Rattle.np_program.proofs.ReplayLemmas.{told_whole}
use Rattle.np_program.proofs.replay.report_of.Goals as goal

pub returns : goal.returns
returns g c =
    let ran = c.in_ok-report.ensures in
    IfOk-weaker c.report_text.result _ _
    (λ text is. told_whole g.T.NormTable.model c.args.chain.now c.args.form c.args.schedule.now c.in_ok-report.report _ c.requires.some ran.run ran.replies ran.indices ran.strings ran.keys is) c.report_text.ensures.text
