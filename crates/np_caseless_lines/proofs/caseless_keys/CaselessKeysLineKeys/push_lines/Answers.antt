use Rattle.np_caseless.specs.Caseless.{IsCaseless}
use Rattle.np_lines.specs.Answers.{IsAnswerBy}
use Rattle.np_lines.proofs.PushedLemmas.{pushed-none}
use Rattle.np_caseless_lines.proofs.caseless_keys.CaselessKeysLineKeys.push_lines.Goals as goal

pub returns : goal.returns
returns g c =
    let v = c.args.self.now.folded.now in
    pushed-none (IsAnswerBy (IsCaseless v c.args.self.now.form) v.version c.args._end) c.args._end c.args.text.now c.args._out.now.items
