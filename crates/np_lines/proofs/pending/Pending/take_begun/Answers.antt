use Rattle.std.proofs.Common.{[], refl}
use Rattle.np_lines.specs.Answers.{IsAnswerBy}
use Rattle.np_lines.proofs.BegunLemmas.{cut_last, cut_some, taken-all, taken-line}
use Rattle.np_lines.proofs.StepLemmas.{goes-none}
use Rattle.np_lines.proofs.pending.Pending.take_begun.Goals as goal

pub returns-then-not-has_begun : goal.returns-then-not-has_begun
returns-then-not-has_begun g c = record { front = []; split = refl; goes = goes-none (IsAnswerBy (g.K.LineKeys.is_key c.args.keys.now) (g.K.LineKeys.version c.args.keys.now) c.args.end) c.args.end c.args.self.now }

pub returns-in_default : goal.returns-in_default
returns-in_default g c =
    let Is = IsAnswerBy (g.K.LineKeys.is_key c.args.keys.now) (g.K.LineKeys.version c.args.keys.now) c.args.end in
    let end = c.args.end in
    let last = cut_last end c.args.bytes.now c.cut.result.0.now c.byte.result c.cut.result.1 c.byte.ensures c.cut.ensures.before c.cut.ensures.after c.in_default.is in
    taken-all Is end c.args.self.now c.go_on.new.self c.args.bytes.now c.cut.result.0.now last.0 last.1 c.in_ok-go_on.ensures.out c.in_ok-go_on.ensures.told c.in_ok-go_on.ensures.begun

pub returns : goal.returns
returns g c =
    let Is = IsAnswerBy (g.K.LineKeys.is_key c.args.keys.now) (g.K.LineKeys.version c.args.keys.now) c.args.end in
    let end = c.args.end in
    let start = c.args.self.now in
    let some = cut_some end c.args.bytes.now c.cut.result.0.now c.byte.result c.cut.result.1 c.in-Some.behind c.byte.ensures c.cut.ensures.before c.cut.ensures.after c.in-Some.is in
    taken-line Is end start start c.end_line.new.self c.args.bytes.now c.args.bytes.now c.cut.result.0.now c.in-Some.behind.now
    (record { front = []; split = refl; goes = goes-none Is end start }) some.0 some.1 c.in_ok-end_line.ensures
