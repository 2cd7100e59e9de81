use Rattle.std.proofs.Common.{arith, length, inl, sym, ap, ◌∙◌}
use Rattle.std.proofs.lemmas.Bool.{eqb-true, eqb-false, not-true, not-false}
use Rattle.std.proofs.lemmas.List.{nil_from_length}
use Rattle.np_lines.proofs.pending.Pending.has_begun.Goals as goal

pub returns-else-self-clause-some : goal.returns-else-self-clause-some
returns-else-self-clause-some c = λ is.
    inl (λ none. eqb-false c.args.self.now.line.len 0 (sym c.is_empty.ensures ∙ not-true c.is_empty.result is) (omega (arith, ap length none)))

pub returns-else-self-clause-none : goal.returns-else-self-clause-none
returns-else-self-clause-none c = λ is.
    let empty = eqb-true c.args.self.now.line.len 0 (sym c.is_empty.ensures ∙ not-false c.is_empty.result is) in
    (nil_from_length c.args.self.now.line.items (omega (arith, empty)), c.if-self.false)
