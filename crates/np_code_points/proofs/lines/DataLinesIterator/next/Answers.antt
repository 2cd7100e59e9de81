use Rattle.std.proofs.Common.{◌≡◌, ◌+◌, ◌∷◌, eqb, length, true, refl, ap, sym, ◌∙◌, arith, rules}
use Rattle.np_code_points.specs.Lines.{Walk}
use Rattle.np_code_points.specs.inside.LineCuts.{lines_of, data_lines_from}
use Rattle.np_code_points.proofs.DataLineGrammar.{line_taken, line_skipped, total_left, none_left, no_line_left}
use Rattle.np_code_points.proofs.lines.DataLinesIterator.next.Goals as goal

taken : (c : goal.Then-not-is_skipped) → c.args.self.now.left ≡ record { line = c.loop-self.self-inside.passed + 1; text = c.without_return-text.result.now } ∷ data_lines_from (c.loop-self.self-inside.passed + 1 + 1) (lines_of c.cut_line.result.1.now)
taken c =
    ap (λ (w : Walk). w.left) (sym c.self.view_is)
    ∙ sym c.loop-self.invariant.left
    ∙ line_taken (c.loop-self.self-inside.passed + 1) (lines_of c.loop-self.self-inside.rest.now) (lines_of c.cut_line.result.1.now) c.cut_line.result.0.now c.without_return-text.result.now
    c.cut_line.ensures.line c.without_return-text.ensures (sym c.is_skipped.ensures ∙ c.if-not-is_skipped.true)

pub returns-then-not-is_skipped-clause-steps : goal.returns-then-not-is_skipped-clause-steps
returns-then-not-is_skipped-clause-steps c = record {
  gives = taken c;
  passed = refl;
  total = total_left (c.loop-self.self-inside.passed) (lines_of c.loop-self.self-inside.rest.now) (lines_of c.cut_line.result.1.now) c.cut_line.result.0.now c.cut_line.ensures.line
      ∙ c.loop-self.invariant.total
      ∙ ap (λ (w : Walk). w.total) c.self.view_is;
}

pub returns-then-not-is_skipped-clause-goes : goal.returns-then-not-is_skipped-clause-goes
returns-then-not-is_skipped-clause-goes c =
    let shorter = ap length (taken c) in
    search rules

pub loop-self-preserved : goal.loop-self-preserved
loop-self-preserved c = record {
  left = sym (line_skipped (c.loop-self.self-inside.passed + 1) (lines_of c.loop-self.self-inside.rest.now) (lines_of c.cut_line.result.1.now) c.cut_line.result.0.now c.without_return-text.result.now
      c.cut_line.ensures.line c.without_return-text.ensures (sym c.is_skipped.ensures ∙ c.if-not-is_skipped.false))
      ∙ c.loop-self.invariant.left;
  total = total_left (c.loop-self.self-inside.passed) (lines_of c.loop-self.self-inside.rest.now) (lines_of c.cut_line.result.1.now) c.cut_line.result.0.now c.cut_line.ensures.line
      ∙ c.loop-self.invariant.total;
  fits = omega arith;
}

pub returns-clause-steps : goal.returns-clause-steps
returns-clause-steps c =
    let empty : eqb (length c.loop-self.self-inside.rest.now) 0 ≡ true = sym c.is_empty.ensures ∙ c.loop-self-test.false in
    let none = none_left (c.loop-self.self-inside.passed + 1) c.loop-self.self-inside.rest.now empty in
    let all : length (lines_of c.loop-self.self-inside.rest.now) ≡ 0 = ap length (no_line_left c.loop-self.self-inside.rest.now empty) in
    record {
      gives = (ap (λ (w : Walk). w.left) (sym c.self.view_is) ∙ sym c.loop-self.invariant.left ∙ none, none);
      passed = omega (arith, c.loop-self.invariant.total, ap (λ (w : Walk). w.total) c.self.view_is, all);
      total = c.loop-self.invariant.total ∙ ap (λ (w : Walk). w.total) c.self.view_is;
    }
