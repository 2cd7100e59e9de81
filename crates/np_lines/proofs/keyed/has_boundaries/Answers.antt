use Rattle.std.proofs.Common.{chars, subst, sym, ◌∙◌, inl, inr}
use Rattle.np_code_points.specs.Lines.{HasNo}
use Rattle.np_versions.specs.Boundaries.{BeginsAtBoundary}
use Rattle.np_lines.specs.Lines.{byte_of}
use Rattle.np_lines.proofs.EndLemmas.{later_end, no_end}
use Rattle.np_lines.proofs.keyed.has_boundaries.Goals as goal

pub lines-init : goal.lines-init
lines-init g c = (c.utf8.text, λ before behind is. inr (before, is))

pub returns-in_default : goal.returns-in_default
returns-in_default g c = λ _ before behind is.
    elim (c.lines.invariant.1 before behind is) [
      | inl at ↦ at
      | inr (more, here) ↦ absurd (no_end c.args.wanted.end more behind (subst (HasNo (byte_of c.args.wanted.end)) here c.in_default.ensures.none))
    ]

pub lines-preserved : goal.lines-preserved
lines-preserved g c =
    let v = g.T.NormTable.model c.args.table.now in
    let w = c.args.wanted in
    let parts = c.in-Some.ensures in (
      parts.utf8.1,
      λ before behind is.
          elim (c.lines.invariant.1 before behind is) [
            | inl at ↦ inl at
            | inr (more, here) ↦
                elim (later_end w.end c.in-Some._line.now c.in-Some.behind.now more behind parts.line (sym parts.cut ∙ here)) [
                  | inl same ↦ inl (subst (λ l. BeginsAtBoundary v w.form (chars l)) same (c.begins_apart.ensures c.if-not-begins_apart.false))
                  | inr later ↦ inr later
                ]
          ],
    )
