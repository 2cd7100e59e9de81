use Rattle.std.proofs.Common.{◌≡◌, sym, ap, ◌∙◌, arith}
use Rattle.np_versions.specs.Versions.{is_hangul}
use Rattle.np_caseless.proofs.ListedLemmas.{none_more, quiet_where}
use Rattle.np_caseless.proofs.quiet_hangul.is_hangul_quiet.Goals as goal
use Rattle.np_caseless.proofs.quiet_hangul.is_hangul_quiet.Goals.{in-Some+else-is_hangul, in_default}

pub loop-at-preserved : goal.loop-at-preserved
loop-at-preserved c =
    elim c.match-code_at.branch [
      | in-Some+else-is_hangul w ↦
          none_more c.args.foldings.now is_hangul c.loop-at.at c.loop-at.invariant
          (λ d is. let same : w.in-Some.code ≡ d = cc in ap is_hangul (sym same) ∙ sym w.is_hangul.ensures ∙ w.if-is_hangul.false)
      | in_default w ↦ none_more c.args.foldings.now is_hangul c.loop-at.at c.loop-at.invariant (λ d is. absurd (cc))
    ]

pub returns : goal.returns
returns c = λ h. quiet_where c.args.foldings.now is_hangul (λ k d lt at. c.loop-at.invariant k d (omega arith) at)
