use Rattle.std.proofs.Common.{codes, refl, subst, inl, inr}
use Rattle.np_code_points.specs.Lines.{HasNo}
use Rattle.np_lines.specs.Answers.{told_key, told_refusal}
use Rattle.np_lines.proofs.answers.push_told_key.Goals as goal

pub returns-then-holds : goal.returns-then-holds
returns-then-holds c =
    let key = c.args.key.now in
    let has = subst (λ l. ¬ HasNo c.byte.result l) c.as_bytes.ensures.value (c.holds.ensures.some c.if-holds.true) in
    record {
      answer = told_refusal (codes "line end in key");
      is = inr (subst (λ n. ¬ HasNo n key) c.byte.ensures has, refl);
      out_is = c.in_ok-push_refusal.ensures;
      told = refl;
    }

pub returns : goal.returns
returns c =
    let key = c.args.key.now in
    let no = subst (λ l. HasNo c.byte.result l) c.as_bytes.ensures.value (c.holds.ensures.none c.if-holds.false) in
    record {
      answer = told_key key;
      is = inl (subst (λ n. HasNo n key) c.byte.ensures no, refl);
      out_is = c.in_ok-push_key.ensures;
      told = refl;
    }
