use Rattle.std.proofs.Common.{◌<◌, length, vec_len, sym, ◌∙◌, arith, eqb-true}
use Rattle.np_forms.proofs.Words.{eqb-false, err_from_is_err_and}
use Rattle.np_forms.proofs.RunningLemmas.{cut_end, cut_rest, run_whole}
use Rattle.np_forms.proofs.runs.run_on.Goals as goal

pub returns-then-not-is_empty-clause-ends : goal.returns-then-not-is_empty-clause-ends
returns-then-not-is_empty-clause-ends g c = λ form i₀ o₀ r.
    let left = c.feed_all.new.input in
    let some : 0 < length left.kept.items = omega (arith, eqb-false (vec_len left.kept) 0 (sym c.is_empty.ensures ∙ c.if-not-is_empty.true), left.kept.ok.0) in
    cut_end c.requires.sound (c.in_ok-feed_all.ensures.ok form i₀ o₀ r) _ (omega (arith, c.len.ensures, c.in_ok-feed_all.ensures.moved, left.kept.ok.0)) some c.in_ok-feed_all.ensures.fits c.in_ok-feed_all.ensures.end

pub returns-in_err-write_rest-clause-ends : goal.returns-in_err-write_rest-clause-ends
returns-in_err-write_rest-clause-ends g c =
    let p = err_from_is_err_and c.from_residual-in_err-write_rest.result c.from_residual-in_err-write_rest.ensures.1 in
    rw (p.1, p.2)
    (λ form i₀ o₀ r. cut_rest c.requires.sound (c.in_ok-feed_all.ensures.ok form i₀ o₀ r) c.in_ok-feed_all.ensures.fits c.in_err-write_rest.ensures.fault c.in_err-write_rest.ensures.err)

pub returns-clause-ends : goal.returns-clause-ends
returns-clause-ends g c = λ form i₀ o₀ r.
    let left = c.feed_all.new.input in
    run_whole c.requires.sound (c.in_ok-feed_all.ensures.ok form i₀ o₀ r) (omega (arith, eqb-true (vec_len left.kept) 0 (sym c.is_empty.ensures ∙ c.if-not-is_empty.false), left.kept.ok.0))
    c.in_ok-feed_all.ensures.end c.in_ok-feed_all.ensures.fits c.in_ok-write_rest.ensures.ok
