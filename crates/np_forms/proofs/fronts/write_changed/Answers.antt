use Rattle.std.proofs.Common.{◌≡◌, ◌<◌, length, sym, subst, arith, IfNone, IfSome}
use Rattle.np_forms.proofs.Words.{AppendsForm}
use Rattle.np_forms.proofs.SegmentLemmas.{end-itself, goes-both, shorter-end}
use Rattle.np_forms.proofs.fronts.write_changed.Goals as goal

pub returns-then-unread-text-clause-end : goal.returns-then-unread-text-clause-end
returns-then-unread-text-clause-end g c = end-itself _ c.in_ok-unread.ensures.goes.end.utf8

pub returns-in-Some-clause-goes : goal.returns-in-Some-clause-goes
returns-in-Some-clause-goes g c =
    let v = g.T.NormTable.model c.args.normalizer.now.table.now in
    let form = c.args.normalizer.now.form in
    let goes = subst (λ j. IfSome j (λ rest. AppendsForm v form c.in_ok-unread.unread.now rest.now c.write_hangul.new.out c.write_short.new.out)) c.in-Some.is c.in_ok-rest.ensures.goes in
    goes-both v form _ c.in_ok-unread.unread.now c.in-Some.rest.now _ c.write_hangul.new.out c.write_short.new.out c.in_ok-unread.ensures.goes goes

pub returns-in-Some-clause-end : goal.returns-in-Some-clause-end
returns-in-Some-clause-end g c =
    let v = g.T.NormTable.model c.args.normalizer.now.table.now in
    let form = c.args.normalizer.now.form in
    let goes = subst (λ j. IfSome j (λ rest. AppendsForm v form c.in_ok-unread.unread.now rest.now c.write_hangul.new.out c.write_short.new.out)) c.in-Some.is c.in_ok-rest.ensures.goes in
    goes.end

pub returns-clause-goes : goal.returns-clause-goes
returns-clause-goes g c =
    let v = g.T.NormTable.model c.args.normalizer.now.table.now in
    let form = c.args.normalizer.now.form in
    let same : c.write_short.new.out ≡ c.write_hangul.new.out = subst (λ j. IfNone j (c.write_short.new.out ≡ c.write_hangul.new.out)) c.in_default.is c.in_ok-rest.ensures.none in
    let first = subst (λ o. AppendsForm v form c.args.text.now c.in_ok-unread.unread.now c.args.out.now o) (sym same) c.in_ok-unread.ensures.goes in
    goes-both v form _ c.in_ok-unread.unread.now c.in_ok-rest-2.rest.now _ c.write_short.new.out c.write_next.new.out first c.in_ok-rest-2.ensures.goes

pub returns-clause-end : goal.returns-clause-end
returns-clause-end g c = c.in_ok-rest-2.ensures.goes.end

pub returns-then-unread-text-clause-shorter : goal.returns-then-unread-text-clause-shorter
returns-then-unread-text-clause-shorter g c = λ _. c.if-unread-text.true

pub returns-in-Some-clause-shorter : goal.returns-in-Some-clause-shorter
returns-in-Some-clause-shorter g c =
    let shorter = subst (λ j. IfSome j (λ rest. length rest.now < length c.in_ok-unread.unread.now)) c.in-Some.is c.in_ok-rest.ensures.shorter in
    λ _. shorter-end _ c.in_ok-unread.unread.now _ c.in_ok-unread.ensures.goes.end shorter

pub returns-clause-shorter : goal.returns-clause-shorter
returns-clause-shorter g c = λ some.
    shorter-end _ c.in_ok-unread.unread.now _ c.in_ok-unread.ensures.goes.end (c.in_ok-rest-2.ensures.shorter (omega (arith, some, c.if-unread-text.false)))

pub returns-in-Some-clause-read : goal.returns-in-Some-clause-read
returns-in-Some-clause-read g c = c.in_ok-unread.ensures.read

pub returns-clause-read : goal.returns-clause-read
returns-clause-read g c = c.in_ok-unread.ensures.read
