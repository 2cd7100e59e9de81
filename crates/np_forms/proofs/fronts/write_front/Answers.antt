use Rattle.std.proofs.Common.{◌++◌, length, ap, sym, ◌∙◌, arith, length-append}
use Rattle.np_forms.proofs.Words.{eqb-false}
use Rattle.np_forms.proofs.CopyLemmas.{IsCopied-read}
use Rattle.np_forms.proofs.SegmentLemmas.{end-itself, goes-both, goes-copied, goes-made}
use Rattle.np_forms.proofs.TextLemmas.{IsReadAssigned-both}
use Rattle.np_forms.proofs.fronts.write_front.Goals as goal

pub returns-in-Some-clause-goes : goal.returns-in-Some-clause-goes
returns-in-Some-clause-goes g c =
    let between = c.append_front.new.self in
    let precomputed = c.in-Some.ensures.made in
    goes-both _ _ _ _ c.in_ok-rest.rest.now c.args.out.now c.append_first.new.self c.write_letters.new.out
    (goes-both _ _ _ _ _ c.args.out.now between c.append_first.new.self (goes-copied _ _ _ c.args.cut.front.now _ c.args.out.now between c.requires c.in_ok-append_front.ensures)
    (goes-made _ _ _ _ precomputed.list between c.append_first.new.self precomputed.made (c.in_ok-append_first.ensures ∙ ap (λ l. between ++ l) precomputed.is)))
    c.in_ok-rest.ensures.goes

pub returns-clause-goes : goal.returns-clause-goes
returns-clause-goes g c =
    goes-both _ c.args.normalizer.now.form c.args.text.now _ c.in_ok-left.left.rest.now c.args.out.now _ c.write_changed.new.out
    (goes-copied _ c.args.normalizer.now.form c.args.text.now c.args.cut.front.now _ c.args.out.now _ c.requires c.in_ok-append_front.ensures) c.in_ok-left.ensures.goes

pub returns-in-Some-clause-read : goal.returns-in-Some-clause-read
returns-in-Some-clause-read g c = λ known.
    IsReadAssigned-both _ _ _ c.in_ok-rest.rest.now
    (IsReadAssigned-both _ _ c.args.cut.rest.now _ (IsCopied-read _ c.args.normalizer.now.form _ c.args.cut.front.now c.args.cut.rest.now c.utf8.text c.requires known) c.in-Some.ensures.read) c.in_ok-rest.ensures.read

pub returns-then-is_empty-clause-read : goal.returns-then-is_empty-clause-read
returns-then-is_empty-clause-read g c = λ known.
    IsCopied-read (g.T.NormTable.model c.args.normalizer.now.table.now) c.args.normalizer.now.form c.args.text.now c.args.cut.front.now c.args.cut.rest.now c.utf8.text c.requires known

pub returns-clause-read : goal.returns-clause-read
returns-clause-read g c = λ known.
    IsReadAssigned-both _ c.args.text.now c.args.cut.rest.now c.in_ok-left.left.unread.now (IsCopied-read _ c.args.normalizer.now.form c.args.text.now c.args.cut.front.now c.args.cut.rest.now c.utf8.text c.requires known) c.in_ok-left.ensures.read

pub append_first-requires-clause-fits : goal.append_first-requires-clause-fits
append_first-requires-clause-fits g c = c.in-Some.ensures.made.fits

pub append_first-requires-clause-utf8 : goal.append_first-requires-clause-utf8
append_first-requires-clause-utf8 g c = c.in-Some.ensures.made.utf8

pub returns-in-Some-clause-end : goal.returns-in-Some-clause-end
returns-in-Some-clause-end g c = end-itself _ c.in_ok-rest.ensures.goes.end.utf8

pub returns-then-is_empty-clause-goes : goal.returns-then-is_empty-clause-goes
returns-then-is_empty-clause-goes g c =
    goes-copied _ c.args.normalizer.now.form c.args.text.now c.args.cut.front.now _ c.args.out.now _ c.requires c.in_ok-append_front.ensures

pub returns-then-is_empty-clause-end : goal.returns-then-is_empty-clause-end
returns-then-is_empty-clause-end g c = end-itself _ c.requires.utf8

pub returns-clause-end : goal.returns-clause-end
returns-clause-end g c = c.in_ok-left.ensures.end

pub returns-in-Some-clause-shorter : goal.returns-in-Some-clause-shorter
returns-in-Some-clause-shorter g c = λ _.
    let end = c.in_ok-rest.ensures.goes.end in
    omega (arith, c.in-Some.ensures.shorter, ap length end.parts, length-append end.front c.in_ok-rest.rest.now, ap length c.requires.parts, length-append c.args.cut.front.now c.args.cut.rest.now)

pub returns-clause-shorter : goal.returns-clause-shorter
returns-clause-shorter g c = λ _.
    let some = eqb-false (length c.args.cut.rest.now) 0 (sym c.is_empty.ensures ∙ c.if-is_empty.false) in
    let shorter = c.in_ok-left.ensures.shorter (omega (arith, some)) in
    omega (arith, shorter, ap length c.requires.parts, length-append c.args.cut.front.now c.args.cut.rest.now)
