use Rattle.std.proofs.Common.{◌∙◌, ◌++◌, length, encode_utf8, refl, sym, ap, arith}
use Rattle.std.specs.Str.Iter.{chars_rest}
use Rattle.np_tables.proofs.Words.{has_bit, Follows}
use Rattle.np_tables.proofs.PageLemmas.{properties-read}
use Rattle.np_tables.proofs.QuickSpanLemmas.{begins-first, following-stop, walked-front, walked-rest, walked-seam, walked-uncomposed}
use Rattle.np_tables.proofs.scans.Scan.pass_span.Goals as goal

pub range-front-requires-clause-end_boundary : goal.range-front-requires-clause-end_boundary
range-front-requires-clause-end_boundary c =
    let step = Follows c.args.self.now.version.now c.args.self.now.least c.args.self.now.index.now c.args.self.now.quick_checks.now c.args.self.now.form in
    let on = c.pass_by_quick_check-passed.ensures.walks c.args.self.now.version.now c.args.text.now c.scan.invariant.0 c.scan.invariant.1 c.scan.invariant.3 in
    walked-seam step c.args.text.now c.pass_by_quick_check-passed.result.rest.now on.0 on.1.1

pub returns-in_default-clause-following : goal.returns-in_default-clause-following
returns-in_default-clause-following c =
    let on = c.pass_by_quick_check-passed.ensures.walks _ c.args.text.now c.scan.invariant.0 c.scan.invariant.1 c.scan.invariant.3 in
    following-stop _ c.args.self.now.least c.args.self.now.index.now c.args.self.now.quick_checks.now c.args.self.now.form c.args.text.now c.pass_by_quick_check-passed.result.rest.now on.0 (length c.range-front.result.now) on.1.1 (omega (arith, c.range-front.ensures.len))

pub returns-then-has_bit-clause-following : goal.returns-then-has_bit-clause-following
returns-then-has_bit-clause-following c =
    let on = c.pass_by_quick_check-passed.ensures.walks _ c.args.text.now c.scan.invariant.0 c.scan.invariant.1 c.scan.invariant.3 in
    following-stop _ c.args.self.now.least c.args.self.now.index.now c.args.self.now.quick_checks.now c.args.self.now.form c.args.text.now c.pass_by_quick_check-passed.result.rest.now on.0 (length c.range-front.result.now) on.1.1 (omega (arith, c.range-front.ensures.len))

pub returns-in_default-pass_uncomposed-clause-following : goal.returns-in_default-pass_uncomposed-clause-following
returns-in_default-pass_uncomposed-clause-following c =
    let on = c.pass_by_quick_check-passed.ensures.walks _ c.args.text.now c.scan.invariant.0 c.scan.invariant.1 c.scan.invariant.3 in
    following-stop _ c.args.self.now.least c.args.self.now.index.now c.args.self.now.quick_checks.now c.args.self.now.form c.args.text.now c.pass_by_quick_check-passed.result.rest.now on.0 (length c.range-front.result.now) on.1.1 (omega (arith, c.range-front.ensures.len))

pub returns-then-has_bit-clause-boundary : goal.returns-then-has_bit-clause-boundary
returns-then-has_bit-clause-boundary c = λ _.
    let properties = c.properties_at-properties.result in
    let on = c.pass_by_quick_check-passed.ensures.walks _ _ c.scan.invariant.0 c.scan.invariant.1 c.scan.invariant.3 in
    let left = walked-rest (Follows _ c.args.self.now.least c.args.self.now.index.now c.args.self.now.quick_checks.now _) _ _ on.0 on.1.1 (length c.range-front.result.now) (omega (arith, c.range-front.ensures.len)) in
    begins-first _ _ _ _ (chars_rest c.next.new.self) c.in-Some.c left on.1.1.utf8 (sym c.chars-iter.ensures.rest ∙ c.in-Some.ensures.steps.0)
    ((properties-read _ _ refl c.requires.0 c.args.self.now.index.now c.args.self.now.all_properties.now c.requires.1 c.in-Some.c c.properties_at-properties.ensures.scalar properties c.properties_at-properties.ensures.properties).hints.boundary _
    (ap (has_bit properties.hints) (sym c.boundary_place.ensures.place) ∙ sym c.has_bit.ensures ∙ c.if-has_bit.true))

pub scan-preserved : goal.scan-preserved
scan-preserved c =
    let quick_checks = c.args.self.now.quick_checks.now in
    let on = c.pass_by_quick_check-passed.ensures.walks _ _ c.scan.invariant.0 c.scan.invariant.1 c.scan.invariant.3 in
    let past = walked-uncomposed _ _ _ quick_checks _ _ _ c.as_str-rest.result.now _ c.in-Some.c on.0 c.pass_by_quick_check-passed.result.low c.in-Some-pass_uncomposed.behind on.1.0 on.1.1
    (walked-front (Follows _ _ _ quick_checks _) _ _ on.0 on.1.1 _ c.utf8.text c.range-front.ensures.value)
    (sym c.chars-iter.ensures.rest ∙ c.in-Some.ensures.steps.0 ∙ ap (λ l. encode_utf8 c.in-Some.c ++ l) (sym c.as_str-rest.ensures)) c.in-Some-pass_uncomposed.ensures.uncomposed in
    (past.0, past.1.0, c.in-Some-pass_uncomposed.ensures.least, past.1.1)
