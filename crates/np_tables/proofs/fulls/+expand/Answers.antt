use Rattle.std.proofs.Common.{◌-◌, sym, ◌∙◌, arith}
use Rattle.std.proofs.lemmas.Result.{IfOk-weaker}
use Rattle.np_versions.specs.inside.FullDecompositions.{full}
use Rattle.np_versions.proofs.TableLemmas.{full-bottom, full-kept, full-level}
use Rattle.np_tables.proofs.FullListLemmas.{append_all, append_two, parts-counted_mapping, nil_from_test, some_from_test}
use Rattle.np_tables.proofs.fulls.+expand.Goals as goal

pub returns-then-depth-eq0 : goal.returns-then-depth-eq0
returns-then-depth-eq0 t c =
    let e = full-bottom c.args.version.now c.args.compat c.args.depth c.args.code c.if-depth-eq0.true in cc (e, c.in_ok-push.ensures.items)

pub returns-in-Some : goal.returns-in-Some
returns-in-Some t c =
    IfOk-weaker c.expand-in-Some.result _ _
    (λ done two. append_two c.args.version.now c.args.compat c.args.depth c.args.code c.in-Some.first c.in-Some.second c.args.out.now.items c.expand.new.out.items c.expand-in-Some.new.out.items
    c.if-depth-eq0.false c.in-Some.ensures.some c.in-Some.ensures.pair c.in_ok-expand.ensures two)
    c.expand-in-Some.ensures

pub returns-then-is_empty : goal.returns-then-is_empty
returns-then-is_empty t c =
    let parts_are = parts-counted_mapping c.args.version.now c.args.compat c.args.code _ c.in_default.ensures.none c.counted_mapping-mapping.ensures in
    let none = nil_from_test c.counted_mapping-mapping.result.now c.is_empty.result c.is_empty.ensures c.if-is_empty.true in
    let e = full-kept c.args.version.now c.args.compat c.args.depth c.args.code (parts_are ∙ none) in
    cc (e, c.in_ok-push-2.ensures.items)

pub returns : goal.returns
returns t c =
    let parts_are = parts-counted_mapping c.args.version.now c.args.compat c.args.code _ c.in_default.ensures.none c.counted_mapping-mapping.ensures in
    let some = some_from_test c.counted_mapping-mapping.result.now c.is_empty.result c.is_empty.ensures c.if-is_empty.false in
    append_all (full c.args.version.now c.args.compat (c.args.depth - 1)) c.counted_mapping-mapping.result.now c.args.out.now.items _ _ c.loop-part.part-index c.loop-part-test.false c.loop-part.invariant
    (sym (full-level c.args.version.now c.args.compat c.args.depth c.args.code c.counted_mapping-mapping.result.now (omega arith) parts_are some))
