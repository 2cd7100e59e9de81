use Rattle.std.proofs.Common.{◌/◌, List, ℕ, get_or, length, rules, sym, ap, ◌∙◌, arith}
use Rattle.np_foldings.specs.Foldings.{Folding, folding_at}
use Rattle.np_foldings.proofs.FindLemmas.{begun_in_order, found, none_begun, not_found, not_marked, rising}
use Rattle.np_foldings.proofs.foldings.Foldings.find.Goals as goal

pub returns-then-begun-eq0 : goal.returns-then-begun-eq0
returns-then-begun-eq0 c =
    let items = c.self.inside.foldings.items in
    let n = c.partition_point-begun.result in
    ap (λ (fs : List Folding). folding_at fs c.args.code) (sym c.self.view_is)
    ∙ none_begun items n c.args.code
    (begun_in_order c.args.code n c.deref.result.now items c.deref.ensures.value (rising items c.self.invariant.0.rise) c.partition_point-begun.ensures.partitioned (λ a r q k. search rules))
    c.if-begun-eq0.true

pub returns-then-last-code : goal.returns-then-last-code
returns-then-last-code c =
    let items = c.self.inside.foldings.items in
    let n = c.partition_point-begun.result in
    let bound = c.partition_point-begun.ensures.bound in
    let some = c.if-begun-eq0.false in
    let same = ap (λ (xs : List _). length xs) c.deref.ensures.value in
    ap (λ (fs : List Folding). folding_at fs c.args.code) (sym c.self.view_is)
    ∙ found items n c.args.code c.index-last.result.now (rising items c.self.invariant.0.rise) (omega arith) (omega arith) c.index-last.ensures c.if-last-code.true
    ∙ sym c.as_slice-then-last-code.ensures

pub returns-else-last-code : goal.returns-else-last-code
returns-else-last-code c =
    let items = c.self.inside.foldings.items in
    let n = c.partition_point-begun.result in
    let bound = c.partition_point-begun.ensures.bound in
    let some = c.if-begun-eq0.false in
    let same = ap (λ (xs : List _). length xs) c.deref.ensures.value in
    ap (λ (fs : List Folding). folding_at fs c.args.code) (sym c.self.view_is)
    ∙ not_found items n c.args.code c.index-last.result.now (rising items c.self.invariant.0.rise)
    (begun_in_order c.args.code n c.deref.result.now items c.deref.ensures.value (rising items c.self.invariant.0.rise) c.partition_point-begun.ensures.partitioned (λ a r q k. search rules))
    (omega arith) (omega arith) c.index-last.ensures c.if-last-code.false

pub returns-then-not-is_marked : goal.returns-then-not-is_marked
returns-then-not-is_marked c =
    let items = c.self.inside.foldings.items in
    ap (λ (fs : List Folding). folding_at fs c.args.code) (sym c.self.view_is)
    ∙ not_marked items c.self.inside.blocks.items c.args.code c.self.invariant.1
    (ap (λ (xs : List ℕ). get_or xs (c.args.code / 16) 1) (sym c.as_slice.ensures.value) ∙ c.is_marked.ensures c.if-not-is_marked.true)
