use Rattle.std.proofs.Common.{sym, subst}
use Rattle.np_caseless.specs.SimpleKeys.{IsEachPartKey}
use Rattle.np_caseless_lines.proofs.WindowLemmas.{left_answered, left_boundary, left_within}
use Rattle.np_caseless_lines.proofs.simple_lines.push_window.Goals as goal

pub overflow_sub-front : goal.overflow_sub-front
overflow_sub-front g c =
    let v = c.args.folded.now in
    let form = c.args.wanted.form in
    let cut = c.split_at in
    let keys = c.write_keys-count in
    let each = subst (λ l. IsEachPartKey v form l keys.new.room) (sym cut.ensures.front) keys.ensures.keys in
    left_within v form c.args.wanted.end c.args.window.now cut.result.0.now cut.result.1.now c.in_ok-left.left.now
    c.args.out.now.items c.push_each.new.out.items keys.result cut.ensures.front cut.ensures.back (c.in_ok-left.ensures.pushed v form each)

pub range_from-requires : goal.range_from-requires
range_from-requires g c = λ _.
    let v = c.args.folded.now in
    let form = c.args.wanted.form in
    let cut = c.split_at in
    let keys = c.write_keys-count in
    let each = subst (λ l. IsEachPartKey v form l keys.new.room) (sym cut.ensures.front) keys.ensures.keys in
    left_boundary v form c.args.wanted.end c.args.window.now cut.result.0.now cut.result.1.now c.in_ok-left.left.now
    c.args.out.now.items c.push_each.new.out.items keys.result cut.ensures.front cut.ensures.back (c.in_ok-left.ensures.pushed v form each)
    c.utf8.window keys.ensures.boundary c.in_ok-left.ensures.utf8

pub returns-clause-pushed : goal.returns-clause-pushed
returns-clause-pushed g c =
    let v = c.args.folded.now in
    let form = c.args.wanted.form in
    let cut = c.split_at in
    let keys = c.write_keys-count in
    let each = subst (λ l. IsEachPartKey v form l keys.new.room) (sym cut.ensures.front) keys.ensures.keys in
    left_answered v form c.args.wanted.end c.args.window.now cut.result.0.now cut.result.1.now c.in_ok-left.left.now
    c.args.out.now.items c.push_each.new.out.items keys.result cut.ensures.front cut.ensures.back (c.in_ok-left.ensures.pushed v form each)
    c.range_from.result.now c.range_from.ensures.value
