use Rattle.std.proofs.Common.{ℕ, ◌≡◌, arith, subst}
use Rattle.np_node.proofs.ImageReading.{read-start, read-more, read-lacks, read-over, read-end}
use Rattle.np_node.specs.inside.Shapes.{HasRead}
use Rattle.np_node.proofs.images.shape_of.Goals as goal

pub loop-number-init : goal.loop-number-init
loop-number-init c =
    let head = c.in_ok-head.head in
    read-start c.new-fields.result c.read_head.new.fields c.args.bytes.now head.needs head.form head.count c.new-fields.ensures.0 c.new-fields.ensures.1 c.in_ok-head.ensures.ok

pub loop-number-preserved : goal.loop-number-preserved
loop-number-preserved c =
    let head = c.in_ok-head.head in
    let told = c.in-Ok.ensures.ok in
    read-more c.args.bytes.now head.needs head.form head.count c.loop-number.fields c.spelled.new.self c.loop-number._number _ c.loop-number.invariant told.0 told.1

pub returns-in-Err-clause-ok : goal.returns-in-Err-clause-ok
returns-in-Err-clause-ok c = tt

pub returns-in-Err-clause-err : goal.returns-in-Err-clause-err
returns-in-Err-clause-err c =
    let head = c.in_ok-head.head in
    read-lacks c.args.bytes.now head.needs head.form head.count c.loop-number.fields c.loop-number._number c.in-Err.at c.loop-number.invariant c.in_ok-head.ensures.needs c.loop-number-test.true c.in_ok-head.ensures.count
    c.in-Err.ensures.err

pub returns-then-left-gt0-clause-err : goal.returns-then-left-gt0-clause-err
returns-then-left-gt0-clause-err c =
    let head = c.in_ok-head.head in
    let all : c.loop-number._number ≡ head.count = omega (arith, c.loop-number-test.false, c.loop-number.auto._number-end) in
    read-over c.args.bytes.now head.needs head.form head.count c.loop-number.fields c.place.result
    (subst (λ (n : ℕ). HasRead c.args.bytes.now c.loop-number.fields head.needs head.form head.count n) all c.loop-number.invariant) c.in_ok-head.ensures.needs c.in_ok-head.ensures.count
    (omega (arith, c.left.ensures, c.if-left-gt0.true)) c.place.ensures

pub returns-clause-ok : goal.returns-clause-ok
returns-clause-ok c =
    let head = c.in_ok-head.head in
    let all : c.loop-number._number ≡ head.count = omega (arith, c.loop-number-test.false, c.loop-number.auto._number-end) in
    read-end c.args.bytes.now head.needs head.form head.count c.loop-number.fields
    (subst (λ (n : ℕ). HasRead c.args.bytes.now c.loop-number.fields head.needs head.form head.count n) all c.loop-number.invariant) c.in_ok-head.ensures.needs c.in_ok-head.ensures.count
    (omega (arith, c.left.ensures, c.if-left-gt0.false))
