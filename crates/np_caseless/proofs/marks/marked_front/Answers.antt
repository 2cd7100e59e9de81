use Rattle.np_caseless.proofs.MarkLemmas.{marked_more, none_marked}
use Rattle.np_caseless.proofs.marks.marked_front.Goals as goal

pub codes-init : goal.codes-init
codes-init c = none_marked c.args.own.now c.args.bytes.now c.requires

pub codes-preserved-then-lead_byte-lt128 : goal.codes-preserved-then-lead_byte-lt128
codes-preserved-then-lead_byte-lt128 c =
    marked_more c.args.own.now c.args.bytes.now c.codes.at 1 c.one_at.result.code c.codes.invariant c.one_at.ensures.here
    (c.is_marked_code.ensures c.if-not-is_marked_code.false)

pub codes-preserved-then-lead_byte-eq6 : goal.codes-preserved-then-lead_byte-eq6
codes-preserved-then-lead_byte-eq6 c =
    marked_more c.args.own.now c.args.bytes.now c.codes.at 2 c.two_at.result.code c.codes.invariant c.two_at.ensures.here
    (c.is_marked_code-then-lead_byte-eq6.ensures c.if-not-is_marked_code-2.false)

pub codes-preserved : goal.codes-preserved
codes-preserved c =
    marked_more c.args.own.now c.args.bytes.now c.codes.at 3 c.three_at.result.code c.codes.invariant c.three_at.ensures.here
    (c.is_marked_code-then-lead_byte-eq14.ensures c.if-not-is_marked_code-3.false)
