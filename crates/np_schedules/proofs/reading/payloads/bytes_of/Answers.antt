use Rattle.std.proofs.Common.{◌-◌, length, get_or, take, drop, sym, ap, ◌∙◌}
use Rattle.np_code_points.proofs.ValueGrammar.{joined, joined_none}
use Rattle.np_schedules.specs.inside.LineValues.{hex_pairs}
use Rattle.np_schedules.proofs.PayloadLemmas.{split_pair, one_digit, no_digits, one_more_pair, no_pair, all_pairs, half_pair}
use Rattle.np_schedules.proofs.reading.payloads.bytes_of.Goals as goal

pub loop-left-init : goal.loop-left-init
loop-left-init c = joined_none c.in_ok-bytes.bytes.items (hex_pairs c.args.word.now) c.in_ok-bytes.ensures.items

pub returns-in_default-byte_in-clause-refused : goal.returns-in_default-byte_in-clause-refused
returns-in_default-byte_in-clause-refused c =
    let left = c.loop-left.left.now in
    no_pair (hex_pairs c.args.word.now) c.loop-left.bytes.items left c.loop-left.invariant (get_or left 0 0) (get_or left 1 0) (take (length left - 2) (drop 2 left))
    (split_pair left c.in-len2-up.len_at_least) (sym c.in_default-byte_in.is ∙ c.byte_in.ensures)

pub loop-left-preserved : goal.loop-left-preserved
loop-left-preserved c =
    let left = c.loop-left.left.now in
    let behind = take (length left - 2) (drop 2 left) in
    one_more_pair (hex_pairs c.args.word.now) c.loop-left.bytes.items left c.loop-left.invariant (get_or left 0 0) (get_or left 1 0) behind c.in-Some.byte
    (split_pair left c.in-len2-up.len_at_least) (sym c.in-Some.is ∙ c.byte_in.ensures)
    ∙ ap (λ done. joined done (hex_pairs behind)) (sym c.in_ok-push.ensures.items)

pub returns-then-is_empty-clause-bytes : goal.returns-then-is_empty-clause-bytes
returns-then-is_empty-clause-bytes c =
    all_pairs (hex_pairs c.args.word.now) c.loop-left.bytes.items c.loop-left.left.now c.loop-left.invariant
    (no_digits c.loop-left.left.now (sym c.is_empty.ensures ∙ c.if-is_empty.true))

pub returns-else-is_empty-clause-refused : goal.returns-else-is_empty-clause-refused
returns-else-is_empty-clause-refused c =
    let left = c.loop-left.left.now in
    half_pair (hex_pairs c.args.word.now) c.loop-left.bytes.items left c.loop-left.invariant (get_or left 0 0)
    (one_digit left c.in_default.len_below (sym c.is_empty.ensures ∙ c.if-is_empty.false))
