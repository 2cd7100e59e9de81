use Rattle.std.proofs.Common.{◌+◌, sym, subst, arith, refl}
use Rattle.np_tables.proofs.Words.{AreAllRowProperties}
use Rattle.np_tables.proofs.PageLemmas.{all_properties-more}
use Rattle.np_tables.proofs.page_properties.all_row_properties.Goals as goal

pub loop-at-preserved : goal.loop-at-preserved
loop-at-preserved c =
    let v = c.args.version.now in
    let more = all_properties-more v c.args.slots.now c.args.seconds.now c.loop-at.at c.loop-at.all_properties.items c.properties_of_row.result c.loop-at.invariant
    (λ e is. record { bits = c.row_bits-hints.result; properties = c.properties_of_row.ensures e is; hints = c.row_bits-hints.ensures e is }) in
    subst (λ l. AreAllRowProperties v c.args.slots.now c.args.seconds.now (c.loop-at.at + 1) l) (sym c.in_ok-push-2.ensures.items) more

pub row_bits-hints-requires-clause-slot : goal.row_bits-hints-requires-clause-slot
row_bits-hints-requires-clause-slot c = λ e is. c.requires.slots.each c.loop-at.at e (omega (arith, c.loop-at-test.true, c.row_count-count.ensures)) is

pub invariant_of-known : goal.invariant_of-known
invariant_of-known c = record { are_seconds = c.requires.seconds }

pub row_bits-hints-requires-clause-leading_consonants : goal.row_bits-hints-requires-clause-leading_consonants
row_bits-hints-requires-clause-leading_consonants c = c.are_leading_never_second-leading_never_second.ensures

pub loop-at-init : goal.loop-at-init
loop-at-init c =
    rw (c.in_ok-push.ensures.items, c.in_ok-all_properties.ensures.items) (record { size = refl; none = refl; each = λ k e lt. absurd (omega arith) })
