use Rattle.std.proofs.Common.{◌≡◌, length, slice_get, Some, ap, sym, ◌∙◌, arith}
use Rattle.std.specs.Option.{option_map}
use Rattle.np_node.proofs.EntryLemmas.{some-at}
use Rattle.np_node.proofs.FillLemmas.{fits-at}
use Rattle.np_node.proofs.ImageWriting.{length-all, length-more, length-none, marked-bound}
use Rattle.np_node.specs.Fields.{marked_bytes}
use Rattle.np_node.specs.Strings.{Entry}
use Rattle.np_node.proofs.images.entries_length.Goals as goal

pub loop-index-init : goal.loop-index-init
loop-index-init c = record { sum = sym (length-none c.args.entries.now); bound = omega arith }

pub unwrap-requires : goal.unwrap-requires
unwrap-requires c = some-at _ c.get.result c.args.entries.now c.loop-index.index c.get.ensures (omega (arith, c.loop-index-test.true, c.len-index-end.ensures))

pub marked_length-length-requires-clause-string : goal.marked_length-length-requires-clause-string
marked_length-length-requires-clause-string c =
    let e : Entry = record { string = c.unwrap.result.0.now; key = c.unwrap.result.1.now } in
    let here : slice_get c.args.entries.now c.loop-index.index ≡ Some e = sym c.get.ensures ∙ ap (option_map (λ p. record { string = p.0.now; key = p.1.now })) c.unwrap.ensures in
    omega (arith, ap length c.as_bytes.ensures.value, (fits-at c.args.entries.now c.loop-index.index e c.requires.fits here).string)

pub marked_length-length-requires-clause-key : goal.marked_length-length-requires-clause-key
marked_length-length-requires-clause-key c =
    let e : Entry = record { string = c.unwrap.result.0.now; key = c.unwrap.result.1.now } in
    let here : slice_get c.args.entries.now c.loop-index.index ≡ Some e = sym c.get.ensures ∙ ap (option_map (λ p. record { string = p.0.now; key = p.1.now })) c.unwrap.ensures in
    omega (arith, ap length c.as_bytes-in-loop-index.ensures.value, (fits-at c.args.entries.now c.loop-index.index e c.requires.fits here).key)

pub overflow_add-length : goal.overflow_add-length
overflow_add-length c =
    let e : Entry = record { string = c.unwrap.result.0.now; key = c.unwrap.result.1.now } in
    let here : slice_get c.args.entries.now c.loop-index.index ≡ Some e = sym c.get.ensures ∙ ap (option_map (λ p. record { string = p.0.now; key = p.1.now })) c.unwrap.ensures in
    let same = c.marked_length-length.ensures ∙ (λ i. length (marked_bytes (record { string = c.as_bytes.ensures.value i; key = c.as_bytes-in-loop-index.ensures.value i }))) in
    omega (arith, same, marked-bound e (fits-at c.args.entries.now c.loop-index.index e c.requires.fits here), c.loop-index.invariant.bound, c.loop-index-test.true, c.len-index-end.ensures, c.requires.count)

pub loop-index-preserved : goal.loop-index-preserved
loop-index-preserved c =
    let e : Entry = record { string = c.unwrap.result.0.now; key = c.unwrap.result.1.now } in
    let here : slice_get c.args.entries.now c.loop-index.index ≡ Some e = sym c.get.ensures ∙ ap (option_map (λ p. record { string = p.0.now; key = p.1.now })) c.unwrap.ensures in
    let same = c.marked_length-length.ensures ∙ (λ i. length (marked_bytes (record { string = c.as_bytes.ensures.value i; key = c.as_bytes-in-loop-index.ensures.value i }))) in
    record {
      sum = omega (arith, same, c.loop-index.invariant.sum, length-more c.args.entries.now c.loop-index.index e here);
      bound = omega (arith, same, c.loop-index.invariant.bound, marked-bound e (fits-at c.args.entries.now c.loop-index.index e c.requires.fits here));
    }

pub returns : goal.returns
returns c =
    let all = length-all c.args.entries.now c.loop-index.index (omega (arith, c.loop-index-test.false, c.len-index-end.ensures)) in
    record {
      length = c.loop-index.invariant.sum ∙ all;
      bound = omega (arith, c.loop-index.invariant.bound, c.loop-index.auto.index-end, c.len-index-end.ensures, c.requires.count);
    }
