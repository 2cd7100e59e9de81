use Rattle.std.proofs.Common.{◌≡◌, length, slice_get, Some, ap, sym, ◌∙◌, arith}
use Rattle.std.specs.Option.{option_map}
use Rattle.np_node.proofs.EntryLemmas.{some-at}
use Rattle.np_node.proofs.FillLemmas.{fits-at}
use Rattle.np_node.proofs.ImageWriting.{all-written, head-alone, image-length, one-fits, one-more}
use Rattle.np_node.proofs.WritingLemmas.{written-as}
use Rattle.np_node.specs.Fields.{marked_bytes}
use Rattle.np_node.specs.Strings.{Entry}
use Rattle.np_node.proofs.images.put_image_of.Goals as goal

pub put_head-at-requires : goal.put_head-at-requires
put_head-at-requires c = omega (arith, c.requires.room, image-length c.args.needs c.args.form c.args.entries.now)

pub loop-index-init : goal.loop-index-init
loop-index-init c = written-as _ _ _ _ _ _ (head-alone c.args.needs c.args.form c.args.entries.now c.len.result c.len.ensures) c.put_head-at.ensures

pub unwrap-requires : goal.unwrap-requires
unwrap-requires c = some-at _ c.get.result c.args.entries.now c.loop-index.index c.get.ensures (omega (arith, c.loop-index-test.true, c.len-index-end.ensures))

pub put_marked-at-requires-clause-string : goal.put_marked-at-requires-clause-string
put_marked-at-requires-clause-string c =
    let e : Entry = record { string = c.unwrap.result.0.now; key = c.unwrap.result.1.now } in
    let here : slice_get c.args.entries.now c.loop-index.index ≡ Some e = sym c.get.ensures ∙ ap (option_map (λ p. record { string = p.0.now; key = p.1.now })) c.unwrap.ensures in
    omega (arith, ap length c.as_bytes.ensures.value, (fits-at c.args.entries.now c.loop-index.index e c.requires.fits here).string)

pub put_marked-at-requires-clause-key : goal.put_marked-at-requires-clause-key
put_marked-at-requires-clause-key c =
    let e : Entry = record { string = c.unwrap.result.0.now; key = c.unwrap.result.1.now } in
    let here : slice_get c.args.entries.now c.loop-index.index ≡ Some e = sym c.get.ensures ∙ ap (option_map (λ p. record { string = p.0.now; key = p.1.now })) c.unwrap.ensures in
    omega (arith, ap length c.as_bytes-in-loop-index.ensures.value, (fits-at c.args.entries.now c.loop-index.index e c.requires.fits here).key)

pub put_marked-at-requires-clause-room : goal.put_marked-at-requires-clause-room
put_marked-at-requires-clause-room c =
    let e : Entry = record { string = c.unwrap.result.0.now; key = c.unwrap.result.1.now } in
    let here : slice_get c.args.entries.now c.loop-index.index ≡ Some e = sym c.get.ensures ∙ ap (option_map (λ p. record { string = p.0.now; key = p.1.now })) c.unwrap.ensures in
    let same : length (marked_bytes (record { string = c.as_bytes.result.now; key = c.as_bytes-in-loop-index.result.now })) ≡ length (marked_bytes e) = λ i. length (marked_bytes (record { string = c.as_bytes.ensures.value i; key = c.as_bytes-in-loop-index.ensures.value i })) in
    omega (arith, same, one-fits c.args.needs c.args.form c.args.entries.now c.loop-index.index e here, c.loop-index.invariant.place, c.loop-index.invariant.size, c.requires.room)

pub loop-index-preserved : goal.loop-index-preserved
loop-index-preserved c =
    let e : Entry = record { string = c.unwrap.result.0.now; key = c.unwrap.result.1.now } in
    let here : slice_get c.args.entries.now c.loop-index.index ≡ Some e = sym c.get.ensures ∙ ap (option_map (λ p. record { string = p.0.now; key = p.1.now })) c.unwrap.ensures in
    one-more c.args.needs c.args.form c.args.entries.now c.loop-index.index e here _ _ _ _ _ c.loop-index.invariant
    (written-as _ _ _ _ _ _ (λ i. marked_bytes (record { string = c.as_bytes.ensures.value i; key = c.as_bytes-in-loop-index.ensures.value i })) c.put_marked-at.ensures)

pub returns : goal.returns
returns c =
    all-written c.args.needs c.args.form c.args.entries.now c.args.room.now c.loop-index.room c.loop-index.index c.loop-index.at c.loop-index.invariant
    (omega (arith, c.loop-index-test.false, c.len-index-end.ensures)) c.requires.room
