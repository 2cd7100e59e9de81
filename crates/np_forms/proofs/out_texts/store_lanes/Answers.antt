use Rattle.std.proofs.Common.{◌≡◌, length, take, arith, length-take-le}
use Rattle.std.proofs.lemmas.Simd.{take_more_put_chunk}
use Rattle.np_forms.proofs.OutTextLemmas.{front_of_lanes}
use Rattle.np_forms.proofs.out_texts.store_lanes.Goals as goal

pub returns-clause-bytes : goal.returns-clause-bytes
returns-clause-bytes c =
    let long : length (take 32 c.args.run.now) ≡ 32 = length-take-le 32 c.args.run.now c.requires.run in
    front_of_lanes c.args.buffer.now _ c.args.run.now c.args.at 32 c.args.count c.requires.few (omega (arith, c.requires.space))
    (take_more_put_chunk c.args.at c.args.buffer.now _ _ (omega arith) c.requires.space)
