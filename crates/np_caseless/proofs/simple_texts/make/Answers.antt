use Rattle.std.proofs.Common.{◌≡◌, ◌≢◌, ◌+◌, ◌++◌, subst, take, arith}
use Rattle.np_caseless.specs.inside.SimpleImages.{bytes_of}
use Rattle.np_caseless.specs.declared.simple_images.SimpleImage.{SimpleImage}
use Rattle.np_caseless.proofs.CharacterLemmas.{encoded_few}
use Rattle.np_caseless.proofs.MadeLemmas.{made_image, made_kept}
use Rattle.np_caseless.proofs.simple_texts.make.Goals as goal

pub put_image-requires-clause-few : goal.put_image-requires-clause-few
put_image-requires-clause-few c =
    omega (arith, c.requires.encoded, encoded_few c.args.here.code (omega (arith, c.in-Some.ensures.0, c.requires.size)))

pub returns-in-Some-clause-made : goal.returns-in-Some-clause-made
returns-in-Some-clause-made c = λ text here m.
    let is = c.in-Some.ensures.1 in
    let at = c.args.here.at in
    let count = c.args.here.count in
    let put = c.put_image in
    made_image c.args.known text at count c.args.here.code c.args.apart c.args.room.now put.new.room here c.in-Some.ensures.0 c.requires.size
    (subst (λ (i : SimpleImage). i.bytes ≢ 0) is c.in-Some.ensures.2)
    (subst (λ (i : SimpleImage). take (at + count) put.new.room ≡ take at c.args.room.now ++ bytes_of count i) is put.ensures.written)
    put.ensures.behind put.ensures.length m

pub returns-clause-made : goal.returns-clause-made
returns-clause-made c = λ text here m.
    made_kept c.args.known text c.args.here.at c.args.here.count c.args.here.code c.args.apart c.args.room.now here c.requires.several
    (c.is_marked_code.ensures c.if-not-is_marked_code.false) m
