use Rattle.std.proofs.Common.{ℕ, [], ◌∷◌, ap, arith}
use Rattle.np_node.proofs.FieldLemmas.{length-number_bytes}
use Rattle.np_node.proofs.ImageWriting.{written-head}
use Rattle.np_node.proofs.WritingLemmas.{written-as}
use Rattle.np_node.proofs.images.put_head.Goals as goal

pub put_number-requires : goal.put_number-requires
put_number-requires c =
    omega (
      arith,
      c.requires,
      c.put_bytes-named.ensures.place,
      c.put_bytes-named.ensures.size,
      c.put_bytes-formed.ensures.place,
      c.put_bytes-formed.ensures.size,
      c.put_number-needed.ensures.place,
      c.put_number-needed.ensures.size,
      length-number_bytes c.args.needs,
    )

pub returns : goal.returns
returns c =
    written-head _ _ _ _ _ _ _ _ _ _ c.args.needs c.args.form c.args.count c.put_bytes-named.ensures
    (written-as _ _ _ _ _ _ (ap (λ (b : ℕ). b ∷ []) c.byte.ensures) c.put_bytes-formed.ensures) c.put_number-needed.ensures c.put_number.ensures
