use Rattle.std.proofs.Common.{rules}
use Rattle.np_node.proofs.ReadingLemmas.{passes-number}
use Rattle.np_node.proofs.fields.Fields.number.Goals as goal

pub returns-clause-some : goal.returns-clause-some
returns-clause-some c =
    let bytes = c.in_ok-bytes.ensures.some in
    (passes-number _ _ c.in_ok-bytes.bytes.now c.from_be_bytes.result bytes.0 bytes.1 (search rules) (search rules) (search rules) (search rules) c.from_be_bytes.ensures, c.from_be_bytes.type_inv)
