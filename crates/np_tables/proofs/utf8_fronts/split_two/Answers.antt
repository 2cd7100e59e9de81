use Rattle.std.proofs.Common.{◌≡◌, ◌+◌, ◌*◌, ◌%◌, ◌++◌, drop, get_or, encode_utf8, sym, ap, subst, ◌∙◌, arith}
use Rattle.std.specs.Str.{IsCharBoundary}
use Rattle.np_versions.proofs.Utf8Lemmas.{begins_with_two}
use Rattle.np_tables.proofs.utf8_fronts.split_two.Goals as goal

pub bounds-bytes-1 : goal.bounds-bytes-1
bounds-bytes-1 c =
    let begins = begins_with_two c.as_bytes-bytes.result.now c.as_bytes-bytes.ensures.utf8 c.if-bytes-ne6.false in
    omega (arith, begins.long)

pub range_from-rest-requires : goal.range_from-rest-requires
range_from-rest-requires c = λ _.
    let begins = begins_with_two c.as_bytes-bytes.result.now c.as_bytes-bytes.ensures.utf8 c.if-bytes-ne6.false in
    subst (λ l. IsCharBoundary l 2) c.as_bytes-bytes.ensures.value begins.cut

pub returns-clause-parts : goal.returns-clause-parts
returns-clause-parts c =
    let bytes = c.as_bytes-bytes.result.now in
    let code = c.from_u32_unchecked-c.result in
    let begins = begins_with_two c.as_bytes-bytes.result.now c.as_bytes-bytes.ensures.utf8 c.if-bytes-ne6.false in
    let same : get_or bytes 0 0 % 32 * 64 + get_or bytes 1 0 % 64 ≡ code = omega (arith, c.from.ensures, c.from-2.ensures, c.from_u32_unchecked-c.ensures) in
    sym c.as_bytes-bytes.ensures.value ∙ begins.parts ∙ ap (λ k. encode_utf8 k ++ drop 2 bytes) same
    ∙ ap (λ l. encode_utf8 code ++ l) (ap (drop 2) c.as_bytes-bytes.ensures.value ∙ sym c.range_from-rest.ensures.value)
