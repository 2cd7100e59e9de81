use Rattle.std.proofs.Common.{◌≡◌, ◌+◌, ◌*◌, ◌%◌, ◌++◌, drop, get_or, encode_utf8, sym, ap, subst, ◌∙◌, arith}
use Rattle.np_tables.proofs.Words.{IsScalar, IsCharBoundary}
use Rattle.np_versions.proofs.Utf8Lemmas.{begins_with_three}
use Rattle.np_tables.proofs.utf8_fronts.split_three.Goals as goal

pub bounds-bytes-1 : goal.bounds-bytes-1
bounds-bytes-1 c =
    let begins = begins_with_three c.as_bytes-bytes.result.now c.as_bytes-bytes.ensures.utf8 c.if-bytes-ne14.false in
    omega (arith, begins.long)

pub bounds-bytes-2 : goal.bounds-bytes-2
bounds-bytes-2 c =
    let begins = begins_with_three c.as_bytes-bytes.result.now c.as_bytes-bytes.ensures.utf8 c.if-bytes-ne14.false in
    omega (arith, begins.long)

pub from_u32_unchecked-c-requires : goal.from_u32_unchecked-c-requires
from_u32_unchecked-c-requires c =
    let bytes = c.as_bytes-bytes.result.now in
    let begins = begins_with_three c.as_bytes-bytes.result.now c.as_bytes-bytes.ensures.utf8 c.if-bytes-ne14.false in
    let same : get_or bytes 0 0 % 16 * 4096 + get_or bytes 1 0 % 64 * 64 + get_or bytes 2 0 % 64 ≡ c.from.result * 4096 + c.from-2.result * 64 + c.from-3.result = omega (arith, c.from.ensures, c.from-2.ensures, c.from-3.ensures) in
    subst IsScalar same begins.scalar

pub range_from-rest-requires : goal.range_from-rest-requires
range_from-rest-requires c = λ _.
    let begins = begins_with_three c.as_bytes-bytes.result.now c.as_bytes-bytes.ensures.utf8 c.if-bytes-ne14.false in
    subst (λ l. IsCharBoundary l 3) c.as_bytes-bytes.ensures.value begins.cut

pub returns-clause-parts : goal.returns-clause-parts
returns-clause-parts c =
    let bytes = c.as_bytes-bytes.result.now in
    let code = c.from_u32_unchecked-c.result in
    let begins = begins_with_three c.as_bytes-bytes.result.now c.as_bytes-bytes.ensures.utf8 c.if-bytes-ne14.false in
    let same : get_or bytes 0 0 % 16 * 4096 + get_or bytes 1 0 % 64 * 64 + get_or bytes 2 0 % 64 ≡ code = omega (arith, c.from.ensures, c.from-2.ensures, c.from-3.ensures, c.from_u32_unchecked-c.ensures) in
    sym c.as_bytes-bytes.ensures.value ∙ begins.parts ∙ ap (λ k. encode_utf8 k ++ drop 3 bytes) same
    ∙ ap (λ l. encode_utf8 code ++ l) (ap (drop 3) c.as_bytes-bytes.ensures.value ∙ sym c.range_from-rest.ensures.value)
