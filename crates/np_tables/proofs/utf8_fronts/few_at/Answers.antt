use Rattle.std.proofs.Common.{◌≡◌, ◌+◌, ◌*◌, ◌%◌, get_or, ap, subst, arith}
use Rattle.np_tables.proofs.Words.{IsScalar}
use Rattle.np_tables.proofs.LeadByteLemmas.{begins_char}
use Rattle.np_versions.proofs.Utf8Lemmas.{BeginsWith, begins_with_three, begins_with_two}
use Rattle.np_tables.proofs.utf8_fronts.few_at.Goals as goal

pub from_u32_unchecked-c-requires : goal.from_u32_unchecked-c-requires
from_u32_unchecked-c-requires c =
    let bytes = c.as_bytes-bytes.result.now in
    let begins = begins_with_three bytes c.as_bytes-bytes.ensures.utf8 (omega (arith, c.from-lead_byte.ensures, c.if-lead_byte-eq14.true)) in
    let same : get_or bytes 0 0 % 16 * 4096 + get_or bytes 1 0 % 64 * 64 + get_or bytes 2 0 % 64 ≡ c.from-lead_byte.result % 16 * 4096 + c.from-second.result * 64 + c.from.result = omega (arith, c.from-lead_byte.ensures, c.from-second.ensures, c.from.ensures) in
    subst IsScalar same begins.scalar

pub returns-then-lead_byte-eq14 : goal.returns-then-lead_byte-eq14
returns-then-lead_byte-eq14 c =
    let bytes = c.as_bytes-bytes.result.now in
    let code = c.from_u32_unchecked-c.result in
    let begins = begins_with_three bytes c.as_bytes-bytes.ensures.utf8 (omega (arith, c.from-lead_byte.ensures, c.if-lead_byte-eq14.true)) in
    let same : get_or bytes 0 0 % 16 * 4096 + get_or bytes 1 0 % 64 * 64 + get_or bytes 2 0 % 64 ≡ code = omega (arith, c.from-lead_byte.ensures, c.from-second.ensures, c.from.ensures, c.from_u32_unchecked-c.ensures) in
    begins_char c.args.text.now 3 code (omega arith) (omega arith) (subst (λ l. BeginsWith l 3 code) c.as_bytes-bytes.ensures.value (subst (BeginsWith bytes 3) same begins))

-- its first byte is from C0 to DF
pub returns : goal.returns
returns c =
    let bytes = c.as_bytes-bytes.result.now in
    let code = c.from_u32_unchecked-c-2.result in
    let first : get_or bytes 0 0 ≡ get_or c.args.text.now 0 0 = ap (λ l. get_or l 0 0) c.as_bytes-bytes.ensures.value in
    let byte = c.from-lead_byte.ensures in
    let three = c.if-lead_byte-eq14.false in
    let four = c.if-lead_byte-eq15.false in
    let begins = begins_with_two bytes c.as_bytes-bytes.ensures.utf8 (grind (arith, byte, first, c.requires.lead_byte, three, four)) in
    let same : get_or bytes 0 0 % 32 * 64 + get_or bytes 1 0 % 64 ≡ code = omega (arith, byte, c.from-second.ensures, c.from_u32_unchecked-c-2.ensures) in
    begins_char c.args.text.now 2 code (omega arith) (omega arith) (subst (λ l. BeginsWith l 2 code) c.as_bytes-bytes.ensures.value (subst (BeginsWith bytes 2) same begins))
