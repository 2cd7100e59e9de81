use Rattle.std.proofs.Common.{◌<◌, get_or, subst, arith}
use Rattle.np_caseless.proofs.CharacterLemmas.{encoded_two, inside_low, several_bytes}
use Rattle.np_caseless.proofs.MadeLemmas.{if_some}
use Rattle.np_caseless.proofs.simple_texts.make_at.Goals as goal

pub make-requires-else-lead_byte-eq14-clause-within : goal.make-requires-else-lead_byte-eq14-clause-within
make-requires-else-lead_byte-eq14-clause-within c = λ few.
    let here = c.in_ok-char_at.field-0 in
    omega (arith, encoded_two here.code (omega (arith, few, c.in_ok-char_at.ensures.here.size)))

pub make-requires-else-lead_byte-eq14-clause-several : goal.make-requires-else-lead_byte-eq14-clause-several
make-requires-else-lead_byte-eq14-clause-several c =
    let here = c.in_ok-char_at.field-0 in
    let text = c.args.text.now in
    several_bytes text c.args.front.count here.count here.code c.in_ok-char_at.ensures.here (omega (arith, c.requires.lead_byte))

pub returns-in_ok-char_at-clause-later : goal.returns-in_ok-char_at-clause-later
returns-in_ok-char_at-clause-later c =
    let here = c.in_ok-char_at.field-0 in
    let text = c.args.text.now in
    let several = several_bytes text c.args.front.count here.count here.code c.in_ok-char_at.ensures.here (omega (arith, c.requires.lead_byte)) in
    if_some c.make-else-lead_byte-eq14.result (λ made is. omega (arith, is, several, c.in_ok-char_at.ensures.place)) c.make-else-lead_byte-eq14.ensures.count

pub returns-then-lead_byte-eq6-clause-inside : goal.returns-then-lead_byte-eq6-clause-inside
returns-then-lead_byte-eq6-clause-inside c =
    let bytes = c.as_bytes-bytes in
    let low = inside_low bytes.result.now c.args.front.count 2 c.two_at.result.code c.two_at.ensures.here in
    if_some c.make.result
    (λ made is j more less.
    subst (λ l. get_or l j 0 < 192) bytes.ensures.value (low j more (omega (arith, less, is, c.two_at.ensures.count, c.two_at.ensures.place))))
    c.make.ensures.count

pub returns-then-lead_byte-eq14-clause-inside : goal.returns-then-lead_byte-eq14-clause-inside
returns-then-lead_byte-eq14-clause-inside c =
    let bytes = c.as_bytes-bytes in
    let low = inside_low bytes.result.now c.args.front.count 3 c.three_at.result.code c.three_at.ensures.here in
    if_some c.make-then-lead_byte-eq14.result
    (λ made is j more less.
    subst (λ l. get_or l j 0 < 192) bytes.ensures.value (low j more (omega (arith, less, is, c.three_at.ensures.count, c.three_at.ensures.place))))
    c.make-then-lead_byte-eq14.ensures.count

pub returns-in_ok-char_at-clause-inside : goal.returns-in_ok-char_at-clause-inside
returns-in_ok-char_at-clause-inside c =
    let here = c.in_ok-char_at.field-0 in
    let low = inside_low c.args.text.now c.args.front.count here.count here.code c.in_ok-char_at.ensures.here in
    if_some c.make-else-lead_byte-eq14.result (λ made is j more less. low j more (omega (arith, less, is, c.in_ok-char_at.ensures.place)))
    c.make-else-lead_byte-eq14.ensures.count
