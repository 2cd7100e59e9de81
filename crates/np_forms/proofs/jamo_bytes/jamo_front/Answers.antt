use Rattle.std.proofs.Common.{arith}
use Rattle.np_forms.proofs.SyllableTextLemmas.{front_two, front_three}
use Rattle.np_forms.proofs.jamo_bytes.jamo_front.Goals as goal

pub returns-then-trailing-eq0-clause-encoded : goal.returns-then-trailing-eq0-clause-encoded
returns-then-trailing-eq0-clause-encoded c =
    front_two c.args.bytes.now c.in_ok-leading.leading c.in_ok-vowel.vowel _ c.requires c.in_ok-leading.ensures.among c.in_ok-vowel.ensures.among
    c.trailing_index-trailing.ensures.among c.in_ok-leading.ensures.encoded c.in_ok-vowel.ensures.encoded c.if-trailing-eq0.true

pub returns-clause-encoded : goal.returns-clause-encoded
returns-clause-encoded c =
    front_three c.args.bytes.now c.in_ok-leading.leading c.in_ok-vowel.vowel _ c.requires c.in_ok-leading.ensures.among c.in_ok-vowel.ensures.among
    c.trailing_index-trailing.ensures.among c.in_ok-leading.ensures.encoded c.in_ok-vowel.ensures.encoded c.if-trailing-eq0.false
    (c.trailing_index-trailing.ensures.encoded (omega (arith, c.if-trailing-eq0.false)))
