use Rattle.std.proofs.Common.{◌∙◌, sym, subst, arith}
use Rattle.np_tables.proofs.Words.{AreRowBits}
use Rattle.np_tables.proofs.PageLemmas.{bits-bare, bits-syllables}
use Rattle.np_tables.proofs.page_bits.bare_bits.Goals as goal

pub returns-then-not-touches : goal.returns-then-not-touches
returns-then-not-touches c =
    let v = c.args.version.now in
    subst (AreRowBits v _) (sym c.eight_bits.ensures) (bits-bare v _ c.leading_hints-known.result c.requires.bare (sym c.touches.ensures ∙ c.if-not-touches.true) (λ compat code found final. c.leading_hints-known.ensures v compat code (c.requires.own compat code found final)))

pub returns-then-row-le55203 : goal.returns-then-row-le55203
returns-then-row-le55203 c =
    subst (AreRowBits _ _) (sym c.eight_bits-then-row-le55203.ensures)
    (bits-syllables _ _ c.meets_conditions.ensures (sym c.has_hangul.ensures ∙ c.if-has_hangul.true) (c.requires.leading_consonants c.if-leading_never_second.true) (omega arith) (omega arith))
