use Rattle.std.proofs.Common.{sym, subst}
use Rattle.np_tables.proofs.Words.{AreRowBits}
use Rattle.np_tables.proofs.PageLemmas.{bits-mapped}
use Rattle.np_tables.proofs.page_bits.mapped_bits.Goals as goal

pub returns : goal.returns
returns c =
    subst (AreRowBits _ _) (sym c.eight_bits.ensures)
    (bits-mapped _ _ c.kind_hints-canonical.result c.kind_hints-compatible.result c.requires.row c.requires.mapped c.kind_hints-canonical.ensures c.kind_hints-compatible.ensures)
