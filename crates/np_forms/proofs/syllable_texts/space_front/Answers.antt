use Rattle.std.proofs.Common.{arith}
use Rattle.np_forms.proofs.syllable_texts.space_front.Goals as goal

pub returns-then-is_ascii-clause-alone : goal.returns-then-is_ascii-clause-alone
returns-then-is_ascii-clause-alone g c = c.requires c.if-not-ascii.false c.in_ok-c.c (grind (arith, c.is_ascii.ensures, c.if-is_ascii.true))
