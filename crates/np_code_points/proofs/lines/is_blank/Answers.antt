use Rattle.std.proofs.lemmas.Bool.{ne_eqb}
use Rattle.np_code_points.proofs.lines.is_blank.Goals as goal

pub returns-else-byte-eq32 : goal.returns-else-byte-eq32
returns-else-byte-eq32 c = rw (ne_eqb _ _ c.if-byte-eq32.false)
