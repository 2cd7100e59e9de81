use Rattle.std.proofs.Common.{◌≡◌, ℕ, List, [], length, take, refl, sym, subst}
use Rattle.std.specs.Prelude.{codes}
use Rattle.np_ucd.specs.inside.FieldReading.{fields_of as parts}
use Rattle.np_ucd.specs.inside.RecordReading.{field}
use Rattle.np_ucd.proofs.records.class_and_mapping.Goals as goal

abbrev AreCut : List ℕ → Type 0
AreCut xs = (length (parts xs) ≡ 12) × (take 1 xs ≡ field 0 xs) × ([] ≡ field 2 xs)

usual : AreCut (codes "0;L;;;;;N;;;;;")
unfolding field parts
usual = (refl, refl, refl)

pub returns-then-is_text : goal.returns-then-is_text
returns-then-is_text c = subst AreCut (sym (c.if-is_text.ensures refl)) usual
