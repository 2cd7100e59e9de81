use Rattle.std.proofs.Common.{◌≡◌, ℕ, ◌+◌, eqb, count_by, arith, ap, ◌∙◌, sym}
use Rattle.std.proofs.lemmas.List.Splits.{length-slice_split}
use Rattle.std.proofs.lemmas.Bool.Decides.{nat_tests}
use Rattle.np_ucd.specs.inside.FieldReading.{fields_of as parts}
use Rattle.np_ucd.proofs.records.has_nine.Goals as goal

one_more : (n : ℕ) → eqb n 8 ≡ eqb (n + 1) 9
one_more n = grind (arith, nat_tests)

pub returns-else-are_usual : goal.returns-else-are_usual
unfolding parts
returns-else-are_usual c =
    ap (λ n. eqb n 8) c.count.ensures ∙ one_more (count_by (λ b. eqb b 59) c.args.rest.now)
    ∙ ap (λ n. eqb n 9) (sym (length-slice_split (λ b. eqb b 59) c.args.rest.now))
