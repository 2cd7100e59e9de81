use Rattle.std.proofs.Common.{◌≡◌, ℕ, true, List, length, take, sym, ◌∙◌, arith}
use Rattle.std.proofs.lemmas.List.{take_all}
use Rattle.std.specs.Cmp.Lexicographic.{pointwise, same_text}
use Rattle.std.specs.Prelude.{nat_eq}
use Rattle.np_ucd.proofs.records.is_text.Goals as goal

same : (xs wanted : List ℕ) → length xs ≡ length wanted → true ≡ pointwise nat_eq wanted (take (length wanted) xs) → xs ≡ wanted
same xs wanted long begins =
    sym (same_text wanted (take (length wanted) xs) begins ∙ take_all (length wanted) xs (omega (arith, long)))

pub returns-then-text-wanted : goal.returns-then-text-wanted
returns-then-text-wanted c = λ h. same c.args.text.now c.args.wanted.now c.if-text-wanted.true (sym h ∙ c.starts_with.ensures.value)
