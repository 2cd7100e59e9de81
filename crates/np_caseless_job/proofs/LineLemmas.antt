-- The lines on folding files, written from left to right.
use Rattle.std.proofs.Common.{◌≡◌, ℕ, List, ◌++◌, Some, None, codes, ap, sym, ◌∙◌, append_assoc}
use Rattle.std.specs.Fmt.{decimal}
use Rattle.np_foldings.specs.Faults.{line_of, name_of}
use Rattle.np_foldings.specs.declared.faults.FoldingFault.{FoldingFault}
use Rattle.np_jobs.specs.Tellings.{line_head, version_head}
use Rattle.np_caseless_job.specs.Tellings.{folding_line}

behind_head : (version : ℕ) (rest : List ℕ)
    → version_head version (codes "folding") ++ rest ≡ codes "version " ++ (decimal version ++ (codes " folding: " ++ rest))
behind_head version rest = ap (λ l. codes "version " ++ l) (append_assoc (decimal version) (codes " folding: ") rest)

pub with_line : (version line : ℕ) (name : List ℕ) (fault : FoldingFault) → Some line ≡ line_of fault → name ≡ name_of fault
    → codes "version " ++ (decimal version ++ (codes " folding: line " ++ (decimal line ++ (codes ": " ++ (name ++ codes "\n"))))) ≡ folding_line version fault
with_line version line name fault line_is name_is =
    ap (λ l. codes "version " ++ (decimal version ++ (codes " folding: line " ++ l))) (sym (append_assoc (decimal line) (codes ": ") (name ++ codes "\n")))
    ∙ sym (behind_head version (line_head (Some line) ++ (name ++ codes "\n")))
    ∙ ap (λ l. version_head version (codes "folding") ++ (line_head l ++ (name ++ codes "\n"))) line_is
    ∙ ap (λ l. version_head version (codes "folding") ++ (line_head (line_of fault) ++ (l ++ codes "\n"))) name_is

pub without_line : (version : ℕ) (name : List ℕ) (fault : FoldingFault) → None ≡ line_of fault → name ≡ name_of fault
    → codes "version " ++ (decimal version ++ (codes " folding: " ++ (name ++ codes "\n"))) ≡ folding_line version fault
without_line version name fault line_is name_is =
    sym (behind_head version (name ++ codes "\n"))
    ∙ ap (λ l. version_head version (codes "folding") ++ (line_head l ++ (name ++ codes "\n"))) line_is
    ∙ ap (λ l. version_head version (codes "folding") ++ (line_head (line_of fault) ++ (l ++ codes "\n"))) name_is
