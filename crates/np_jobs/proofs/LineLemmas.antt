-- The lines on versions, written from left to right.
use Rattle.std.proofs.Common.{◌≡◌, ℕ, List, ◌++◌, Some, None, codes, ap, sym, ◌∙◌, append_assoc}
use Rattle.std.specs.Fmt.{decimal}
use Rattle.np_ucd.specs.Faults.{line_of, name_of}
use Rattle.np_ucd.specs.declared.faults.UcdFault.{UcdFault}
use Rattle.np_jobs.specs.Tellings.{file_line, line_head, version_head}

behind_head : (version : ℕ) (what rest : List ℕ)
    → version_head version what ++ rest ≡ codes "version " ++ (decimal version ++ (codes " " ++ (what ++ (codes ": " ++ rest))))
behind_head version what rest =
    ap (λ l. codes "version " ++ l)
    (append_assoc (decimal version) (codes " " ++ (what ++ codes ": ")) rest
    ∙ ap (λ l. decimal version ++ (codes " " ++ l)) (append_assoc what (codes ": ") rest))

pub with_line : (version line : ℕ) (what name : List ℕ) (fault : UcdFault) → Some line ≡ line_of fault → name ≡ name_of fault
    → codes "version " ++ (decimal version ++ (codes " " ++ (what ++ (codes ": line " ++ (decimal line ++ (codes ": " ++ (name ++ codes "\n")))))))
    ≡ file_line version what fault
with_line version line what name fault line_is name_is =
    ap (λ l. codes "version " ++ (decimal version ++ (codes " " ++ (what ++ (codes ": line " ++ l)))))
    (sym (append_assoc (decimal line) (codes ": ") (name ++ codes "\n")))
    ∙ sym (behind_head version what (line_head (Some line) ++ (name ++ codes "\n")))
    ∙ ap (λ l. version_head version what ++ (line_head l ++ (name ++ codes "\n"))) line_is
    ∙ ap (λ l. version_head version what ++ (line_head (line_of fault) ++ (l ++ codes "\n"))) name_is

pub without_line : (version : ℕ) (what name : List ℕ) (fault : UcdFault) → None ≡ line_of fault → name ≡ name_of fault
    → codes "version " ++ (decimal version ++ (codes " " ++ (what ++ (codes ": " ++ (name ++ codes "\n"))))) ≡ file_line version what fault
without_line version what name fault line_is name_is =
    sym (behind_head version what (name ++ codes "\n"))
    ∙ ap (λ l. version_head version what ++ (line_head l ++ (name ++ codes "\n"))) line_is
    ∙ ap (λ l. version_head version what ++ (line_head (line_of fault) ++ (l ++ codes "\n"))) name_is
