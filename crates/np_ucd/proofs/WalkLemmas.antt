-- How a file's lines are read one after another, whatever they say.
use Rattle.std.proofs.Common.{◌≡◌, List, ◌++◌, Option, Some, Result, Ok, Err, IfErr, sym, ap, ◌∙◌, inl, inr, ⊎_elim}
use Rattle.std.proofs.lemmas.List.{append_assoc}
use Rattle.np_ucd.specs.Tests.{UcdFault}
use Rattle.np_ucd.specs.inside.RecordValues.{IsMemoryOr}

-- what one more line adds stands behind what is there, and in front of what is left
pub grown_next : {A : Type 0} {total grown rest : List A} (done added more : List A) → done ++ rest ≡ total → rest ≡ added ++ more → grown ≡ done ++ added → grown ++ more ≡ total
grown_next done added more h cut grows =
    ap (λ xs. xs ++ more) grows ∙ append_assoc done added more ∙ ap (λ xs. done ++ xs) (sym cut) ∙ h

-- the fault of a line in front of which none has any is the file's
pub memory_or_first : {T : Type 0} (here first : Option UcdFault) (result : Result T UcdFault) → ((e : UcdFault) → here ≡ Some e → first ≡ Some e) → IfErr result (λ e. IsMemoryOr here e) → IfErr result (λ e. IsMemoryOr first e)
memory_or_first here first (Ok x) is h = tt
memory_or_first here first (Err e) is h = ⊎_elim (λ m. inl m) (λ same. inr (is e same)) h
