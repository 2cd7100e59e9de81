use Rattle.std.proofs.Common.{ap, rules, sym, ◌∙◌}
use Rattle.std.proofs.lemmas.Bool.{false≢true}
use Rattle.clap.specs.declared.error.kind.ErrorKind.{ErrorKind}
use Rattle.clap.specs.contracts.error.kind.ErrorKind.{the_type}
use denote.Enum.Bare.{same_true, sameb}
use Rattle.np_words.proofs.faults.fault_from.Goals as goal

pub returns-then-eq-clause-memory : goal.returns-then-eq-clause-memory
returns-then-eq-clause-memory c = λ _. sym c.kind.ensures ∙ same_true the_type (search rules) _ _ (sym c.if-eq.ensures)

pub returns-else-eq-clause-usage : goal.returns-else-eq-clause-usage
returns-else-eq-clause-usage c = λ _ is.
    false≢true (c.if-eq.ensures ∙ ap (λ (k : ErrorKind). sameb the_type k ErrorKind.OutOfMemory) (c.kind.ensures ∙ is))
