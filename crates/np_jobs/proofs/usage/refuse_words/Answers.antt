use Rattle.std.proofs.Common.{rules, sym, ap, ◌∙◌}
use Rattle.std.proofs.lemmas.Bool.{false≢true}
use Rattle.std.specs.declared.io.ErrorKind.{ErrorKind}
use Rattle.std.specs.contracts.io.ErrorKind.{the_type}
use denote.Enum.Bare.{sameb, same_true}
use Rattle.np_jobs.proofs.usage.refuse_words.Goals as goal

pub returns-then-eq-clause-told : goal.returns-then-eq-clause-told
returns-then-eq-clause-told g c = λ ne. absurd (ne (sym c.kind.ensures ∙ same_true the_type (search rules) _ _ (sym c.if-eq.ensures)))

pub returns-then-eq-clause-status : goal.returns-then-eq-clause-status
returns-then-eq-clause-status g c = λ ne. absurd (ne (sym c.kind.ensures ∙ same_true the_type (search rules) _ _ (sym c.if-eq.ensures)))

pub returns-else-eq-clause-memory : goal.returns-else-eq-clause-memory
returns-else-eq-clause-memory g c = λ is.
    absurd (false≢true (c.if-eq.ensures ∙ ap (λ (k : ErrorKind). sameb the_type k ErrorKind.OutOfMemory) (c.kind.ensures ∙ is)))
