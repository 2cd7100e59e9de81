use Rattle.std.proofs.Common.{[], ap, subst, sym, ◌∙◌}
use Rattle.np_forms.proofs.Words.{IsStreaming, StreamState, codes_of}
use Rattle.np_forms.proofs.HeldLemmas.{IsStreaming-start}
use Rattle.np_forms.proofs.streams.Stream.new.Goals as goal

pub returns-clause-begins : goal.returns-clause-begins
returns-clause-begins g c =
    let nothing = ap (λ (s : StreamState). s.pending) c.of_pending.ensures ∙ ap codes_of c.new.ensures.items in
    subst (IsStreaming _ c.args.form [] []) (sym nothing) (IsStreaming-start _ c.meets_conditions.ensures c.args.form)
