use Rattle.std.proofs.Common.{[], refl, sym, ap, subst}
use Rattle.np_forms.proofs.Words.{class_of, IsStreaming, canonical_order, codes_of, ended}
use Rattle.np_forms.proofs.HeldLemmas.{IsStreaming-start, whole_streams}
use Rattle.np_forms.proofs.streams.Stream.finish.Goals as goal

pub returns-in-Ok-clause-ok : goal.returns-in-Ok-clause-ok
returns-in-Ok-clause-ok g c =
    let form = c.self.inside.form in
    let nothing = ap codes_of c.in-Ok.ensures.nothing in
    rw (← c.self.view_is)
    (record {
      more = ended _ c.composes.result (canonical_order (class_of _) _);
      ready = c.in-Ok.ensures.ok;
      version = refl;
      form = refl;
      nothing = nothing;
      whole = λ fed out s. whole_streams _ c.meets_conditions.ensures form c.composes.result _ fed out c.composes.ensures s;
      begins = subst (IsStreaming _ form [] []) (sym nothing) (IsStreaming-start _ c.meets_conditions.ensures form);
    })
