use Rattle.std.proofs.Common.{OnOk, sym, ap, subst, ◌∙◌}
use Rattle.np_forms.proofs.Words.{on_ok_weaker, StreamState, codes_of, Breaks}
use Rattle.np_forms.proofs.WrittenLemmas.{Breaks-settled}
use Rattle.np_forms.proofs.streams.Stream.finish_into.Goals as goal
use Rattle.np_forms.proofs.streams.Stream.finish_into.Goals.{in-Ok, in-Err}

pub returns : goal.returns
returns g c =
    let v = g.T.NormTable.model c.self.inside.table.now in
    let form = c.self.inside.form in
    let before = c.args.out.now in
    let pending = codes_of c.self.inside.held.pending.items in
    let ready = c.self.inside.held.ready.items in
    let left = codes_of c.clear.new.self.items in
    let empty = ap (λ (s : StreamState). s.ready) c.self.view_is ∙ c.requires in
    rw (← c.self.view_is)
    (elim c.match-ordered.branch [
      | in-Ok w ↦
          subst (λ r. OnOk r (Breaks (record { version = v; form = form; ready = ready; pending = pending }) (record { version = v; form = form; ready = ready; pending = left }) before c.match-ordered.out)) (sym w.written-is)
          (on_ok_weaker w.append_codes-written.result
          (λ grown.
          subst (Breaks (record { version = v; form = form; ready = ready; pending = pending }) (record { version = v; form = form; ready = ready; pending = left }) before) (sym w.out-is)
          (Breaks-settled v c.meets_conditions.ensures form c.composes.result pending ready left before _ _ c.composes.ensures empty (ap codes_of c.clear.ensures.items)
          (ap codes_of w.deref.ensures.value ∙ w.in-Ok.ensures pending c.self.invariant) grown))
          w.append_codes-written.ensures)
      | in-Err w ↦ subst (λ r. OnOk r (Breaks (record { version = v; form = form; ready = ready; pending = pending }) (record { version = v; form = form; ready = ready; pending = left }) before c.match-ordered.out)) (sym w.written-is) tt
    ])
