use Rattle.std.proofs.Common.{take, drop, sym, ◌∙◌}
use Rattle.std.proofs.lemmas.List.{take-append-drop}
use Rattle.np_forms.proofs.runs.write_text_out.Goals as goal

pub returns-in_default-clause-err : goal.returns-in_default-clause-err
returns-in_default-clause-err g c =
    let w = c.in_default.ensures.err in
    (take w.0 _, (drop w.0 _, sym c.as_bytes.ensures ∙ sym (take-append-drop w.0 _), w.2))
