use Rattle.std.proofs.Common.{length, sym, ◌∙◌}
use Rattle.std.proofs.lemmas.Bool.{eqb-true}
use Rattle.np_caseless.proofs.MarkLemmas.{all_marked}
use Rattle.np_caseless.proofs.marks.are_marked.Goals as goal

pub returns : goal.returns
returns c = λ yes.
    let rest = c.behind_marked.result.now in
    all_marked c.args.own.now c.args.text.now rest (eqb-true (length rest) 0 (sym c.is_empty.ensures ∙ yes)) c.behind_marked.ensures
