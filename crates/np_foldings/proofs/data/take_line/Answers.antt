use Rattle.std.proofs.Common.{map, Ok, rules, sym, ap, ◌∙◌, ◌++◌}
use Rattle.std.proofs.lemmas.List.{map_push, append-nil}
use Rattle.np_foldings.specs.FoldingValues.{folding_of}
use Rattle.np_foldings.specs.inside.RecordValues.{record_of, listed}
use Rattle.np_foldings.proofs.FileLemmas.{nothing_behind, nothing_added, record_behind, record_added, record_faults}
use Rattle.np_foldings.proofs.TestGrammar.{judged_fine}
use Rattle.np_foldings.proofs.data.take_line.Goals as goal

pub returns-then-is_empty-clause-next : goal.returns-then-is_empty-clause-next
returns-then-is_empty-clause-next c =
    nothing_behind c.args.before c.args.line.number c.args.line.text.now c.text_of-text.result.now c.text_of-text.ensures (sym c.is_empty.ensures ∙ c.if-is_empty.true)

pub returns-then-is_empty-clause-grown : goal.returns-then-is_empty-clause-grown
returns-then-is_empty-clause-grown c =
    nothing_added c.args.before c.args.line.number c.args.line.text.now c.text_of-text.result.now c.text_of-text.ensures (sym c.is_empty.ensures ∙ c.if-is_empty.true)
    (map folding_of c.args.foldings.now.items)

pub returns-in_err-record-clause-fault : goal.returns-in_err-record-clause-fault
returns-in_err-record-clause-fault c =
    record_faults c.args.before c.args.line.number c.args.line.text.now c.text_of-text.result.now c.text_of-text.ensures (sym c.is_empty.ensures ∙ c.if-is_empty.false)
    c.from_residual.result (search rules)

pub folding_in-requires : goal.folding_in-requires
folding_in-requires c =
    (judged_fine c.args.before c.text_of-text.result.now (record_of c.in_ok-record.record) c.in_ok-record.ensures.ok).scalar_code

pub returns-in_ok-push-clause-next : goal.returns-in_ok-push-clause-next
returns-in_ok-push-clause-next c =
    record_behind c.args.before c.args.line.number c.args.line.text.now c.text_of-text.result.now c.text_of-text.ensures (sym c.is_empty.ensures ∙ c.if-is_empty.false)
    (record_of c.in_ok-record.record) c.in_ok-record.ensures.ok

pub returns-in_ok-push-clause-grown : goal.returns-in_ok-push-clause-grown
returns-in_ok-push-clause-grown c =
    let done = map folding_of c.args.foldings.now.items in
    let r = record_of c.in_ok-record.record in
    let folding = folding_of c.in-Some.folding in
    record_added c.args.before c.args.line.number c.args.line.text.now c.text_of-text.result.now c.text_of-text.ensures (sym c.is_empty.ensures ∙ c.if-is_empty.false)
    r c.in_ok-record.ensures.ok done
    ∙ ap (λ xs. Ok (done ++ xs)) (sym c.folding_in.ensures ∙ ap listed c.in-Some.is)
    ∙ ap Ok (sym (ap (map folding_of) c.in_ok-push.ensures.items ∙ map_push folding_of c.args.foldings.now.items c.in-Some.folding))

pub returns-in_default-clause-next : goal.returns-in_default-clause-next
returns-in_default-clause-next c =
    record_behind c.args.before c.args.line.number c.args.line.text.now c.text_of-text.result.now c.text_of-text.ensures (sym c.is_empty.ensures ∙ c.if-is_empty.false)
    (record_of c.in_ok-record.record) c.in_ok-record.ensures.ok

pub returns-in_default-clause-grown : goal.returns-in_default-clause-grown
returns-in_default-clause-grown c =
    let done = map folding_of c.args.foldings.now.items in
    let r = record_of c.in_ok-record.record in
    record_added c.args.before c.args.line.number c.args.line.text.now c.text_of-text.result.now c.text_of-text.ensures (sym c.is_empty.ensures ∙ c.if-is_empty.false)
    r c.in_ok-record.ensures.ok done
    ∙ ap (λ xs. Ok (done ++ xs)) (sym c.folding_in.ensures ∙ ap listed c.in_default.is)
    ∙ ap Ok (append-nil done)
