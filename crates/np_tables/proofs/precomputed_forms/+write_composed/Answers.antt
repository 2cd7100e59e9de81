use Rattle.std.proofs.Common.{length, string_bytes, IsTrue, sym, ap, ◌∙◌}
use Rattle.np_tables.proofs.Words.{slice_range, class_of, ComposesOn, Writes}
use Rattle.std.proofs.lemmas.Result.{IfOk-weaker}
use Rattle.np_tables.proofs.PrecomputedFormLemmas.{composes-end, composes-starts}
use Rattle.np_tables.proofs.precomputed_forms.+write_composed.Goals as goal

pub returns-in_ok-push-in-empty : goal.returns-in_ok-push-in-empty
returns-in_ok-push-in-empty t c = λ _. composes-end c.args.version.now c.args.last_starter.c c.args.last_starter.last c.args.rest.now _ _ c.in-empty.len_below c.in_ok-push-in-empty.ensures.bytes

pub returns-in_ok-push-in-None : goal.returns-in_ok-push-in-None
returns-in_ok-push-in-None t c =
    let v = c.args.version.now in
    let next = c.next-item.result in
    let rest = c.args.rest.now in
    let starter = sym (c.class_of-class.ensures ∙ ap (class_of v) c.from.ensures) ∙ c.if-class-ne0-2.false in
    IfOk-weaker c.write_composed-in-None.result
    (λ known. IsTrue known → Writes (ComposesOn v next 0 (slice_range rest 1 (length rest))) (string_bytes c.push-in-None.new.self) (string_bytes c.write_composed-in-None.new.text))
    (λ known. IsTrue known → Writes (ComposesOn v c.args.last_starter.c c.args.last_starter.last rest) (string_bytes c.args.text.now) (string_bytes c.write_composed-in-None.new.text))
    (λ known later is. composes-starts v c.args.last_starter.c c.args.last_starter.last next rest _ _ _ c.in-len1-up.len_at_least c.next-item.is starter (sym c.composite_of.ensures ∙ c.in-None.is) c.in_ok-push-in-None.ensures.bytes (later is))
    c.write_composed-in-None.ensures
