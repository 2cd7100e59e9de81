use Rattle.std.proofs.Common.{◌≡◌, Option, List, ℕ, Some, IfOk, IfErr, sym, ap, ◌∙◌, subst}
use Rattle.np_schedules.specs.inside.LineReading.{Lacks}
use Rattle.np_schedules.proofs.PayloadLemmas.{takes_some, takes_none, no_hex_word, one_hex_word, two_hex_words}
use Rattle.np_schedules.proofs.reading.payloads.bytes_in.Goals as goal

pub returns-in_default-clause-bytes : goal.returns-in_default-clause-bytes
returns-in_default-clause-bytes c = no_hex_word c.args.words c.in_default.ensures.steps.0 ∙ ap Some (sym c.new.ensures.items)

pub returns-then-is_some-clause-refused : goal.returns-then-is_some-clause-refused
returns-then-is_some-clause-refused c =
    let second = takes_some c.next.new.self c.next-2.result c.next-2.new.self c.next-2.ensures.steps (sym c.is_some.ensures ∙ c.if-is_some.true) in
    two_hex_words c.args.words c.in-Some.word.now second.0 c.next.new.self c.next-2.new.self c.in-Some.ensures.steps second.1

pub returns-clause-bytes : goal.returns-clause-bytes
returns-clause-bytes c =
    let alone = takes_none c.next.new.self c.next-2.result c.next-2.new.self c.next-2.ensures.steps (sym c.is_some.ensures ∙ c.if-is_some.false) in
    subst (λ (wanted : Option (List ℕ)). IfOk c.bytes_of.result (λ bytes. wanted ≡ Some bytes.items))
    (sym (one_hex_word c.args.words c.in-Some.word.now c.next.new.self c.in-Some.ensures.steps alone)) c.bytes_of.ensures.bytes

pub returns-clause-refused : goal.returns-clause-refused
returns-clause-refused c =
    let alone = takes_none c.next.new.self c.next-2.result c.next-2.new.self c.next-2.ensures.steps (sym c.is_some.ensures ∙ c.if-is_some.false) in
    subst (λ (wanted : Option (List ℕ)). IfErr c.bytes_of.result (Lacks wanted))
    (sym (one_hex_word c.args.words c.in-Some.word.now c.next.new.self c.in-Some.ensures.steps alone)) c.bytes_of.ensures.refused
