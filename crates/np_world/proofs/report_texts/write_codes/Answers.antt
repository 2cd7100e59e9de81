use Rattle.std.proofs.Common.{◌++◌, ap, sym, ◌∙◌, string_bytes, map-id}
use Rattle.std.proofs.lemmas.Iterator.{YieldsList-from_chars}
use Rattle.std.proofs.lemmas.Iterator.Consumers.{YieldsList-end}
use Rattle.np_code_points.specs.Codes.{code_digits}
use Rattle.np_code_points.proofs.Bytes.{behind}
use Rattle.np_world.specs.ReportTexts.{codes_text}
use Rattle.np_world.specs.inside.ReportWriting.{gap, joined_codes}
use Rattle.np_world.proofs.ReportTextLemmas.{codes_end, codes_whole, joined_more, more_is_something}
use Rattle.np_world.proofs.report_texts.write_codes.Goals as goal

pub loop-code-preserved : goal.loop-code-preserved
loop-code-preserved c =
    let old = string_bytes c.args.out.now in
    let done = c.loop-code.yielded in (
      behind _ _ _ c.loop-code.invariant.0 c.in_ok-write_next.ensures
          ∙ ap (λ first. old ++ (joined_codes done ++ (gap first ++ code_digits c.in-Some.code))) c.loop-code.invariant.1
          ∙ ap (λ l. old ++ l) (sym (joined_more done c.in-Some.code)),
      sym (more_is_something done c.in-Some.code),
    )

pub returns-in_ok-push_str : goal.returns-in_ok-push_str
returns-in_ok-push_str c =
    let done = c.loop-code.yielded in
    let all = YieldsList-end (YieldsList-from_chars c.args.text.now c.utf8.text cc) done _ c.loop-code.yielded_by _ _ c.in-None.is c.next.ensures.steps in
    behind _ _ _ c.loop-code.invariant.0 c.in_ok-push_str.ensures.bytes
    ∙ ap (λ l. string_bytes c.args.out.now ++ l) (codes_end done (sym c.loop-code.invariant.1 ∙ c.if-is_first.true) ∙ ap codes_text (sym (map-id done) ∙ all.0))

pub returns-else-is_first : goal.returns-else-is_first
returns-else-is_first c =
    let done = c.loop-code.yielded in
    let all = YieldsList-end (YieldsList-from_chars c.args.text.now c.utf8.text cc) done _ c.loop-code.yielded_by _ _ c.in-None.is c.next.ensures.steps in
    c.loop-code.invariant.0
    ∙ ap (λ l. string_bytes c.args.out.now ++ l) (codes_whole done (sym c.loop-code.invariant.1 ∙ c.if-is_first.false) ∙ ap codes_text (sym (map-id done) ∙ all.0))
