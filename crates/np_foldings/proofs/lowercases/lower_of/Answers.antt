use Rattle.std.proofs.Common.{Some, None, refl, sym, ap, ◌∙◌}
use Rattle.np_code_points.specs.Codes.{code_value}
use Rattle.np_code_points.specs.declared.words.Dividers.TheVariants.{Spaces}
use Rattle.np_code_points.specs.inside.WordCuts.{words_of}
use Rattle.np_ucd.specs.inside.FieldReading.{opens_range, closes_range}
use Rattle.np_foldings.specs.inside.LowercaseReading.{word_code, listed_lower}
use Rattle.np_foldings.proofs.LowercaseGrammar.{said_opening, said_closing, said_no_lower, said_pair}
use Rattle.np_foldings.proofs.lowercases.lower_of.Goals as goal

pub returns-then-opens_range : goal.returns-then-opens_range
returns-then-opens_range c = said_opening c.args.text.now (ap opens_range (sym c.field_at-name.ensures) ∙ sym c.opens_range.ensures ∙ c.if-opens_range.true)

pub returns-then-closes_range : goal.returns-then-closes_range
returns-then-closes_range c = said_closing c.args.text.now (ap closes_range (sym c.field_at-name.ensures) ∙ sym c.closes_range.ensures ∙ c.if-closes_range.true)

pub returns-in_err-lower : goal.returns-in_err-lower
returns-in_err-lower c =
    ap listed_lower c.from_residual.ensures
    ∙ said_no_lower c.args.text.now
    (ap (λ f. word_code (words_of Spaces f)) (sym c.field_at.ensures) ∙ sym c.written_code.ensures ∙ c.in_err-lower.was)

pub returns-in_err-code : goal.returns-in_err-code
returns-in_err-code c =
    ap listed_lower c.from_residual-in_err-code.ensures
    ∙ said_pair c.args.text.now None _
    (ap opens_range (sym c.field_at-name.ensures) ∙ sym c.opens_range.ensures ∙ c.if-opens_range.false)
    (ap closes_range (sym c.field_at-name.ensures) ∙ sym c.closes_range.ensures ∙ c.if-closes_range.false)
    (ap code_value (sym c.field_at-2.ensures) ∙ sym c.code_of.ensures.value ∙ c.in_err-code.was) refl

pub returns : goal.returns
returns c =
    said_pair c.args.text.now (Some c.in_ok-code.code) (Some c.in_ok-lower.lower)
    (ap opens_range (sym c.field_at-name.ensures) ∙ sym c.opens_range.ensures ∙ c.if-opens_range.false)
    (ap closes_range (sym c.field_at-name.ensures) ∙ sym c.closes_range.ensures ∙ c.if-closes_range.false)
    (ap code_value (sym c.field_at-2.ensures) ∙ sym c.code_of.ensures.value ∙ c.in_ok-code.was)
    (ap (λ f. word_code (words_of Spaces f)) (sym c.field_at.ensures) ∙ sym c.written_code.ensures ∙ c.in_ok-lower.was)

pub returns-then-says_none : goal.returns-then-says_none
returns-then-says_none c = sym (c.says_none.ensures c.if-says_none.true)
