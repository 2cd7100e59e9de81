use Rattle.std.proofs.Common.{◌∙◌, sym, chars}
use Rattle.np_forms.proofs.Words.{ltb-true, chars_past_char, chars_rest}
use Rattle.np_forms.proofs.precomputed_texts.begins_with_ascii.Goals as goal

pub returns-in-Some : goal.returns-in-Some
returns-in-Some c = λ is.
    let rest = chars_rest c.next.new.self in
    record {
      code = c.in-Some.c;
      rest = chars rest;
      low = ltb-true c.in-Some.c 128 (sym c.is_ascii.ensures ∙ is);
      text_is = chars_past_char c.args.text.now rest c.in-Some.c c.utf8.text (sym c.chars.ensures.rest ∙ c.in-Some.ensures.steps.0);
    }
