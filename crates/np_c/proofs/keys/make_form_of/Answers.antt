use Rattle.std.proofs.Common.{List, ℕ, chars, inl, sym, subst, IsUtf8}
use Rattle.std.proofs.lemmas.Str.{encodes-chars}
use Rattle.std.specs.Prelude.{if◌then◌else◌}
use Rattle.np_forms.specs.Forms.{IsNormalForm}
use Rattle.np_c.proofs.KeyLemmas.{either_text}
use Rattle.np_c.proofs.keys.make_form_of.Goals as goal

pub returns-in-Ok-make_form-clause-made : goal.returns-in-Ok-make_form-clause-made
returns-in-Ok-make_form-clause-made g c =
    let v = g.T.NormTable.model c.args.table.now in
    let made = c.in-Ok-make_form.made in
    let buffer = c.make_form.new.buffer in
    let utf8 = either_text made buffer c.args.bytes.now (subst IsUtf8 c.as_str-text.ensures c.as_str-text.utf8) c.in-Ok.ensures.valid in
    record {
      valid = c.in-Ok.ensures.valid;
      codes = chars (if made then buffer else c.args.bytes.now);
      is = subst (λ (l : List ℕ). IsNormalForm v c.args.form (chars l) (chars (if made then buffer else l))) c.in-Ok.ensures.text c.in-Ok-make_form.ensures.normal;
      bytes_are = sym (encodes-chars (if made then buffer else c.args.bytes.now) utf8);
    }

pub returns-in-Err-clause-refused : goal.returns-in-Err-clause-refused
returns-in-Err-clause-refused g c = inl c.in-Err.ensures.refused
