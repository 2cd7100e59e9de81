use Rattle.std.proofs.Common.{List, ℕ, chars, sym, subst, IsUtf8}
use Rattle.std.proofs.lemmas.Str.{encodes-chars}
use Rattle.std.specs.Prelude.{if◌then◌else◌}
use Rattle.np_forms.specs.Assigned.{IsAssigned}
use Rattle.np_forms.specs.Forms.{IsNormalForm}
use Rattle.np_c.proofs.KeyLemmas.{either_text}
use Rattle.np_c.proofs.keys.make_key.Goals as goal

pub returns-in-Ok-make_npss-clause-key : goal.returns-in-Ok-make_npss-clause-key
returns-in-Ok-make_npss-clause-key g c =
    let v = g.T.NormTable.model c.args.table.now in
    let made = c.in-Ok-make_npss.made in
    let buffer = c.make_npss.new.buffer in
    let utf8 = either_text made buffer c.args.bytes.now (subst IsUtf8 c.as_str-text.ensures c.as_str-text.utf8) c.in-Ok.ensures.valid in
    record {
      assigned = subst (λ (l : List ℕ). IsAssigned v (chars l)) c.in-Ok.ensures.text c.in-Ok-make_npss.ensures.assigned;
      is = record {
        valid = c.in-Ok.ensures.valid;
        codes = chars (if made then buffer else c.args.bytes.now);
        is = subst (λ (l : List ℕ). IsNormalForm v c.args.form (chars l) (chars (if made then buffer else l))) c.in-Ok.ensures.text c.in-Ok-make_npss.ensures.normal;
        bytes_are = sym (encodes-chars (if made then buffer else c.args.bytes.now) utf8);
      };
    }
