use Rattle.std.proofs.Common.{List, ℕ, chars, sym, subst, IsUtf8}
use Rattle.std.proofs.lemmas.Str.{encodes-chars}
use Rattle.std.specs.Cow.{cow_str_bytes}
use Rattle.np_caseless.specs.Caseless.{IsCaseless}
use Rattle.np_forms.specs.Assigned.{IsAssigned}
use Rattle.np_c.proofs.caseless.key_of.Goals as goal

pub returns-in-Ok-key-clause-key : goal.returns-in-Ok-key-clause-key
returns-in-Ok-key-clause-key g c =
    let v = c.args.folded.now in
    let text = c.in-Ok.ensures.text in
    let made = cow_str_bytes c.in-Ok-key.key in
    record {
      valid = c.in-Ok.ensures.valid;
      assigned = subst (λ (l : List ℕ). IsAssigned v.version (chars l)) text c.in-Ok-key.ensures.assigned;
      codes = chars made;
      is = subst (λ (l : List ℕ). IsCaseless v c.args.form (chars l) (chars made)) text c.in-Ok-key.ensures.key;
      bytes_are = sym (encodes-chars made (subst IsUtf8 c.as_str-text.ensures.value c.as_str-text.utf8));
    }
