use Rattle.std.proofs.Common.{IsUtf8, subst}
use Rattle.std.specs.Cow.{cow_str_bytes}
use Rattle.np_node.proofs.KeyLemmas.{small_key}
use Rattle.np_node.proofs.strings.key_for.Goals as goal

pub returns-in-Ok-clause-key : goal.returns-in-Ok-clause-key
returns-in-Ok-clause-key g c = record { utf8 = subst IsUtf8 c.as_str-text.ensures.value c.as_str-text.utf8; normal = c.in-Ok.ensures.normal }

pub returns-in-Ok-clause-size : goal.returns-in-Ok-clause-size
returns-in-Ok-clause-size g c =
    let v = g.T.NormTable.model c.args.table.now in
    small_key v c.meets_conditions.ensures c.args.form c.args.text.now (cow_str_bytes c.in-Ok.key) c.requires c.utf8.text
    (record { utf8 = subst IsUtf8 c.as_str-text.ensures.value c.as_str-text.utf8; normal = c.in-Ok.ensures.normal })
