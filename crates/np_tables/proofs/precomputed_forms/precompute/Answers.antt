use Rattle.std.proofs.lemmas.Str.{IsUtf8-string_bytes}
use Rattle.np_tables.proofs.PrecomputedFormLemmas.{precomputed_form-written}
use Rattle.np_tables.proofs.precomputed_forms.precompute.Goals as goal

pub returns-else-not-branch : goal.returns-else-not-branch
returns-else-not-branch c =
    precomputed_form-written c.args.version.now c.args.form c.args.lent.now _ _ c.clear.ensures.bytes (IsUtf8-string_bytes c.write_form.new.text) (c.in_ok-write_form.ensures c.if-not-branch.false)
