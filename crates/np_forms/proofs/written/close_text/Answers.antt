use Rattle.std.proofs.Common.{sym, ◌∙◌}
use Rattle.np_forms.proofs.Words.{nil_from_length, on_ok_weaker}
use Rattle.np_forms.proofs.WrittenLemmas.{Closes-at_once, Closes-held}
use Rattle.np_forms.proofs.written.close_text.Goals as goal

pub returns-then-pending_len-eq0 : goal.returns-then-pending_len-eq0
returns-then-pending_len-eq0 g c =
    on_ok_weaker c.write_form.result
    (λ made.
    Closes-at_once (g.T.NormTable.model c.normalizer-normalizer.result.table.now) c.meets_conditions.ensures c.normalizer-normalizer.result.form c.args.stream.now _ _ _
    c.normalizer-normalizer.ensures.version c.normalizer-normalizer.ensures.form (nil_from_length _ (sym c.pending_len.ensures ∙ c.if-pending_len-eq0.true)) made)
    c.write_form.ensures

pub returns : goal.returns
returns g c =
    on_ok_weaker c.write_form-2.result
    (λ made.
    Closes-held (g.T.NormTable.model c.normalizer-normalizer.result.table.now) c.meets_conditions.ensures c.normalizer-normalizer.result.form
    c.args.stream.now _ _ _ c.args.out.now _ _ c.write_form-2.new.out c.args.text.now _ _ c.split_head.result.1.now
    c.normalizer-normalizer.ensures.version c.normalizer-normalizer.ensures.form c.requires c.in_ok-rest.ensures.ok c.split_head.ensures.parts c.split_head.ensures.front c.split_head.ensures.at
    c.in_ok-write_chars.ensures c.in_ok-finish_into.ensures made)
    c.write_form-2.ensures
