use Rattle.std.proofs.Common.{eqb-true, sym, ◌∙◌}
use Rattle.np_forms.proofs.Words.{nil_from_length}
use Rattle.np_forms.proofs.WrittenLemmas.{Writes-behind}
use Rattle.np_forms.proofs.StreamTextLemmas.{Writes-front}
use Rattle.np_forms.proofs.streams.Stream.feed_text.Goals as goal

pub returns-then-is_empty-clause-ok : goal.returns-then-is_empty-clause-ok
returns-then-is_empty-clause-ok g c =
    Writes-front _ _ _ c.args.text.now c.in_ok-rest.rest.now c.requires (nil_from_length _ (eqb-true _ 0 (sym c.is_empty.ensures ∙ c.if-is_empty.true))) c.in_ok-rest.ensures.ok

pub returns-in-Ok-clause-ok : goal.returns-in-Ok-clause-ok
returns-in-Ok-clause-ok g c = Writes-behind _ _ _ _ _ c.args.text.now c.in_ok-rest.rest.now c.requires c.in_ok-rest.ensures.ok c.in-Ok.ensures.ok
