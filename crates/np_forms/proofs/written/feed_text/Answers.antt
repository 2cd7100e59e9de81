use Rattle.std.proofs.Common.{rules}
use Rattle.std.proofs.lemmas.Result.{on_ok_weaker}
use Rattle.np_forms.proofs.WrittenLemmas.{Writes-text, Writes-behind}
use Rattle.np_forms.proofs.written.feed_text.Goals as goal

pub returns : goal.returns
returns g c =
    on_ok_weaker c.write_chars-2.result
    (λ last.
    Writes-behind c.args.stream.now c.take_front.new.self c.write_chars-2.new.stream c.args.out.now c.write_chars-2.new.out c.args.text.now c.in_ok-rest.rest.now c.requires c.in_ok-rest.ensures.ok
    (Writes-text c.take_front.new.self _ _ c.write_chars-2.new.stream c.args.out.now _ _ c.write_form.new.out c.write_chars-2.new.out _ _ c.in_ok-rest.rest.now _ _ _ c.split_tail.result.1.now
    c.meets_conditions.ensures c.normalizer-normalizer.ensures.version c.normalizer-normalizer.ensures.form c.split_head.ensures.parts c.split_tail.ensures.parts
    c.split_head.ensures.front c.split_tail.ensures.front c.split_tail.ensures.back (c.split_tail.ensures.some (search rules)) c.split_head.ensures.at (c.split_tail.ensures.at c.split_head.ensures.at)
    c.in_ok-write_chars.ensures c.in_ok-finish_into.ensures c.in_ok-write_form.ensures last))
    c.write_chars-2.ensures
