use Rattle.std.proofs.Common.{◌++◌, arith, encode_utf8_all, inr, sym, ap, ◌∙◌}
use Rattle.std.proofs.lemmas.Result.{on_err_weaker}
use Rattle.np_forms.proofs.RunCountLemmas.{piece_fits}
use Rattle.np_forms.proofs.runs.write_piece.Goals as goal

pub write_text_out-requires : goal.write_text_out-requires
write_text_out-requires g c = record { fits = piece_fits c.requires.counted c.requires.sound (omega arith) c.args.text.now c.requires.empty c.utf8.text c.requires.short c.in-Ok.ensures }

pub returns-clause-err : goal.returns-clause-err
returns-clause-err g c =
    let w = c.in-Ok.ensures in
    on_err_weaker c.write_text_out.result
    (λ e. record {
      out = e.0;
      written = e.1.2;
      front = inr (w.more, (e.1.0, sym (w.written ∙ ap (λ l. l ++ encode_utf8_all w.more) c.requires.empty) ∙ e.1.1, λ fed done s. (c.feed_text.new.stream.pending, w.carries fed done s)));
    })
    c.write_text_out.ensures.err
