use Rattle.std.proofs.Common.{◌+◌, ◌++◌, arith, [], length, encode_utf8_all, inr, sym, ap, subst, ◌∙◌, append-nil}
use Rattle.np_forms.proofs.Words.{err_from_is_err_and, chars-nil, device_of}
use Rattle.std.specs.Io.KnownBytes.{Appends}
use Rattle.np_forms.proofs.WrittenLemmas.{closes_end}
use Rattle.std.proofs.KnownBytes.{Appends-kept}
use Rattle.np_forms.proofs.RunCountLemmas.{rest_fits}
use Rattle.np_forms.proofs.runs.write_rest.Goals as goal

pub write_text_out-requires : goal.write_text_out-requires
write_text_out-requires g c = record { fits = rest_fits c.requires.counted c.requires.sound (omega arith) c.requires.empty c.in-Ok.ensures }

pub returns-in_err-write_text_out-clause-err : goal.returns-in_err-write_text_out-clause-err
returns-in_err-write_text_out-clause-err g c =
    let end = closes_end c.args.stream.now c.args.output.now.text c.close_text.new.out _ chars-nil c.in-Ok.ensures in
    let made = end.written ∙ ap (λ l. l ++ encode_utf8_all end.more) c.requires.empty in
    let e = c.in_err-write_text_out.ensures.err in
    let p = err_from_is_err_and c.from_residual.result c.from_residual.ensures.1 in
    rw p.1 (record { out = e.0; written = e.1.2; front = inr (end.more, (e.1.0, sym made ∙ e.1.1, end.whole)) })

pub returns-in_default-flush_once-clause-err : goal.returns-in_default-flush_once-clause-err
returns-in_default-flush_once-clause-err g c =
    let end = closes_end c.args.stream.now c.args.output.now.text c.close_text.new.out _ chars-nil c.in-Ok.ensures in
    let made = end.written ∙ ap (λ l. l ++ encode_utf8_all end.more) c.requires.empty in
    record {
      out = c.close_text.new.out;
      written = Appends-kept (g.W.Write.contents (device_of c.args.target.now)) (g.W.Write.contents (device_of c.write_text_out.new.target)) (g.W.Write.contents (device_of c.flush_once.new.target)) c.close_text.new.out c.in_ok-write_text_out.ensures.ok c.flush_once.ensures.bytes;
      front = inr (end.more, ([], sym made ∙ sym (append-nil c.close_text.new.out), end.whole));
    }

pub returns-clause-ok : goal.returns-clause-ok
returns-clause-ok g c =
    let end = closes_end c.args.stream.now c.args.output.now.text c.close_text.new.out _ chars-nil c.in-Ok.ensures in
    let made = end.written ∙ ap (λ l. l ++ encode_utf8_all end.more) c.requires.empty in
    record {
      more = end.more;
      written = subst (Appends (g.W.Write.contents (device_of c.args.target.now)) (g.W.Write.contents (device_of c.flush_once.new.target))) made
          (Appends-kept (g.W.Write.contents (device_of c.args.target.now)) (g.W.Write.contents (device_of c.write_text_out.new.target)) (g.W.Write.contents (device_of c.flush_once.new.target)) c.close_text.new.out c.in_ok-write_text_out.ensures.ok c.flush_once.ensures.bytes);
      count_is = c.in_ok-write_text_out.ensures.count ∙ ap (λ l. c.args.output.now.count + length l) made;
      whole = end.whole;
    }
