use Rattle.std.proofs.Common.{◌-◌, take, length, vec_len, length-append, ap, ◌∙◌, rules, arith}
use Rattle.np_forms.proofs.Words.{length-drop, length-take-le, err_from_is_err_and, device_of, IsNextChunk}
use Rattle.np_forms.proofs.RunCountLemmas.{counted-more, counted-piece}
use Rattle.np_forms.proofs.RunningLemmas.{cut_input, cut_piece, step, still}
use Rattle.np_forms.proofs.runs.feed_all.Goals as goal

pub returns-in_err-n-clause-err : goal.returns-in_err-n-clause-err
returns-in_err-n-clause-err g c =
    let p = err_from_is_err_and c.from_residual.result c.from_residual.ensures.1 in
    rw (p.1, p.2)
    (λ form i₀ o₀ r.
    cut_input c.requires.sound (c.chunks.invariant.goes form i₀ o₀ r) (g.R.Read.remaining (device_of c.next_chunk.new.source)) c.in_err-n.field-0.0 c.in_err-n.ensures.err)

pub chunks-preserved : goal.chunks-preserved
chunks-preserved g c =
    let now = c.chunks.input in
    let new = c.next_chunk.new.input in
    let next : IsNextChunk (g.R.Read.remaining (device_of c.chunks.source)) (g.R.Read.remaining (device_of c.next_chunk.new.source)) now.kept.items new.chunk.items new.kept.items now.total new.total c.in-Some.n = rw c.in-Some.is at c.in_ok-n.ensures.some in
    let text = c.from_utf8_unchecked-text.ensures ∙ ap (take c.in-Some.n) c.deref.ensures.value in
    let counted = counted-piece c.chunks.invariant.counted _ c.from_utf8_unchecked-text.utf8 c.in_ok-write_piece.ensures.ok in
    let left = ap length text ∙ length-take-le c.in-Some.n new.chunk.items next.prefix.within in
    record {
      goes = λ form i₀ o₀ r. step c.requires.sound (c.chunks.invariant.goes form i₀ o₀ r) next text c.in_ok-write_piece.ensures.ok;
      version = c.in_ok-write_piece.ensures.ok.version ∙ c.chunks.invariant.version;
      moved = c.in_ok-write_piece.ensures.ok.moved;
      empty = c.in_ok-write_piece.ensures.empty;
      reads = search rules;
      writes = search rules;
      fits = next.fits;
      counted = counted-more counted (new.total - vec_len new.kept) (omega (arith, left, next.prefix.within, next.total_is, ap length next.left_is, length-drop c.in-Some.n new.chunk.items, ap length next.chunk_is, length-append now.kept.items next.came, c.chunks.invariant.inside, new.kept.ok.0, now.kept.ok.0));
      inside =
          omega (arith, next.total_is, ap length next.left_is, length-drop c.in-Some.n new.chunk.items, ap length next.chunk_is, length-append now.kept.items next.came, c.chunks.invariant.inside, new.kept.ok.0, now.kept.ok.0);
    }

pub returns-in_err-write_piece-clause-err : goal.returns-in_err-write_piece-clause-err
returns-in_err-write_piece-clause-err g c =
    let now = c.chunks.input in
    let new = c.next_chunk.new.input in
    let next : IsNextChunk (g.R.Read.remaining (device_of c.chunks.source)) (g.R.Read.remaining (device_of c.next_chunk.new.source)) now.kept.items new.chunk.items new.kept.items now.total new.total c.in-Some.n = rw c.in-Some.is at c.in_ok-n.ensures.some in
    let text = c.from_utf8_unchecked-text.ensures ∙ ap (take c.in-Some.n) c.deref.ensures.value in
    let p = err_from_is_err_and c.from_residual-in_err-write_piece.result c.from_residual-in_err-write_piece.ensures.1 in
    rw (p.1, p.2) (λ form i₀ o₀ r. cut_piece c.requires.sound (c.chunks.invariant.goes form i₀ o₀ r) next text c.in_err-write_piece.ensures.fault c.in_err-write_piece.ensures.err)

pub returns-in_default-clause-ok : goal.returns-in_default-clause-ok
returns-in_default-clause-ok g c = λ form i₀ o₀ r.
    let end = rw c.in_default.is at c.in_ok-n.ensures.end in
    let same = rw c.in_default.is at c.in_ok-n.ensures.same in
    still c.requires.sound (c.chunks.invariant.goes form i₀ o₀ r) end.1 same.0 same.1
