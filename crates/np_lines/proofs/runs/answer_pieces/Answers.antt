use Rattle.std.proofs.Common.{◌≡◌, ◌+◌, ◌<◌, [], length, ap, arith, rules, sym, ◌∙◌, subst, take, drop}
use Rattle.std.proofs.KnownBytes.{Appends-nil, Consumes-nil}
use Rattle.std.proofs.lemmas.List.{length-take-le, take_at}
use Rattle.std.proofs.lemmas.Result.{err_from_is_err_and}
use Rattle.std.specs.Io.KnownBytes.{Consumes}
use Rattle.np_code_points.specs.Watched.{device_of}
use Rattle.np_lines.specs.Answers.{IsAnswerBy}
use Rattle.np_lines.proofs.RunLemmas.{between-new, between-piece, came-new, came-piece, cut_large, cut_memory, cut_piece}
use Rattle.np_lines.proofs.runs.answer_pieces.Goals as goal

pub returns-in_default-clause-err : goal.returns-in_default-clause-err
returns-in_default-clause-err g c =
    let Is = IsAnswerBy (g.K.LineKeys.is_key c.args.keys.now) (g.K.LineKeys.version c.args.keys.now) c.args.end in
    let i = g.R.Read.remaining (device_of c.args.source.now) in
    let o = g.W.Write.contents (device_of c.args.target.now) in
    cut_memory Is c.args.end (between-new Is c.args.end i o c.args.pending.now c.requires.begins) i o [] (Consumes-nil i) (Appends-nil o)

pub pieces-init : goal.pieces-init
pieces-init g c =
    let Is = IsAnswerBy (g.K.LineKeys.is_key c.args.keys.now) (g.K.LineKeys.version c.args.keys.now) c.args.end in
    let i = g.R.Read.remaining (device_of c.args.source.now) in
    let o = g.W.Write.contents (device_of c.args.target.now) in record {
      between = between-new Is c.args.end i o c.args.pending.now c.requires.begins;
      reads = c.requires.reads;
      writes = c.requires.writes;
      space = search rules;
      size = sym (came-new Is c.args.end i o c.args.pending.now c.requires.begins);
    }

pub returns-in_err-answer_piece-clause-err : goal.returns-in_err-answer_piece-clause-err
returns-in_err-answer_piece-clause-err g c =
    let p = err_from_is_err_and c.from_residual.result c.from_residual.ensures.1 in
    rw (p.1, p.2)
    (cut_piece (IsAnswerBy (g.K.LineKeys.is_key c.args.keys.now) (g.K.LineKeys.version c.args.keys.now) c.args.end) c.args.end c.pieces.invariant.between (g.R.Read.remaining (device_of c.read_piece.new.source))
    (g.W.Write.contents (device_of c.answer_piece.new.target)) (take c.in-Ok-read_piece.n c.deref.result.now) c.in_err-answer_piece.field-0.0 (subst (λ l. Consumes (g.R.Read.remaining (device_of c.pieces.source)) (g.R.Read.remaining (device_of c.read_piece.new.source)) (take c.in-Ok-read_piece.n l)) (sym (c.deref.ensures.value ∙ take_at c.read_piece.new.piece (drop (length c.read_piece.new.piece) c.pieces.piece.items) c.pieces.piece.len (c.read_piece.ensures.same ∙ c.deref_mut.ensures.len))) c.in-Ok-read_piece.ensures.ok) c.in_err-answer_piece.ensures.err)

pub pieces-preserved : goal.pieces-preserved
pieces-preserved g c =
    let Is = IsAnswerBy (g.K.LineKeys.is_key c.args.keys.now) (g.K.LineKeys.version c.args.keys.now) c.args.end in
    let i = g.R.Read.remaining (device_of c.read_piece.new.source) in
    let o = g.W.Write.contents (device_of c.answer_piece.new.target) in
    let read = c.read_piece.new.piece in
    let n = c.in-Ok-read_piece.n in
    let piece = take n c.deref.result.now in
    let same : c.deref.result.now ≡ read = c.deref.ensures.value ∙ take_at read (drop (length read) c.pieces.piece.items) c.pieces.piece.len (c.read_piece.ensures.same ∙ c.deref_mut.ensures.len) in
    let taken = subst (λ l. Consumes (g.R.Read.remaining (device_of c.pieces.source)) i (take n l)) (sym same) c.in-Ok-read_piece.ensures.ok in
    let answered = c.in_ok-answer_piece.ensures.ok in
    let come = came-piece Is c.args.end c.pieces.invariant.between i o c.answer_piece.new.pending piece taken answered in
    let sum = rw c.in-Some.is at c.checked_add.ensures in record {
      between = between-piece Is c.args.end c.pieces.invariant.between i o c.answer_piece.new.pending piece taken answered;
      reads = search rules;
      writes = search rules;
      space = c.pieces.invariant.space;
      size = omega (arith, sum.1, come, c.pieces.invariant.size, ap length (ap (take n) same), length-take-le n read c.in-Ok-read_piece.ensures.bound.0);
    }

pub returns-in_default-checked_add-clause-err : goal.returns-in_default-checked_add-clause-err
returns-in_default-checked_add-clause-err g c =
    let between = c.pieces.invariant.between in
    let read = c.read_piece.new.piece in
    let n = c.in-Ok-read_piece.n in
    let past = rw c.in_default-checked_add.is at c.checked_add.ensures in
    let long = length-take-le n read c.in-Ok-read_piece.ensures.bound.0 in
    let large : 18446744073709551615 < length between.came + length (take n read) = omega (arith, past, long, c.pieces.invariant.size) in
    cut_large (IsAnswerBy (g.K.LineKeys.is_key c.args.keys.now) (g.K.LineKeys.version c.args.keys.now) c.args.end) c.args.end between (g.R.Read.remaining (device_of c.read_piece.new.source)) (take n read) c.in-Ok-read_piece.ensures.ok large
