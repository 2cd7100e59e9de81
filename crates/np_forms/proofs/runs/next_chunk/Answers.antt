use Rattle.std.proofs.Common.{◌≡◌, length, take_at, [], ◌++◌, take, drop, ap, subst, ◌∙◌, arith}
use Rattle.np_code_points.specs.Text.{IsLongestValidPrefix}
use Rattle.np_forms.proofs.Words.{err_from_is_err_and, take_rest}
use Rattle.np_forms.proofs.RunningLemmas.{chunk_next, input_cut, input_failed, input_memory, ok_on}
use Rattle.np_forms.proofs.runs.next_chunk.Goals as goal

pub returns-in_default-clause-err : goal.returns-in_default-clause-err
returns-in_default-clause-err g c = input_failed _ _ _ _ c.in_default.ensures.err c.requires.fits

pub returns-then-is_err-clause-err : goal.returns-then-is_err-clause-err
returns-then-is_err-clause-err g c = input_memory _ _ _ _ _ c.in-Ok.n c.in-Ok.ensures.ok c.in-Ok.ensures.bound.0 (omega (arith, c.in-Ok.ensures.bound.1, c.requires.fits))

pub returns-then-is_err-2-clause-err : goal.returns-then-is_err-2-clause-err
returns-then-is_err-2-clause-err g c = input_memory _ _ _ _ _ c.in-Ok.n c.in-Ok.ensures.ok c.in-Ok.ensures.bound.0 (omega (arith, c.in-Ok.ensures.bound.1, c.requires.fits))

pub returns-in_err-text-clause-err : goal.returns-in_err-text-clause-err
returns-in_err-text-clause-err g c =
    let n = c.in-Ok.n in
    let read = c.read_piece.new.piece in
    let piece = take_at read (drop (length read) c.args.input.now.piece.items) c.args.input.now.piece.len (omega (arith, c.deref_mut.ensures.len, c.read_piece.auto.piece)) in
    let joined = ok_on c.join.result _ c.join.ensures c.if-is_err.ensures.negation in
    let is : c.deref-3.result.now ≡ c.args.input.now.kept.items ++ take n read = c.deref-3.ensures.value ∙ joined ∙ ap (λ l. l ++ take n c.deref-2.result.now) c.deref.ensures.value ∙ ap (λ l. c.args.input.now.kept.items ++ take n l) (c.deref-2.ensures.value ∙ piece) in
    let p = err_from_is_err_and c.from_residual.result c.from_residual.ensures.1 in
    rw (p.1, p.2) (input_cut _ _ _ _ c.deref-3.result.now _ n _ c.in-Ok.ensures.ok c.in-Ok.ensures.bound.0 (omega (arith, c.in-Ok.ensures.bound.1, c.requires.fits)) is c.in_err-text.ensures.err)

pub returns-clause-some : goal.returns-clause-some
returns-clause-some g c =
    let n = c.in-Ok.n in
    let read = c.read_piece.new.piece in
    let piece = take_at read (drop (length read) c.args.input.now.piece.items) c.args.input.now.piece.len (omega (arith, c.deref_mut.ensures.len, c.read_piece.auto.piece)) in
    let joined = ok_on c.join.result _ c.join.ensures c.if-is_err.ensures.negation in
    let is : c.join.new.list.items ≡ c.args.input.now.kept.items ++ take n read = joined ∙ ap (λ l. l ++ take n c.deref-2.result.now) c.deref.ensures.value ∙ ap (λ l. c.args.input.now.kept.items ++ take n l) (c.deref-2.ensures.value ∙ piece) in
    let prefix = subst (λ l. IsLongestValidPrefix l c.in_ok-text.text) c.deref-3.ensures.value c.in_ok-text.ensures.ok in
    let rest = take_rest c.deref-4.result.now c.in_ok-text.text ∙ ap (drop c.in_ok-text.text) c.deref-4.ensures.value in
    let left : c.join-2.new.list.items ≡ drop c.in_ok-text.text c.join.new.list.items ++ [] = ok_on c.join-2.result _ c.join-2.ensures c.if-is_err-2.ensures.negation ∙ ap (λ l. l ++ []) rest in
    chunk_next _ _ _ _ _ _ _ n _ c.in-Ok.ensures.ok c.in-Ok.ensures.bound.0 (omega (arith, c.if-n-eq0.false)) is prefix left c.in_ok-text.ensures.limit
