use Rattle.std.proofs.Common.{◌≡◌, ◌++◌, drop, length, map, get_or, sym, subst, ap, inl, arith}
use Rattle.std.proofs.lemmas.List.{length-map}
use Rattle.std.proofs.lemmas.Str.{chars-IsAscii, encodes-IsAscii, IsUtf8-from_ascii}
use Rattle.np_caseless.specs.Caseless.{IsCaseless}
use Rattle.np_caseless.proofs.AsciiLemmas.{ascii_assigned, ascii_caseless, folded_ascii}
use Rattle.np_c.specs.declared.answers.Answer.{Answer}
use Rattle.np_c.proofs.caseless.put_ascii.Goals as goal

pub returns-clause-key : goal.returns-clause-key
returns-clause-key g c = λ form.
    let v = c.args.folded.now in
    let bytes = c.args.bytes.now in
    let folding = c.in_ok-folding.folding.now in
    let folds = c.in_ok-folding.ensures in
    let ascii = c.are_ascii.ensures.0 c.if-not-are_ascii.false in
    let made = map (λ b. get_or folding b 0) bytes in
    let same : length made ≡ length bytes = length-map bytes (λ b. get_or folding b 0) in
    record {
      how = inl (
        made,
        record {
          valid = IsUtf8-from_ascii bytes ascii;
          assigned = ascii_assigned v folding folds bytes ascii;
          codes = made;
          is = subst (λ l. IsCaseless v form l made) (sym (chars-IsAscii bytes ascii)) (ascii_caseless v folding folds c.meets_conditions.ensures.version form bytes ascii);
          bytes_are = sym (encodes-IsAscii made (folded_ascii v folding folds bytes ascii));
        },
        record {
          put = inl (record {
            status = ap (λ (a : Answer). a.status) c.of.ensures;
            fits = omega (arith, same, c.if-bytes-room.false);
            room = subst (λ n. c.fold_into.new.room ≡ made ++ drop n c.args.room.now) (sym same) c.fold_into.ensures;
            told = sym same;
          });
          at = ap (λ (a : Answer). a.place) c.of.ensures;
          fault = ap (λ (a : Answer). a.fault) c.of.ensures;
          code = ap (λ (a : Answer). a.code) c.of.ensures;
        },
      );
    }
