use Rattle.std.proofs.Common.{◌≡◌, IsUtf8, ap, chars, drop, length, subst, sym, ◌∙◌, string_bytes, arith}
use Rattle.std.proofs.lemmas.List.{take_at}
use Rattle.np_caseless.specs.Caseless.{IsCaseless}
use Rattle.np_caseless.proofs.PartLemmas.{whole_key}
use Rattle.np_caseless.proofs.folded_tables.FoldedTable.key_by_simple_images.Goals as goal

pub from_utf8_unchecked-requires : goal.from_utf8_unchecked-requires
from_utf8_unchecked-requires g c =
    let room = c.write_keys.new.room in
    let size : length room ≡ c.resize.new.self.len = omega (arith, c.write_keys.ensures.length, c.as_mut_slice.ensures.len) in
    let whole = take_at room (drop (length room) c.resize.new.self.items) c.resize.new.self.len size in
    let key =
    whole_key c.args.self.now c.args.wanted c.args.text.now room c.write_keys.result c.utf8.text c.if-write_keys-text.false
    (omega (arith, size, c.in_ok-resize.ensures.len)) c.write_keys.ensures.keys in
    subst IsUtf8 (sym whole) key.utf8

pub returns-clause-key : goal.returns-clause-key
returns-clause-key g c =
    let room = c.write_keys.new.room in
    let size : length room ≡ c.resize.new.self.len = omega (arith, c.write_keys.ensures.length, c.as_mut_slice.ensures.len) in
    let whole = take_at room (drop (length room) c.resize.new.self.items) c.resize.new.self.len size in
    let key =
    whole_key c.args.self.now c.args.wanted c.args.text.now room c.write_keys.result c.utf8.text c.if-write_keys-text.false
    (omega (arith, size, c.in_ok-resize.ensures.len)) c.write_keys.ensures.keys in
    let is : string_bytes c.from_utf8_unchecked.result ≡ room = ap (λ v. v.items) c.from_utf8_unchecked.ensures.value ∙ whole in
    subst (λ l. IsCaseless c.args.self.now c.args.wanted (chars c.args.text.now) (chars l)) (sym is) key.caseless

pub returns-clause-assigned : goal.returns-clause-assigned
returns-clause-assigned g c = λ _.
    let room = c.write_keys.new.room in
    let size : length room ≡ c.resize.new.self.len = omega (arith, c.write_keys.ensures.length, c.as_mut_slice.ensures.len) in
    (whole_key c.args.self.now c.args.wanted c.args.text.now room c.write_keys.result c.utf8.text c.if-write_keys-text.false
    (omega (arith, size, c.in_ok-resize.ensures.len)) c.write_keys.ensures.keys).assigned
