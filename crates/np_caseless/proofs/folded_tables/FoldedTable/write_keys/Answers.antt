use Rattle.std.proofs.Common.{◌≤◌, List, ℕ, ap, chars, length, subst, take, arith}
use Rattle.std.proofs.lemmas.List.{length-take-le, take-take}
use Rattle.std.proofs.lemmas.Str.{IsCharBoundary-from_drop, IsCharBoundary-start}
use Rattle.np_forms.specs.Parts.{IsEachPartStable}
use Rattle.np_versions.specs.Versions.{VersionData}
use Rattle.np_caseless.proofs.PartLemmas.{each_apart, each_stable, made_utf8, none_each}
use Rattle.np_caseless.proofs.folded_tables.FoldedTable.write_keys.Goals as goal

pub returns-then-not-known-clause-boundary : goal.returns-then-not-known-clause-boundary
returns-then-not-known-clause-boundary g c = IsCharBoundary-start c.args.text.now c.utf8.text

pub returns-then-not-known-clause-keys : goal.returns-then-not-known-clause-keys
returns-then-not-known-clause-keys g c = none_each c.args.self.now c.meets_conditions.ensures c.args.wanted c.args.room.now

pub returns-then-made-clause-boundary : goal.returns-then-made-clause-boundary
returns-then-made-clause-boundary g c =
    let m = c.make_front-made.ensures.made in
    IsCharBoundary-from_drop c.args.text.now c.make_front-made.result.count m.within m.reads.utf8

pub returns-then-made-clause-keys : goal.returns-then-made-clause-keys
returns-then-made-clause-keys g c =
    let made = c.make_front-made in
    let known = c.known_images-known in
    each_apart c.args.self.now c.meets_conditions.ensures c.args.wanted known.result known.ensures.simple.simple known.ensures.own
    c.args.text.now made.new.room made.result.count made.result.apart c.utf8.text made.ensures.made c.if-made.true

pub from_utf8_unchecked-keys-requires : goal.from_utf8_unchecked-keys-requires
from_utf8_unchecked-keys-requires g c =
    let made = c.make_front-made in
    let known = c.known_images-known in
    made_utf8 c.args.self.now c.meets_conditions.ensures c.args.wanted known.result known.ensures.simple.simple known.ensures.own
    c.args.text.now made.new.room made.result.count made.result.apart c.utf8.text made.ensures.made

pub returns-clause-keys : goal.returns-clause-keys
returns-clause-keys g c =
    let v = c.args.self.now in
    let form = c.args.wanted in
    let made = c.make_front-made in
    let known = c.known_images-known in
    let m = made.ensures.made in
    let room = made.new.room in
    let count = made.result.count in
    let keys = c.from_utf8_unchecked-keys.result.now in
    let span = c.quick_check_span in
    let s = span.result in
    let size = length-take-le count room (omega (arith, m.within, m.size)) in
    let inside : s ≤ count = omega (arith, span.ensures.boundary.0, ap length c.from_utf8_unchecked-keys.ensures, size) in
    let of_room = subst (λ l. IsEachPartStable (g.T.NormTable.model c.table.result.now) form (chars (take s l)))
    c.from_utf8_unchecked-keys.ensures span.ensures.stable in
    let of_version = subst (λ (d : VersionData). IsEachPartStable d form (chars (take s (take count room)))) c.table.ensures of_room in
    let stable = subst (λ (l : List ℕ). IsEachPartStable v.version form (chars l)) (take-take s count room inside) of_version in
    each_stable v c.meets_conditions.ensures form known.result known.ensures.simple.simple known.ensures.own
    c.args.text.now room count made.result.apart c.floor_char_boundary.result s c.utf8.text m c.floor_char_boundary.ensures.bound inside stable
