use Rattle.np_code_points.specs.Forms.{composes}
use Rattle.np_versions.proofs.CompositeLemmas.{composite-starter}
use Rattle.np_forms.proofs.ShortLemmas.{both-kept, first-joined, second-joined, three-written, two-written}
use Rattle.np_forms.proofs.segments.write_triple.Goals as goal

pub write_pair-requires : goal.write_pair-requires
write_pair-requires g c = composite-starter (g.T.NormTable.model c.args.table.now) c.meets_conditions.ensures c.args.triple.starter c.args.triple.first c.in-Some.p c.in-Some.ensures.some.1

pub returns-in-Some : goal.returns-in-Some
returns-in-Some g c =
    let m = c.args.triple in
    let made = first-joined (g.T.NormTable.model c.args.table.now) m.starter c.requires.starter m.first m.second c.requires.some c.requires.rises c.meets_conditions.ensures (composes c.args.form) c.in-Some.p c.in-Some.ensures.some.0 c.in-Some.ensures.some.1 in
    rw made c.write_pair.ensures

pub returns-in-Some-joined_past : goal.returns-in-Some-joined_past
returns-in-Some-joined_past g c =
    let m = c.args.triple in
    let found = c.in-Some-joined_past in
    let made = second-joined (g.T.NormTable.model c.args.table.now) m.starter c.requires.starter m.first m.second c.requires.some c.requires.rises (composes c.args.form) found.p found.ensures.form (c.in_default.ensures.none found.ensures.form) found.ensures.free found.ensures.pair in
    rw (made, ← two-written c.args.out.now c.append_char.new.self found.p m.first c.in_ok-append_char.ensures) c.append_char-in-Some-joined_past.ensures

pub returns : goal.returns
returns g c =
    let m = c.args.triple in
    let made = both-kept (g.T.NormTable.model c.args.table.now) m.starter c.requires.starter m.first m.second c.requires.some c.requires.rises (composes c.args.form) c.in_default.ensures.none c.in_default-joined_past.ensures.none in
    rw (made, ← three-written c.args.out.now c.append_char-2.new.self c.append_char-3.new.self m.starter m.first m.second c.in_ok-append_char-2.ensures c.in_ok-append_char-3.ensures)
    c.append_char-4.ensures
