use Rattle.std.proofs.Common.{encode_utf8, append-nil}
use Rattle.np_code_points.specs.Forms.{composes}
use Rattle.np_forms.proofs.ShortLemmas.{pair-kept, pair-joined, two-written}
use Rattle.np_forms.proofs.segments.write_pair.Goals as goal

pub returns-in-Some : goal.returns-in-Some
returns-in-Some g c =
    let made = pair-joined (g.T.NormTable.model c.args.table.now) c.args.starter c.requires (composes c.args.form) c.args.second c.in-Some.p c.in-Some.ensures.some.0 c.in-Some.ensures.some.1 in
    rw (made, append-nil (encode_utf8 c.in-Some.p)) c.append_char.ensures

pub returns-in_ok-append_char-in-None : goal.returns-in_ok-append_char-in-None
returns-in_ok-append_char-in-None g c =
    let a = c.args in
    let made = pair-kept (g.T.NormTable.model a.table.now) a.starter c.requires (composes a.form) a.second c.in-None.ensures.none in
    rw (made, ← two-written a.out.now c.append_char-in-None.new.self a.starter a.second c.in_ok-append_char-in-None.ensures) c.append_char-in-None-2.ensures
