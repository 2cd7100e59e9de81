use Rattle.std.proofs.Common.{sym, subst}
use Rattle.np_code_points.specs.Forms.{is_compat}
use Rattle.np_code_points.specs.Lines.{HasNo}
use Rattle.np_caseless.specs.inside.SimpleImages.{StandsFor}
use Rattle.np_caseless.proofs.SimpleLemmas.{stands_listed}
use Rattle.np_caseless.proofs.simple_images.simple_image.Goals as goal

pub returns-then-is_apart : goal.returns-then-is_apart
returns-then-is_apart g c = λ v same all known.
    let own = c.encode_utf8-own.result.now in
    let code = c.args.code in
    let image = c.in-Some.image.now in
    let stands : StandsFor v c.args.form code image = record {
      utf8 = c.in-Some.ensures.text;
      images = c.in-Some.ensures.image v (is_compat c.args.form) all;
      apart = c.is_apart.ensures c.if-is_apart.true v same;
      ends = λ b low none. c.image_like.ensures.ends known b low (subst (HasNo b) (sym c.encode_utf8-own.ensures.value) none);
    } in
    stands_listed v c.args.form code own image c.image_like.result c.encode_utf8-own.ensures.value (c.image_like.ensures.bytes known) stands
