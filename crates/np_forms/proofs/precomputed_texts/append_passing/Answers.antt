use Rattle.std.proofs.Common.{◌-◌, encode_utf8_all, length, refl, ◌∙◌}
use Rattle.np_forms.proofs.CopyLemmas.{passing_copied, passing_front, seam}
use Rattle.np_forms.proofs.SegmentLemmas.{goes-copied}
use Rattle.np_forms.proofs.precomputed_texts.append_passing.Goals as goal

pub split_at-requires : goal.split_at-requires
split_at-requires g c =
    let past = c.requires.passing in
    seam c.args.text.now (encode_utf8_all past.front) c.args.rest.now past.split past.utf8

pub returns : goal.returns
returns g c =
    let past = c.requires.passing in
    goes-copied _ c.args.form _ _ _ c.args.out.now c.append_front.new.self
    (passing_copied _ c.args.form _ _ past c.meets_conditions.ensures _ (c.split_at.ensures.front ∙ passing_front _ c.args.form _ _ past (length _ - length _) refl) c.requires.parts)
    c.in_ok-append_front.ensures
