use Rattle.std.proofs.Common.{ℕ, ◌∙◌, sym, ap, flat_map, Vec, Global}
use Rattle.std.specs.List.{list_all}
use Rattle.std.proofs.lemmas.Slice.Eq.{bytes_eq-Decides}
use Rattle.np_caseless.specs.Folded.{folded_by}
use Rattle.np_caseless.specs.inside.Images.{folded_parts, stays}
use Rattle.np_caseless.proofs.ImageLemmas.{images_once, images_twice}
use Rattle.np_caseless.proofs.images.are_images.Goals as goal
use Rattle.np_caseless.proofs.images.are_images.Goals.{then-compat+else-not-do_stay-2+in_ok-last-2, else-compat}

pub returns : goal.returns
returns g c = λ yes.
    let v = folded_by (g.T.NormTable.model c.args.table.now) c.args.foldings.now in
    let first = c.as_slice.ensures.value ∙ c.in_ok-first.ensures in
    let stay = c.do_stay.ensures c.if-not-do_stay.false in
    let second = c.as_slice-2.ensures.value ∙ sym c.as_slice.ensures.value in
    let once = c.in_ok-last.ensures ∙ ap (flat_map (folded_parts v c.args.compat)) second in
    let parts = c.as_slice-3.ensures.value ∙ c.in_ok-parts.ensures in
    let same = (bytes_eq-Decides c.as_slice-3.result.now c.as_slice-4.result.now).0 (sym c.eq.ensures ∙ yes) in
    elim c.if-compat.branch [
      | then-compat+else-not-do_stay-2+in_ok-last-2 w ↦
          let once_at = w.as_slice-then-compat.ensures.value in
          let again = w.as_slice-then-compat-2.ensures.value in
          images_twice v c.args.compat c.args.codes.0.now c.args.codes.1.now c.as_slice.result.now c.in_ok-last.last.items w.in_ok-last-2.last.items c.as_slice-3.result.now
          w.if-compat.true first stay once (ap (list_all (stays v c.args.compat)) (sym once_at) ∙ w.do_stay-then-compat.ensures w.if-not-do_stay-2.false)
          (w.in_ok-last-2.ensures ∙ ap (flat_map (folded_parts v c.args.compat)) again) parts
          (same ∙ c.as_slice-4.ensures.value ∙ ap (λ (l : Vec ℕ Global). l.items) w.last-is)
      | else-compat w ↦
          images_once v c.args.compat c.args.codes.0.now c.args.codes.1.now c.as_slice.result.now c.in_ok-last.last.items c.as_slice-3.result.now
          w.if-compat.false first stay once parts (same ∙ c.as_slice-4.ensures.value ∙ ap (λ (l : Vec ℕ Global). l.items) w.last-is)
    ]
