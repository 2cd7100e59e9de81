-- The head of an image that is read or written.
use Rattle.std.proofs.Common.{◌≡◌, ◌≢◌, ℕ, ◌<◌, inl, inr, List, [], ◌∷◌, ◌++◌, length, drop, codes, Some, None, refl, sym, ap, ◌∙◌, arith, length-append}
use Rattle.np_code_points.specs.Forms.{byte_of}
use Rattle.np_code_points.specs.declared.forms.Form.{Form}
use Rattle.np_node.proofs.ImageLemmas.{length-name}
use Rattle.np_node.proofs.ListLemmas.{same_front}
use Rattle.np_node.proofs.ReadingLemmas.{passes-more, passes-same}
use Rattle.np_node.specs.Fields.{number_bytes, LacksForm}
use Rattle.np_node.specs.Images.{Needs, FitsNeeds, image_name, needs_bytes, head_bytes, IsImageFault}
use Rattle.np_node.specs.declared.fields.Fields.{Fields}
use Rattle.np_node.specs.declared.images.Layout.{Layout}
use Rattle.np_node.specs.declared.images.Layout.TheVariants.{First, Second}
use Rattle.np_node.specs.inside.Reading.{left_of, Passes}
use Rattle.np_node.specs.inside.Shapes.{layout_name}

pub passes-none : (a : Fields) → Passes a a []
passes-none a = record { bytes = refl; split = refl; place = omega arith }

pub passes-head : (a b c d e : Fields) (layout : Layout) (t : Needs) (form : Form) (n : ℕ) → layout_name layout ≡ image_name t → Passes a b (layout_name layout) → Passes b c (byte_of form ∷ [])
    → Passes c d (needs_bytes t) → Passes d e (number_bytes n) → Passes a e (head_bytes t form n)
unfolding head_bytes
passes-head a b c d e layout t form n named p q r s =
    passes-more a b e (image_name t) (byte_of form ∷ (needs_bytes t ++ number_bytes n)) (passes-same a b (layout_name layout) (image_name t) named p)
    (passes-more b c e (byte_of form ∷ []) (needs_bytes t ++ number_bytes n) q (passes-more c d e (needs_bytes t) (number_bytes n) r s))

-- ---- where the head isn't whole

module _ (a : Fields) (zero_ : a.at ≡ 0) where
  whole-left : a.bytes.now ≡ left_of a
  whole-left = sym (ap (λ (n : ℕ). drop n a.bytes.now) zero_)

  pub name-short : length (left_of a) < 4 → IsImageFault a.bytes.now 0
  name-short short =
      inl (record { lacks = λ t rest e. omega (arith, short, ap length (sym whole-left ∙ e), length-append (image_name t) rest, length-name t); place = refl })

  pub name-other : (b : Fields) (name : List ℕ) → Passes a b name → length name ≡ 4 → name ≢ codes "NPS1" → name ≢ codes "NPS2" → IsImageFault a.bytes.now 0
  name-other b name p size first second =
      inl (record { lacks = λ t rest e. by t (same_front name (image_name t) (left_of b) rest (sym p.split ∙ sym whole-left ∙ e) (size ∙ sym (length-name t))); place = refl })
    where
      by : (t : Needs) → name ≡ image_name t → ⊥
      by None e = first e
      by (Some n) e = second e

  module _ (b : Fields) (layout : Layout) (p : Passes a b (layout_name layout)) where
    pub form-lacks : LacksForm (left_of b) → IsImageFault a.bytes.now 4
    form-lacks lacks = by layout p
      where
        by : (l : Layout) → Passes a b (layout_name l) → IsImageFault a.bytes.now 4
        by First q = inr (inl (record { needs = None; rest = left_of b; split = whole-left ∙ q.split; lacks = lacks; place = refl }))
        by Second q = inr (inl (record { needs = Some 0; rest = left_of b; split = whole-left ∙ q.split; lacks = lacks; place = refl }))

    module _ (c : Fields) (form : Form) (q : Passes b c (byte_of form ∷ [])) where
      pub needs-lacks : layout ≡ Second → length (left_of c) < 4 → IsImageFault a.bytes.now 5
      needs-lacks is short =
          inr (inr (inl (record {
            form = form;
            rest = left_of c;
            split = whole-left ∙ p.split ∙ (λ i. layout_name (is i) ++ q.split i);
            short = short;
            place = refl;
          })))

      pub count-lacks : (d : Fields) (t : Needs) (at : ℕ) → layout_name layout ≡ image_name t → Passes c d (needs_bytes t) → FitsNeeds t → length (left_of d) < 4 → at ≡ d.at → IsImageFault a.bytes.now at
      count-lacks d t at named r fits short place =
          inr (inr (inr (inl (record {
            needs = t;
            form = form;
            rest = left_of d;
            fits = fits;
            split = whole-left ∙ p.split ∙ (λ i. named i ++ (q.split ∙ ap (λ l. byte_of form ∷ l) r.split) i);
            short = short;
            place = omega (arith, place, r.place, q.place, p.place, zero_, ap length named, length-name t);
          }))))
