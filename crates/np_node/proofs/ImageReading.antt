-- The entries of an image that are read or written.
use Rattle.std.proofs.Common.{◌≡◌, ℕ, zero, suc, ◌+◌, ◌<◌, ◌≤◌, ◌^◌, inl, inr, List, [], ◌∷◌, ◌++◌, length, take, drop, slice_get, Some, refl, sym, ap, ◌∙◌, arith, append-nil, append_assoc, length-append}
use Rattle.std.proofs.lemmas.Grind.{flat_map-append}
use Rattle.std.proofs.lemmas.List.{nil_from_length, take_all}
use Rattle.std.proofs.lemmas.List.Elements.{All-push}
use Rattle.np_code_points.specs.declared.forms.Form.{Form}
use Rattle.np_node.proofs.ImageLemmas.{entries-none, image-cut, length-entries-none, length-head_bytes, length-image_bytes}
use Rattle.np_node.specs.Fields.{FitsFields}
use Rattle.np_node.specs.Images.{Needs, FitsNeeds, spelled_entry, head_bytes, entries_bytes, image_bytes, IsImageFault, IsSpellingFault}
use Rattle.np_node.specs.Strings.{Entry}
use Rattle.np_node.specs.declared.fields.Fields.{Fields}
use Rattle.np_node.specs.inside.Reading.{left_of, Passes}
use Rattle.np_node.specs.inside.Shapes.{HasShape, HasRead}

module _ (start here : Fields) (bytes : List ℕ) (t : Needs) (form : Form) (count : ℕ) where
  -- nothing is read behind the head
  pub read-start : start.bytes.now ≡ bytes → start.at ≡ 0 → Passes start here (head_bytes t form count) → HasRead bytes here t form count 0
  read-start is zero_ head =
      record {
        entries = [];
        counted = refl;
        fits = λ k d lt. absurd (omega (arith, lt));
        split = sym (ap (λ (n : ℕ). drop n start.bytes.now) zero_ ∙ is) ∙ head.split ∙ ap (λ l. head_bytes t form count ++ l) (sym (entries-none t (left_of here)));
        place = omega (arith, head.place, zero_, length-entries-none t);
      }

module _ (t : Needs) where
  pub entries-append : (ds es : List Entry) → entries_bytes t (ds ++ es) ≡ entries_bytes t ds ++ entries_bytes t es
  unfolding entries_bytes
  entries-append ds es = flat_map-append (spelled_entry t) ds es

  pub entries-push : (es : List Entry) (e : Entry) → entries_bytes t (es ++ e ∷ []) ≡ entries_bytes t es ++ spelled_entry t e
  unfolding entries_bytes
  entries-push es e = flat_map-append (spelled_entry t) es (e ∷ []) ∙ ap (λ l. entries_bytes t es ++ l) (append-nil (spelled_entry t e))

module _ (bytes : List ℕ) (t : Needs) (form : Form) (count : ℕ) where
  pub read-more : (a b : Fields) (n : ℕ) (e : Entry) → HasRead bytes a t form count n → Passes a b (spelled_entry t e) → FitsFields e → HasRead bytes b t form count (n + 1)
  read-more a b n e r p fits =
      record {
        entries = r.entries ++ e ∷ [];
        counted = length-append r.entries (e ∷ []) ∙ ap (λ (k : ℕ). k + 1) r.counted;
        fits = All-push FitsFields r.entries e r.fits fits;
        split = r.split
            ∙ ap (λ l. head_bytes t form count ++ l)
            (ap (λ l. entries_bytes t r.entries ++ l) p.split ∙ sym (append_assoc (entries_bytes t r.entries) (spelled_entry t e) (left_of b)) ∙ ap (λ l. l ++ left_of b) (sym (entries-push t r.entries e)));
        place = omega (arith, p.place, r.place, ap length (entries-push t r.entries e), length-append (entries_bytes t r.entries) (spelled_entry t e));
      }

  pub read-lacks : (a : Fields) (n at : ℕ) → HasRead bytes a t form count n → FitsNeeds t → n < count → count < 2 ^ 32 → ((x : ℕ) × IsSpellingFault t (left_of a) x × (at ≡ a.at + x)) → IsImageFault bytes at
  read-lacks a n at r needs lt small (x, fault, place) =
      inr (inr (inr (inr (inl (record {
        needs = t;
        form = form;
        count = count;
        entries = r.entries;
        rest = left_of a;
        inner = x;
        needs_fits = needs;
        small = small;
        fits = r.fits;
        split = r.split;
        fewer = omega (arith, lt, r.counted);
        fault = fault;
        place = omega (arith, place, r.place);
      })))))

  read-image : (a : Fields) (r : HasRead bytes a t form count count) → bytes ≡ image_bytes (record { needs = t; form = form; entries = r.entries }) ++ left_of a
  read-image a r =
      r.split ∙ ap (λ (k : ℕ). head_bytes t form k ++ (entries_bytes t r.entries ++ left_of a)) (sym r.counted) ∙ sym (image-cut (record { needs = t; form = form; entries = r.entries }) (left_of a))

  pub read-end : (a : Fields) → HasRead bytes a t form count count → FitsNeeds t → count < 2 ^ 32 → length (left_of a) ≡ 0 → HasShape bytes t form count
  read-end a r needs small none =
      record {
        entries = r.entries;
        spelled = record {
          needs = needs;
          count = omega (arith, r.counted, small);
          fits = r.fits;
          spelling = read-image a r ∙ ap (λ l. image_bytes (record { needs = t; form = form; entries = r.entries }) ++ l) (nil_from_length (left_of a) none) ∙ append-nil _;
        };
        counted = r.counted;
      }

  pub read-over : (a : Fields) (at : ℕ) → HasRead bytes a t form count count → FitsNeeds t → count < 2 ^ 32 → 0 < length (left_of a) → at ≡ a.at → IsImageFault bytes at
  read-over a at r needs small more place =
      inr (inr (inr (inr (inr (record {
        image = record { needs = t; form = form; entries = r.entries };
        rest = left_of a;
        needs = needs;
        count = omega (arith, r.counted, small);
        fits = r.fits;
        split = read-image a r;
        more = more;
        place = omega (arith, place, r.place, length-image_bytes (record { needs = t; form = form; entries = r.entries }), length-head_bytes t form count, length-head_bytes t form (length r.entries));
      })))))

-- ---- images that are written

take-suc : (es : List Entry) (i : ℕ) (e : Entry) → slice_get es i ≡ Some e → take (suc i) es ≡ take i es ++ e ∷ []
take-suc [] i e here = cc
take-suc (x ∷ xs) zero e here = let same : x ≡ e = cc in ap (λ y. y ∷ []) same
take-suc (x ∷ xs) (suc i) e here = ap (λ l. x ∷ l) (take-suc xs i e here)

pub take-more : (es : List Entry) (i : ℕ) (e : Entry) → slice_get es i ≡ Some e → take (i + 1) es ≡ take i es ++ e ∷ []
take-more es i e here = let one : i + 1 ≡ suc i = omega arith in ap (λ (n : ℕ). take n es) one ∙ take-suc es i e here

drop-suc : (es : List Entry) (i : ℕ) (e : Entry) → slice_get es i ≡ Some e → drop i es ≡ e ∷ drop (suc i) es
drop-suc [] i e here = cc
drop-suc (x ∷ xs) zero e here = let same : x ≡ e = cc in ap (λ y. y ∷ xs) same
drop-suc (x ∷ xs) (suc i) e here = drop-suc xs i e here

pub drop-more : (es : List Entry) (i : ℕ) (e : Entry) → slice_get es i ≡ Some e → drop i es ≡ e ∷ drop (i + 1) es
drop-more es i e here = let one : suc i ≡ i + 1 = omega arith in drop-suc es i e here ∙ ap (λ (n : ℕ). e ∷ drop n es) one

module _ (t : Needs) (form : Form) (es : List Entry) where
  pub image-more : (now new head : List ℕ) (i : ℕ) (e : Entry) → now ≡ head ++ entries_bytes t (take i es) → slice_get es i ≡ Some e → new ≡ now ++ spelled_entry t e → new ≡ head ++ entries_bytes t (take (i + 1) es)
  image-more now new head i e before here grown =
      grown ∙ ap (λ l. l ++ spelled_entry t e) before ∙ append_assoc head (entries_bytes t (take i es)) (spelled_entry t e)
      ∙ ap (λ l. head ++ l) (sym (entries-push t (take i es) e) ∙ ap (entries_bytes t) (sym (take-more es i e here)))

  pub image-whole : (items head : List ℕ) (i : ℕ) → items ≡ head ++ entries_bytes t (take i es) → head ≡ head_bytes t form (length es) → length es ≤ i → items ≡ image_bytes (record { needs = t; form = form; entries = es })
  unfolding image_bytes
  image-whole items head i is front le = is ∙ ap (λ l. l ++ entries_bytes t (take i es)) front ∙ ap (λ l. head_bytes t form (length es) ++ entries_bytes t l) (take_all i es le)
