-- A node that is filled from an image.
use Rattle.std.proofs.Common.{◌≡◌, ℕ, zero, suc, ◌+◌, ◌<◌, ◌≤◌, ◌^◌, inl, inr, List, [], ◌∷◌, ◌++◌, length, take, drop, slice_get, All, Option, Some, None, refl, sym, ap, subst, ◌∙◌, arith, length-append, append-nil}
use Rattle.std.proofs.lemmas.List.{take_all, length-take-le, take-append-drop}
use Rattle.std.proofs.lemmas.List.Elements.{All-push, All-head, All-tail, All-cons}
use Rattle.np_code_points.specs.declared.forms.Form.{Form}
use Rattle.np_node.proofs.ImageLemmas.{cut_head, one_spelled, entries-cut, length-head_bytes, length-entries-none, image-cut}
use Rattle.np_node.proofs.ImageReading.{take-more, drop-more, entries-push, entries-append}
use Rattle.np_node.proofs.NodeLemmas.{unlike-push}
use Rattle.np_node.specs.Fields.{FitsFields}
use Rattle.np_node.specs.Images.{Needs, FitsNeeds, image_bytes, head_bytes, entries_bytes, spelled_entry, IsImage, IsImageFault, IsSpellingFault}
use Rattle.np_node.specs.Nodes.{NodeState, state_of, with_entry, IsKept, AreUnlike}
use Rattle.np_node.specs.Restoring.{AreRight, HasRoom, IsOlder, IsWrong, IsRestoreFault, IsRestored, place_behind}
use Rattle.np_node.specs.Strings.{Entry, IsEntry}
use Rattle.np_node.specs.declared.faults.ImageFault.{ImageFault}
use Rattle.np_node.specs.declared.faults.NodeFault.{NodeFault}
use Rattle.np_node.specs.declared.faults.NodeFault.TheVariants.{Malformed}
use Rattle.np_node.specs.declared.fields.Fields.{Fields}
use Rattle.np_node.specs.inside.Reading.{left_of, Passes}
use Rattle.np_node.specs.inside.Shapes.{HasShape, IsFilling, IsEntryRefusal}
use Rattle.np_versions.specs.Versions.{VersionData}

-- the image is refused as a whole
pub refused-whole : (v : VersionData) (form : Form) (room at : ℕ) (bytes : List ℕ) (entry : Option ℕ) (fault : NodeFault) → entry ≡ None → fault ≡ Malformed at → IsImageFault bytes at → IsRestoreFault v form room bytes entry fault
refused-whole v form room at bytes entry fault none is shape =
    subst (λ (o : Option ℕ). IsRestoreFault v form room bytes o fault) (sym none)
    (subst (λ (f : NodeFault). IsRestoreFault v form room bytes None f) (sym is) shape)

slice_get-some : (es : List Entry) (n : ℕ) → n < length es → (e : Entry) × (slice_get es n ≡ Some e)
slice_get-some [] n lt = absurd (omega (arith, lt))
slice_get-some (x ∷ xs) zero lt = (x, refl)
slice_get-some (x ∷ xs) (suc n) lt = slice_get-some xs n (omega (arith, lt))

pub fits-at : (es : List Entry) (n : ℕ) (e : Entry) → All FitsFields es → slice_get es n ≡ Some e → FitsFields e
fits-at [] n e fits here = cc
fits-at (x ∷ xs) zero e fits here = let same : x ≡ e = cc in subst FitsFields same (All-head FitsFields x xs fits)
fits-at (x ∷ xs) (suc n) e fits here = fits-at xs n e (All-tail FitsFields x xs fits) here

take-none : (es : List Entry) → take 0 es ≡ []
take-none [] = refl
take-none (x ∷ xs) = refl

fits-take : (es : List Entry) (n : ℕ) → All FitsFields es → All FitsFields (take n es)
fits-take es zero fits = λ k d lt. absurd (omega (arith, lt, ap length (take-none es)))
fits-take [] (suc n) fits = fits
fits-take (x ∷ xs) (suc n) fits = All-cons FitsFields x (take n xs) (All-head FitsFields x xs fits) (fits-take xs n (All-tail FitsFields x xs fits))

module _ {T : Type 0} (model : T → VersionData) (empty : NodeState T) (bytes : List ℕ) (t : Needs) (count : ℕ) where
  -- nothing is there yet
  pub fill-start : (start here : Fields) (s : Needs) (form : Form) (n : ℕ) → empty.entries ≡ [] → HasShape bytes t empty.form count → FitsNeeds s → n < 2 ^ 32 → ¬ IsOlder (model empty.table) t → count ≤ empty.room
      → start.bytes.now ≡ bytes → start.at ≡ 0 → Passes start here (head_bytes s form n) → IsFilling model empty empty bytes t count here 0
  fill-start start here s form n none shape fits small young room is zero_ head =
      let left : bytes ≡ head_bytes s form n ++ left_of here = sym (ap (λ (k : ℕ). drop k start.bytes.now) zero_ ∙ is) ∙ head.split in
      let whole : bytes ≡ head_bytes t empty.form (length shape.entries) ++ (entries_bytes t shape.entries ++ []) =
      shape.spelled.spelling ∙ sym (append-nil (image_bytes (record { needs = t; form = empty.form; entries = shape.entries }))) ∙ image-cut (record { needs = t; form = empty.form; entries = shape.entries }) [] in
      let heads = cut_head s t form empty.form n (length shape.entries) (left_of here) (entries_bytes t shape.entries ++ []) fits shape.spelled.needs small shape.spelled.count (sym left ∙ whole) in
      record {
        entries = shape.entries;
        spelled = shape.spelled;
        counted = shape.counted;
        room = record { young = young; fits = omega (arith, room, shape.counted) };
        node_is = (λ i. record empty { entries = none i });
        right = ((λ k d lt. absurd (omega (arith, lt))), (λ i j d lt within. absurd (omega (arith, within))));
        left_is = heads.rest ∙ append-nil (entries_bytes t shape.entries);
        place = omega (arith, head.place, zero_, ap length (λ i. head_bytes (heads.needs i) form n), length-head_bytes t form n, length-head_bytes t empty.form count, length-entries-none t);
      }

  module _ (node : NodeState T) (a b : Fields) (n : ℕ) (f : IsFilling model empty node bytes t count a n) (lt : n < count) where
    next : (e : Entry) × (slice_get f.entries n ≡ Some e)
    next = slice_get-some f.entries n (omega (arith, lt, f.counted))

    -- what is read is the next entry
    pub fill-next : (e : Entry) → Passes a b (spelled_entry t e) → FitsFields e → (slice_get f.entries n ≡ Some e) × (left_of b ≡ entries_bytes t (drop (n + 1) f.entries))
    fill-next e p fits =
        let (d, here) = next in
        let left : spelled_entry t e ++ left_of b ≡ spelled_entry t d ++ (entries_bytes t (drop (n + 1) f.entries) ++ []) =
        sym p.split ∙ f.left_is ∙ ap (entries_bytes t) (drop-more f.entries n d here) ∙ sym (append-nil _) ∙ entries-cut t d (drop (n + 1) f.entries) [] in
        let same = one_spelled t e d (left_of b) (entries_bytes t (drop (n + 1) f.entries) ++ []) fits (fits-at f.entries n d f.spelled.fits here) left in
        (here ∙ ap Some (sym same.0), same.1 ∙ append-nil _)

    entries-taken : node.entries ≡ take n f.entries
    entries-taken = ap (λ (s : NodeState T). s.entries) f.node_is

    pub fill-more : (new : NodeState T) (e : Entry) → Passes a b (spelled_entry t e) → FitsFields e → IsEntry (model node.table) node.form e → ¬ IsKept node.entries e.string → new ≡ with_entry node e → IsFilling model empty new bytes t count b (n + 1)
    fill-more new e p fits right absent is =
        let (here, left) = fill-next e p fits in
        let more = take-more f.entries n e here in
        let table : node.table ≡ empty.table = ap (λ (s : NodeState T). s.table) f.node_is in
        let form : node.form ≡ empty.form = ap (λ (s : NodeState T). s.form) f.node_is in
        let right' : IsEntry (model empty.table) empty.form e = subst (λ (s : NodeState T). IsEntry (model s.table) s.form e) f.node_is right in
        let absent' : ¬ IsKept (take n f.entries) e.string = subst (λ (l : List Entry). ¬ IsKept l e.string) entries-taken absent in
        record {
          entries = f.entries;
          spelled = f.spelled;
          counted = f.counted;
          room = f.room;
          node_is = is ∙ ap (λ (s : NodeState T). with_entry s e) f.node_is ∙ (λ i. record empty { entries = sym more i });
          right = (
            subst (All (IsEntry (model empty.table) empty.form)) (sym more) (All-push (IsEntry (model empty.table) empty.form) (take n f.entries) e f.right.0 right'),
            subst AreUnlike (sym more) (unlike-push (take n f.entries) e f.right.1 absent'),
          );
          left_is = left;
          place = omega (
            arith,
            p.place,
            f.place,
            ap (λ (l : List Entry). length (entries_bytes t l)) more,
            ap length (entries-push t (take n f.entries) e),
            length-append (entries_bytes t (take n f.entries)) (spelled_entry t e),
          );
        }

    -- what isn't whole
    pub fill-lacks : (at : ℕ) → ((x : ℕ) × IsSpellingFault t (left_of a) x × (at ≡ a.at + x)) → IsImageFault bytes at
    fill-lacks at (x, fault, place) =
        inr (inr (inr (inr (inl (record {
          needs = t;
          form = empty.form;
          count = count;
          entries = take n f.entries;
          rest = left_of a;
          inner = x;
          needs_fits = f.spelled.needs;
          small = omega (arith, f.counted, f.spelled.count);
          fits = fits-take f.entries n f.spelled.fits;
          split = f.spelled.spelling ∙ split-at;
          fewer = omega (arith, lt, length-take-le n f.entries (omega (arith, lt, f.counted)));
          fault = fault;
          place = omega (arith, place, f.place);
        })))))
      where
        split-at : image_bytes (record { needs = t; form = empty.form; entries = f.entries }) ≡ head_bytes t empty.form count ++ (entries_bytes t (take n f.entries) ++ left_of a)
        split-at =
            sym (append-nil _) ∙ image-cut (record { needs = t; form = empty.form; entries = f.entries }) []
            ∙ (λ i. head_bytes t empty.form (f.counted i) ++ (append-nil (entries_bytes t f.entries) i))
            ∙ ap (λ l. head_bytes t empty.form count ++ l) (ap (entries_bytes t) (sym (take-append-drop n f.entries)) ∙ entries-append t (take n f.entries) (drop n f.entries)
            ∙ ap (λ l. entries_bytes t (take n f.entries) ++ l) (sym f.left_is))

    -- the place of the next entry is that of its first byte in the image
    wrong-at : (e : Entry) (fault : NodeFault) → IsWrong (model node.table) node.form node.entries e a.at fault
        → IsWrong (model empty.table) empty.form (take n f.entries) e (place_behind t empty.form (length f.entries) (take n f.entries)) fault
    wrong-at e fault wrong =
        let place : a.at ≡ place_behind t empty.form (length f.entries) (take n f.entries) =
        f.place ∙ ap (λ (k : ℕ). place_behind t empty.form k (take n f.entries)) (sym f.counted) in
        subst (λ (k : ℕ). IsWrong (model empty.table) empty.form (take n f.entries) e k fault) place
        (subst (λ (s : NodeState T). IsWrong (model s.table) s.form s.entries e a.at fault) f.node_is wrong)

    -- what is wrong with the next entry refuses the image
    pub fill-refused : (e : Entry) (refused : ImageFault) → Passes a b (spelled_entry t e) → FitsFields e → IsEntryRefusal (state_of model node) e n a.at refused → IsRestoreFault (model empty.table) empty.form empty.room bytes refused.entry refused.fault
    fill-refused e refused p fits (inl memory) =
        subst (λ (r : ImageFault). IsRestoreFault (model empty.table) empty.form empty.room bytes r.entry r.fault) (sym memory)
        (record { needs = t; entries = f.entries; spelled = f.spelled; has = f.room })
    fill-refused e refused p fits (inr (number, wrong)) =
        subst (λ (o : Option ℕ). IsRestoreFault (model empty.table) empty.form empty.room bytes o refused.fault) (sym number)
        (record {
          needs = t;
          entries = f.entries;
          spelled = f.spelled;
          has = (f.room, record { entry = e; here = (fill-next e p fits).0; right = f.right; wrong = wrong-at e refused.fault wrong });
        })

  -- all of them are there
  pub fill-end : (node : NodeState T) (here : Fields) (n : ℕ) → IsFilling model empty node bytes t count here n → count ≤ n → IsRestored model empty.table empty.form empty.room bytes node
  fill-end node here n f le =
      let all : take n f.entries ≡ f.entries = take_all n f.entries (omega (arith, le, f.counted)) in
      let whole : node.entries ≡ f.entries = ap (λ (s : NodeState T). s.entries) f.node_is ∙ all in
      record {
        needs = t;
        table_is = ap (λ (s : NodeState T). s.table) f.node_is;
        form_is = ap (λ (s : NodeState T). s.form) f.node_is;
        room_is = ap (λ (s : NodeState T). s.room) f.node_is;
        image = subst (λ (l : List Entry). IsImage bytes (record { needs = t; form = empty.form; entries = l })) (sym whole) f.spelled;
        has_room = subst (HasRoom (model empty.table) empty.room t) (sym whole) f.room;
        right = subst (AreRight (model empty.table) empty.form) (sym (ap (λ (s : NodeState T). s.entries) f.node_is)) f.right;
      }
