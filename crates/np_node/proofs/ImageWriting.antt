-- Images that are written into room of their length.
use Rattle.std.proofs.Common.{◌≡◌, ℕ, ◌+◌, ◌<◌, ◌≤◌, ◌^◌, List, [], ◌∷◌, ◌++◌, length, take, drop, slice_get, codes, Some, refl, sym, ap, ◌∙◌, arith, append-nil, length-append}
use Rattle.std.proofs.lemmas.List.{take-append-drop, take_all}
use Rattle.np_code_points.specs.Forms.{byte_of}
use Rattle.np_code_points.specs.declared.forms.Form.{Form}
use Rattle.np_node.proofs.ImageLemmas.{entries-none, length-entries-none, length-head_bytes, length-image_bytes}
use Rattle.np_node.proofs.ImageReading.{entries-append, entries-push, image-more, image-whole, take-more}
use Rattle.np_node.proofs.FieldLemmas.{length-number_bytes}
use Rattle.np_node.proofs.WritingLemmas.{marked-most, written-as, written-both, written-whole}
use Rattle.np_node.specs.Fields.{number_bytes, marked_bytes, FitsFields}
use Rattle.np_node.specs.Images.{Needs, head_bytes, entries_bytes, image_bytes}
use Rattle.np_node.specs.Strings.{Entry}
use Rattle.np_node.specs.inside.Writing.{IsWritten}

pub written-head : (a b c d e : List ℕ) (i j k l m : ℕ) (needs : ℕ) (form : Form) (n : ℕ) → IsWritten a b i j (codes "NPS2") → IsWritten b c j k (byte_of form ∷ []) → IsWritten c d k l (number_bytes needs)
    → IsWritten d e l m (number_bytes n) → IsWritten a e i m (head_bytes (Some needs) form n)
unfolding head_bytes
written-head a b c d e i j k l m needs form n p q r s =
    written-both a b e i j m (codes "NPS2") (byte_of form ∷ (number_bytes needs ++ number_bytes n)) p
    (written-both b c e j k m (byte_of form ∷ []) (number_bytes needs ++ number_bytes n) q (written-both c d e k l m (number_bytes needs) (number_bytes n) r s))

-- entries are spelled alike whatever count the image tells
pub entries-any : (m n : ℕ) (es : List Entry) → entries_bytes (Some m) es ≡ entries_bytes (Some n) es
unfolding entries_bytes
entries-any m n [] = refl
entries-any m n (e ∷ es) = ap (λ l. marked_bytes e ++ l) (entries-any m n es)

module _ (needs : ℕ) (form : Form) (es : List Entry) where
  abbrev t : Needs
  t = Some needs

  abbrev head : List ℕ
  head = head_bytes t form (length es)

  pub image-length : length (image_bytes (record { needs = t; form = form; entries = es })) ≡ 13 + length (entries_bytes (Some 0) es)
  image-length =
      omega (arith, length-image_bytes (record { needs = t; form = form; entries = es }), length-head_bytes t form (length es), length-number_bytes needs, ap length (entries-any needs 0 es))

  pub head-alone : (n : ℕ) → n ≡ length es → head_bytes t form n ≡ head ++ entries_bytes t []
  head-alone n same =
      ap (λ (k : ℕ). head_bytes t form k) same ∙ sym (append-nil _) ∙ ap (λ l. head ++ l) (sym (entries-none t []) ∙ append-nil (entries_bytes t []))

  module _ (i : ℕ) (e : Entry) (here : slice_get es i ≡ Some e) where
    -- there is room for one more
    pub one-fits : length (head ++ entries_bytes t (take i es)) + length (marked_bytes e) ≤ length (image_bytes (record { needs = t; form = form; entries = es }))
    one-fits =
        let all : entries_bytes t es ≡ entries_bytes t (take (i + 1) es) ++ entries_bytes t (drop (i + 1) es) =
        ap (entries_bytes t) (sym (take-append-drop (i + 1) es)) ∙ entries-append t (take (i + 1) es) (drop (i + 1) es)
        in
        let one : entries_bytes t (take (i + 1) es) ≡ entries_bytes t (take i es) ++ marked_bytes e =
        ap (entries_bytes t) (take-more es i e here) ∙ entries-push t (take i es) e
        in
        omega (
          arith,
          length-image_bytes (record { needs = t; form = form; entries = es }),
          ap length all,
          ap length one,
          length-append (entries_bytes t (take (i + 1) es)) (entries_bytes t (drop (i + 1) es)),
          length-append (entries_bytes t (take i es)) (marked_bytes e),
          length-append head (entries_bytes t (take i es)),
        )

    pub one-more : (a b c : List ℕ) (j k : ℕ) → IsWritten a b 0 j (head ++ entries_bytes t (take i es)) → IsWritten b c j k (marked_bytes e) → IsWritten a c 0 k (head ++ entries_bytes t (take (i + 1) es))
    one-more a b c j k p q =
        written-as a c 0 k _ _ (image-more t form es _ _ head i e refl here refl) (written-both a b c 0 j k (head ++ entries_bytes t (take i es)) (marked_bytes e) p q)

  pub all-written : (a b : List ℕ) (i j : ℕ) → IsWritten a b 0 j (head ++ entries_bytes t (take i es)) → length es ≤ i
      → length a ≡ length (image_bytes (record { needs = t; form = form; entries = es })) → b ≡ image_bytes (record { needs = t; form = form; entries = es })
  all-written a b i j p le full =
      let same = image-whole t form es (head ++ entries_bytes t (take i es)) head i refl refl le in
      written-whole a b _ j (written-as a b 0 j _ _ same p) full

-- ---- lengths

pub length-more : (es : List Entry) (i : ℕ) (e : Entry) → slice_get es i ≡ Some e
    → length (entries_bytes (Some 0) (take (i + 1) es)) ≡ length (entries_bytes (Some 0) (take i es)) + length (marked_bytes e)
length-more es i e here =
    ap length (ap (entries_bytes (Some 0)) (take-more es i e here) ∙ entries-push (Some 0) (take i es) e) ∙ length-append (entries_bytes (Some 0) (take i es)) (marked_bytes e)

-- a spelled entry is never long
pub marked-bound : (e : Entry) → FitsFields e → length (marked_bytes e) ≤ 17179869184
marked-bound e fits =
    let string : length e.string < 2 ^ 32 = fits.string in
    let key : length e.key < 2 ^ 32 = fits.key in
    omega (arith, marked-most e, string, key)

pub length-none : (es : List Entry) → length (entries_bytes (Some 0) (take 0 es)) ≡ 0
length-none es = length-entries-none (Some 0)

pub length-all : (es : List Entry) (i : ℕ) → length es ≤ i → length (entries_bytes (Some 0) (take i es)) ≡ length (entries_bytes (Some 0) es)
length-all es i le = ap (λ (l : List Entry). length (entries_bytes (Some 0) l)) (take_all i es le)
