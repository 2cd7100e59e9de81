-- What a text's images are made of, run by run.
use Rattle.std.proofs.Common.{◌≡◌, ◌-◌, ℕ, Bool, List, [], ◌∷◌, ◌++◌, length, take, chars, encode_utf8, encode_utf8_all, sym, ap, subst, ◌∙◌, arith, IsUtf8}
use Rattle.std.proofs.lemmas.List.{append-nil, length-append, nil_from_length, take_at}
use Rattle.std.proofs.lemmas.Str.{chars-nil, chars_from_encodes, encodes-chars}
use Rattle.np_forms.specs.inside.Readings.{IsRead}
use Rattle.np_forms.proofs.TextLemmas.{IsRead-both, IsRead-next}
use Rattle.np_caseless.specs.Folded.{FoldedVersion}
use Rattle.np_caseless.specs.inside.Images.{AreImages}
use Rattle.np_caseless.proofs.ImageLemmas.{encoded_text, images_more}

-- the bytes of what was read
pub front_is : (text rest front : List ℕ) (n : ℕ) → IsRead text rest front → n ≡ length text - length rest → take n text ≡ encode_utf8_all front
front_is text rest front n read is =
    ap (take n) read.bytes ∙ take_at (encode_utf8_all front) rest n (omega (arith, is, ap length read.bytes, length-append (encode_utf8_all front) rest))

-- bytes are those of the images of what was read of a text
pub record IsMadeOf (v : FoldedVersion) (compat : Bool) (text rest made : List ℕ) : Type 0 where
  pub read : List ℕ
  pub ys : List ℕ
  pub reads : IsRead text rest read
  pub bytes : made ≡ encode_utf8_all ys
  pub images : AreImages v compat read ys

-- code points that are their own images follow
pub made_front : (v : FoldedVersion) (compat : Bool) (text rest behind front made piece after : List ℕ)
    → IsMadeOf v compat text rest made → IsRead rest behind front → AreImages v compat front front
    → piece ≡ encode_utf8_all front → after ≡ made ++ piece → IsMadeOf v compat text behind after
made_front v compat text rest behind front made piece after m second own is more =
    record {
      read = m.read ++ front;
      ys = m.ys ++ front;
      reads = IsRead-both text rest behind m.read front m.reads second;
      bytes = encoded_text made after m.ys piece front m.bytes is more;
      images = images_more v compat m.read m.ys front front m.images own;
    }

-- the image of one follows
pub made_image : (v : FoldedVersion) (compat : Bool) (text behind later made image after : List ℕ) (code : ℕ)
    → IsMadeOf v compat text behind made → behind ≡ encode_utf8 code ++ later → AreImages v compat (code ∷ []) (chars image) → IsUtf8 image
    → after ≡ made ++ image → IsMadeOf v compat text later after
made_image v compat text behind later made image after code m begins is utf8 more =
    record {
      read = m.read ++ code ∷ [];
      ys = m.ys ++ chars image;
      reads = IsRead-next text behind code later m.read begins m.reads;
      bytes = encoded_text made after m.ys image (chars image) m.bytes (sym (encodes-chars image utf8)) more;
      images = images_more v compat m.read m.ys (code ∷ []) (chars image) m.images is;
    }

-- nothing follows
pub made_whole : (v : FoldedVersion) (compat : Bool) (text behind made : List ℕ)
    → IsMadeOf v compat text behind made → length behind ≡ 0 → IsUtf8 made → AreImages v compat (chars text) (chars made)
made_whole v compat text behind made m none utf8 =
    let all : chars text ≡ m.read = m.reads.split ∙ ap (λ l. m.read ++ l) (ap chars (nil_from_length behind none) ∙ chars-nil) ∙ append-nil m.read in
    subst (AreImages v compat (chars text)) (chars_from_encodes m.ys made utf8 (sym m.bytes))
    (subst (λ (xs : List ℕ). AreImages v compat xs m.ys) (sym all) m.images)
