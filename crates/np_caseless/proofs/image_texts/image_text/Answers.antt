use Rattle.std.proofs.Common.{[], ◌++◌, List, ℕ, encode_utf8, encode_utf8_all, length, refl, sym, ap, subst, ◌∙◌}
use Rattle.std.specs.List.{All}
use Rattle.std.proofs.lemmas.Str.{IsUtf8-string_bytes}
use Rattle.np_forms.proofs.CopyLemmas.{seam}
use Rattle.np_forms.proofs.TextLemmas.{IsRead-start}
use Rattle.np_caseless.specs.inside.ImageTables.{IsMarked}
use Rattle.np_caseless.proofs.ImageLemmas.{marked_images, no_images}
use Rattle.np_caseless.proofs.RunLemmas.{front_is, made_front, made_image, made_whole}
use Rattle.np_caseless.proofs.image_texts.image_text.Goals as goal

pub runs-init : goal.runs-init
runs-init c = (
  c.utf8.text,
  λ v compat all. record {
    read = [];
    ys = [];
    reads = IsRead-start c.args.text.now c.utf8.text;
    bytes = c.in_ok-made.ensures.bytes;
    images = no_images v compat;
  },
)

pub behind_marked-behind-requires-text-text : goal.behind_marked-behind-requires-text-text
behind_marked-behind-requires-text-text c κs = c.runs.invariant.0

pub split_at-requires : goal.split_at-requires
split_at-requires c =
    let found = c.behind_marked-behind.ensures in
    seam c.runs.rest.now (encode_utf8_all found.0) c.behind_marked-behind.result.now found.1.bytes found.1.utf8

pub returns-in_default : goal.returns-in_default
returns-in_default c = λ v compat all.
    let found = c.behind_marked-behind.ensures in
    let behind = c.behind_marked-behind.result.now in
    let marked = subst (λ (l : List ℕ). All (IsMarked l) found.0) c.as_slice.ensures.value found.2 in
    let own = marked_images v compat c.args.images.now.own.items found.0 all.own marked in
    let front = c.split_at.ensures.front ∙ front_is c.runs.rest.now behind found.0 _ found.1 refl in
    let made = made_front v compat c.args.text.now c.runs.rest.now behind found.0 c.runs.made.bytes.items _ c.push_str.new.self.bytes.items
    (c.runs.invariant.1 v compat all) found.1 own front c.in_ok-push_str.ensures.bytes in
    made_whole v compat c.args.text.now behind c.push_str.new.self.bytes.items made
    (ap length (sym c.chars-iter.ensures.rest) ∙ c.in_default.ensures.steps.0.0) (IsUtf8-string_bytes c.push_str.new.self)

pub runs-preserved : goal.runs-preserved
runs-preserved c = (
  c.as_str-rest.utf8,
  λ v compat all.
      let found = c.behind_marked-behind.ensures in
      let behind = c.behind_marked-behind.result.now in
      let code = c.in-Some.code in
      let image = c.in-Some-image_of.image.now in
      let marked = subst (λ (l : List ℕ). All (IsMarked l) found.0) c.as_slice.ensures.value found.2 in
      let own = marked_images v compat c.args.images.now.own.items found.0 all.own marked in
      let front = c.split_at.ensures.front ∙ front_is c.runs.rest.now behind found.0 _ found.1 refl in
      let begins = sym c.chars-iter.ensures.rest ∙ c.in-Some.ensures.steps.0 ∙ ap (λ l. encode_utf8 code ++ l) (sym c.as_str-rest.ensures) in
      let made = made_front v compat c.args.text.now c.runs.rest.now behind found.0 c.runs.made.bytes.items _ c.push_str.new.self.bytes.items
      (c.runs.invariant.1 v compat all) found.1 own front c.in_ok-push_str.ensures.bytes in
      made_image v compat c.args.text.now behind c.as_str-rest.result.now c.push_str.new.self.bytes.items image c.push_str-in-runs.new.self.bytes.items code
      made begins (c.in-Some-image_of.ensures.image v compat all) c.in-Some-image_of.ensures.text c.in_ok-push_str-2.ensures.bytes,
)
