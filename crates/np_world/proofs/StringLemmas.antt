-- The strings of a node as bytes and as code points.
use Rattle.std.proofs.Common.{◌≡◌, ◌≢◌, ℕ, zero, suc, ◌<◌, List, [], ◌∷◌, ◌++◌, length, get_or, map, take, refl, sym, ap, subst, ◌∙◌, arith}
use Rattle.std.proofs.lemmas.Bool.{both_ways, and_parts, true_from_ne_false}
use Rattle.std.proofs.lemmas.List.{get_or-map, length-map, map-append, length_push, take_all}
use Rattle.std.proofs.lemmas.List.Elements.{All-push}
use Rattle.std.proofs.lemmas.List.Folds.{list_all-append}
use Rattle.std.proofs.lemmas.List.Quantifiers.{all_pairs_push}
use Rattle.std.proofs.lemmas.Str.{encodes-chars}
use Rattle.std.specs.List.{AllPairs, Contains, list_all}
use Rattle.std.specs.Prelude.{chars, encode_utf8_all, IsUtf8}
use Rattle.np_code_points.specs.Text.{IsLongestValidPrefix}
use Rattle.np_forms.specs.Assigned.{IsAssigned, IsFirstUnassigned}
use Rattle.np_node.specs.Nodes.{State, strings_of, IsKept, IsNode, HasPlace}
use Rattle.np_node.specs.Strings.{Entry, IsEntry, IsKey}
use Rattle.np_versions.specs.Versions.{VersionData, is_assigned}
use Rattle.np_world.specs.inside.Mirrors.{texts_of}

-- ---- code points and bytes

pub byte_length-chars : (bytes : List ℕ) → IsUtf8 bytes → length (encode_utf8_all (chars bytes)) ≡ length bytes
byte_length-chars bytes utf8 = ap length (encodes-chars bytes utf8)

pub same_bytes : (a b : List ℕ) → IsUtf8 a → IsUtf8 b → chars a ≡ chars b → a ≡ b
same_bytes a b first second h = sym (encodes-chars a first) ∙ ap encode_utf8_all h ∙ encodes-chars b second

-- bytes whose longest valid prefix isn't all of them are no text
pub not_utf8 : (bytes : List ℕ) (at : ℕ) → IsLongestValidPrefix bytes at → at < length bytes → ¬ (IsUtf8 bytes)
not_utf8 bytes at longest short utf8 =
    let whole : IsUtf8 (take (length bytes) bytes) = subst IsUtf8 (sym (take_all (length bytes) bytes (omega arith))) utf8 in
    absurd (omega (arith, short, longest.longest (length bytes) (omega arith) whole))

-- a text that is not unassigned is assigned
pub assigned_stable : (v : VersionData) (xs : List ℕ) → ¬ (¬ (IsAssigned v xs)) → IsAssigned v xs
assigned_stable v xs not = true_from_ne_false _ (λ lacks. not (λ all. both_ways _ lacks all))

-- a text with a first unassigned place is not assigned
pub not_assigned : (v : VersionData) (xs : List ℕ) (at code : ℕ) → IsFirstUnassigned v xs at code → ¬ (IsAssigned v xs)
not_assigned v xs at code first all =
    let split = sym (list_all-append (is_assigned v) first.before (code ∷ first.after)) ∙ sym (ap (list_all (is_assigned v)) first.split) ∙ all in
    let behind = (and_parts _ _ split).1 in
    both_ways _ first.lacks (and_parts _ _ behind).0

-- ---- the strings of entries

pub length-texts : (entries : List Entry) → length (texts_of entries) ≡ length entries
length-texts entries = length-map (strings_of entries) chars ∙ length-map entries (λ e. e.string)

pub texts-push : (entries : List Entry) (e : Entry) → texts_of (entries ++ e ∷ []) ≡ texts_of entries ++ chars e.string ∷ []
texts-push entries e = ap (map chars) (map-append (λ (x : Entry). x.string) entries (e ∷ [])) ∙ map-append chars (strings_of entries) (e.string ∷ [])

pub text_is_kept : (entries : List Entry) (bytes : List ℕ) → IsKept entries bytes → Contains (texts_of entries) (chars bytes)
text_is_kept entries bytes kept =
    (kept.0, omega (arith, length-texts entries, length-map entries (λ (e : Entry). e.string)), get_or-map chars (strings_of entries) kept.0 bytes (chars bytes) kept.1 ∙ ap chars kept.2)

-- the strings of a node are UTF-8
utf8_at : (node : State) → IsNode node → (k : ℕ) (d : List ℕ) → k < length node.entries → IsUtf8 (get_or (strings_of node.entries) k d)
utf8_at node is k d lt =
    let e : Entry = record { string = d; key = d } in
    subst IsUtf8 (sym (get_or-map (λ (x : Entry). x.string) node.entries k e d lt)) (is.entries k e lt).keepable.utf8

pub bytes_are_kept : (node : State) (bytes : List ℕ) → IsNode node → IsUtf8 bytes → Contains (texts_of node.entries) (chars bytes) → IsKept node.entries bytes
bytes_are_kept node bytes is utf8 kept =
    let within : kept.0 < length node.entries = omega (arith, kept.1, length-texts node.entries) in
    let inside : kept.0 < length (strings_of node.entries) = omega (arith, within, length-map node.entries (λ (e : Entry). e.string)) in
    let here = sym (get_or-map chars (strings_of node.entries) kept.0 bytes (chars bytes) inside) ∙ kept.2 in
    (kept.0, inside, same_bytes (get_or (strings_of node.entries) kept.0 bytes) bytes (utf8_at node is kept.0 bytes within) utf8 here)

-- ---- one entry more

get_or_default : (xs : List (List ℕ)) (k : ℕ) (c d : List ℕ) → k < length xs → get_or xs k d ≡ get_or xs k c
get_or_default [] k c d lt = absurd (omega arith)
get_or_default (x ∷ xs) zero c d lt = refl
get_or_default (x ∷ xs) (suc k) c d lt = get_or_default xs k c d (omega arith)

pub IsNode-with_entry : (node : State) (e : Entry) → IsNode node → HasPlace node e.string → IsKey node.version node.form e.string e.key → IsNode (record node { entries = node.entries ++ e ∷ [] })
IsNode-with_entry node e is place key =
    record {
      entries = All-push (IsEntry node.version node.form) node.entries e is.entries (record { keepable = place.new.keepable; key = key });
      unlike = subst (AllPairs (λ (a b : List ℕ). a ≢ b)) (sym (map-append (λ (x : Entry). x.string) node.entries (e ∷ [])))
          (all_pairs_push (λ (a b : List ℕ). a ≢ b) (strings_of node.entries) e.string is.unlike
          (λ k d lt same. place.new.absent (k, lt, get_or_default (strings_of node.entries) k d e.string lt ∙ same)));
      fits = omega (arith, place.room, length_push node.entries e);
      room = is.room;
      sound = is.sound;
    }
