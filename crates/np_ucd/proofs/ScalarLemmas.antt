-- The code points that the words of a mapping write.
use Rattle.std.proofs.Common.{◌≡◌, ℕ, ◌≤◌, true, false, not, cond, eqb, List, [], ◌∷◌, length, get_or, drop, Option, Some, None, sym, ap, ◌∙◌, arith}
use Rattle.std.specs.Option.{option_and_then}
use Rattle.std.proofs.lemmas.Bool.{cond-true, cond-false, true≢false, eqb-true, eq-eqb, ne_eqb}
use Rattle.np_code_points.specs.declared.words.Dividers.TheVariants.{Spaces}
use Rattle.np_code_points.specs.inside.LineCuts.{after_byte, is_empty}
use Rattle.np_code_points.specs.inside.WordValues.{scalar_value, scalars_of, if_short}
use Rattle.np_code_points.specs.inside.WordCuts.{divides, after_all, words_of}
use Rattle.np_code_points.proofs.ValueGrammar.{joined, joined_bad, short_long, short_all}
use Rattle.np_ucd.specs.Entries.{Plain, Canonical, Compatibility}
use Rattle.np_ucd.specs.inside.FieldReading.{short_scalars, listed_mapping, mapping_at, mapping_value}

pub scalars_bad : (most : ℕ) (text done : List ℕ) (words : List (List ℕ)) (word : List ℕ) (more : List (List ℕ)) → scalars_of (words_of Spaces text) ≡ joined done (scalars_of words) → words ≡ word ∷ more → scalar_value word ≡ None → short_scalars most text ≡ None
unfolding short_scalars
scalars_bad most text done words word more total split bad =
    ap (option_and_then (if_short most)) (joined_bad scalar_value (scalars_of (words_of Spaces text)) done words word more total split bad)

pub scalars_long : (most : ℕ) (text done : List ℕ) (words : List (List ℕ)) (word : List ℕ) (more : List (List ℕ)) (code : ℕ) → scalars_of (words_of Spaces text) ≡ joined done (scalars_of words) → words ≡ word ∷ more → scalar_value word ≡ Some code → most ≤ length done → short_scalars most text ≡ None
unfolding short_scalars
scalars_long most text done words word more code total split good l =
    short_long scalar_value most (scalars_of (words_of Spaces text)) done words word more code total split good l

pub scalars_all : (most : ℕ) (text done : List ℕ) (words : List (List ℕ)) → scalars_of (words_of Spaces text) ≡ joined done (scalars_of words) → words ≡ [] → length done ≤ most → short_scalars most text ≡ cond (not (is_empty done)) (Some done) None
unfolding short_scalars
scalars_all most text done words total none l = short_all scalar_value most (scalars_of (words_of Spaces text)) done words total none l

-- What a mapping's field says, by its first byte that is no space.
pub mapping_empty : (field s : List ℕ) → s ≡ after_all (divides Spaces) field → eqb (length s) 0 ≡ true → mapping_value field ≡ Some (record { kind = Plain; codes = [] })
unfolding mapping_value
mapping_empty field [] h e = ap mapping_at (sym h)
mapping_empty field (x ∷ xs) h e = absurd (omega (arith, eqb-true (length (x ∷ xs)) 0 e))

pub mapping_canonical : (field s : List ℕ) → s ≡ after_all (divides Spaces) field → eqb (length s) 0 ≡ false → (get_or s 0 0 ≡ 60 → ⊥) → listed_mapping Canonical 2 s ≡ mapping_value field
unfolding mapping_value
mapping_canonical field [] h e ne = absurd (true≢false e)
mapping_canonical field (x ∷ xs) h e ne =
    sym (cond-false (eqb x 60) (option_and_then (listed_mapping Compatibility 32) (after_byte 62 xs)) (listed_mapping Canonical 2 (x ∷ xs)) (ne_eqb x 60 ne))
    ∙ ap mapping_at h

pub mapping_tagged : (field s rest : List ℕ) (o : Option (List ℕ)) → s ≡ after_all (divides Spaces) field → eqb (length s) 0 ≡ false → get_or s 0 0 ≡ 60 → rest ≡ drop 1 s → after_byte 62 rest ≡ o → option_and_then (listed_mapping Compatibility 32) o ≡ mapping_value field
unfolding mapping_value
mapping_tagged field [] rest o h e is after found = absurd (true≢false e)
mapping_tagged field (x ∷ xs) rest o h e is after found =
    ap (option_and_then (listed_mapping Compatibility 32)) (sym found ∙ ap (after_byte 62) after)
    ∙ sym (cond-true (eqb x 60) (option_and_then (listed_mapping Compatibility 32) (after_byte 62 xs)) (listed_mapping Canonical 2 (x ∷ xs)) (eq-eqb x 60 is))
    ∙ ap mapping_at h
