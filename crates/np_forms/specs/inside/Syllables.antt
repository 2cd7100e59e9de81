-- The full decomposition of a Hangul syllable (The Unicode Standard, section 3.12).
use Rattle.std.specs.Prelude.{◌≡◌, ◌<◌, ◌≤◌, ◌⊎◌, ◌++◌, ℕ, true, List, [], ◌∷◌, length, take, chars, flat_map, encode_utf8_all, IsUtf8, if◌then◌else◌}
use Rattle.np_code_points.specs.Hangul.{is_syllable, syllable_pair}

-- the pair of a syllable, and anything else itself
abbrev pub pair_or_self : ℕ → List ℕ
pair_or_self c = if is_syllable c then syllable_pair c else c ∷ []

-- LV gives L and V, LVT the two of LV, and T
unfoldable pub syllable_parts : ℕ → List ℕ
syllable_parts s = flat_map pair_or_self (syllable_pair s)

-- a text that begins with the n bytes of a syllable's jamo
pub record BeginsWithJamo (text : List ℕ) (s n : ℕ) : Type 0 where
  pub syllable : is_syllable s ≡ true
  pub utf8 : IsUtf8 text
  pub some : 0 < n
  pub within : n ≤ length text
  pub front : take n text ≡ encode_utf8_all (syllable_parts s)

-- a text that begins with a syllable, by its jamo or precomposed, and what follows it
pub record BeginsWithSyllable (text later : List ℕ) (s : ℕ) : Type 0 where
  pub syllable : is_syllable s ≡ true
  pub front : List ℕ
  pub spells : (front ≡ syllable_parts s) ⊎ (front ≡ s ∷ [])
  pub bytes : text ≡ encode_utf8_all front ++ later
  pub text_is : chars text ≡ front ++ chars later
  pub utf8 : IsUtf8 later
  pub shorter : length later < length text
