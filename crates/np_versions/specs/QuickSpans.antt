-- Fronts of texts that are their own normal form: starters that pass the quick check (UAX #15, section 9), and in canonical order
-- code points without a mapping that do not compose with what is before them.
use Rattle.std.specs.Prelude.{◌≡◌, ℕ, ◌<◌, ◌≤◌, ◌⊎◌, true, List, [], ◌∷◌, ◌++◌, Option, Some, None, length, chars, encode_utf8_all, IsUtf8}
use Rattle.np_code_points.specs.declared.forms.Form.{Form}
use Rattle.np_code_points.specs.Forms.{is_compat, composes}
use Rattle.np_versions.specs.Boundaries.{IsYesStarter}
use Rattle.np_versions.specs.Composites.{IsCompositeOf}
use Rattle.np_versions.specs.Mappings.{is_final}
use Rattle.np_versions.specs.Versions.{VersionData, class_of}

-- where the form composes, c is the second part of no primary composite
abbrev pub NeverComposesBackward : VersionData → Form → ℕ → Type 0
NeverComposesBackward v form c = composes form ≡ true → (a p : ℕ) → ¬ (IsCompositeOf v a c p)

-- right behind the code point `kept` c does not compose: that is a non-starter which blocks it, or a starter with which it is the
-- pair of no primary composite, and which has no mapping of the form's kind, since with a part of that it might be one
abbrev pub CannotComposeAfter : VersionData → Form → ℕ → ℕ → Type 0
CannotComposeAfter v form kept c = ((0 < class_of v kept) × (class_of v c ≤ class_of v kept))
    ⊎ ((class_of v kept ≡ 0) × (is_final v (is_compat form) kept ≡ true) × ((p : ℕ) → ¬ (IsCompositeOf v kept c p)))

-- behind the code point `before`, where no class but 0 may follow that is below `last`, c may pass the quick check, and behind it n is such a bound: c is a
-- starter that passes the quick check, whatever n is; or it has no mapping of the form's kind, its class may follow, and it does not compose
abbrev pub MayFollow : VersionData → Form → Option ℕ → ℕ → ℕ → ℕ → Type 0
MayFollow v form before last c n = IsYesStarter v form c
    ⊎ ((is_final v (is_compat form) c ≡ true) × (n ≡ class_of v c) × ((n ≡ 0) ⊎ (last ≤ n))
    × (NeverComposesBackward v form c ⊎ ((kept : ℕ) × (before ≡ Some kept) × CannotComposeAfter v form kept c)))

-- a walk over a list, which begins behind a code point, or none, with one number and ends with another: each step leads from
-- the code point before and a number over a code point to a number
abbrev pub Walks : (Option ℕ → ℕ → ℕ → ℕ → Type 0) → Option ℕ → ℕ → List ℕ → ℕ → Type 0
Walks Step before last [] end = last ≡ end
Walks Step before last (c ∷ cs) end = (n : ℕ) × Step before last c n × Walks Step (Some c) n cs end

-- the first n bytes of a text are code points over which a walk leads from 0 on
pub record AreWalked (Step : Option ℕ → ℕ → ℕ → ℕ → Type 0) (bytes : List ℕ) (n : ℕ) : Type 0 where
  pub front : List ℕ
  pub back : List ℕ
  pub end : ℕ
  pub split : bytes ≡ encode_utf8_all front ++ back
  pub text : chars bytes ≡ front ++ chars back
  pub utf8 : IsUtf8 back
  pub walk : Walks Step None 0 front end
  pub place : n ≡ length (encode_utf8_all front)

-- the first n bytes of a text are code points that may follow one another in the form as they are
abbrev pub IsQuickSpan : VersionData → Form → List ℕ → ℕ → Type 0
IsQuickSpan v form = AreWalked (MayFollow v form)
