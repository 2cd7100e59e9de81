use Rattle.std.proofs.Common.{◌≡◌, ℕ, true, false, ◌&&◌, sym, subst, ap, ◌∙◌, if◌then◌else◌}
use Rattle.np_code_points.specs.Hangul.{is_syllable}
use Rattle.np_ucd.specs.declared.rows.MapKind.TheVariants.{Canonical}
use Rattle.np_versions.specs.Versions.{VersionData, decomposition_kind, file_kind, has_hangul}
use Rattle.np_versions.proofs.Words.{and_left, and_right}
use Rattle.np_c.proofs.properties.kind_of.Goals as goal
use Rattle.np_c.proofs.properties.kind_of.Goals.{else-has_hangul-via-then-has_hangul+else-is_syllable, else-has_hangul-via-else-has_hangul}

composed : (v : VersionData) (c : ℕ) → (has_hangul v && is_syllable c) ≡ true → decomposition_kind v c ≡ Canonical
unfolding decomposition_kind
composed v c h = ap (λ b. if b then Canonical else file_kind v c) h

plain : (v : VersionData) (c : ℕ) → (has_hangul v && is_syllable c) ≡ false → decomposition_kind v c ≡ file_kind v c
unfolding decomposition_kind
plain v c h = ap (λ b. if b then Canonical else file_kind v c) h

pub returns-then-is_syllable : goal.returns-then-is_syllable
returns-then-is_syllable c =
    let v = c.args.version.now in
    let on : has_hangul v ≡ true = sym c.has_hangul.ensures ∙ c.if-has_hangul.true in
    let syllable : is_syllable c.args.code ≡ true = sym c.is_syllable.ensures ∙ c.if-is_syllable.true in
    sym (composed v c.args.code (subst (λ b. (b && is_syllable c.args.code) ≡ true) (sym on) syllable))

pub returns-else-has_hangul : goal.returns-else-has_hangul
returns-else-has_hangul c =
    let v = c.args.version.now in
    let both : (has_hangul v && is_syllable c.args.code) ≡ false =
    elim c.else-has_hangul.branch [
      | else-has_hangul-via-then-has_hangul+else-is_syllable w ↦ and_right (has_hangul v) _ (sym w.is_syllable.ensures ∙ w.if-is_syllable.false)
      | else-has_hangul-via-else-has_hangul w ↦ and_left _ (is_syllable c.args.code) (sym c.has_hangul.ensures ∙ w.if-has_hangul.false)
    ] in
    c.kind_of.ensures ∙ sym (plain v c.args.code both)
