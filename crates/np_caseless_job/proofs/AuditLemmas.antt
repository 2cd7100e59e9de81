-- The text of the breaks of two versions with their foldings.
use Rattle.std.proofs.Common.{◌≡◌, ◌==◌, ◌<◌, ◌+◌, ◌∙◌, ℕ, true, false, List, [], ◌∷◌, ◌++◌, length, take, get_or, ap, append-nil, flat_map, codes, refl, sym}
use Rattle.std.proofs.Common.{arith}
use Rattle.std.proofs.lemmas.Bool.{false≢true}
use Rattle.std.proofs.lemmas.Bool.Decides.{Decides-eqb}
use Rattle.std.proofs.lemmas.List.{take_more}
use Rattle.std.proofs.lemmas.List.Concat.{flat_map-append}
use Rattle.np_caseless.specs.declared.breaks.FoldedBreak.{FoldedBreak}
use Rattle.np_caseless_job.specs.CaselessAudits.{folded_audit_text}
use Rattle.np_caseless_job.specs.Tellings.{folded_break_line}

-- the text of no break, and of some
pub text_of_none : (breaks : List FoldedBreak) → true ≡ (length breaks == 0) → codes "extends\n" ≡ folded_audit_text breaks
text_of_none [] none = refl
text_of_none (b ∷ bs) none =
    let same : length (b ∷ bs) ≡ 0 = (Decides-eqb (length (b ∷ bs)) 0).0 (sym none) in
    absurd (omega (arith, same))

pub text_of_some : (breaks : List FoldedBreak) → false ≡ (length breaks == 0) → flat_map folded_break_line breaks ≡ folded_audit_text breaks
text_of_some [] some = absurd (false≢true some)
text_of_some (b ∷ bs) some = refl

-- the text of one more break
pub text_more : (breaks : List FoldedBreak) (i : ℕ) (d : FoldedBreak) (old new : List ℕ) → i < length breaks → old ≡ flat_map folded_break_line (take i breaks)
    → new ≡ old ++ folded_break_line (get_or breaks i d) → new ≡ flat_map folded_break_line (take (i + 1) breaks)
text_more breaks i d old new inside so_far more =
    let line = folded_break_line (get_or breaks i d) in
    let before = flat_map folded_break_line (take i breaks) in
    more
    ∙ ap (λ (l : List ℕ). l ++ line) so_far
    ∙ ap (λ (l : List ℕ). before ++ l) (sym (append-nil line))
    ∙ sym (flat_map-append folded_break_line (take i breaks) (get_or breaks i d ∷ []))
    ∙ ap (flat_map folded_break_line) (sym (take_more breaks i d inside))
