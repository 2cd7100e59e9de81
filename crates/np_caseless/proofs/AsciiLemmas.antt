-- The caseless key of a text of ASCII: each of its bytes, folded.
use Rattle.std.proofs.Common.{◌≡◌, ℕ, suc, ◌<◌, ◌≤◌, Bool, true, false, List, [], ◌∷◌, ◌++◌, Option, Some, None, get_or, length, map, take, chars, refl, sym, ap, ap₂, subst, inl, ◌∙◌}
use Rattle.std.proofs.lemmas.Bool.{and_from}
use Rattle.std.proofs.lemmas.List.{take_all}
use Rattle.std.proofs.lemmas.Str.{chars-IsAscii}
use Rattle.std.proofs.lemmas.Str.Ascii.{IsAscii-cons, IsAscii-nil}
use Rattle.std.specs.Str.{IsAscii}
use Rattle.np_caseless.specs.Caseless.{IsCaseless, IsFolded}
use Rattle.np_caseless.specs.Folded.{FoldedVersion, fold_all}
use Rattle.np_caseless.specs.inside.AsciiFoldings.{FoldsAscii, FoldsToByte, KeepsAscii}
use Rattle.np_code_points.specs.Forms.{is_compat}
use Rattle.np_code_points.specs.declared.forms.Form.{Form}
use Rattle.np_code_points.specs.declared.forms.Form.TheVariants.{Nfd, Nfc, Nfkd, Nfkc}
use Rattle.np_forms.specs.Assigned.{IsAssigned}
use Rattle.np_forms.specs.Forms.{IsNormalForm}
use Rattle.np_forms.proofs.FormLemmas.{IsNormalForm-normal_form}
use Rattle.np_forms.proofs.QuickSpanLemmas.{walked_form}
use Rattle.np_versions.specs.Boundaries.{IsYesStarter}
use Rattle.np_versions.specs.Conditions.{IsSound}
use Rattle.np_versions.specs.QuickSpans.{MayFollow, Walks}
use Rattle.np_versions.specs.Versions.{VersionData, is_assigned}

-- a text that is ASCII as far as it goes
pub front_is_all : (text bytes : List ℕ) (n : ℕ) → bytes ≡ text → length text ≤ n → IsAscii (take n bytes) → IsAscii text
front_is_all text bytes n same all h = subst IsAscii (ap (take n) same ∙ take_all n text all) h

-- a form that keeps each character of ASCII keeps a text of ASCII
module _ (v : VersionData) (sound : IsSound v) (form : Form) (yes_starter : (c : ℕ) → c < 128 → IsYesStarter v form c) where
  walks : (before : Option ℕ) (cs : List ℕ) → IsAscii cs → Walks (MayFollow v form) before 0 cs 0
  walks before [] h = refl
  walks before (c ∷ cs) h = (0, inl (yes_starter c (h 0)), walks (Some c) cs (λ i. h (suc i)))

  own : (cs : List ℕ) → IsAscii cs → IsNormalForm v form cs cs
  own cs h = subst (IsNormalForm v form cs) (walked_form v sound form None 0 cs 0 (walks None cs h)) (IsNormalForm-normal_form v sound form cs)

own_form : (v : VersionData) → IsSound v → KeepsAscii v → (form : Form) (cs : List ℕ) → IsAscii cs → IsNormalForm v form cs cs
own_form v sound keeps Nfd = own v sound Nfd keeps.nfd
own_form v sound keeps Nfc = own v sound Nfc keeps.nfc
own_form v sound keeps Nfkd = own v sound Nfkd keeps.nfkd
own_form v sound keeps Nfkc = own v sound Nfkc keeps.nfkc

all_assigned : (v : VersionData) → ((c : ℕ) → c < 128 → is_assigned v c ≡ true) → (cs : List ℕ) → IsAscii cs → IsAssigned v cs
all_assigned v each [] h = refl
all_assigned v each (c ∷ cs) h = and_from _ _ (each c (h 0)) (all_assigned v each cs (λ i. h (suc i)))

module _ (v : FoldedVersion) (bytes : List ℕ) (folds : FoldsAscii v bytes) where
  abbrev f : ℕ → ℕ
  f c = get_or bytes c 0

  to : (c : ℕ) → c < 128 → FoldsToByte v.foldings c (f c)
  to c h = folds.folds.each c h

  fold_ascii : (cs : List ℕ) → IsAscii cs → fold_all v.foldings cs ≡ map f cs
  unfolding fold_all
  fold_ascii [] h = refl
  fold_ascii (c ∷ cs) h = ap₂ (λ l m. l ++ m) (to c (h 0)).folds (fold_ascii cs (λ i. h (suc i)))

  pub folded_ascii : (cs : List ℕ) → IsAscii cs → IsAscii (map f cs)
  folded_ascii [] h = IsAscii-nil
  folded_ascii (c ∷ cs) h = IsAscii-cons (f c) (map f cs) (to c (h 0)).ascii (folded_ascii cs (λ i. h (suc i)))

  fold_again : (cs : List ℕ) → IsAscii cs → fold_all v.foldings (map f cs) ≡ map f cs
  unfolding fold_all
  fold_again [] h = refl
  fold_again (c ∷ cs) h = ap₂ (λ l m. l ++ m) (to c (h 0)).once (fold_again cs (λ i. h (suc i)))

  pub ascii_assigned : (text : List ℕ) → IsAscii text → IsAssigned v.version (chars text)
  ascii_assigned text h = subst (IsAssigned v.version) (sym (chars-IsAscii text h)) (all_assigned v.version folds.keeps.assigned text h)

  module _ (sound : IsSound v.version) (form : Form) where
    is_folded : (compat : Bool) (cs : List ℕ) → IsAscii cs → IsFolded v compat cs (map f cs)
    is_folded false cs h = (cs, own_form v.version sound folds.keeps Nfd cs h, sym (fold_ascii cs h))
    is_folded true cs h = (
      cs,
      map f cs,
      own_form v.version sound folds.keeps Nfd cs h,
      subst (λ l. IsNormalForm v.version Nfkd l (map f cs)) (sym (fold_ascii cs h)) (own_form v.version sound folds.keeps Nfkd (map f cs) (folded_ascii cs h)),
      sym (fold_again cs h),
    )

    pub ascii_caseless : (cs : List ℕ) → IsAscii cs → IsCaseless v form cs (map f cs)
    ascii_caseless cs h = record {
      folded = map f cs;
      folds = is_folded (is_compat form) cs h;
      normal = own_form v.version sound folds.keeps form (map f cs) (folded_ascii cs h);
    }

    pub ascii_key : (text key : List ℕ) → IsAscii text → key ≡ map f text → IsCaseless v form (chars text) (chars key)
    ascii_key text key h same =
        let codes = chars-IsAscii text h in
        let made = ap chars same ∙ chars-IsAscii (map f text) (folded_ascii text h) in
        subst (λ l. IsCaseless v form l (chars key)) (sym codes) (subst (IsCaseless v form text) (sym made) (ascii_caseless text h))
