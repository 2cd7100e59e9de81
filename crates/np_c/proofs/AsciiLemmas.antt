-- Texts of ASCII are their own keys where each ASCII character is a starter that passes the quick check.
use Rattle.std.proofs.Common.{◌≡◌, ◌⊎◌, ℕ, suc, Bool, false, inr, IsTrue, ◌<◌, true, List, [], ◌∷◌, ◌++◌, Option, Some, None, length, chars, refl, sym, ap, subst, ◌∙◌, inl, append-nil, take_all, le_refl, encode_utf8_all}
use Rattle.std.proofs.lemmas.Bool.{and_from}
use Rattle.std.specs.Str.{IsAscii}
use Rattle.std.proofs.lemmas.Str.{chars-IsAscii, chars-nil, encodes-IsAscii, IsUtf8-from_ascii}
use Rattle.np_code_points.specs.declared.forms.Form.{Form}
use Rattle.np_forms.specs.Assigned.{IsAssigned}
use Rattle.np_forms.specs.Forms.{IsNormalForm}
use Rattle.np_forms.specs.Laws.{QuickSpanForm}
use Rattle.np_versions.specs.Boundaries.{IsYesStarter}
use Rattle.np_versions.specs.Conditions.{IsSound}
use Rattle.np_versions.specs.QuickSpans.{MayFollow, Walks, IsQuickSpan}
use Rattle.np_versions.specs.Versions.{VersionData, is_assigned}
use Rattle.np_c.specs.Ascii.{KeepsAscii}
use Rattle.np_c.specs.Statuses.{alone}
use Rattle.np_c.specs.inside.FaultAnswers.{told_answer}

module _ (v : VersionData) (form : Form) (each_assigned : (c : ℕ) → c < 128 → is_assigned v c ≡ true) (yes_starter : (c : ℕ) → c < 128 → IsYesStarter v form c) where
  ascii_walks : (before : Option ℕ) (cs : List ℕ) → IsAscii cs → Walks (MayFollow v form) before 0 cs 0
  ascii_walks before [] h = refl
  ascii_walks before (c ∷ cs) h = (0, inl (yes_starter c (h 0)), ascii_walks (Some c) cs (λ i. h (suc i)))

  ascii_assigned : (cs : List ℕ) → IsAscii cs → IsAssigned v cs
  ascii_assigned [] h = refl
  ascii_assigned (c ∷ cs) h = and_from _ _ (each_assigned c (h 0)) (ascii_assigned cs (λ i. h (suc i)))

  module _ (text : List ℕ) (ascii : IsAscii text) where
    chars_are : chars text ≡ text
    chars_are = chars-IsAscii text ascii

    ascii_span : IsQuickSpan v form text (length text)
    ascii_span = record {
      front = text;
      back = [];
      end = 0;
      split = sym (append-nil _ ∙ encodes-IsAscii text ascii);
      text = chars_are ∙ sym (append-nil text) ∙ ap (λ l. text ++ l) (sym chars-nil);
      utf8 = ([], (refl, refl));
      walk = ascii_walks None text ascii;
      place = ap length (sym (encodes-IsAscii text ascii));
    }

  pub keeps_ascii : IsSound v → QuickSpanForm → KeepsAscii v form
  keeps_ascii sound quick text ascii =
      let utf8 = IsUtf8-from_ascii text ascii in
      let own = quick v form text (length text) sound utf8 (ascii_span text ascii) in
      record {
        assigned = subst (IsAssigned v) (sym (chars_are text ascii)) (ascii_assigned text ascii);
        is = record {
          valid = utf8;
          codes = chars text;
          is = subst (λ t. IsNormalForm v form (chars t) (chars t)) (take_all (length text) text (le_refl (length text))) own;
          bytes_are = sym (encodes-IsAscii text ascii) ∙ ap encode_utf8_all (sym (chars_are text ascii));
        };
      }

-- yes where it is kept, and no where that isn't known
pub tells_ascii : (v : VersionData) (form : Form) (yes : Bool) → (IsTrue yes → KeepsAscii v form)
    → ((told_answer yes ≡ alone 0) × KeepsAscii v form) ⊎ (told_answer yes ≡ alone 11)
tells_ascii v form true keeps = inl (refl, keeps refl)
tells_ascii v form false keeps = inr refl
