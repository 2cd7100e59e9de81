-- The form of many lines is that of each of them.
use Rattle.std.proofs.Common.{◌≡◌, ℕ, ◌+◌, ◌≤◌, List, [], ◌∷◌, ◌++◌, length, chars, take, drop, IsUtf8, encode_utf8, encode_utf8_all, refl, sym, ap, subst, ◌∙◌, append_assoc, None, inl, arith}
use Rattle.std.proofs.lemmas.Bool.{and_parts}
use Rattle.std.proofs.lemmas.List.{drop_at, take_at}
use Rattle.std.proofs.lemmas.List.Elements.{All-head, All-tail}
use Rattle.std.proofs.lemmas.Str.{chars-append, chars_from_encodes, chars_past_char, encode_ascii, encodes-append, encodes-chars, IsUtf8-drop, IsUtf8-take}
use Rattle.np_code_points.specs.Lines.{HasNo}
use Rattle.np_forms.specs.Assigned.{IsAssigned}
use Rattle.np_forms.specs.Forms.{IsNormalForm}
use Rattle.np_forms.specs.inside.NormalForms.{normal_form}
use Rattle.np_forms.proofs.CopyLemmas.{parts-at}
use Rattle.np_forms.proofs.FormLemmas.{IsNormalForm-normal_form, normal_form_is}
use Rattle.np_forms.proofs.QuickSpanLemmas.{walked_form}
use Rattle.np_forms.proofs.TextLemmas.{assigned-back, assigned-front}
use Rattle.np_versions.specs.Boundaries.{BeginsAtBoundary, IsYesStarter}
use Rattle.np_versions.specs.Conditions.{IsSound}
use Rattle.np_versions.specs.Versions.{VersionData, is_assigned}
use Rattle.std.specs.List.{list_all}
use Rattle.np_lines.specs.Answers.{Wanted}
use Rattle.np_lines.specs.Lines.{LineEnd, IsCut, byte_of, ended}
use Rattle.np_lines.specs.inside.Keyed.{AreKeyed, HasBoundariesAt, ends_in}
use Rattle.np_lines.proofs.CutLemmas.{cut_of, ended-cons}
use Rattle.np_lines.proofs.EndLemmas.{ends-append, ends-free, ends-one, free-ends, same_cut}
use Rattle.np_lines.proofs.TextCutLemmas.{back, boundary-after, boundary-before, byte_ascii}

encoded : (end : LineEnd) → encode_utf8 (byte_of end) ≡ byte_of end ∷ []
encoded end = encode_ascii (byte_of end) (byte_ascii end)

chars-ended : (end : LineEnd) (behind : List ℕ) → IsUtf8 (byte_of end ∷ behind) → chars (byte_of end ∷ behind) ≡ byte_of end ∷ chars behind
chars-ended end behind utf8 = chars_past_char (byte_of end ∷ behind) behind (byte_of end) utf8 (ap (λ l. l ++ behind) (sym (encoded end)))

-- the parts of a text beside an end
module _ (end : LineEnd) (text line behind : List ℕ) (utf8 : IsUtf8 text) (is : text ≡ line ++ byte_of end ∷ behind) where
  pub utf8-line : IsUtf8 line
  utf8-line = subst IsUtf8 (ap (take (length line)) is ∙ take_at line (byte_of end ∷ behind) (length line) refl) (IsUtf8-take text (length line) utf8 (boundary-before end text line behind is))

  pub utf8-behind : IsUtf8 behind
  utf8-behind = subst IsUtf8 (back end text line behind is) (IsUtf8-drop text (length line + 1) utf8 (boundary-after end text line behind is utf8))

  utf8-ended : IsUtf8 (byte_of end ∷ behind)
  utf8-ended =
      subst IsUtf8 (ap (drop (length line)) is ∙ drop_at line (byte_of end ∷ behind) (length line) refl) (IsUtf8-drop text (length line) utf8 (boundary-before end text line behind is))

  pub chars-parts : chars text ≡ chars line ++ byte_of end ∷ chars behind
  chars-parts = ap chars is ∙ chars-append line (byte_of end ∷ behind) utf8-line ∙ ap (λ l. chars line ++ l) (chars-ended end behind utf8-ended)

module _ (v : VersionData) (wanted : Wanted) (sound : IsSound v) (yes_starter : IsYesStarter v wanted.form (byte_of wanted.end)) where
  abbrev e : ℕ
  e = byte_of wanted.end

  abbrev form_of : List ℕ → List ℕ
  form_of text = encode_utf8_all (normal_form v wanted.form (chars text))

  own : normal_form v wanted.form (e ∷ []) ≡ e ∷ []
  own = walked_form v sound wanted.form None 0 (e ∷ []) 0 (0, inl yes_starter, refl)

  -- the form parts at an end
  boundaries : (text line behind : List ℕ) → IsUtf8 text → text ≡ line ++ e ∷ behind → BeginsAtBoundary v wanted.form (chars behind) → form_of text ≡ form_of line ++ e ∷ form_of behind
  boundaries text line behind utf8 is at =
      let nf = normal_form v wanted.form in
      let codes : nf (chars text) ≡ nf (chars line) ++ e ∷ nf (chars behind) =
      ap nf (chars-parts wanted.end text line behind utf8 is)
      ∙ parts-at v sound wanted.form (chars line) (e ∷ chars behind) yes_starter.boundary
      ∙ ap (λ l. nf (chars line) ++ l) (parts-at v sound wanted.form (e ∷ []) (chars behind) at ∙ ap (λ l. l ++ nf (chars behind)) own) in
      ap encode_utf8_all codes ∙ encodes-append (nf (chars line)) (e ∷ nf (chars behind)) ∙ ap (λ l. form_of line ++ (l ++ form_of behind)) (encoded wanted.end)

  boundaries-behind : (text line behind : List ℕ) → text ≡ line ++ e ∷ behind → HasBoundariesAt v wanted text → HasBoundariesAt v wanted behind
  boundaries-behind text line behind is parts before rest at =
      parts (line ++ e ∷ before) rest (is ∙ ap (λ l. line ++ e ∷ l) at ∙ sym (append_assoc line (e ∷ before) (e ∷ rest)))

  -- in the form no fewer lines end
  no_fewer : (whole : List (List ℕ)) (rest text : List ℕ) → IsCut wanted.end text whole rest → IsUtf8 text → HasBoundariesAt v wanted text → ends_in wanted.end text ≤ ends_in wanted.end (form_of text)
  no_fewer [] rest text cut utf8 parts = omega (arith, ends-free wanted.end text (subst (HasNo e) (sym cut.joined) cut.unended))
  no_fewer (line ∷ lines) rest text cut utf8 parts =
      let behind = ended wanted.end lines ++ rest in
      let is : text ≡ line ++ e ∷ behind = cut.joined ∙ ended-cons wanted.end line lines rest in
      let later : IsCut wanted.end behind lines rest = record { joined = refl; apart = All-tail (HasNo e) line lines cut.apart; unended = cut.unended } in
      let more = no_fewer lines rest behind later (utf8-behind wanted.end text line behind utf8 is) (boundaries-behind text line behind is parts) in
      omega (
        arith,
        more,
        ap (ends_in wanted.end) is,
        ends-append wanted.end line (e ∷ behind),
        ends-one wanted.end behind,
        ends-free wanted.end line (All-head (HasNo e) line lines cut.apart),
        ap (ends_in wanted.end) (boundaries text line behind utf8 is (parts line behind is)),
        ends-append wanted.end (form_of line) (e ∷ form_of behind),
        ends-one wanted.end (form_of behind),
      )

-- the first line of lines and of their form
pub record Keyed (v : VersionData) (wanted : Wanted) (line key behind later : List ℕ) : Type 0 where
  pub assigned : IsAssigned v (chars line)
  pub normal : IsNormalForm v wanted.form (chars line) (chars key)
  pub rest : AreKeyed v wanted behind later

pub keyed-line : (v : VersionData) (wanted : Wanted) (lines keys line behind key later : List ℕ) → IsUtf8 lines → IsUtf8 keys → IsUtf8 key → IsUtf8 later → lines ≡ line ++ byte_of wanted.end ∷ behind → HasNo (byte_of wanted.end) line
    → keys ≡ key ++ byte_of wanted.end ∷ later → HasNo (byte_of wanted.end) key → AreKeyed v wanted lines keys → Keyed v wanted line key behind later
keyed-line v wanted lines keys line behind key later utf8 of_keys of_key of_later is free of free_key k =
    let end = wanted.end in
    let nf = normal_form v wanted.form in
    let form = form_of v wanted k.sound k.yes_starter in
    let utf8_behind = utf8-behind end lines line behind utf8 is in
    let utf8_line = utf8-line end lines line behind utf8 is in
    let whole : keys ≡ form lines = sym (encodes-chars keys of_keys) ∙ ap encode_utf8_all (normal_form_is v k.sound wanted.form (chars lines) (chars keys) k.normal) in
    let parts : form lines ≡ form line ++ byte_of end ∷ form behind = boundaries v wanted k.sound k.yes_starter lines line behind utf8 is (k.boundaries line behind is) in
    let cut = cut_of end behind in
    let apart = boundaries-behind v wanted k.sound k.yes_starter lines line behind is k.boundaries in
    let more = no_fewer v wanted k.sound k.yes_starter cut.whole cut.rest behind cut.cut utf8_behind apart in
    let of_lines : ends_in end lines ≡ 1 + ends_in end behind =
    omega (arith, ap (ends_in end) is, ends-append end line (byte_of end ∷ behind), ends-free end line free, ends-one end behind) in
    let of_form : ends_in end keys ≡ ends_in end (form line) + (1 + ends_in end (form behind)) =
    ap (ends_in end) (whole ∙ parts) ∙ ends-append end (form line) (byte_of end ∷ form behind) ∙ ap (λ n. ends_in end (form line) + n) (ends-one end (form behind)) in
    let none : ends_in end (form line) ≡ 0 = omega (arith, more, of_lines, of_form, k.count) in
    let same = same_cut end key later (form line) (form behind) free_key (free-ends end (form line) none) (sym of ∙ whole ∙ parts) in
    let chars_key : nf (chars line) ≡ chars key = chars_from_encodes (nf (chars line)) key of_key (sym same.0) in
    let chars_later : nf (chars behind) ≡ chars later = chars_from_encodes (nf (chars behind)) later of_later (sym same.1) in
    record {
      assigned = assigned-front v lines line (byte_of end ∷ behind) utf8_line is k.assigned;
      normal = subst (IsNormalForm v wanted.form (chars line)) chars_key (IsNormalForm-normal_form v k.sound wanted.form (chars line));
      rest = record {
        sound = k.sound;
        yes_starter = k.yes_starter;
        boundaries = apart;
        assigned =
            (and_parts (is_assigned v (byte_of end)) (list_all (is_assigned v) (chars behind))
            (ap (list_all (is_assigned v)) (sym (chars-ended end behind (utf8-ended end lines line behind utf8 is))) ∙ assigned-back v lines line (byte_of end ∷ behind) utf8_line is k.assigned)).1;
        normal = subst (IsNormalForm v wanted.form (chars behind)) chars_later (IsNormalForm-normal_form v k.sound wanted.form (chars behind));
        count = ap (ends_in end) same.1 ∙ omega (arith, none, of_lines, of_form, k.count);
      };
    }
