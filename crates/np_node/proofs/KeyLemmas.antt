-- A string has one key, and keeps it along an extension.
use Rattle.std.proofs.Common.{◌≡◌, ℕ, ◌<◌, ◌≤◌, ◌^◌, ◌↔◌, List, length, chars, IsUtf8, sym, ap, ◌∙◌, arith, encode_utf8_all}
use Rattle.std.proofs.lemmas.Str.{encodes-chars}
use Rattle.np_chain.specs.Chain.{Extends}
use Rattle.np_chain.specs.Laws.{Stability}
use Rattle.np_code_points.specs.Forms.{is_compat}
use Rattle.np_code_points.specs.declared.forms.Form.{Form}
use Rattle.np_forms.proofs.FormLemmas.{normal_form_is, same_forms, length-key}
use Rattle.np_forms.specs.Forms.{IsEquivalent}
use Rattle.np_node.specs.Fields.{FitsFields}
use Rattle.np_node.specs.Strings.{Entry, most_bytes, IsKeepable, IsKey, IsEntry}
use Rattle.np_versions.specs.Conditions.{IsSound}
use Rattle.np_versions.specs.Versions.{VersionData}

-- texts that are UTF-8 are their code points
same_bytes : (k l : List ℕ) → IsUtf8 k → IsUtf8 l → chars k ≡ chars l → k ≡ l
same_bytes k l p q e = sym (encodes-chars k p) ∙ ap encode_utf8_all e ∙ encodes-chars l q

module _ (v : VersionData) (sound : IsSound v) (form : Form) where
  pub one_key : (string k l : List ℕ) → IsKey v form string k → IsKey v form string l → k ≡ l
  one_key string k l p q =
      same_bytes k l p.utf8 q.utf8
      (normal_form_is v sound form (chars string) (chars k) p.normal ∙ sym (normal_form_is v sound form (chars string) (chars l) q.normal))

  -- two strings have equal keys exactly where they are equivalent
  pub same_keys : (s t k l : List ℕ) → IsKey v form s k → IsKey v form t l → (k ≡ l) ↔ IsEquivalent v (is_compat form) (chars s) (chars t)
  same_keys s t k l p q =
      let same = same_forms v form (chars s) (chars t) (chars k) (chars l) sound p.normal q.normal in
      (λ e. same.0 (ap chars e), λ alike. same_bytes k l p.utf8 q.utf8 (same.1 alike))

  pub small_key : (string key : List ℕ) → length string ≤ most_bytes → IsUtf8 string → IsKey v form string key → length key < 2 ^ 32
  small_key string key short utf8 is =
      let most = length-key v form string key sound utf8 is.utf8 is.normal in
      let within : length key ≤ 16777216 = omega (arith, most, short) in
      omega (arith, within)

  pub fits-entry : (e : Entry) → IsEntry v form e → FitsFields e
  fits-entry e is =
      let short : length e.string ≤ 65536 = is.keepable.short in
      record { string = omega (arith, short); key = small_key e.string e.key is.keepable.short is.keepable.utf8 is.key }

module _ (stability : Stability) (a b : VersionData) (sound_a : IsSound a) (sound_b : IsSound b) (ext : Extends a b) (form : Form) where
  pub later_key : (string key : List ℕ) → IsKeepable a string → IsKey a form string key → IsKey b form string key
  later_key string key may is =
      record { utf8 = is.utf8; normal = (stability a b form (chars string) (chars key) sound_a sound_b ext may.assigned is.normal).0 }

  pub later_entry : (e : Entry) → IsEntry a form e → IsEntry b form e
  later_entry e is =
      let kept = stability a b form (chars e.string) (chars e.key) sound_a sound_b ext is.keepable.assigned is.key.normal in
      record {
        keepable = record { short = is.keepable.short; utf8 = is.keepable.utf8; assigned = kept.2 };
        key = record { utf8 = is.key.utf8; normal = kept.0 };
      }
