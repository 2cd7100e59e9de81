-- Lists of the code points that have a mapping in the file.
use Rattle.std.proofs.Common.{◌≡◌, ℕ, ◌+◌, List, [], ◌∷◌, ◌++◌, length, length-append, sym, subst, ◌∙◌, inl, inr, arith}
use Rattle.std.proofs.lemmas.List.{get_or_append_left}
use Rattle.std.proofs.Math.Seq.{get_or-append_seam}
use Rattle.np_versions.specs.Versions.{VersionData}
use Rattle.np_caseless.specs.inside.FirstFaults.{AreMappedBelow, Below, HasNoMapping, IsCodeAt, IsRowAt}
use Rattle.np_caseless.proofs.FirstLemmas.{below_next}

module _ (v : VersionData) (at first : ℕ) where
  pub mapped_none : (codes : List ℕ) → ((c : ℕ) → IsRowAt v.entries at c → c ≡ first) → HasNoMapping v first → AreMappedBelow v at codes
      → AreMappedBelow v (at + 1) codes
  mapped_none codes only none done = λ c h.
      elim (below_next (IsRowAt v.entries) at c h) [
        | inl earlier ↦ done c earlier
        | inr there ↦ inl (subst (HasNoMapping v) (sym (only c there)) none)
      ]

  kept : (codes : List ℕ) (code c : ℕ) → Below (IsCodeAt codes) (length codes) c → Below (IsCodeAt (codes ++ code ∷ [])) (length (codes ++ code ∷ [])) c
  kept codes code c h =
      (h.0, (let lt = h.1 in omega (arith, length-append codes (code ∷ []))), get_or_append_left codes (code ∷ []) 0 h.0 h.1 ∙ h.2)

  pub mapped_more : (code : ℕ) (codes : List ℕ) → ((c : ℕ) → IsRowAt v.entries at c → c ≡ first) → code ≡ first → AreMappedBelow v at codes
      → AreMappedBelow v (at + 1) (codes ++ code ∷ [])
  mapped_more code codes only same done = λ c h.
      elim (below_next (IsRowAt v.entries) at c h) [
        | inl earlier ↦ elim (done c earlier) [ inl none ↦ inl none | inr some ↦ inr (kept codes code c some) ]
        | inr there ↦ inr (length codes, omega (arith, length-append codes (code ∷ [])), get_or-append_seam codes code [] 0 ∙ same ∙ sym (only c there))
      ]
