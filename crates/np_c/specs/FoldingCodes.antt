-- What a code point folds to, as C asks for it.
use Rattle.std.specs.Prelude.{◌≡◌, ◌⊎◌, ℕ, true, false, List, encode_utf8_all}
use Rattle.std.specs.Char.{IsScalar}
use Rattle.np_caseless.specs.Folded.{FoldedVersion, folding_at}
use Rattle.np_versions.specs.Versions.{is_assigned}
use Rattle.np_c.specs.Answers.{IsPut}
use Rattle.np_c.specs.Statuses.{alone, with_code}
use Rattle.np_c.specs.declared.answers.Answer.{Answer}

-- the folding is put into the room, and nothing is told beside its length
pub record IsFoldingPut (v : FoldedVersion) (code : ℕ) (before after : List ℕ) (a : Answer) : Type 0 where
  pub put : IsPut (encode_utf8_all (folding_at v.foldings code)) before after a
  pub alone : a ≡ record { status = a.status; fault = 0; code = 0; place = 0; length = a.length }

-- `npss_folding`: the number is no scalar value (D76), or is not assigned, or its folding is put into the room, or memory ran out
abbrev pub IsFoldingAnswer : FoldedVersion → ℕ → List ℕ → List ℕ → Answer → Type 0
IsFoldingAnswer v code before after a =
    ((¬ (IsScalar code)) × (a ≡ alone 23) × (after ≡ before))
    ⊎ (IsScalar code × (((is_assigned v.version code ≡ false) × (a ≡ with_code 1 code) × (after ≡ before))
    ⊎ ((is_assigned v.version code ≡ true) × (IsFoldingPut v code before after a ⊎ ((a ≡ alone 4) × (after ≡ before))))))
