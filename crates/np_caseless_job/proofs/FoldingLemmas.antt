-- What the three files of a version say, by what their readers answer.
use Rattle.std.proofs.Common.{◌≡◌, ◌↔◌, ◌≤◌, ◌∙◌, ℕ, true, false, List, Option, Some, length, is_some, ap, arith, inl, inr, sym, subst}
use Rattle.std.proofs.lemmas.Bool.{false≢true}
use Rattle.np_code_points.specs.Inputs.{IsReadWhole}
use Rattle.np_ucd.specs.Faults.{line_of}
use Rattle.np_ucd.specs.FirstFaults.{IsFirstFault}
use Rattle.np_ucd.specs.Reading.{IsRefused}
use Rattle.np_ucd.specs.declared.faults.UcdFault.{UcdFault}
use Rattle.np_ucd.specs.declared.faults.UcdFault.TheVariants.{FieldCount, BadCode, OutOfOrder, BadCategory, BadClass, BadMapping, RangeOpen, RangeLone}
use Rattle.np_ucd.specs.declared.faults.UcdFault.TheVariants.{RangeDiffers, RangeMaps, TooLarge, ReadFailed, Memory}
use Rattle.np_jobs.proofs.EndLemmas.{same_stream, untouched}
use Rattle.np_jobs.specs.Streams.{Stream, WasRead, stream_of}
use Rattle.np_jobs.specs.Versions.{WasRefused}
use Rattle.np_caseless_job.specs.FoldedVersions.{AreUnread, folded_readers_of}
use Rattle.np_caseless_job.specs.declared.files.OpenFiles.{OpenFiles}
use Rattle.np_caseless_job.specs.inside.FoldingSteps.{IsFaultIn}
use Rattle.np_caseless_job.specs.inside.PairSteps.{AreCleared}

-- ---- the bytes of a data file

-- a fault that has a line, of bytes that were read whole
pub is_first : (bytes : List ℕ) (after : Option (List ℕ)) (fault : UcdFault) → is_some (line_of fault) ≡ true
    → IsRefused IsFirstFault (Some bytes) after fault → IsFirstFault bytes fault
is_first bytes after (FieldCount line) lined h = subst (λ (bs : List ℕ). IsFirstFault bs (FieldCount line)) h.1.whole h.2
is_first bytes after (BadCode line) lined h = subst (λ (bs : List ℕ). IsFirstFault bs (BadCode line)) h.1.whole h.2
is_first bytes after (OutOfOrder line) lined h = subst (λ (bs : List ℕ). IsFirstFault bs (OutOfOrder line)) h.1.whole h.2
is_first bytes after (BadCategory line) lined h = subst (λ (bs : List ℕ). IsFirstFault bs (BadCategory line)) h.1.whole h.2
is_first bytes after (BadClass line) lined h = subst (λ (bs : List ℕ). IsFirstFault bs (BadClass line)) h.1.whole h.2
is_first bytes after (BadMapping line) lined h = subst (λ (bs : List ℕ). IsFirstFault bs (BadMapping line)) h.1.whole h.2
is_first bytes after (RangeOpen line) lined h = subst (λ (bs : List ℕ). IsFirstFault bs (RangeOpen line)) h.1.whole h.2
is_first bytes after (RangeLone line) lined h = subst (λ (bs : List ℕ). IsFirstFault bs (RangeLone line)) h.1.whole h.2
is_first bytes after (RangeDiffers line) lined h = subst (λ (bs : List ℕ). IsFirstFault bs (RangeDiffers line)) h.1.whole h.2
is_first bytes after (RangeMaps line) lined h = subst (λ (bs : List ℕ). IsFirstFault bs (RangeMaps line)) h.1.whole h.2
is_first bytes after TooLarge lined h = absurd (cc)
is_first bytes after ReadFailed lined h = absurd (cc)
is_first bytes after Memory lined h = absurd (cc)

pub has_line : (fault : UcdFault) (line : ℕ) → Some line ≡ line_of fault → is_some (line_of fault) ≡ true
has_line fault line is = ap is_some (sym is)

refused_by : (before after : Option (List ℕ)) (bytes : List ℕ) (fault : UcdFault) → IsReadWhole before after bytes → is_some (line_of fault) ≡ true
    → IsFirstFault bytes fault → IsRefused IsFirstFault before after fault
refused_by before after bytes (FieldCount line) whole lined is = (bytes, whole, is)
refused_by before after bytes (BadCode line) whole lined is = (bytes, whole, is)
refused_by before after bytes (OutOfOrder line) whole lined is = (bytes, whole, is)
refused_by before after bytes (BadCategory line) whole lined is = (bytes, whole, is)
refused_by before after bytes (BadClass line) whole lined is = (bytes, whole, is)
refused_by before after bytes (BadMapping line) whole lined is = (bytes, whole, is)
refused_by before after bytes (RangeOpen line) whole lined is = (bytes, whole, is)
refused_by before after bytes (RangeLone line) whole lined is = (bytes, whole, is)
refused_by before after bytes (RangeDiffers line) whole lined is = (bytes, whole, is)
refused_by before after bytes (RangeMaps line) whole lined is = (bytes, whole, is)
refused_by before after bytes TooLarge whole lined is = absurd (cc)
refused_by before after bytes ReadFailed whole lined is = absurd (cc)
refused_by before after bytes Memory whole lined is = absurd (cc)

-- where the file was read whole, its device did not fail, and that is not the reason
never : (fault : UcdFault) (file : Stream) → file.failed ≡ false → (fault ≡ ReadFailed → ⊥) → (fault ≡ ReadFailed) ↔ (file.failed ≡ true)
never fault file clear other = (λ same. absurd (other same), λ bad. absurd (false≢true (sym clear ∙ bad)))

has_no_line : (fault : UcdFault) → is_some (line_of fault) ≡ true → fault ≡ ReadFailed → ⊥
has_no_line fault lined same = let clash : is_some (line_of ReadFailed) ≡ true = subst (λ (f : UcdFault). is_some (line_of f) ≡ true) same lined in absurd (cc)

-- a fault of bytes that were read whole is one of their file
pub refused_bytes : (file : Stream) (bytes : List ℕ) (fault : UcdFault) → WasRead file bytes → IsFaultIn bytes fault → WasRefused IsFirstFault file fault
refused_bytes file bytes fault was is = elim is [
  | inl memory ↦
      let size : length bytes ≤ 16777217 = omega (arith, was.read.size) in
      subst (WasRefused IsFirstFault file) (sym memory)
      (record { how = (bytes, size, was.read.taken); failed = never Memory file was.clear (λ e. absurd (cc)) })
  | inr (first, lined) ↦ record {
    how = refused_by file.before file.after bytes fault was.read lined first;
    failed = never fault file was.clear (has_no_line fault lined);
  }
]

-- ---- files whose marks were taken away

pub same_readers : {D : Type 0} (tells : D → Option (List ℕ)) (old mid new : OpenFiles D) → AreCleared old mid
    → folded_readers_of tells mid new ≡ folded_readers_of tells old new
same_readers tells old mid new cleared =
    let data_file = same_stream tells mid.data_file old.data_file new.data_file cleared.data_file.0 in
    let exclusions_file = same_stream tells mid.exclusions_file old.exclusions_file new.exclusions_file cleared.exclusions_file.0 in
    let folding_file = same_stream tells mid.folding_file old.folding_file new.folding_file cleared.folding_file.0 in
    ap (λ (s : Stream). record {
      version = record { data_file = s; exclusions_file = stream_of tells mid.exclusions_file new.exclusions_file };
      folding_file = stream_of tells mid.folding_file new.folding_file;
    }) data_file
    ∙ ap (λ (s : Stream). record {
      version = record { data_file = stream_of tells old.data_file new.data_file; exclusions_file = s };
      folding_file = stream_of tells mid.folding_file new.folding_file;
    }) exclusions_file
    ∙ ap (λ (s : Stream). record {
      version = record { data_file = stream_of tells old.data_file new.data_file; exclusions_file = stream_of tells old.exclusions_file new.exclusions_file };
      folding_file = s;
    }) folding_file

pub unread : {D : Type 0} (tells : D → Option (List ℕ)) (old new : OpenFiles D) → AreCleared old new → AreUnread (folded_readers_of tells old new)
unread tells old new cleared = (
  untouched tells old.data_file new.data_file cleared.data_file.0 cleared.data_file.1,
  untouched tells old.exclusions_file new.exclusions_file cleared.exclusions_file.0 cleared.exclusions_file.1,
  untouched tells old.folding_file new.folding_file cleared.folding_file.0 cleared.folding_file.1,
)
