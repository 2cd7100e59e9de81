-- What `audit` makes and why it is refused, by what became of the old version and of the new one.
use Rattle.std.proofs.Common.{◌≡◌, ◌==◌, ◌<◌, ◌+◌, ◌∙◌, ℕ, true, false, List, [], ◌∷◌, ◌++◌, length, take, get_or, ap, append-nil, flat_map, codes, inl, inr}
use Rattle.std.proofs.Common.{refl, sym, arith, string_bytes, Result, Ok, Err, IfOk, IfErr}
use Rattle.std.proofs.lemmas.Bool.{false≢true}
use Rattle.std.proofs.lemmas.Bool.Decides.{Decides-eqb}
use Rattle.std.proofs.lemmas.List.{take_more}
use Rattle.std.proofs.lemmas.List.Concat.{flat_map-append}
use Rattle.std.proofs.lemmas.List.Elements.{All-cons, All-nil}
use Rattle.np_chain.specs.declared.breaks.Break.{Break}
use Rattle.np_versions.specs.Versions.{VersionData}
use Rattle.np_jobs.specs.Audits.{MakesAudit, RefusesAudit, audit_text}
use Rattle.np_jobs.specs.Chains.{AreUntouched, LacksOne, VersionReaders}
use Rattle.np_jobs.specs.Streams.{IsUntouched}
use Rattle.np_jobs.specs.Tellings.{break_line}
use Rattle.np_jobs.specs.Versions.{IsVersionFault, WasBuilt}
use Rattle.np_jobs.specs.inside.AuditSteps.{LacksAgainst, MakesAgainst}
use Rattle.np_jobs.specs.declared.ending.JobOutput.{JobOutput}
use Rattle.np_jobs.specs.declared.faults.JobFault.{JobFault}
use Rattle.np_jobs.specs.declared.faults.VersionFault.{VersionFault}

-- the text of no break, and of some
pub text_of_none : (breaks : List Break) → true ≡ (length breaks == 0) → codes "extends\n" ≡ audit_text breaks
text_of_none [] none = refl
text_of_none (b ∷ bs) none =
    let same : length (b ∷ bs) ≡ 0 = (Decides-eqb (length (b ∷ bs)) 0).0 (sym none) in
    absurd (omega (arith, same))

pub text_of_some : (breaks : List Break) → false ≡ (length breaks == 0) → flat_map break_line breaks ≡ audit_text breaks
text_of_some [] some = absurd (false≢true some)
text_of_some (b ∷ bs) some = refl

-- the text of one more break
pub text_more : (breaks : List Break) (i : ℕ) (d : Break) (old new : List ℕ) → i < length breaks → old ≡ flat_map break_line (take i breaks)
    → new ≡ old ++ break_line (get_or breaks i d)
    → new ≡ flat_map break_line (take (i + 1) breaks)
text_more breaks i d old new inside so_far more =
    let line = break_line (get_or breaks i d) in
    let before = flat_map break_line (take i breaks) in
    more
    ∙ ap (λ (l : List ℕ). l ++ line) so_far
    ∙ ap (λ (l : List ℕ). before ++ l) (sym (append-nil line))
    ∙ sym (flat_map-append break_line (take i breaks) (get_or breaks i d ∷ []))
    ∙ ap (flat_map break_line) (sym (take_more breaks i d inside))

-- the old version was refused, and the new one's files not looked at
pub lacks_old : (old new : VersionReaders) (fault : VersionFault) → IsVersionFault 0 old.data_file old.exclusions_file fault → IsUntouched new.data_file
    → IsUntouched new.exclusions_file
    → LacksOne (old ∷ new ∷ []) fault
lacks_old old new fault refused data_file exclusions_file = record {
  before = [];
  here = old;
  behind = new ∷ [];
  are = refl;
  versions = [];
  built = tt;
  refused = refused;
  untouched = All-cons AreUntouched new [] (data_file, exclusions_file) (All-nil AreUntouched);
}

-- the old version was built, and the new one refused
pub lacks_new : (old new : VersionReaders) (v : VersionData) (fault : VersionFault) → WasBuilt old.data_file old.exclusions_file v
    → IsVersionFault 1 new.data_file new.exclusions_file fault
    → LacksOne (old ∷ new ∷ []) fault
lacks_new old new v fault built refused = record {
  before = old ∷ [];
  here = new;
  behind = [];
  are = refl;
  versions = v ∷ [];
  built = (built, tt);
  refused = refused;
  untouched = All-nil AreUntouched;
}

pub refused_against : (old new : VersionReaders) (v : VersionData) (made : Result JobOutput JobFault) → WasBuilt old.data_file old.exclusions_file v
    → IfErr made (LacksAgainst new.data_file new.exclusions_file) → IfErr made (RefusesAudit (old ∷ new ∷ []))
refused_against old new v (Ok m) built h = tt
refused_against old new v (Err fault) built h = elim h [
  | inl lacks ↦ inl (lacks.0, lacks.1, lacks_new old new v lacks.0 built lacks.2)
  | inr lacks ↦ inr (lacks.0, (v ∷ lacks.1.0 ∷ [], (built, (lacks.1.1, tt))))
]

pub made_against : (old new : VersionReaders) (v : VersionData) (made : Result JobOutput JobFault) → WasBuilt old.data_file old.exclusions_file v
    → IfOk made (MakesAgainst v new.data_file new.exclusions_file) → IfOk made (λ m. MakesAudit (old ∷ new ∷ []) m.is_yes (string_bytes m.text))
made_against old new v (Ok m) built h = record { old = v; new = h.new; built = (built, (h.built, tt)); is = h.is }
made_against old new v (Err fault) built h = tt
