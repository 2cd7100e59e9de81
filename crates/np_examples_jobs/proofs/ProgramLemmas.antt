-- From the end of the program to that of the command that the words ask for.
use Rattle.std.proofs.Common.{◌≡◌, ◌∷◌, ℕ, true, false, [], List, Option, Some, None, ap, codes, eqb, flat_map, inl, inr, length}
use Rattle.std.proofs.Common.{subst, sym, ◌∙◌}
use Rattle.np_code_points.specs.declared.forms.Form.{Form}
use Rattle.np_jobs.specs.Comparisons.{CompareEnds}
use Rattle.np_jobs.specs.Keys.{KeyEnds}
use Rattle.np_jobs.specs.KeysUnder.{KeyUnderEnds}
use Rattle.np_jobs.specs.NormalForms.{NormalizeEnds}
use Rattle.np_jobs.specs.Opening.{IsUnopened, WereOpened, both_files}
use Rattle.np_jobs.specs.Streams.{Stream}
use Rattle.np_program.specs.Program.{EndsOverFiles, ProgramEnds}
use Rattle.np_program.specs.Replays.{ReplayEnds}
use Rattle.np_words.specs.Words.{Asked, asked_by, asked_of, names_of}
use Rattle.np_words.specs.declared.parsing.Job.{Job}
use Rattle.np_words.specs.declared.parsing.Job.TheVariants.{Help, Normalize, Key, KeyUnder, Compare, Audit, Replay}
use Rattle.np_examples_jobs.specs.inside.OverFiles.{AuditOver, CompareOver, HelpOver, KeyOver, KeyUnderOver, NormalizeOver, ReplayOver, asking}
use Rattle.np_examples_jobs.specs.inside.OverFiles.{asking_audit, asking_help, asking_under}

some_is : {A : Type 0} (x y : A) → Some x ≡ Some y → x ≡ y
some_is x y same = cc

module _ (Gives : List ℕ → Option (List ℕ) → Type 0) (Lacks : List ℕ → Type 0) (input output error : Stream) (status : ℕ) where
  -- ---- normalize

  normalize_over : (form : Form) (names : List (List ℕ)) (job : Job) → asked_of job ≡ asking (codes "normalize") form names
      → EndsOverFiles Gives job input output error status
      → NormalizeOver Gives Lacks form names input output error status
  normalize_over form names Help same ends = let h : false ≡ true = ap (λ (a : Asked). eqb (length a.command) 9) same in absurd (cc)
  normalize_over form names (Normalize f files) same ends =
      let is : f ≡ form = some_is f form (ap (λ (a : Asked). a.form) same) in
      let named : names_of files ≡ names = ap (λ (a : Asked). a.files) same in
      let readers = ends.0 in
      inl (
        readers,
        subst (λ (ns : List (List ℕ)). WereOpened Gives ns (readers.data_file ∷ (readers.exclusions_file ∷ []))) named ends.1.opened,
        ends.1.input_is,
        subst (λ (g : Form). NormalizeEnds g readers output error status) is ends.2,
      )
  normalize_over form names (Key f files) same ends = let h : false ≡ true = ap (λ (a : Asked). eqb (length a.command) 9) same in absurd (cc)
  normalize_over form names (KeyUnder f old new) same ends = let h : false ≡ true = ap (λ (a : Asked). eqb (length a.command) 9) same in absurd (cc)
  normalize_over form names (Compare f files) same ends = let h : false ≡ true = ap (λ (a : Asked). eqb (length a.command) 9) same in absurd (cc)
  normalize_over form names (Audit old new) same ends = let h : false ≡ true = ap (λ (a : Asked). eqb (length a.command) 9) same in absurd (cc)
  normalize_over form names (Replay f schedule_file version_files) same ends = let h : false ≡ true = ap (λ (a : Asked). eqb (length a.command) 9) same in
      absurd (cc)

  pub normalize_ends : (form : Form) (names : List (List ℕ)) (words : List (List ℕ)) → asked_by words ≡ Some (asking (codes "normalize") form names)
      → ProgramEnds Gives Lacks words input output error status
      → NormalizeOver Gives Lacks form names input output error status
  normalize_ends form names words asks ends =
      elim ends [
        | inl run ↦
            let same : asked_of run.0 ≡ asking (codes "normalize") form names = some_is _ _ (sym run.1 ∙ asks) in
            elim run.2 [
              | inl done ↦ normalize_over form names run.0 same done
              | inr stopped ↦ inr (
                subst (λ (ns : List (List ℕ)). IsUnopened Gives Lacks ns error status)
                    (ap (λ (a : Asked). a.files) same) stopped.0,
                stopped.1,
                stopped.2,
              )
            ]
        | inr none ↦
            elim none.0 [
              | inl usage ↦ let h : None ≡ Some (asking (codes "normalize") form names) = sym usage.0 ∙ asks in absurd (cc)
              | inr memory ↦ inr (inr memory, none.1, none.2)
            ]
      ]

  -- ---- key

  key_over : (form : Form) (names : List (List ℕ)) (job : Job) → asked_of job ≡ asking (codes "key") form names
      → EndsOverFiles Gives job input output error status
      → KeyOver Gives Lacks form names input output error status
  key_over form names Help same ends = let h : false ≡ true = ap (λ (a : Asked). eqb (length a.command) 3) same in absurd (cc)
  key_over form names (Normalize f files) same ends = let h : false ≡ true = ap (λ (a : Asked). eqb (length a.command) 3) same in absurd (cc)
  key_over form names (Key f files) same ends =
      let is : f ≡ form = some_is f form (ap (λ (a : Asked). a.form) same) in
      let named : names_of files ≡ names = ap (λ (a : Asked). a.files) same in
      let readers = ends.0 in
      inl (
        readers,
        subst (λ (ns : List (List ℕ)). WereOpened Gives ns (readers.data_file ∷ (readers.exclusions_file ∷ []))) named ends.1.opened,
        ends.1.input_is,
        subst (λ (g : Form). KeyEnds g readers output error status) is ends.2,
      )
  key_over form names (KeyUnder f old new) same ends = let h : true ≡ false = ap (λ (a : Asked). a.checks_under) same in absurd (cc)
  key_over form names (Compare f files) same ends = let h : false ≡ true = ap (λ (a : Asked). eqb (length a.command) 3) same in absurd (cc)
  key_over form names (Audit old new) same ends = let h : false ≡ true = ap (λ (a : Asked). eqb (length a.command) 3) same in absurd (cc)
  key_over form names (Replay f schedule_file version_files) same ends = let h : false ≡ true = ap (λ (a : Asked). eqb (length a.command) 3) same in absurd (cc)

  pub key_ends : (form : Form) (names : List (List ℕ)) (words : List (List ℕ)) → asked_by words ≡ Some (asking (codes "key") form names)
      → ProgramEnds Gives Lacks words input output error status
      → KeyOver Gives Lacks form names input output error status
  key_ends form names words asks ends =
      elim ends [
        | inl run ↦
            let same : asked_of run.0 ≡ asking (codes "key") form names = some_is _ _ (sym run.1 ∙ asks) in
            elim run.2 [
              | inl done ↦ key_over form names run.0 same done
              | inr stopped ↦ inr (
                subst (λ (ns : List (List ℕ)). IsUnopened Gives Lacks ns error status)
                    (ap (λ (a : Asked). a.files) same) stopped.0,
                stopped.1,
                stopped.2,
              )
            ]
        | inr none ↦
            elim none.0 [
              | inl usage ↦ let h : None ≡ Some (asking (codes "key") form names) = sym usage.0 ∙ asks in absurd (cc)
              | inr memory ↦ inr (inr memory, none.1, none.2)
            ]
      ]

  -- ---- compare

  compare_over : (form : Form) (names : List (List ℕ)) (job : Job) → asked_of job ≡ asking (codes "compare") form names
      → EndsOverFiles Gives job input output error status
      → CompareOver Gives Lacks form names input output error status
  compare_over form names Help same ends = let h : false ≡ true = ap (λ (a : Asked). eqb (length a.command) 7) same in absurd (cc)
  compare_over form names (Normalize f files) same ends = let h : false ≡ true = ap (λ (a : Asked). eqb (length a.command) 7) same in absurd (cc)
  compare_over form names (Key f files) same ends = let h : false ≡ true = ap (λ (a : Asked). eqb (length a.command) 7) same in absurd (cc)
  compare_over form names (KeyUnder f old new) same ends = let h : false ≡ true = ap (λ (a : Asked). eqb (length a.command) 7) same in absurd (cc)
  compare_over form names (Compare f files) same ends =
      let is : f ≡ form = some_is f form (ap (λ (a : Asked). a.form) same) in
      let named : names_of files ≡ names = ap (λ (a : Asked). a.files) same in
      let readers = ends.0 in
      inl (
        readers,
        subst (λ (ns : List (List ℕ)). WereOpened Gives ns (readers.data_file ∷ (readers.exclusions_file ∷ []))) named ends.1.opened,
        ends.1.input_is,
        subst (λ (g : Form). CompareEnds g readers output error status) is ends.2,
      )
  compare_over form names (Audit old new) same ends = let h : false ≡ true = ap (λ (a : Asked). eqb (length a.command) 7) same in absurd (cc)
  compare_over form names (Replay f schedule_file version_files) same ends = let h : false ≡ true = ap (λ (a : Asked). eqb (length a.command) 7) same in
      absurd (cc)

  pub compare_ends : (form : Form) (names : List (List ℕ)) (words : List (List ℕ)) → asked_by words ≡ Some (asking (codes "compare") form names)
      → ProgramEnds Gives Lacks words input output error status
      → CompareOver Gives Lacks form names input output error status
  compare_ends form names words asks ends =
      elim ends [
        | inl run ↦
            let same : asked_of run.0 ≡ asking (codes "compare") form names = some_is _ _ (sym run.1 ∙ asks) in
            elim run.2 [
              | inl done ↦ compare_over form names run.0 same done
              | inr stopped ↦ inr (
                subst (λ (ns : List (List ℕ)). IsUnopened Gives Lacks ns error status)
                    (ap (λ (a : Asked). a.files) same) stopped.0,
                stopped.1,
                stopped.2,
              )
            ]
        | inr none ↦
            elim none.0 [
              | inl usage ↦ let h : None ≡ Some (asking (codes "compare") form names) = sym usage.0 ∙ asks in absurd (cc)
              | inr memory ↦ inr (inr memory, none.1, none.2)
            ]
      ]

  -- ---- key --check-under

  key_under_over : (form : Form) (names : List (List ℕ)) (job : Job) → asked_of job ≡ asking_under form names
      → EndsOverFiles Gives job input output error status
      → KeyUnderOver Gives Lacks form names input output error status
  key_under_over form names Help same ends = let h : false ≡ true = ap (λ (a : Asked). eqb (length a.command) 3) same in absurd (cc)
  key_under_over form names (Normalize f files) same ends = let h : false ≡ true = ap (λ (a : Asked). eqb (length a.command) 3) same in absurd (cc)
  key_under_over form names (Key f files) same ends = let h : false ≡ true = ap (λ (a : Asked). a.checks_under) same in absurd (cc)
  key_under_over form names (KeyUnder f old new) same ends =
      let is : f ≡ form = some_is f form (ap (λ (a : Asked). a.form) same) in
      let readers = ends.0 in
      inl (
        readers,
        subst (λ (ns : List (List ℕ)). WereOpened Gives ns (flat_map both_files readers.versions)) (ap (λ (a : Asked). a.files) same) ends.1,
        ends.2,
        subst (λ (g : Form). KeyUnderEnds g readers output error status) is ends.3,
      )
  key_under_over form names (Compare f files) same ends = let h : false ≡ true = ap (λ (a : Asked). eqb (length a.command) 3) same in absurd (cc)
  key_under_over form names (Audit old new) same ends = let h : false ≡ true = ap (λ (a : Asked). eqb (length a.command) 3) same in absurd (cc)
  key_under_over form names (Replay f schedule_file version_files) same ends = let h : false ≡ true = ap (λ (a : Asked). eqb (length a.command) 3) same in
      absurd (cc)

  pub key_under_ends : (form : Form) (names : List (List ℕ)) (words : List (List ℕ)) → asked_by words ≡ Some (asking_under form names)
      → ProgramEnds Gives Lacks words input output error status
      → KeyUnderOver Gives Lacks form names input output error status
  key_under_ends form names words asks ends =
      elim ends [
        | inl run ↦
            let same : asked_of run.0 ≡ asking_under form names = some_is _ _ (sym run.1 ∙ asks) in
            elim run.2 [
              | inl done ↦ key_under_over form names run.0 same done
              | inr stopped ↦ inr (
                subst (λ (ns : List (List ℕ)). IsUnopened Gives Lacks ns error status)
                    (ap (λ (a : Asked). a.files) same) stopped.0,
                stopped.1,
                stopped.2,
              )
            ]
        | inr none ↦
            elim none.0 [
              | inl usage ↦ let h : None ≡ Some (asking_under form names) = sym usage.0 ∙ asks in absurd (cc)
              | inr memory ↦ inr (inr memory, none.1, none.2)
            ]
      ]

  -- ---- audit

  audit_over : (names : List (List ℕ)) (job : Job) → asked_of job ≡ asking_audit names → EndsOverFiles Gives job input output error status
      → AuditOver Gives Lacks names input output error status
  audit_over names Help same ends = let h : false ≡ true = ap (λ (a : Asked). eqb (length a.command) 5) same in absurd (cc)
  audit_over names (Normalize f files) same ends = let h : false ≡ true = ap (λ (a : Asked). eqb (length a.command) 5) same in absurd (cc)
  audit_over names (Key f files) same ends = let h : false ≡ true = ap (λ (a : Asked). eqb (length a.command) 5) same in absurd (cc)
  audit_over names (KeyUnder f old new) same ends = let h : false ≡ true = ap (λ (a : Asked). eqb (length a.command) 5) same in absurd (cc)
  audit_over names (Compare f files) same ends = let h : false ≡ true = ap (λ (a : Asked). eqb (length a.command) 5) same in absurd (cc)
  audit_over names (Audit old new) same ends =
      let readers = ends.0 in
      inl (readers, subst (λ (ns : List (List ℕ)). WereOpened Gives ns (flat_map both_files readers)) (ap (λ (a : Asked). a.files) same) ends.1, ends.2, ends.3)
  audit_over names (Replay f schedule_file version_files) same ends = let h : false ≡ true = ap (λ (a : Asked). eqb (length a.command) 5) same in absurd (cc)

  pub audit_ends : (names : List (List ℕ)) (words : List (List ℕ)) → asked_by words ≡ Some (asking_audit names)
      → ProgramEnds Gives Lacks words input output error status
      → AuditOver Gives Lacks names input output error status
  audit_ends names words asks ends =
      elim ends [
        | inl run ↦
            let same : asked_of run.0 ≡ asking_audit names = some_is _ _ (sym run.1 ∙ asks) in
            elim run.2 [
              | inl done ↦ audit_over names run.0 same done
              | inr stopped ↦ inr (
                subst (λ (ns : List (List ℕ)). IsUnopened Gives Lacks ns error status)
                    (ap (λ (a : Asked). a.files) same) stopped.0,
                stopped.1,
                stopped.2,
              )
            ]
        | inr none ↦
            elim none.0 [
              | inl usage ↦ let h : None ≡ Some (asking_audit names) = sym usage.0 ∙ asks in absurd (cc)
              | inr memory ↦ inr (inr memory, none.1, none.2)
            ]
      ]

  -- ---- replay

  replay_over : (form : Form) (names : List (List ℕ)) (job : Job) → asked_of job ≡ asking (codes "replay") form names
      → EndsOverFiles Gives job input output error status
      → ReplayOver Gives Lacks form names input output error status
  replay_over form names Help same ends = let h : false ≡ true = ap (λ (a : Asked). eqb (length a.command) 6) same in absurd (cc)
  replay_over form names (Normalize f files) same ends = let h : false ≡ true = ap (λ (a : Asked). eqb (length a.command) 6) same in absurd (cc)
  replay_over form names (Key f files) same ends = let h : false ≡ true = ap (λ (a : Asked). eqb (length a.command) 6) same in absurd (cc)
  replay_over form names (KeyUnder f old new) same ends = let h : false ≡ true = ap (λ (a : Asked). eqb (length a.command) 6) same in absurd (cc)
  replay_over form names (Compare f files) same ends = let h : false ≡ true = ap (λ (a : Asked). eqb (length a.command) 6) same in absurd (cc)
  replay_over form names (Audit old new) same ends = let h : false ≡ true = ap (λ (a : Asked). eqb (length a.command) 6) same in absurd (cc)
  replay_over form names (Replay f schedule_file version_files) same ends =
      let is : f ≡ form = some_is f form (ap (λ (a : Asked). a.form) same) in
      let readers = ends.0 in
      inl (
        readers,
        subst (λ (ns : List (List ℕ)). WereOpened Gives ns (readers.schedule_file ∷ flat_map both_files readers.versions))
            (ap (λ (a : Asked). a.files) same) ends.1,
        subst (λ (g : Form). ReplayEnds g readers output error status) is ends.2,
        ends.3,
      )

  pub replay_ends : (form : Form) (names : List (List ℕ)) (words : List (List ℕ)) → asked_by words ≡ Some (asking (codes "replay") form names)
      → ProgramEnds Gives Lacks words input output error status
      → ReplayOver Gives Lacks form names input output error status
  replay_ends form names words asks ends =
      elim ends [
        | inl run ↦
            let same : asked_of run.0 ≡ asking (codes "replay") form names = some_is _ _ (sym run.1 ∙ asks) in
            elim run.2 [
              | inl done ↦ replay_over form names run.0 same done
              | inr stopped ↦ inr (
                subst (λ (ns : List (List ℕ)). IsUnopened Gives Lacks ns error status)
                    (ap (λ (a : Asked). a.files) same) stopped.0,
                stopped.1,
                stopped.2,
              )
            ]
        | inr none ↦
            elim none.0 [
              | inl usage ↦ let h : None ≡ Some (asking (codes "replay") form names) = sym usage.0 ∙ asks in absurd (cc)
              | inr memory ↦ inr (inr memory, none.1, none.2)
            ]
      ]

  -- ---- help

  help_over : (job : Job) → asked_of job ≡ asking_help → EndsOverFiles Gives job input output error status
      → HelpOver Gives Lacks input output error status
  help_over Help same ends = inl ends
  help_over (Normalize f files) same ends = let h : false ≡ true = ap (λ (a : Asked). eqb (length a.command) 0) same in absurd (cc)
  help_over (Key f files) same ends = let h : false ≡ true = ap (λ (a : Asked). eqb (length a.command) 0) same in absurd (cc)
  help_over (KeyUnder f old new) same ends = let h : false ≡ true = ap (λ (a : Asked). eqb (length a.command) 0) same in absurd (cc)
  help_over (Compare f files) same ends = let h : false ≡ true = ap (λ (a : Asked). eqb (length a.command) 0) same in absurd (cc)
  help_over (Audit old new) same ends = let h : false ≡ true = ap (λ (a : Asked). eqb (length a.command) 0) same in absurd (cc)
  help_over (Replay f schedule_file version_files) same ends = let h : false ≡ true = ap (λ (a : Asked). eqb (length a.command) 0) same in absurd (cc)

  pub help_ends : (words : List (List ℕ)) → asked_by words ≡ Some (asking_help) → ProgramEnds Gives Lacks words input output error status
      → HelpOver Gives Lacks input output error status
  help_ends words asks ends =
      elim ends [
        | inl run ↦
            let same : asked_of run.0 ≡ asking_help = some_is _ _ (sym run.1 ∙ asks) in
            elim run.2 [
              | inl done ↦ help_over run.0 same done
              | inr stopped ↦ inr (
                subst (λ (ns : List (List ℕ)). IsUnopened Gives Lacks ns error status)
                    (ap (λ (a : Asked). a.files) same) stopped.0,
                stopped.1,
                stopped.2,
              )
            ]
        | inr none ↦
            elim none.0 [
              | inl usage ↦ let h : None ≡ Some (asking_help) = sym usage.0 ∙ asks in absurd (cc)
              | inr memory ↦ inr (inr memory, none.1, none.2)
            ]
      ]
