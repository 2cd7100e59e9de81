-- Files that are opened in silence, and which of them is the first that can't be.
use Rattle.std.proofs.Common.{◌≡◌, ℕ, zero, suc, ◌+◌, ◌*◌, ◌<◌, List, [], ◌∷◌, ◌++◌, length, flat_map, map, take, drop, Option, slice_index_or, inl, inr, refl}
use Rattle.std.proofs.Common.{sym, ap, subst, ◌∙◌, arith, append_assoc, All}
use Rattle.std.proofs.lemmas.List.{map-append}
use Rattle.std.proofs.lemmas.List.Elements.{All-nil, All-cons, All-append}
use Rattle.std.specs.List.{AllZip}
use Rattle.np_code_points.specs.Watched.{device_of}
use Rattle.np_code_points.specs.declared.channels.watched.Watched.{Watched}
use Rattle.np_jobs.specs.Chains.{readers_of}
use Rattle.np_jobs.specs.Opening.{IsFirstUnopened, IsUnopened, Opens, both_files}
use Rattle.np_jobs.specs.Streams.{Stream, stream_of}
use Rattle.np_jobs.specs.inside.OpeningSteps.{AreOpenedBehind}
use Rattle.np_words.specs.Words.{names_of}
use Rattle.np_words.specs.declared.files.VersionFiles.{VersionFiles}

-- what ends so on a device ends so on the one that it was before
pub ends_before : {D : Type 0} (tells : D → Option (List ℕ)) (EndsSo : Stream → Type 0) (old mid new : Watched D)
    → mid ≡ old → EndsSo (stream_of tells mid new) → EndsSo (stream_of tells old new)
ends_before {D} tells EndsSo old mid new silent ends = subst (λ (before : Watched D). EndsSo (stream_of tells before new)) silent ends

module _ {A B : Type 0} (R : A → B → Type 0) where
  pub all_zip-append : (xs more : List A) (ys rest : List B) → AllZip R xs ys → AllZip R more rest → AllZip R (xs ++ more) (ys ++ rest)
  all_zip-append [] more [] rest all tail = tail
  all_zip-append [] more (y ∷ ys) rest all tail = absurd all
  all_zip-append (x ∷ xs) more [] rest all tail = absurd all
  all_zip-append (x ∷ xs) more (y ∷ ys) rest all tail = (all.0, all_zip-append xs more ys rest all.1 tail)

module _ (Gives : List ℕ → Option (List ℕ) → Type 0) (Lacks : List ℕ → Type 0) where
  all_open : (names : List (List ℕ)) (contents : List (Option (List ℕ))) → AllZip Gives names contents → All (Opens Gives) names
  all_open [] contents given = All-nil (Opens Gives)
  all_open (n ∷ ns) [] given = absurd given
  all_open (n ∷ ns) (c ∷ cs) given = All-cons (Opens Gives) n ns (c, given.0) (all_open ns cs given.1)

  pub alone : (name : List ℕ) → Lacks name → IsFirstUnopened Gives Lacks (name ∷ []) name
  alone name lacks = record { before = []; behind = []; are = refl; opened = All-nil (Opens Gives); lacks = lacks }

  -- the first of some names that doesn't open is the first of all, where those before them were opened
  pub first_among : (all front names behind : List (List ℕ)) (contents : List (Option (List ℕ))) (name : List ℕ) → all ≡ front ++ (names ++ behind)
      → AllZip Gives front contents → IsFirstUnopened Gives Lacks names name → IsFirstUnopened Gives Lacks all name
  first_among all front names behind contents name split given first =
      record {
        before = front ++ first.before;
        behind = first.behind ++ behind;
        are = split ∙ ap (λ l. front ++ (l ++ behind)) first.are ∙ ap (λ l. front ++ l) (append_assoc first.before (name ∷ first.behind) behind)
            ∙ sym (append_assoc front first.before (name ∷ (first.behind ++ behind)));
        opened = All-append (Opens Gives) front first.before (all_open front contents given) first.opened;
        lacks = first.lacks;
      }

  -- the same of what is told, where nothing was told before
  pub unopened_among : {D : Type 0} (tells : D → Option (List ℕ)) (all front names behind : List (List ℕ)) (contents : List (Option (List ℕ)))
      (old mid new : Watched D) (status : ℕ) → mid ≡ old → all ≡ front ++ (names ++ behind) → AllZip Gives front contents
      → IsUnopened Gives Lacks names (stream_of tells mid new) status → IsUnopened Gives Lacks all (stream_of tells old new) status
  unopened_among tells all front names behind contents old mid new status silent split given told =
      ends_before tells (λ error. IsUnopened Gives Lacks all error status) old mid new silent
      (elim told [
        | inl (name, first, line, is) ↦ inl (name, first_among all front names behind contents name split given first, line, is)
        | inr memory ↦ inr memory
      ])

-- ---- the files of versions

-- versions are those before a place, the one at it, and those behind it
pub names_at : (versions : List VersionFiles) (i : ℕ) (files : VersionFiles) → i < length versions → slice_index_or versions i files ≡ files
    → flat_map names_of versions ≡ flat_map names_of (take i versions) ++ (names_of files ++ flat_map names_of (drop (suc i) versions))
names_at [] i files inside is = absurd (omega (arith, inside))
names_at (v ∷ vs) zero files inside is = ap (λ (f : VersionFiles). names_of f ++ flat_map names_of vs) is
names_at (v ∷ vs) (suc i) files inside is = ap (λ l. names_of v ++ l) (names_at vs i files (omega (arith, inside)) is)

up_to : (versions : List VersionFiles) (i : ℕ) (files : VersionFiles) → i < length versions → slice_index_or versions i files ≡ files
    → flat_map names_of (take (suc i) versions) ≡ flat_map names_of (take i versions) ++ names_of files
up_to [] i files inside is = absurd (omega (arith, inside))
up_to (v ∷ vs) zero files inside is = ap (λ (f : VersionFiles). names_of f) is
up_to (v ∷ vs) (suc i) files inside is = ap (λ l. names_of v ++ l) (up_to vs i files (omega (arith, inside)) is)

-- and so those up to the next place
pub names_up_to : (versions : List VersionFiles) (i : ℕ) (files : VersionFiles) → i < length versions → slice_index_or versions i files ≡ files
    → flat_map names_of (take (i + 1) versions) ≡ flat_map names_of (take i versions) ++ names_of files
names_up_to versions i files inside is =
    let on : i + 1 ≡ suc i = omega arith in
    ap (λ n. flat_map names_of (take n versions)) on ∙ up_to versions i files inside is

-- the files of one more version were opened behind the others
module _ (Gives : List ℕ → Option (List ℕ) → Type 0) {D : Type 0} (tells : D → Option (List ℕ)) where
  abbrev told_by : List (Watched D) → List (Option (List ℕ))
  told_by files = map (λ (file : Watched D). tells (device_of file)) files

  pub opened_more : (versions : List VersionFiles) (i : ℕ) (files : VersionFiles) (kept new : List (Watched D))
      → i < length versions → slice_index_or versions i files ≡ files
      → AllZip Gives (flat_map names_of (take i versions)) (map (λ (file : Watched D). tells (device_of file)) kept)
      → AreOpenedBehind tells Gives (names_of files) kept new
      → AllZip Gives (flat_map names_of (take (i + 1) versions)) (map (λ (file : Watched D). tells (device_of file)) new)
  opened_more versions i files kept new inside is so_far behind =
      subst (λ names. AllZip Gives names (told_by new)) (sym (names_up_to versions i files inside is))
      (subst (AllZip Gives (flat_map names_of (take i versions) ++ names_of files))
      (sym (ap told_by behind.are ∙ map-append (λ (file : Watched D). tells (device_of file)) kept behind.more))
      (all_zip-append Gives (flat_map names_of (take i versions)) (names_of files) (told_by kept) (told_by behind.more) so_far behind.opened))

-- files in pairs tell before a job what they told one by one
pub befores : {D : Type 0} (tells : D → Option (List ℕ)) (count : ℕ) (old new : List (Watched D)) → length old ≡ 2 * count → length new ≡ 2 * count
    → map (λ (file : Stream). file.before) (flat_map both_files (readers_of tells old new)) ≡ map (λ (file : Watched D). tells (device_of file)) old
befores tells count [] new short long = refl
befores tells count (x ∷ old) [] short long = absurd (omega arith)
befores tells count (x ∷ []) new short long = absurd (omega arith)
befores tells count (x ∷ w ∷ old) (z ∷ []) short long = absurd (omega arith)
befores tells zero (x ∷ w ∷ old) (z ∷ v ∷ new) short long = absurd (omega arith)
befores tells (suc k) (x ∷ w ∷ old) (z ∷ v ∷ new) short long =
    ap (λ rest. tells (device_of x) ∷ (tells (device_of w) ∷ rest)) (befores tells k old new (omega arith) (omega arith))
