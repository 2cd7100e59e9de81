-- The files of a chain's versions, read two by two.
use Rattle.std.proofs.Common.{◌≡◌, ℕ, zero, suc, ◌+◌, ◌-◌, ◌*◌, ◌<◌, ◌≤◌, false, List, [], ◌∷◌, ◌++◌, length, get_or, set, Option, inl, inr, refl, sym, ap}
use Rattle.std.proofs.Common.{subst, ◌∙◌, arith, append_assoc, All}
use Rattle.std.proofs.lemmas.List.{append-nil, length-append}
use Rattle.std.proofs.lemmas.List.Elements.{All-cons, All-nil}
use Rattle.std.specs.List.{AllZip}
use Rattle.np_code_points.specs.Watched.{device_of, has_failed}
use Rattle.np_code_points.specs.declared.channels.watched.Watched.{Watched}
use Rattle.np_versions.specs.Versions.{VersionData}
use Rattle.np_versions.specs.declared.faults.TableFault.TheVariants.{Memory}
use Rattle.np_jobs.specs.Chains.{AreUntouched, LacksOne, WereBuilt, readers_of}
use Rattle.np_jobs.specs.Streams.{Stream, stream_of}
use Rattle.np_jobs.specs.Versions.{IsVersionFault, WasBuilt}
use Rattle.np_jobs.specs.declared.faults.VersionFault.{VersionFault}
use Rattle.np_jobs.specs.declared.faults.VersionFault.TheVariants.{Tables}
use Rattle.np_jobs.specs.inside.ChainSteps.{AreClear, AreClearedUpTo, AreReadUpTo, IsReadAt}

-- ---- lists

cong_cons : {A : Type 0} (x z : A) (xs zs : List A) → x ≡ z → xs ≡ zs → x ∷ xs ≡ z ∷ zs
cong_cons x z xs zs one rest = ap (λ a. a ∷ xs) one ∙ ap (λ tail. z ∷ tail) rest

-- what stands behind fronts of one length is the same, and so are the fronts
same_front : {A : Type 0} (xs ys zs ws : List A) → length xs ≡ length zs → xs ++ ys ≡ zs ++ ws → (xs ≡ zs) × (ys ≡ ws)
same_front [] ys [] ws long same = (refl, same)
same_front [] ys (z ∷ zs) ws long same = absurd (omega arith)
same_front (x ∷ xs) ys [] ws long same = absurd (omega arith)
same_front (x ∷ xs) ys (z ∷ zs) ws long same =
    let rest = same_front xs ys zs ws (omega arith) (cc) in (cong_cons x z xs zs (cc) rest.0, rest.1)

all_zip-push : {A B : Type 0} (R : A → B → Type 0) (xs : List A) (ys : List B) (x : A) (y : B) → AllZip R xs ys → R x y → AllZip R (xs ++ x ∷ []) (ys ++ y ∷ [])
all_zip-push R [] [] x y all one = (one, tt)
all_zip-push R [] (b ∷ ys) x y all one = absurd all
all_zip-push R (a ∷ xs) [] x y all one = absurd all
all_zip-push R (a ∷ xs) (b ∷ ys) x y all one = (all.0, all_zip-push R xs ys x y all.1 one)

-- ---- marks

module _ {D : Type 0} where
  pub none_cleared : (files : List (Watched D)) → AreClearedUpTo 0 files files
  none_cleared [] = tt
  none_cleared (x ∷ xs) = (refl, (λ h. absurd (omega arith)), none_cleared xs)

  pub one_cleared : (count : ℕ) (old new : List (Watched D)) (is d : Watched D) → AreClearedUpTo count old new → device_of is ≡ device_of (get_or new count d)
      → has_failed is ≡ false
      → AreClearedUpTo (count + 1) old (set new count is)
  one_cleared count [] [] is d up device clear = tt
  one_cleared count [] (y ∷ ys) is d up device clear = absurd up
  one_cleared count (x ∷ xs) [] is d up device clear = absurd up
  one_cleared zero (x ∷ xs) (y ∷ ys) is d up device clear = (device ∙ up.0, (λ h. clear), up.2)
  one_cleared (suc k) (x ∷ xs) (y ∷ ys) is d up device clear =
      let less : suc k - 1 ≡ k = omega arith in
      let more : k + 1 ≡ suc k + 1 - 1 = omega arith in
      let before = subst (λ n. AreClearedUpTo n xs ys) less up.2 in
      (up.0, (λ h. up.1 (omega arith)), subst (λ n. AreClearedUpTo n xs (set ys k is)) more (one_cleared k xs ys is d before device clear))

  pub all_clear : (count : ℕ) (old new : List (Watched D)) → length old ≤ count → AreClearedUpTo count old new → AreClear new
  all_clear count [] [] long up = tt
  all_clear count [] (y ∷ ys) long up = absurd up
  all_clear count (x ∷ xs) [] long up = absurd up
  all_clear count (x ∷ xs) (y ∷ ys) long up = (up.1 (omega arith), all_clear (count - 1) xs ys (omega arith) up.2)

  clear_behind : (front behind : List (Watched D)) → AreClear (front ++ behind) → AreClear behind
  clear_behind [] behind clear = clear
  clear_behind (x ∷ front) behind clear = clear_behind front behind clear.1

-- ---- readers

module _ {D : Type 0} (tells : D → Option (List ℕ)) where
  -- a stream goes by the device that was there
  pub readers_cleared : (count : ℕ) (old cleared new : List (Watched D)) → AreClearedUpTo count old cleared
      → readers_of tells cleared new ≡ readers_of tells old new
  readers_cleared count [] [] new up = refl
  readers_cleared count [] (y ∷ ys) new up = absurd up
  readers_cleared count (x ∷ xs) [] new up = absurd up
  readers_cleared count (x ∷ []) (y ∷ []) new up = refl
  readers_cleared count (x ∷ []) (y ∷ z ∷ zs) new up = absurd up.2
  readers_cleared count (x ∷ w ∷ ws) (y ∷ []) new up = absurd up.2
  readers_cleared count (x ∷ w ∷ ws) (y ∷ z ∷ zs) [] up = refl
  readers_cleared count (x ∷ w ∷ ws) (y ∷ z ∷ zs) (d ∷ []) up = refl
  readers_cleared count (x ∷ w ∷ ws) (y ∷ z ∷ zs) (d ∷ e ∷ new) up =
      ap (λ a. record { data_file = record { before = tells a; after = tells (device_of d); failed = has_failed d }; exclusions_file = stream_of tells z e }
      ∷ readers_of tells zs new) up.0
      ∙ (ap (λ a. record {
        data_file = stream_of tells x d;
        exclusions_file = record { before = tells a; after = tells (device_of e); failed = has_failed e };
      } ∷ readers_of tells zs new) up.2.0
      ∙ ap (λ rest. record { data_file = stream_of tells x d; exclusions_file = stream_of tells w e } ∷ rest)
      (readers_cleared (count - 1 - 1) ws zs new up.2.2))

  readers-append : (number : ℕ) (xs ys zs ws : List (Watched D)) → length xs ≡ 2 * number → length zs ≡ 2 * number
      → readers_of tells (xs ++ ys) (zs ++ ws) ≡ readers_of tells xs zs ++ readers_of tells ys ws
  readers-append number [] ys [] ws short long = refl
  readers-append number [] ys (z ∷ zs) ws short long = absurd (omega arith)
  readers-append number (x ∷ xs) ys [] ws short long = absurd (omega arith)
  readers-append number (x ∷ []) ys zs ws short long = absurd (omega arith)
  readers-append number (x ∷ w ∷ xs) ys (z ∷ []) ws short long = absurd (omega arith)
  readers-append zero (x ∷ w ∷ xs) ys (z ∷ v ∷ zs) ws short long = absurd (omega arith)
  readers-append (suc k) (x ∷ w ∷ xs) ys (z ∷ v ∷ zs) ws short long =
      ap (λ rest. record { data_file = stream_of tells x z; exclusions_file = stream_of tells w v } ∷ rest)
      (readers-append k xs ys zs ws (omega arith) (omega arith))

  pub readers-count : (number : ℕ) (xs zs : List (Watched D)) → length xs ≡ 2 * number → length zs ≡ 2 * number → length (readers_of tells xs zs) ≡ number
  readers-count number [] [] short long = omega arith
  readers-count number [] (z ∷ zs) short long = absurd (omega arith)
  readers-count number (x ∷ xs) [] short long = absurd (omega arith)
  readers-count number (x ∷ []) zs short long = absurd (omega arith)
  readers-count number (x ∷ w ∷ xs) (z ∷ []) short long = absurd (omega arith)
  readers-count zero (x ∷ w ∷ xs) (z ∷ v ∷ zs) short long = absurd (omega arith)
  readers-count (suc k) (x ∷ w ∷ xs) (z ∷ v ∷ zs) short long = let rest = readers-count k xs zs (omega arith) (omega arith) in omega (arith, rest)

  -- files that were left alone
  untouched : (files : List (Watched D)) → AreClear files → All AreUntouched (readers_of tells files files)
  untouched [] clear = All-nil AreUntouched
  untouched (x ∷ []) clear = All-nil AreUntouched
  untouched (x ∷ y ∷ files) clear =
      All-cons AreUntouched _ (readers_of tells files files) (record { same = refl; clear = clear.0 }, record { same = refl; clear = clear.1.0 })
      (untouched files clear.1.1)

  -- ---- one version after another

  pub none_read : (files : List (Watched D)) → AreReadUpTo tells 0 files files []
  none_read files = record { front_old = []; front_new = []; behind = files; size_old = refl; size_new = refl; old_is = refl; new_is = refl; built = tt }

  -- a list of one element more than so many, cut before its last one, and with another one there
  last_of : (count : ℕ) (front : List (Watched D)) (d new : Watched D) → length front ≡ count + 1
      → (cut : List (Watched D)) × (length cut ≡ count) × (front ≡ cut ++ get_or front count d ∷ []) × (set front count new ≡ cut ++ new ∷ [])
  last_of count [] d new long = absurd (omega arith)
  last_of zero (x ∷ []) d new long = ([], refl, refl, refl)
  last_of zero (x ∷ y ∷ ys) d new long = absurd (omega arith)
  last_of (suc k) (x ∷ xs) d new long =
      let rest = last_of k xs d new (omega arith) in
      let count = rest.1 in
      (x ∷ rest.0, omega (arith, count), ap (λ tail. x ∷ tail) rest.2, ap (λ tail. x ∷ tail) rest.3)

  -- the two files around a cut
  read_here : (P : Stream → Stream → Type 0) (number : ℕ) (front behind : List (Watched D)) (d e first second : Watched D) → length front ≡ 2 * number + 1
      → 0 < length behind
      → P (stream_of tells (get_or front (2 * number) d) first) (stream_of tells (get_or behind 0 e) second)
      → IsReadAt tells P number (front ++ behind) (set front (2 * number) first ++ set behind 0 second)
  read_here P number front [] d e first second long some holds = absurd (omega arith)
  read_here P number front (b ∷ behind) d e first second long some holds =
      let cut = last_of (2 * number) front d first long in
      record {
        front = cut.0;
        data_old = get_or front (2 * number) d;
        data_new = first;
        exclusions_old = b;
        exclusions_new = second;
        behind = behind;
        size = cut.1;
        old_is = ap (λ f. f ++ b ∷ behind) cut.2 ∙ append_assoc cut.0 (get_or front (2 * number) d ∷ []) (b ∷ behind);
        new_is = ap (λ f. f ++ second ∷ behind) cut.3 ∙ append_assoc cut.0 (first ∷ []) (second ∷ behind);
        holds = holds;
      }

  -- the same of a list that was cut there
  pub at_cut : (number : ℕ) (files front behind : List (Watched D)) (d e first second : Watched D) → files ≡ front ++ behind → length front ≡ 2 * number + 1
      → 0 < length behind
      → (P : Stream → Stream → Type 0) → P (stream_of tells (get_or front (2 * number) d) first) (stream_of tells (get_or behind 0 e) second)
      → IsReadAt tells P number files (set front (2 * number) first ++ set behind 0 second)
  at_cut number files front behind d e first second cut long some P holds =
      subst (λ fs. IsReadAt tells P number fs (set front (2 * number) first ++ set behind 0 second)) (sym cut)
      (read_here P number front behind d e first second long some holds)

  module _ (number : ℕ) (old now new : List (Watched D)) (versions : List VersionData) (so_far : AreReadUpTo tells number old now versions) where
    pub one_more : (v : VersionData) → IsReadAt tells (λ d e. WasBuilt d e v) number now new → AreReadUpTo tells (number + 1) old new (versions ++ v ∷ [])
    one_more v at =
        let same = same_front so_far.front_new so_far.behind at.front (at.data_old ∷ at.exclusions_old ∷ at.behind) (so_far.size_new ∙ sym at.size)
        (sym so_far.new_is ∙ at.old_is) in
        let size_front : length at.front ≡ 2 * number = at.size in
        record {
          front_old = so_far.front_old ++ at.data_old ∷ at.exclusions_old ∷ [];
          front_new = at.front ++ at.data_new ∷ at.exclusions_new ∷ [];
          behind = at.behind;
          size_old = let sum = length-append so_far.front_old (at.data_old ∷ at.exclusions_old ∷ []) in let was = so_far.size_old in omega (arith, sum, was);
          size_new = let sum = length-append at.front (at.data_new ∷ at.exclusions_new ∷ []) in let was = at.size in omega (arith, sum, was);
          old_is = so_far.old_is ∙ (ap (λ b. so_far.front_old ++ b) same.1
              ∙ sym (append_assoc so_far.front_old (at.data_old ∷ at.exclusions_old ∷ []) at.behind));
          new_is = at.new_is ∙ sym (append_assoc at.front (at.data_new ∷ at.exclusions_new ∷ []) at.behind);
          built = subst (λ readers. WereBuilt readers (versions ++ v ∷ []))
              (sym (readers-append number so_far.front_old (at.data_old ∷ at.exclusions_old ∷ []) at.front
              (at.data_new ∷ at.exclusions_new ∷ []) so_far.size_old at.size))
              (all_zip-push (λ files w. WasBuilt files.data_file files.exclusions_file w) (readers_of tells so_far.front_old at.front) versions _ v
              (subst (λ front. WereBuilt (readers_of tells so_far.front_old front) versions) same.0 so_far.built) at.holds);
        }

    pub one_lacks : (fault : VersionFault) → AreClear old → IsReadAt tells (λ d e. IsVersionFault number d e fault) number now new
        → LacksOne (readers_of tells old new) fault
    one_lacks fault clear at =
        let same = same_front so_far.front_new so_far.behind at.front (at.data_old ∷ at.exclusions_old ∷ at.behind) (so_far.size_new ∙ sym at.size)
        (sym so_far.new_is ∙ at.old_is) in
        let old_is : old ≡ so_far.front_old ++ (at.data_old ∷ at.exclusions_old ∷ at.behind) = so_far.old_is ∙ ap (λ b. so_far.front_old ++ b) same.1 in
        let rest = clear_behind so_far.front_old (at.data_old ∷ at.exclusions_old ∷ at.behind) (subst AreClear old_is clear) in
        record {
          before = readers_of tells so_far.front_old at.front;
          here = record { data_file = stream_of tells at.data_old at.data_new; exclusions_file = stream_of tells at.exclusions_old at.exclusions_new };
          behind = readers_of tells at.behind at.behind;
          are = ap (λ files. readers_of tells files new) old_is
              ∙ (ap (λ files. readers_of tells (so_far.front_old ++ at.data_old ∷ at.exclusions_old ∷ at.behind) files) at.new_is
              ∙ readers-append number so_far.front_old (at.data_old ∷ at.exclusions_old ∷ at.behind) at.front
              (at.data_new ∷ at.exclusions_new ∷ at.behind) so_far.size_old at.size);
          versions = versions;
          built = subst (λ front. WereBuilt (readers_of tells so_far.front_old front) versions) same.0 so_far.built;
          refused = subst (λ n. IsVersionFault n (stream_of tells at.data_old at.data_new) (stream_of tells at.exclusions_old at.exclusions_new) fault)
              (sym (readers-count number so_far.front_old at.front so_far.size_old at.size)) at.holds;
          untouched = untouched at.behind rest.1.1;
        }

  -- a version that was built, and no memory for its table
  pub lacks_memory : (number : ℕ) (v : VersionData) (now new : List (Watched D)) → IsReadAt tells (λ d e. WasBuilt d e v) number now new
      → IsReadAt tells (λ d e. IsVersionFault number d e (Tables number Memory)) number now new
  lacks_memory number v now new at = record {
    front = at.front;
    data_old = at.data_old;
    data_new = at.data_new;
    exclusions_old = at.exclusions_old;
    exclusions_new = at.exclusions_new;
    behind = at.behind;
    size = at.size;
    old_is = at.old_is;
    new_is = at.new_is;
    holds = inr (inr (v, at.holds.rows, at.holds.listed, (Memory, refl, inl refl)));
  }

  none_behind : (files : List (Watched D)) → length files < 2 → readers_of tells files files ≡ []
  none_behind [] few = refl
  none_behind (x ∷ []) few = refl
  none_behind (x ∷ y ∷ files) few = absurd (omega arith)

  pub all_read : (number : ℕ) (old new : List (Watched D)) (versions : List VersionData) → AreReadUpTo tells number old new versions
      → length old < 2 * number + 2 → WereBuilt (readers_of tells old new) versions
  all_read number old new versions so_far few =
      let sum = length-append so_far.front_old so_far.behind in
      let whole = ap length so_far.old_is in
      let size = so_far.size_old in
      let none = none_behind so_far.behind (omega (arith, sum, whole, size)) in
      let cut = readers-append number so_far.front_old so_far.behind so_far.front_new so_far.behind so_far.size_old so_far.size_new in
      subst (λ readers. WereBuilt readers versions)
      (sym (ap (λ files. readers_of tells files new) so_far.old_is ∙ (ap (λ files. readers_of tells (so_far.front_old ++ so_far.behind) files) so_far.new_is
      ∙ (cut ∙ (ap (λ rest. readers_of tells so_far.front_old so_far.front_new ++ rest) none ∙ append-nil _))))) so_far.built
