-- Names of numbers, and names in a field of fixed size.
use Rattle.std.proofs.Common.{◌≡◌, ◌++◌, ◌-◌, ◌<◌, ℕ, Bool, true, List, [], drop, length, ltb, replicate, refl, ⊎_elim, lit<}
use Rattle.std.proofs.lemmas.Bool.{cases_lt, ltb-true}
use Rattle.std.proofs.lemmas.List.{drop-replicate, get_or_past}
use Rattle.std.proofs.lemmas.List.Elements.{All-get_or}
use Rattle.std.proofs.lemmas.List.Sums.{AllPass-from_list_all}
use Rattle.np_c.specs.Names.{name_of_status, status_names}

-- what is left of a field of NULs behind a name
pub padded : (front name : List ℕ) → front ≡ name → front ++ drop (length name) (replicate 32 0) ≡ name ++ replicate (32 - length name) 0
padded front name same = rw (same, drop-replicate {X = ℕ} (length name) 32 0)

abbrev fits : List ℕ → Bool
fits name = ltb (length name) 32

-- the name of a status is short
pub short : (status : ℕ) → length (name_of_status status) < 32
short status =
    ⊎_elim
    (λ there. ltb-true (length (name_of_status status)) 32 (All-get_or (λ (name : List ℕ). fits name ≡ true) status_names status [] there (AllPass-from_list_all fits status_names refl)))
    (λ past. rw (get_or_past status_names status [] past) (lit< tt))
    (cases_lt status (length status_names))
