use Rattle.std.proofs.Common.{◌≡◌, ◌≤◌, ◌++◌, ℕ, List, drop}
use Rattle.np_forms.proofs.Words.{runs_over, class_of}
use Rattle.np_forms.proofs.stream_safety.run_past_all.Given as goal

abbrev pub invariant-loop-c : goal.invariant-loop-c
invariant-loop-c g l =
    let ccc = class_of (g.T.NormTable.model l.table) in
    (l.now ≤ 31) × ((rest : List ℕ) → runs_over ccc l.now (drop l.c-index l.list ++ rest) ≡ runs_over ccc l.run (l.list ++ rest))
