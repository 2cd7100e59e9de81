use Rattle.std.proofs.Common.{◌≡◌, ◌≤◌, ◌++◌, ℕ, List, true, flat_map}
use Rattle.np_forms.proofs.Words.{runs_over, class_of, full_of}
use Rattle.np_forms.proofs.stream_safety.is_stream_safe.Given as goal

abbrev pub invariant-loop-c : goal.invariant-loop-c
invariant-loop-c g l =
    let v = g.T.NormTable.model l.table in
    (l.run ≤ 31) × ((rest : List ℕ) → runs_over (class_of v) l.run rest ≡ runs_over (class_of v) 0 (flat_map (full_of v true) l.yielded ++ rest))
