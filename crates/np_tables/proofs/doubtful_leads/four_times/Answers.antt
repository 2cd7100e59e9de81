use Rattle.std.proofs.Common.{◌%◌, ◌++◌, get_or, ◌∙◌, arith}
use Rattle.std.proofs.lemmas.List.FromFn.{get_or-map-range_with_len}
use Rattle.np_tables.proofs.Words.{get_or_append_left}
use Rattle.np_tables.proofs.doubtful_leads.four_times.Goals as goal

pub returns : goal.returns
returns c = λ k lt.
    let row = c.args.row in
    get_or-map-range_with_len (λ j. get_or (row ++ row) (j % 16) 0) 0 64 k k 0 lt (omega arith) ∙ get_or_append_left row row 0 (k % 16) (omega (arith, c.fits-row.0))
