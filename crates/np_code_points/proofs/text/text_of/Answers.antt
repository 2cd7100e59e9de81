use Rattle.std.proofs.Common.{subst, sym}
use Rattle.np_code_points.specs.Text.{IsLongestValidPrefix}
use Rattle.np_code_points.proofs.TextLemmas.{longest_valid_prefix}
use Rattle.np_code_points.proofs.text.text_of.Goals as goal

pub returns-in-Err-clause-place : goal.returns-in-Err-clause-place
returns-in-Err-clause-place c =
    subst (IsLongestValidPrefix c.args.bytes.now) (sym c.valid_up_to.ensures) (longest_valid_prefix c.args.bytes.now _ c.in-Err.ensures.cases.1)
