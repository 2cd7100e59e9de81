use Rattle.std.proofs.Common.{◌≡◌, ◌<◌, ℕ, slice_index}
use Rattle.np_code_points.specs.declared.forms.Form.{Form}
use Rattle.np_tables.specs.inside.QuickChecks.{quick_check_in}
use Rattle.np_tables.proofs.doubtful_leads.common_of.Given as goal

abbrev pub invariant-loop-checks : goal.invariant-loop-checks
invariant-loop-checks l = (form : Form) → quick_check_in form l.common ≡ 255 → (k : ℕ) → k < l.checks-index → quick_check_in form (slice_index l.quick_checks k) ≡ 255
