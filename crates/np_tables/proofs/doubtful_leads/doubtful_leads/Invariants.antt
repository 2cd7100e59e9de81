use Rattle.std.proofs.Common.{◌≡◌, ℕ, ◌<◌, length, slice_index}
use Rattle.np_code_points.specs.declared.forms.Form.TheVariants.{Nfd, Nfc, Nfkd, Nfkc}
use Rattle.np_tables.specs.inside.DoubtfulLeads.{AreHalfSafe}
use Rattle.np_tables.proofs.doubtful_leads.doubtful_leads.Given as goal

abbrev pub invariant-loop-low : goal.invariant-loop-low
invariant-loop-low l = record {
  sizes : (length l.nfd ≡ 16) × (length l.nfc ≡ 16) × (length l.nfkd ≡ 16) × (length l.nfkc ≡ 16);
  nfd : (k : ℕ) → k < l.low → AreHalfSafe Nfd l.blocks l.quick_checks k (slice_index l.nfd k);
  nfc : (k : ℕ) → k < l.low → AreHalfSafe Nfc l.blocks l.quick_checks k (slice_index l.nfc k);
  nfkd : (k : ℕ) → k < l.low → AreHalfSafe Nfkd l.blocks l.quick_checks k (slice_index l.nfkd k);
  nfkc : (k : ℕ) → k < l.low → AreHalfSafe Nfkc l.blocks l.quick_checks k (slice_index l.nfkc k);
}
