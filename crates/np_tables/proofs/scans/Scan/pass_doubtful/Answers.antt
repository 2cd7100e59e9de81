use Rattle.std.proofs.Common.{◌≡◌, ◌+◌, ◌-◌, ◌≤◌, IsUtf8, drop, get_or, ap, subst, ◌∙◌, arith}
use Rattle.np_tables.proofs.Words.{AreLeft, BeginsWithChar, IsUtf8-drop, ScansOn, drop-drop, get_or-drop}
use Rattle.np_tables.proofs.LeftLemmas.{left-none, left-past, yes_before}
use Rattle.np_tables.proofs.ScanLemmas.{goes-at, goes-both, goes-none, goes-past, inside_low}
use Rattle.np_tables.proofs.scans.Scan.pass_doubtful.Goals as goal

pub doubtful-init : goal.doubtful-init
doubtful-init c =
    let text = c.args.text.now in
    let end = c.args.reached.end in
    record {
      goes_on = goes-none c.args.self.now (drop end text) c.args.reached.low c.requires.low (IsUtf8-drop text end c.utf8.text c.requires.end);
      within = c.requires.end.0;
      inside = λ k ge lt. c.requires.inside k (omega (arith, ge)) lt;
      left = c.requires.left;
    }

pub returns-in_default-clause-goes_on : goal.returns-in_default-clause-goes_on
returns-in_default-clause-goes_on c =
    let s = c.args.self.now in
    let text = c.args.text.now in
    let inv = c.doubtful.invariant in
    let at = c.args.from + c.lowest.result in
    goes-at s (omega arith) text (drop c.args.reached.end text) c.doubtful.end at c.args.reached.low c.doubtful.now c.low_at-behind.result
    (inv.left.behind c.lowest.result c.lowest.ensures.within c.lowest.ensures.set) (omega (arith, c.requires.long, c.lowest.ensures.within))
    (yes_before s text c.doubtful.end c.args.from c.doubtful.left inv.left c.lowest.result c.lowest.ensures.within c.lowest.ensures.first)
    c.low_at-behind.ensures.least c.low_at-behind.ensures.starters c.low_at-behind.ensures.same (subst IsUtf8 c.range_from.ensures.value c.range_from.utf8) inv.goes_on

pub doubtful-preserved : goal.doubtful-preserved
doubtful-preserved c =
    let s = c.args.self.now in
    let text = c.args.text.now in
    let inv = c.doubtful.invariant in
    let here = c.range_from.result.now in
    let at = c.args.from + c.lowest.result in
    let count = c.in-Some.found.count in
    let passes = c.in-Some.ensures.passes in
    let begins = passes.1 in
    let there : BeginsWithChar (drop at text) passes.0 count = subst (λ l. BeginsWithChar l passes.0 count) c.range_from.ensures.value begins in
    let past : drop count here ≡ drop (at + count) text = ap (drop count) c.range_from.ensures.value ∙ drop-drop count at text in
    let to_here =
    goes-at s (omega arith) text (drop c.args.reached.end text) c.doubtful.end at c.args.reached.low c.doubtful.now c.low_at-behind.result
    (inv.left.behind c.lowest.result c.lowest.ensures.within c.lowest.ensures.set) (omega (arith, c.requires.long, c.lowest.ensures.within))
    (yes_before s text c.doubtful.end c.args.from c.doubtful.left inv.left c.lowest.result c.lowest.ensures.within c.lowest.ensures.first)
    c.low_at-behind.ensures.least c.low_at-behind.ensures.starters c.low_at-behind.ensures.same (subst IsUtf8 c.range_from.ensures.value c.range_from.utf8) inv.goes_on in
    record {
      goes_on =
          goes-both s (drop c.args.reached.end text) (drop at text) (drop (at + count) text) c.args.reached.low c.low_at-behind.result c.in-Some.found.low to_here
          (subst (λ l. ScansOn s l c.low_at-behind.result (drop (at + count) text) c.in-Some.found.low) c.range_from.ensures.value
          (subst (λ l. ScansOn s here c.low_at-behind.result l c.in-Some.found.low) past
          (goes-past s here c.low_at-behind.result passes.0 (drop count here) c.in-Some.found.low c.range_from.utf8 c.in-Some.ensures.least passes.2 begins.parts)));
      within = omega (arith, begins.long, begins.some, c.range_from.ensures.len);
      inside = λ k ge lt.
          (let before : at ≤ k = omega (arith, ge, c.lowest.ensures.within) in
          let inside = inside_low (drop at text) passes.0 count there (k - at) (omega (arith, ge, c.lowest.ensures.within)) (omega (arith, before, lt)) in
          let whole : at + (k - at) ≡ k = omega (arith, before) in
          omega (arith, inside, get_or-drop at text (k - at) 0, ap (λ n. get_or text n 0) whole));
      left = left-past s text c.doubtful.end c.args.from c.doubtful.left inv.left (omega (arith, c.doubtful-test.true)) c.doubtful.auto.left-fits.fits c.lowest.result c.lowest.ensures.within c.lowest.ensures.set c.lowest.ensures.first passes.0 count there;
    }

pub returns-clause-starters : goal.returns-clause-starters
returns-clause-starters c = λ _. left-none c.args.self.now c.args.text.now c.doubtful.end c.args.from (subst (AreLeft c.args.self.now c.args.text.now c.doubtful.end c.args.from) c.doubtful-test.false c.doubtful.invariant.left)
