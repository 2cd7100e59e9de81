use Rattle.std.proofs.Common.{◌≡◌, ◌<◌, ℕ, List, Bool, true, length, sym, ap, subst, ◌∙◌}
use Rattle.std.specs.Str.Iter.{chars_rest}
use Rattle.np_code_points.specs.declared.forms.Form.TheVariants.{Nfc}
use Rattle.np_versions.specs.inside.Fronts.{IsPast}
use Rattle.np_forms.specs.inside.Copies.{AsciiPasses}
use Rattle.np_forms.proofs.CopyLemmas.{passing_ascii, passing_read}
use Rattle.np_forms.proofs.TextLemmas.{IsReadAssigned-both, IsReadAssigned-next, IsReadAssigned-end, IsReadAssigned-stop}
use Rattle.np_forms.proofs.Words.{IsReadAssigned, VersionData}
use Rattle.np_forms.proofs.assigned.first_unassigned_char.Goals as goal

-- ASCII that passed is read, too
passed : (v : VersionData) (ascii : Bool) (text rest here : List ℕ) → (ascii ≡ true → AsciiPasses v Nfc) → IsReadAssigned v text rest → IsPast (λ c. (ascii ≡ true) × (c < 128)) rest here → IsReadAssigned v text here
passed v ascii text rest here stays read past = IsReadAssigned-both v text rest here read (passing_read v Nfc rest here (passing_ascii v Nfc ascii stays rest here past))

pub returns-in_default-clause-none : goal.returns-in_default-clause-none
returns-in_default-clause-none g c =
    let v = g.T.NormTable.model c.args.table.now in
    let passes = c.ascii_passes-ascii.ensures in
    let here = c.behind_ascii-here.result.now in
    let read = passed v c.ascii_passes-ascii.result c.args.text.now c.scan.rest.now here (λ is d lt. (passes.yes_starter is d lt, passes.assigned is d lt)) c.scan.invariant c.behind_ascii-here.ensures in
    IsReadAssigned-end v c.args.text.now here read (ap length (sym c.chars-iter.ensures.rest) ∙ c.in_default.ensures.steps.0.0)

pub returns-then-not-assigned-clause-some : goal.returns-then-not-assigned-clause-some
returns-then-not-assigned-clause-some g c =
    let v = g.T.NormTable.model c.args.table.now in
    let passes = c.ascii_passes-ascii.ensures in
    let here = c.behind_ascii-here.result.now in
    let read = passed v c.ascii_passes-ascii.result c.args.text.now c.scan.rest.now here (λ is d lt. (passes.yes_starter is d lt, passes.assigned is d lt)) c.scan.invariant c.behind_ascii-here.ensures in
    IsReadAssigned-stop v c.args.text.now here c.in-Some.c (chars_rest c.next.new.self) read (sym c.chars-iter.ensures.rest ∙ c.in-Some.ensures.steps.0) (sym c.assigned.ensures ∙ c.if-not-assigned.true)

pub scan-preserved : goal.scan-preserved
scan-preserved g c =
    let v = g.T.NormTable.model c.args.table.now in
    let passes = c.ascii_passes-ascii.ensures in
    let here = c.behind_ascii-here.result.now in
    let read = passed v c.ascii_passes-ascii.result c.args.text.now c.scan.rest.now here (λ is d lt. (passes.yes_starter is d lt, passes.assigned is d lt)) c.scan.invariant c.behind_ascii-here.ensures in
    subst (IsReadAssigned v c.args.text.now) (sym c.as_str-rest.ensures)
    (IsReadAssigned-next v c.args.text.now here c.in-Some.c (chars_rest c.next.new.self) read (sym c.chars-iter.ensures.rest ∙ c.in-Some.ensures.steps.0) (sym c.assigned.ensures ∙ c.if-not-assigned.false))
