use Rattle.std.proofs.Common.{refl}
use Rattle.std.proofs.lemmas.Str.{IsUtf8-take}
use Rattle.np_forms.proofs.CopyLemmas.{cut_boundary}
use Rattle.np_forms.proofs.PrecomputedLemmas.{stable_parts}
use Rattle.np_forms.proofs.quick_check.quick_check_span.Goals as goal

pub returns-clause-boundary : goal.returns-clause-boundary
returns-clause-boundary g c = cut_boundary (g.T.NormTable.model c.args.table.now) c.args.wanted c.args.text.now c.quick_span.result.count c.quick_span.ensures.quick_span

pub returns-clause-stable : goal.returns-clause-stable
returns-clause-stable g c =
    let stands = c.quick_span.ensures.quick_span in
    let utf8 = IsUtf8-take _ _ c.utf8.text (cut_boundary _ c.args.wanted _ _ stands) in
    stable_parts _ c.meets_conditions.ensures c.args.wanted _ _ stands _ refl utf8 (c.quick_span.ensures.assigned refl)
