use Rattle.std.proofs.Common.{◌++◌, sym, ap, ◌∙◌}
use Rattle.np_forms.proofs.CopyLemmas.{front_of, seam}
use Rattle.np_forms.proofs.TextLemmas.{assigned-front, lacks-unassigned, IsReadAssigned-front}
use Rattle.np_forms.proofs.copying.may_go_on.Goals as goal

pub range-requires-clause-end_boundary : goal.range-requires-clause-end_boundary
range-requires-clause-end_boundary g c = seam c.args.unread.now c.requires.front c.args.rest.now c.requires.parts c.requires.utf8

pub returns-in-None-clause-read : goal.returns-in-None-clause-read
returns-in-None-clause-read g c = λ _ _.
    let end = c.requires in
    let later = c.args.rest.now in
    let is = c.range.ensures.value ∙ front_of _ end.front later end.parts in
    IsReadAssigned-front (g.T.NormTable.model c.args.table.now) _ c.range.result.now later (end.parts ∙ ap (λ l. l ++ later) (sym is)) c.range.utf8 end.utf8 c.in-None.ensures.none

pub returns-in-Some-clause-lacking : goal.returns-in-Some-clause-lacking
returns-in-Some-clause-lacking g c = λ _ all.
    let parts = c.requires.parts ∙ ap (λ l. l ++ c.args.rest.now) (sym (c.range.ensures.value ∙ front_of _ c.requires.front _ c.requires.parts)) in
    lacks-unassigned _ _ _ _ c.in-Some.ensures.some (assigned-front _ _ c.range.result.now _ c.range.utf8 parts all)

pub returns-in-Some-clause-read : goal.returns-in-Some-clause-read
returns-in-Some-clause-read g c = λ _ no. (let clash = no in cc)
