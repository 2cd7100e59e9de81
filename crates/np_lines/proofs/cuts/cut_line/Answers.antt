use Rattle.std.proofs.Common.{◌∷◌, ◌++◌, subst, sym, ap, ◌∙◌}
use Rattle.np_code_points.specs.Lines.{HasNo}
use Rattle.np_lines.specs.Lines.{byte_of}
use Rattle.np_lines.proofs.BegunLemmas.{cut_last, cut_some}
use Rattle.np_lines.proofs.TextCutLemmas.{back, boundary-after, boundary-before, front}
use Rattle.np_lines.proofs.cuts.cut_line.Goals as goal

pub returns-in_default-clause-none : goal.returns-in_default-clause-none
returns-in_default-clause-none c =
    let end = c.args.end in
    let last = cut_last end c.as_bytes.result.now c.cut.result.0.now c.byte.result c.cut.result.1 c.byte.ensures c.cut.ensures.before c.cut.ensures.after c.in_default.is in
    subst (HasNo (byte_of end)) (sym last.0 ∙ c.as_bytes.ensures.value) last.1

pub range-requires-clause-end_boundary : goal.range-requires-clause-end_boundary
range-requires-clause-end_boundary c =
    let some = cut_some c.args.end c.as_bytes.result.now c.cut.result.0.now c.byte.result c.cut.result.1 c.in-Some._behind c.byte.ensures c.cut.ensures.before c.cut.ensures.after c.in-Some.is in
    boundary-before c.args.end c.args.text.now c.cut.result.0.now c.in-Some._behind.now (sym c.as_bytes.ensures.value ∙ some.0)

pub range_from-requires : goal.range_from-requires
range_from-requires c = λ _.
    let some = cut_some c.args.end c.as_bytes.result.now c.cut.result.0.now c.byte.result c.cut.result.1 c.in-Some._behind c.byte.ensures c.cut.ensures.before c.cut.ensures.after c.in-Some.is in
    boundary-after c.args.end c.args.text.now c.cut.result.0.now c.in-Some._behind.now (sym c.as_bytes.ensures.value ∙ some.0) c.utf8.text

pub returns-clause-cut : goal.returns-clause-cut
returns-clause-cut c =
    let line = c.cut.result.0.now in
    let behind = c.in-Some._behind.now in
    let some = cut_some c.args.end c.as_bytes.result.now line c.byte.result c.cut.result.1 c.in-Some._behind c.byte.ensures c.cut.ensures.before c.cut.ensures.after c.in-Some.is in
    let is = sym c.as_bytes.ensures.value ∙ some.0 in
    is ∙ ap (λ l. l ++ byte_of c.args.end ∷ behind) (sym (c.range.ensures.value ∙ front c.args.end c.args.text.now line behind is))
    ∙ ap (λ l. c.range.result.now ++ byte_of c.args.end ∷ l) (sym (c.range_from.ensures.value ∙ back c.args.end c.args.text.now line behind is))

pub returns-clause-line : goal.returns-clause-line
returns-clause-line c =
    let line = c.cut.result.0.now in
    let behind = c.in-Some._behind.now in
    let some = cut_some c.args.end c.as_bytes.result.now line c.byte.result c.cut.result.1 c.in-Some._behind c.byte.ensures c.cut.ensures.before c.cut.ensures.after c.in-Some.is in
    let is = sym c.as_bytes.ensures.value ∙ some.0 in
    subst (HasNo (byte_of c.args.end)) (sym (c.range.ensures.value ∙ front c.args.end c.args.text.now line behind is)) some.1
