use Rattle.np_lines.specs.Answers.{Wanted}
use Rattle.np_lines.proofs.StableLemmas.{each_of, left-boundary, left-place, left-pushed}
use Rattle.np_lines.proofs.stable.StableKeysLineKeys.push_front.Goals as goal

pub overflow_sub-count : goal.overflow_sub-count
overflow_sub-count g c =
    let v = g.T.NormTable.model c.args.self.now.table.now in
    let w : Wanted = record { form = c.args.self.now.form; end = c.args.end } in
    let text = c.args.text.now in
    let n = c.quick_check_span-count.result in
    let stable = c.range.result.now in
    left-place v w text stable c.in_ok-rest.rest.now c.args.out.now.items c.push_stable.new.out.items n c.quick_check_span-count.ensures.boundary.0 c.range.ensures.value
    (c.in_ok-rest.ensures.pushed v (each_of v w text stable n c.range.ensures.value c.quick_check_span-count.ensures.stable))

pub range_from-requires : goal.range_from-requires
range_from-requires g c = λ _.
    let v = g.T.NormTable.model c.args.self.now.table.now in
    let w : Wanted = record { form = c.args.self.now.form; end = c.args.end } in
    let text = c.args.text.now in
    let n = c.quick_check_span-count.result in
    let stable = c.range.result.now in
    left-boundary v w text stable c.in_ok-rest.rest.now c.args.out.now.items c.push_stable.new.out.items n c.quick_check_span-count.ensures.boundary.0 c.range.ensures.value
    (c.in_ok-rest.ensures.pushed v (each_of v w text stable n c.range.ensures.value c.quick_check_span-count.ensures.stable)) c.utf8.text c.quick_check_span-count.ensures.boundary c.in_ok-rest.ensures.utf8

pub returns : goal.returns
returns g c =
    let v = g.T.NormTable.model c.args.self.now.table.now in
    let w : Wanted = record { form = c.args.self.now.form; end = c.args.end } in
    let text = c.args.text.now in
    let n = c.quick_check_span-count.result in
    let stable = c.range.result.now in
    left-pushed v w text stable c.in_ok-rest.rest.now c.args.out.now.items c.push_stable.new.out.items n c.quick_check_span-count.ensures.boundary.0 c.range.ensures.value
    (c.in_ok-rest.ensures.pushed v (each_of v w text stable n c.range.ensures.value c.quick_check_span-count.ensures.stable)) c.range_from.result.now c.range_from.ensures.value
