use Rattle.std.proofs.Common.{◌≡◌, ◌+◌, ◌-◌, ◌*◌, ◌/◌, ◌%◌, ◌<◌, get_or, length, sym, ap, ◌∙◌, arith}
use Rattle.std.proofs.lemmas.Simd.{get_or-chunk}
use Rattle.np_tables.proofs.Words.{chunk, length-chunk, property_place, quick_check_in}
use Rattle.np_tables.proofs.DoubtfulLeadLemmas.{place-part}
use Rattle.np_tables.proofs.doubtful_leads.common_of_part.Goals as goal

pub returns : goal.returns
returns c = λ form all d from to.
    let quick_checks = c.args.quick_checks.now in
    let at = c.from.result * 256 + c.args.part % 4 * 64 in
    let i = d - c.args.part * 64 in
    let behind : i < 64 = omega (arith, from, to) in
    let block : get_or c.args.blocks.now (c.args.part / 4) 0 ≡ c.from.result = sym c.from.ensures in
    let place : property_place c.args.blocks.now d ≡ at + i = place-part c.args.blocks.now c.args.part d from to ∙ omega (arith, block) in
    let size : length (chunk at 64 quick_checks) ≡ 64 = length-chunk at 64 quick_checks (omega (arith, c.requires.within.each (c.args.part / 4) (omega (arith, c.requires.part)), block)) in
    let whole : at + 64 - at ≡ 64 = omega arith in
    let is : quick_check_in form (get_or (chunk at (at + 64 - at) quick_checks) i 0) ≡ 255 = c.common_of.ensures form all i (omega (arith, behind, size, ap (λ n. length (chunk at n quick_checks)) whole)) in
    ap (quick_check_in form) (ap (λ n. get_or quick_checks n 0) place ∙ sym (get_or-chunk at 64 quick_checks i 0 behind) ∙ ap (λ n. get_or (chunk at n quick_checks) i 0) (sym whole)) ∙ is
