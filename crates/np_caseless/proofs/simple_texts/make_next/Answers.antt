use Rattle.std.proofs.Common.{◌+◌, ap, length, subst, sym, arith}
use Rattle.np_caseless.specs.inside.SimpleTexts.{AreLeads, AreMade}
use Rattle.np_caseless.proofs.LeadLemmas.{leads_past}
use Rattle.np_caseless.proofs.MadeLemmas.{reached, reached_all}
use Rattle.np_caseless.proofs.simple_texts.make_next.Goals as goal

pub leads-init : goal.leads-init
leads-init c =
    let from = c.args.front.count in
    let bytes = c.as_bytes-bytes in
    let leads = subst (λ l. AreLeads l from from (from + 64) c.leads_from-left.result) bytes.ensures.value c.leads_from-left.ensures in
    (c.requires.made, leads, omega arith)

pub make_at-requires-clause-utf8 : goal.make_at-requires-clause-utf8
make_at-requires-clause-utf8 c =
    let lowest = c.lowest in
    (reached c.args.known c.args.text.now c.requires.lowers c.requires.size c.leads.made.count c.args.front.count (c.args.front.count + 64) c.leads.left
    lowest.result c.leads.made.apart c.leads.room c.leads.invariant.1 lowest.ensures.set lowest.ensures.first c.leads.invariant.2 c.leads.invariant.0).reads.utf8

pub returns-in_default-clause-made : goal.returns-in_default-clause-made
returns-in_default-clause-made c =
    let lowest = c.lowest in
    let known = c.args.known in
    let text = c.args.text.now in
    let from = c.args.front.count in
    let apart = c.leads.made.apart in
    subst (λ l. AreMade known text l (from + lowest.result) apart) (sym c.in_default.ensures.kept)
    (reached known text c.requires.lowers c.requires.size c.leads.made.count from (from + 64) c.leads.left
    lowest.result apart c.leads.room c.leads.invariant.1 lowest.ensures.set lowest.ensures.first c.leads.invariant.2 c.leads.invariant.0)

pub leads-preserved : goal.leads-preserved
leads-preserved c =
    let lowest = c.lowest in
    let known = c.args.known in
    let text = c.args.text.now in
    let from = c.args.front.count in
    let next = c.in-Some in
    let without = c.without_lowest-left in
    let leads = c.leads.invariant.1 in
    let before =
    reached known text c.requires.lowers c.requires.size c.leads.made.count from (from + 64) c.leads.left
    lowest.result c.leads.made.apart c.leads.room leads lowest.ensures.set lowest.ensures.first c.leads.invariant.2 c.leads.invariant.0 in (
      next.ensures.made before,
      leads_past text c.leads.made.count next.next.count from (from + 64) c.leads.left without.result lowest.result leads lowest.ensures.set
          (without.ensures.off lowest.result lowest.ensures.set lowest.ensures.first)
          (without.ensures.kept lowest.result lowest.ensures.set lowest.ensures.first) lowest.ensures.first next.ensures.later next.ensures.inside,
      omega (arith, next.ensures.later),
    )

pub returns-clause-made : goal.returns-clause-made
returns-clause-made c =
    let m = c.leads.invariant.0 in
    let size = ap length c.as_bytes-bytes.ensures.value in
    let from = c.args.front.count in
    reached_all c.args.known c.args.text.now c.requires.lowers c.requires.size c.leads.made.count from (from + 64) c.leads.left
    c.min.result c.leads.made.apart c.leads.room c.leads.invariant.1 c.leads-test.false c.leads.invariant.2
    (omega (arith, c.min.ensures, c.max.ensures, m.within, size)) (omega (arith, c.min.ensures, c.max.ensures, m.within, size))
    (λ k less. omega (arith, less, c.min.ensures, c.max.ensures)) m
