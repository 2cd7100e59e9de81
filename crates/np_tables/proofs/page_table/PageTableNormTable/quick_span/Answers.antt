use Rattle.std.proofs.lemmas.Grind.{common_steps}
use Rattle.std.proofs.Common.{◌≡◌, subst, ◌∙◌, arith}
use Rattle.np_tables.proofs.Words.{cond-true, AreFollowing}
use Rattle.np_tables.proofs.QuickSpanLemmas.{following-assigned, following-quick_span}
use Rattle.np_tables.proofs.page_table.PageTableNormTable.quick_span.Goals as goal

pub returns-clause-quick_span : goal.returns-clause-quick_span
returns-clause-quick_span c =
    let fields = c.self.inside in
    let u = fields.version in
    let text = c.args.text.now in
    let n = c.pass_span.result.count in
    following-quick_span c.args.self.now u c.self.view_is fields.fulls fields.index.items fields.all_properties.items c.self.invariant.pages fields.quick_checks.items fields.are_quick_checks c.args.form c.least_quick_check.result text n
    (subst (λ i. AreFollowing u c.least_quick_check.result i fields.quick_checks.items c.args.form text n) c.deref.ensures.value
    (subst (λ w. AreFollowing u c.least_quick_check.result c.deref.result.now w c.args.form text n) c.deref-3.ensures.value c.pass_span.ensures.following))

pub returns-clause-assigned : goal.returns-clause-assigned
returns-clause-assigned c = λ on.
    let fields = c.self.inside in
    let u = fields.version in
    let text = c.args.text.now in
    let n = c.pass_span.result.count in
    let two : c.least_quick_check.result ≡ 2 = c.least_quick_check.ensures ∙ cond-true _ _ _ on in
    following-assigned c.args.self.now u c.self.view_is fields.fulls fields.index.items fields.all_properties.items c.self.invariant.pages fields.quick_checks.items fields.are_quick_checks c.args.form c.least_quick_check.result text n (omega (arith, two)) c.utf8.text
    (subst (λ i. AreFollowing u c.least_quick_check.result i fields.quick_checks.items c.args.form text n) c.deref.ensures.value
    (subst (λ w. AreFollowing u c.least_quick_check.result c.deref.result.now w c.args.form text n) c.deref-3.ensures.value c.pass_span.ensures.following))

pub invariant_of-scan : goal.invariant_of-scan
invariant_of-scan c = grind (arith, common_steps)
