use Rattle.std.proofs.Common.{inl, inr, sym, ◌∙◌}
use Rattle.std.proofs.lemmas.Bool.{both_ways, cases_Bool}
use Rattle.np_forms.proofs.Words.{eqb-true}
use Rattle.np_forms.proofs.CopyLemmas.{form-end}
use Rattle.np_forms.proofs.SegmentLemmas.{goes-both}
use Rattle.np_forms.proofs.TextLemmas.{IsReadAssigned-both, IsReadAssigned-end, IsReadAssigned-rest}
use Rattle.np_forms.proofs.copying.write_cut.Goals as goal

pub returns-then-not-may_go_on-clause-lacking : goal.returns-then-not-may_go_on-clause-lacking
returns-then-not-may_go_on-clause-lacking g c = λ _ all.
    elim (cases_Bool c.args.assigned) [
      | inr none ↦ both_ways _ c.if-not-may_go_on.true (c.may_go_on.ensures.always none)
      | inl asked ↦
          let known = c.in_ok-written.ensures.read (c.fronts.invariant.front asked) in
          let read = IsReadAssigned-both _ _ _ _ (c.fronts.invariant.read asked) known in
          c.may_go_on.ensures.lacking c.if-not-may_go_on.true (IsReadAssigned-rest _ _ _ read all)
    ]

pub returns-then-is_empty-clause-form : goal.returns-then-is_empty-clause-form
returns-then-is_empty-clause-form g c = λ _.
    let v = g.T.NormTable.model c.args.normalizer.now.table.now in
    let form = c.args.normalizer.now.form in
    let rest = c.in_ok-written.written.rest.now in
    let goes = goes-both v form _ _ rest c.args.out.now c.fronts.out c.write_front.new.out c.fronts.invariant.goes c.in_ok-written.ensures.goes in
    form-end v form _ c.write_front.new.out rest goes.written (eqb-true _ _ (sym c.is_empty.ensures ∙ c.if-is_empty.true))

pub returns-then-is_empty-clause-assigned : goal.returns-then-is_empty-clause-assigned
returns-then-is_empty-clause-assigned g c = λ asked _.
    let rest = c.in_ok-written.written.rest.now in
    let known = c.in_ok-written.ensures.read (c.fronts.invariant.front asked) in
    let read =
    IsReadAssigned-both _ _ _ rest (c.fronts.invariant.read asked)
    (IsReadAssigned-both _ _ _ rest known (c.may_go_on.ensures.read asked c.if-not-may_go_on.false)) in
    IsReadAssigned-end (g.T.NormTable.model c.args.normalizer.now.table.now) c.args.text.now rest read (eqb-true _ _ (sym c.is_empty.ensures ∙ c.if-is_empty.true))

pub fronts-preserved : goal.fronts-preserved
fronts-preserved g c =
    let rest = c.in_ok-written.written.rest.now in record {
      goes = goes-both _ c.args.normalizer.now.form _ _ rest c.args.out.now c.fronts.out c.write_front.new.out c.fronts.invariant.goes c.in_ok-written.ensures.goes;
      read = λ asked.
          IsReadAssigned-both _ _ _ rest (c.fronts.invariant.read asked)
          (IsReadAssigned-both _ _ _ rest (c.in_ok-written.ensures.read (c.fronts.invariant.front asked)) (c.may_go_on.ensures.read asked c.if-not-may_go_on.false));
      copied = c.split_quick_span-next.ensures.copied;
      front = c.split_quick_span-next.ensures.assigned;
    }
