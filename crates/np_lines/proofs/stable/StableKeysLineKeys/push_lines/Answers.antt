use Rattle.std.proofs.Common.{chars, sym, ap, subst, ◌∙◌}
use Rattle.std.proofs.lemmas.Result.{IfOk-weaker}
use Rattle.np_forms.specs.Forms.{IsNormalForm}
use Rattle.np_lines.specs.Answers.{IsAnswer, Wanted}
use Rattle.np_lines.specs.Pushed.{ArePushed}
use Rattle.np_lines.specs.inside.Keyed.{AreKeyed, ends_in}
use Rattle.np_lines.proofs.PushedLemmas.{pushed-none}
use Rattle.np_lines.proofs.stable.StableKeysLineKeys.push_lines.Goals as goal

pub returns-then-composes : goal.returns-then-composes
returns-then-composes g c =
    let w : Wanted = record { form = c.args.self.now.form; end = c.args.end } in
    pushed-none (IsAnswer (g.T.NormTable.model c.args.self.now.table.now) w) w.end c.args.text.now c.args.out.now.items

pub returns-then-not-end_as_many : goal.returns-then-not-end_as_many
returns-then-not-end_as_many g c =
    let w : Wanted = record { form = c.args.self.now.form; end = c.args.end } in
    pushed-none (IsAnswer (g.T.NormTable.model c.args.self.now.table.now) w) w.end c.args.text.now c.args.out.now.items

pub returns-in-Err-Unassigned : goal.returns-in-Err-Unassigned
returns-in-Err-Unassigned g c =
    let w : Wanted = record { form = c.args.self.now.form; end = c.args.end } in
    pushed-none (IsAnswer (g.T.NormTable.model c.args.self.now.table.now) w) w.end c.args.text.now c.args.out.now.items

pub returns-else-not-end_as_many : goal.returns-else-not-end_as_many
returns-else-not-end_as_many g c =
    let v = g.T.NormTable.model c.args.self.now.table.now in
    let w : Wanted = record { form = c.args.self.now.form; end = c.args.end } in
    let text = c.args.text.now in
    let keys = c.as_str-in-Ok.result.now in
    let old = c.args.out.now.items in
    let new = c.push_keyed.new.out.items in
    let same = sym c.as_str.ensures.value in
    let keyed : AreKeyed v w text keys = record {
      sound = c.meets_conditions.ensures;
      yes_starter = c.may_be_keyed.ensures.yes_starter c.if-not-may_be_keyed.false;
      boundaries = c.may_be_keyed.ensures.boundaries c.if-not-may_be_keyed.false;
      assigned = c.in-Ok.ensures.assigned;
      normal = subst (λ l. IsNormalForm v w.form (chars text) (chars l)) (sym c.as_str-in-Ok.ensures.value) c.in-Ok.ensures.normal;
      count = ap (ends_in w.end) (c.as_str-in-Ok.ensures.value ∙ same) ∙ c.end_as_many.ensures c.if-not-end_as_many.false;
    } in
    IfOk-weaker c.push_keyed.result _ (λ rest. ArePushed (IsAnswer v w) w.end text rest.now old new) (λ rest pushed. pushed v keyed) c.push_keyed.ensures
