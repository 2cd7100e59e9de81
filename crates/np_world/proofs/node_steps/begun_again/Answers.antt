use Rattle.std.proofs.Common.{Ok, Option, ap, subst, sym}
use Rattle.std.specs.Option.{option_map}
use Rattle.std.specs.declared.vec.Vec.{Vec}
use Rattle.std.specs.declared.alloc.Global.{Global}
use Rattle.std.specs.Prelude.{ℕ}
use Rattle.np_node.specs.Restoring.{AnswersRestore}
use Rattle.np_world.specs.Calls.{AnswersAgain}
use Rattle.np_world.specs.inside.Views.{bytes_in, rules_of}
use Rattle.np_world.proofs.node_steps.begun_again.Goals as goal

pub returns-in_default : goal.returns-in_default
returns-in_default g c =
    let model = g.T.NormTable.model in
    let rules = rules_of c.args.common.now in
    let t = c.at-table.result.now in
    record {
      table = t;
      here = c.at-table.ensures.table;
      answers = subst (λ (i : Option (Vec ℕ Global)). AnswersAgain model rules t (option_map bytes_in i) (Ok c.new.result)) (sym c.in_default.is) (ap Ok c.new.ensures);
    }

pub returns : goal.returns
returns g c =
    let model = g.T.NormTable.model in
    let rules = rules_of c.args.common.now in
    let t = c.at-table.result.now in
    record {
      table = t;
      here = c.at-table.ensures.table;
      answers = subst (λ (i : Option (Vec ℕ Global)). AnswersAgain model rules t (option_map bytes_in i) c.restore.result) (sym c.in-Some.is)
          (subst (λ l. AnswersRestore model t rules.form rules.room l c.restore.result) c.as_slice.ensures.value c.restore.ensures);
    }
