use Rattle.std.proofs.Common.{List, Bool, sym, subst}
use Rattle.np_node.proofs.ForgetLemmas.{removed}
use Rattle.np_node.specs.Strings.{Entry}
use Rattle.np_node.specs.inside.Removed.{IsRemoved}
use Rattle.np_node.specs.inside.Shown.{shown}
use Rattle.np_node.proofs.entries.Entries.remove.Goals as goal

pub returns : goal.returns
returns c =
    let left = shown c.shift_remove.new.self.entries in
    let was = removed c.args.string.now c.self.inside.map.entries c.shift_remove.new.self.entries c.shift_remove.result c.shift_remove.ensures.value c.shift_remove.ensures.entries in
    subst (λ (es : List Entry). IsRemoved es left c.args.string.now c.is_some.result) c.self.view_is
    (subst (λ (b : Bool). IsRemoved (shown c.self.inside.map.entries) left c.args.string.now b) (sym c.is_some.ensures) was)
