use Rattle.std.proofs.Common.{sym, subst, ◌∙◌}
use Rattle.np_node.proofs.KeyLemmas.{same_keys}
use Rattle.np_node.proofs.NodeLemmas.{entry_is_kept}
use Rattle.np_versions.specs.Conditions.{IsSound}
use Rattle.np_node.proofs.nodes.Node.same.Goals as goal

pub returns : goal.returns
returns g c =
    let node = c.args.self.now in
    let model = g.T.NormTable.model in
    let sound = subst (λ n. IsSound (model n.table)) c.self.view_is c.self.invariant.sound in
    let keys = same_keys (model node.table) sound node.form c.args.left.now c.args.right.now c.in_ok-first.first.now c.in_ok-second.second.now c.in_ok-first.ensures.key c.in_ok-second.ensures.key in
    let first = c.as_bytes.ensures.value in
    let second = c.as_bytes-2.ensures.value in (
      entry_is_kept node.entries _ c.in_ok-first.ensures.some,
      entry_is_kept node.entries _ c.in_ok-second.ensures.some,
      (λ h. keys.0 (sym first ∙ c.same_bytes.ensures.0 h ∙ second), λ e. c.same_bytes.ensures.1 (first ∙ keys.1 e ∙ sym second)),
    )
