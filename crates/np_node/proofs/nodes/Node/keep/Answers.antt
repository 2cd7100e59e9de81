use Rattle.std.proofs.Common.{[], ◌∷◌, ◌++◌, sym, subst}
use Rattle.std.specs.Cow.{cow_str_bytes}
use Rattle.np_node.proofs.NodeLemmas.{either, IsNode-push}
use Rattle.np_node.specs.Nodes.{State, state_of, HasPlace, IsNode}
use Rattle.np_node.specs.Strings.{Entry, IsKey}
use Rattle.np_node.proofs.nodes.Node.keep.Goals as goal

pub invariant_of-self : goal.invariant_of-self
invariant_of-self g c =
    let model = g.T.NormTable.model in
    let was = c.self.inside in
    let node : State = record { version = model was.table.now; form = was.form; room = was.room; entries = was.kept } in
    let e : Entry = record { string = c.args.string.now; key = cow_str_bytes c.args.key } in
    let place = subst (λ n. HasPlace (state_of model n) c.args.string.now) (sym c.self.view_is) c.requires.place in
    let key = subst (λ n. IsKey (model n.table) n.form c.args.string.now (cow_str_bytes c.args.key)) (sym c.self.view_is) c.requires.key in
    either c.push.result (λ es. IsNode (record node { entries = es })) c.push.new.self (was.kept ++ e ∷ []) was.kept c.push.ensures.ok c.push.ensures.err
    (IsNode-push node e c.self.invariant place key) c.self.invariant
