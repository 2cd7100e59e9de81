use Rattle.std.proofs.Common.{List, ℕ, refl, sym, subst, ◌∙◌, rules}
use Rattle.np_node.proofs.NodeLemmas.{All-Contains, entry_is_kept, other-key, refuses-entry}
use Rattle.np_node.specs.Nodes.{state_of, IsKept}
use Rattle.np_node.specs.Strings.{IsEntry, IsKeepable, IsKey}
use Rattle.np_node.proofs.nodes.Node.take_told.Goals as goal

pub returns-in-Err-clause-answer : goal.returns-in-Err-clause-answer
returns-in-Err-clause-answer g c =
    refuses-entry (state_of g.T.NormTable.model c.args.self.now) _ c.in-Err.fault (c.in-Err.ensures.fault (g.T.NormTable.model c.args.self.now.table))

pub returns-in-Some-clause-answer : goal.returns-in-Some-clause-answer
returns-in-Some-clause-answer g c =
    let model = g.T.NormTable.model in
    let was = c.self.inside in
    let v = model was.table.now in
    let name = c.in-Ok.ensures.ok in
    let told = c.args.told in
    let same = sym c.as_bytes.ensures.value ∙ c.same_bytes.ensures.0 c.if-same_bytes.true in
    let right = All-Contains (IsEntry v was.form) was.kept _ c.self.invariant.entries c.in-Some.ensures.some in (
      record {
        keepable = subst (λ n. IsKeepable (model n.table) told.string.now) c.self.view_is (subst (λ (s : List ℕ). IsKeepable v s) name right.keepable);
        key = subst (λ n. IsKey (model n.table) n.form told.string.now told.key.now) c.self.view_is
            (subst (λ (k : List ℕ). IsKey v was.form told.string.now k) same (subst (λ (s : List ℕ). IsKey v was.form s c.in-Some.key.now) name right.key));
      },
      subst (λ n. IsKept n.entries told.string.now) c.self.view_is
          (subst (λ (s : List ℕ). IsKept was.kept s) name (entry_is_kept was.kept _ c.in-Some.ensures.some)),
    )

pub returns-in-Some-clause-node : goal.returns-in-Some-clause-node
returns-in-Some-clause-node g c = refl

pub returns-in-Some-2-clause-answer : goal.returns-in-Some-2-clause-answer
returns-in-Some-2-clause-answer g c =
    let model = g.T.NormTable.model in
    let was = c.self.inside in
    let v = model was.table.now in
    let name = c.in-Ok.ensures.ok in
    let key = c.in-Some.key.now in
    let told = c.args.told in
    let made = c.as_bytes.ensures.value in
    let right = All-Contains (IsEntry v was.form) was.kept _ c.self.invariant.entries c.in-Some.ensures.some in (
      subst (λ n. IsKeepable (model n.table) told.string.now) c.self.view_is (subst (λ (s : List ℕ). IsKeepable v s) name right.keepable),
      subst (λ n. ¬ IsKey (model n.table) n.form told.string.now told.key.now) c.self.view_is
          (other-key v was.form told.string.now key told.key.now c.same_bytes.result c.self.invariant.sound (subst (λ (s : List ℕ). IsKey v was.form s key) name right.key)
          (λ h. sym made ∙ c.same_bytes.ensures.0 h, λ e. c.same_bytes.ensures.1 (made ∙ e)) c.if-same_bytes.false),
    )

pub take_new-requires-clause-absent : goal.take_new-requires-clause-absent
take_new-requires-clause-absent c κs = search rules
