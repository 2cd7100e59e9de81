use Rattle.std.proofs.Common.{arith, List, ℕ, ◌≡◌, ◌≤◌, ◌<◌, ◌↔◌, IsTrue, true, false, length, sym, ap, subst, ◌∙◌}
use Rattle.std.proofs.lemmas.Bool.{both_ways}
use Rattle.std.specs.Cow.{cow_str_bytes}
use Rattle.np_node.proofs.NodeLemmas.{other-key}
use Rattle.np_node.specs.Nodes.{with_entry}
use Rattle.np_node.specs.Strings.{IsKeepable, IsKey}
use Rattle.np_node.proofs.nodes.Node.take_new.Goals as goal

pub returns-then-not-same_bytes-clause-answer : goal.returns-then-not-same_bytes-clause-answer
returns-then-not-same_bytes-clause-answer g c =
    let model = g.T.NormTable.model in
    let was = c.self.inside in
    let made = c.as_bytes.ensures.value ∙ c.as_str.ensures.value in
    let same : IsTrue c.same_bytes.result ↔ (c.as_bytes.result.now ≡ c.args.told.now) = c.same_bytes.ensures in
    let off : c.same_bytes.result ≡ false = c.if-not-same_bytes.true in (
      subst (λ n. IsKeepable (model n.table) c.args.text.now) c.self.view_is c.in_ok-key.ensures.keepable,
      subst (λ n. ¬ IsKey (model n.table) n.form c.args.text.now c.args.told.now) c.self.view_is
          (other-key (model was.table.now) was.form c.args.text.now (cow_str_bytes c.in_ok-key.key) c.args.told.now c.same_bytes.result c.self.invariant.sound c.in_ok-key.ensures.key
          (λ h. sym made ∙ same.0 h, λ e. same.1 (made ∙ e)) off),
    )

pub returns-clause-answer : goal.returns-clause-answer
returns-clause-answer g c =
    let model = g.T.NormTable.model in
    let was = c.self.inside in
    let on : c.same_bytes.result ≡ true = c.if-not-same_bytes.false in
    let told : cow_str_bytes c.in_ok-key.key ≡ c.args.told.now = sym (c.as_bytes.ensures.value ∙ c.as_str.ensures.value) ∙ c.same_bytes.ensures.0 on in
    let keepable = subst (λ n. IsKeepable (model n.table) c.args.text.now) c.self.view_is c.in_ok-key.ensures.keepable in
    let key = subst (λ n. IsKey (model n.table) n.form c.args.text.now c.args.told.now) c.self.view_is (subst (IsKey (model was.table.now) was.form c.args.text.now) told c.in_ok-key.ensures.key) in
    let now = c.args.self.now in
    let not_full : ¬ (now.room ≤ length now.entries) = λ full. both_ways c.is_full.result c.if-is_full.false (c.is_full.ensures.1 full) in
    let room : length now.entries < now.room = omega (arith, not_full) in
    (record { keepable = keepable; key = key }, record { new = record { keepable = keepable; absent = c.requires.absent }; room = room })

pub returns-then-is_full-clause-answer : goal.returns-then-is_full-clause-answer
returns-then-is_full-clause-answer g c =
    let model = g.T.NormTable.model in
    let was = c.self.inside in
    let on : c.same_bytes.result ≡ true = c.if-not-same_bytes.false in
    let told : cow_str_bytes c.in_ok-key.key ≡ c.args.told.now = sym (c.as_bytes.ensures.value ∙ c.as_str.ensures.value) ∙ c.same_bytes.ensures.0 on in
    let keepable = subst (λ n. IsKeepable (model n.table) c.args.text.now) c.self.view_is c.in_ok-key.ensures.keepable in
    let key = subst (λ n. IsKey (model n.table) n.form c.args.text.now c.args.told.now) c.self.view_is (subst (IsKey (model was.table.now) was.form c.args.text.now) told c.in_ok-key.ensures.key) in
    let full = c.is_full.ensures.0 c.if-is_full.true in
    (record { keepable = keepable; key = key }, record { new = record { keepable = keepable; absent = c.requires.absent }; full = full })

pub keep-requires-clause-place : goal.keep-requires-clause-place
keep-requires-clause-place g c =
    let keepable = subst (λ n. IsKeepable (g.T.NormTable.model n.table) c.args.text.now) c.self.view_is c.in_ok-key.ensures.keepable in
    let now = c.args.self.now in
    let not_full : ¬ (now.room ≤ length now.entries) = λ full. both_ways c.is_full.result c.if-is_full.false (c.is_full.ensures.1 full) in
    let room : length now.entries < now.room = omega (arith, not_full) in
    record { new = record { keepable = keepable; absent = c.requires.absent }; room = room }

pub keep-requires-clause-key : goal.keep-requires-clause-key
keep-requires-clause-key g c =
    subst (λ n. IsKey (g.T.NormTable.model n.table) n.form c.args.text.now (cow_str_bytes c.in_ok-key.key)) c.self.view_is c.in_ok-key.ensures.key

pub returns-clause-node : goal.returns-clause-node
returns-clause-node g c =
    let told : cow_str_bytes c.in_ok-key.key ≡ c.args.told.now = sym (c.as_bytes.ensures.value ∙ c.as_str.ensures.value) ∙ c.same_bytes.ensures.0 c.if-not-same_bytes.false in
    c.in_ok-keep.ensures.ok ∙ ap (λ (k : List ℕ). with_entry c.args.self.now (record { string = c.args.text.now; key = k })) told
