use Rattle.std.proofs.Common.{◌≡◌, ◌+◌, Result, ap, inl, inr, refl, subst, arith}
use Rattle.std.specs.Option.{option_map}
use Rattle.std.specs.Prelude.{OnOk}
use Rattle.np_chain.specs.declared.breaks.Break.{Break}
use Rattle.np_world.specs.inside.Views.{bytes_in}
use Rattle.np_world.proofs.DoneLemmas.{next_extends, stage_with}
use Rattle.np_world.proofs.node_steps.upgrade.Goals as goal

pub unwrap-requires : goal.unwrap-requires
unwrap-requires g c =
    let model = g.T.NormTable.model in
    let old = c.args.replay_node.now in
    c.upgrade.ensures.extends.1 (next_extends model c.args.common.now.chain.now old.index old.node.table (model c.at.result.now) c.requires c.at.ensures.stands)

pub returns-then-replay_node-len : goal.returns-then-replay_node-len
returns-then-replay_node-len g c = λ sent. inr (record { last = omega (arith, c.len.ensures.count); same = refl; told = refl })

pub returns : goal.returns
returns g c = λ sent.
    let old = c.args.replay_node.now in
    let moved = subst (λ (r : Result (Unit {0}) Break). OnOk r (c.upgrade.new.self ≡ record old.node { table = c.at.result.now })) c.unwrap.ensures c.upgrade.ensures.ok in
    inl (record {
      table = c.at.result.now;
      next = c.at.ensures.table;
      now = ap (λ n. stage_with (old.index + 1) n (option_map bytes_in old.image) sent) moved;
      told = refl;
    })
