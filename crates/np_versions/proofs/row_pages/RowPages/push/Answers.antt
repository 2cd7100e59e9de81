use Rattle.std.proofs.Common.{◌*◌, ◌/◌, ap, subst, ◌∙◌}
use Rattle.np_versions.specs.inside.RowPages.{ArePushed}
use Rattle.np_versions.proofs.RowLemmas.{begun-block, block_count}
use Rattle.np_versions.proofs.row_pages.RowPages.push.Goals as goal

pub returns-clause-begun : goal.returns-clause-begun
returns-clause-begun c =
    let old = c.args.self.now.numbers.items in
    let new = c.push_block.new.numbers.items in
    let whole = block_count c.args.rows.now c.args.self.now.index.items old c.args.at c.requires.begun in
    let pushed = subst (λ n. ArePushed c.args.rows.now (n * 256) 256 old new c.in_ok-next.next) (c.len.ensures ∙ c.args.self.now.index.ok.0) c.in_ok-next.ensures in
    rw c.in_ok-push-3.ensures.items
    (begun-block c.args.rows.now c.args.self.now.index.items old new c.args.at c.in_ok-next.next _ c.requires.begun pushed (ap (λ n. n / 256 * 256) (c.len-2.ensures ∙ c.args.self.now.numbers.ok.0) ∙ whole.0))
