use Rattle.std.proofs.Common.{◌++◌, sym, ap, ◌∙◌, append-nil}
use Rattle.np_tables.proofs.Words.{lent_entry, full}
use Rattle.np_versions.proofs.TableLemmas.{row-lent, row-not_lent}
use Rattle.np_tables.proofs.fulls.push_full.Goals as goal

pub returns-in_ok-expand : goal.returns-in_ok-expand
returns-in_ok-expand c =
    let lent = row-lent c.args.version.now c.args.compat c.args.row.first (lent_entry c.args.row) c.requires.first (sym c.is_lent.ensures.value ∙ c.if-is_lent.true) in
    c.in_ok-expand.ensures ∙ ap (λ x. c.args.codes.now.items ++ full c.args.version.now c.args.compat 32 x) c.mapped_code.ensures ∙ ap (λ l. c.args.codes.now.items ++ l) (sym lent)

pub returns-else-is_lent : goal.returns-else-is_lent
returns-else-is_lent c =
    let none = row-not_lent c.args.version.now c.args.compat c.args.row.first (lent_entry c.args.row) c.requires.first (sym c.is_lent.ensures.value ∙ c.if-is_lent.false) in
    sym (ap (λ l. c.args.codes.now.items ++ l) none ∙ append-nil c.args.codes.now.items)
