use Rattle.np_tables.proofs.QuickSpanLemmas.{ascii-assigned, ascii-yes_starter}
use Rattle.np_tables.proofs.page_table.PageTableNormTable.ascii_passes.Goals as goal

pub returns-clause-assigned : goal.returns-clause-assigned
returns-clause-assigned c = λ on d lt.
    let fields = c.self.inside in
    ascii-assigned c.args.self.now fields.version c.self.view_is fields.fulls fields.index.items fields.all_properties.items c.self.invariant.pages fields.quick_checks.items fields.are_quick_checks c.args._form (fields.ascii_is_yes on) d lt

pub returns-clause-yes_starter : goal.returns-clause-yes_starter
returns-clause-yes_starter c = λ on d lt.
    let fields = c.self.inside in
    ascii-yes_starter c.args.self.now fields.version c.self.view_is fields.fulls fields.index.items fields.all_properties.items c.self.invariant.pages fields.quick_checks.items fields.are_quick_checks c.args._form (fields.ascii_is_yes on) d lt
