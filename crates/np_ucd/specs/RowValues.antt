-- A row of the code as contracts see it.
use Rattle.np_ucd.specs.declared.rows.Row.{Row}
use Rattle.np_ucd.specs.declared.row_list.RowRef.{RowRef}
use Rattle.np_ucd.specs.Entries.{Entry}

abbrev pub entry_of : Row → Entry
entry_of r = record { first = r.first; last = r.last; class = r.class; kind = r.kind; mapping = r.mapping.items }

abbrev pub lent_entry : RowRef → Entry
lent_entry r = record { first = r.first; last = r.last; class = r.class; kind = r.kind; mapping = r.mapping.now }
