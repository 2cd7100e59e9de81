-- A mapping of the code as contracts see it.
use Rattle.np_ucd.specs.declared.mappings as code
use Rattle.np_ucd.specs.Mappings.{Mapping}

abbrev pub mapping_of : code.Mapping.Mapping → Mapping
mapping_of m = record { kind = m.kind; codes = m.codes.items }
