-- The names of the faults.
use Rattle.std.specs.Prelude.{ℕ, List, codes}
use Rattle.np_node.specs.declared.faults.NodeFault.{NodeFault}
use Rattle.np_node.specs.declared.faults.NodeFault.TheVariants.{Malformed, OtherForm, TooLong, NotUtf8, Unassigned, KeyDiffers, Full, Memory, OlderTables}

abbrev pub name_of : NodeFault → List ℕ
name_of (Malformed _) = codes "Malformed"
name_of OtherForm = codes "OtherForm"
name_of TooLong = codes "TooLong"
name_of (NotUtf8 _) = codes "NotUtf8"
name_of (Unassigned _ _) = codes "Unassigned"
name_of KeyDiffers = codes "KeyDiffers"
name_of Full = codes "Full"
name_of Memory = codes "Memory"
name_of (OlderTables _ _) = codes "OlderTables"
