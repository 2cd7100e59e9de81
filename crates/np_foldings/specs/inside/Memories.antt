-- Want of memory, as a fault of a file.
use Rattle.np_foldings.specs.Faults.{FoldingFault, Memory}

abbrev pub no_memory : FoldingFault
no_memory = Memory
