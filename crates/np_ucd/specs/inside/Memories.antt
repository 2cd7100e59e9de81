-- Want of memory, as a fault of a file.
use Rattle.np_ucd.specs.declared.faults.UcdFault.{UcdFault}
use Rattle.np_ucd.specs.declared.faults.UcdFault.TheVariants.{Memory}

abbrev pub no_memory : UcdFault
no_memory = Memory
