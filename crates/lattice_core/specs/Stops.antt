-- What stops the work on an item: a refusal, or want of memory. This project's own.
use Rattle.lattice_core.specs.declared.faults.Refusal.{Refusal}
use Rattle.lattice_core.specs.declared.faults.Fault.{Fault}
use Rattle.lattice_core.specs.declared.faults.Fault.TheVariants.{Refused, NoMemory}

-- a refusal of which this holds, or want of memory
abbrev pub Stops : (Refusal → Type 0) → Fault → Type 0
Stops refused (Refused cause) = refused cause
Stops refused NoMemory = Unit {0}
