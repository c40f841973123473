-- The exit status of each outcome. This project's own.
use Rattle.std.specs.Prelude.{ℕ}
use Rattle.palp_engine.specs.declared.outcome.Outcome.{Outcome}
use Rattle.palp_engine.specs.declared.outcome.Outcome.TheVariants.{Done, BadWords, BadText, Refused, TextLimit, ReadFault, WriteFault, NoMemory}

abbrev pub status : Outcome → ℕ
status Done = 0
status (BadWords fault) = 2
status (BadText fault) = 3
status (Refused item cause) = 4
status TextLimit = 5
status ReadFault = 6
status WriteFault = 7
status NoMemory = 1
