-- The note of each outcome: one line. This project's own.
use Rattle.std.specs.Prelude.{◌≡◌, ◌⊎◌, Option, Some, None}
use Rattle.palp_io.specs.Sink.{SinkState, Gains, IsGiveFault}
use Rattle.palp_print.specs.Notes.{note_line}
use Rattle.palp_print.specs.declared.notes.Note.{Note}
use Rattle.palp_print.specs.declared.notes.Note.TheVariants as notes
use Rattle.palp_engine.specs.declared.outcome.Outcome.{Outcome}
use Rattle.palp_engine.specs.declared.outcome.Outcome.TheVariants.{Done, BadWords, BadText, Refused, TextLimit, ReadFault, WriteFault, NoMemory}

-- the note of an outcome; Done has none
abbrev pub note_of : Outcome → Option Note
note_of Done = None
note_of (BadWords fault) = Some (notes.Words fault)
note_of (BadText fault) = Some (notes.Text fault)
note_of (Refused item cause) = Some (notes.Refused item cause)
note_of TextLimit = Some notes.TextLimit
note_of ReadFault = Some notes.ReadFault
note_of WriteFault = Some notes.WriteFault
note_of NoMemory = Some notes.NoMemory

-- the note's line was given to the sink of notes, or a front of it where its count of faults rose
abbrev pub IsNoted : Option Note → SinkState → SinkState → Type 0
IsNoted None before now = now ≡ before
IsNoted (Some note) before now = Gains before now (note_line note) ⊎ IsGiveFault (note_line note) before now
