-- The notes: one line each. This project's own.
use Rattle.std.specs.Prelude.{ℕ, List, ◌++◌, codes}
use Rattle.std.specs.Fmt.{decimal}
use Rattle.lattice_core.specs.declared.faults.Refusal.{Refusal}
use Rattle.lattice_core.specs.declared.faults.Refusal.TheVariants.{Flat, Limit}
use Rattle.lattice_core.specs.declared.faults.LimitName.{LimitName}
use Rattle.lattice_core.specs.declared.faults.LimitName.TheVariants as limits
use Rattle.palp_words.specs.declared.fault.WordKind.{WordKind}
use Rattle.palp_words.specs.declared.fault.WordKind.TheVariants as words
use Rattle.palp_input.specs.declared.fault.TextKind.{TextKind}
use Rattle.palp_input.specs.declared.fault.TextKind.TheVariants as texts
use Rattle.palp_print.specs.Texts.{function_text}
use Rattle.palp_print.specs.declared.notes.Note.{Note}
use Rattle.palp_print.specs.declared.notes.Note.TheVariants.{Words, Text, Refused, TextLimit, ReadFault, WriteFault, NoMemory}

-- the name of a limit
abbrev pub limit_name : LimitName → List ℕ
limit_name limits.Systems = codes "Systems"
limit_name limits.Weights = codes "Weights"
limit_name limits.Degree = codes "Degree"
limit_name limits.DegreeProduct = codes "DegreeProduct"
limit_name limits.Frame = codes "Frame"
limit_name limits.Dim = codes "Dim"
limit_name limits.Input = codes "Input"
limit_name limits.Monomials = codes "Monomials"
limit_name limits.Size = codes "Size"
limit_name limits.Facets = codes "Facets"
limit_name limits.Vertices = codes "Vertices"
limit_name limits.Points = codes "Points"
limit_name limits.DualSize = codes "DualSize"
limit_name limits.DualPoints = codes "DualPoints"
limit_name limits.Faces = codes "Faces"
limit_name limits.Codim = codes "Codim"
limit_name limits.Rank = codes "Rank"
limit_name limits.ScanM = codes "ScanM"
limit_name limits.ScanN = codes "ScanN"
limit_name limits.Partitions = codes "Partitions"
limit_name limits.ConeFaces = codes "ConeFaces"
limit_name limits.ConeM = codes "ConeM"
limit_name limits.ConeN = codes "ConeN"
limit_name limits.Coef = codes "Coef"

-- what the note says of a refusal
abbrev pub refusal_text : Refusal → List ℕ
refusal_text (Flat f) = codes "flat: " ++ function_text f
refusal_text (Limit name told) = codes "limit " ++ (limit_name name ++ (codes ": " ++ decimal told))

-- the name of a fault of a word
abbrev pub word_kind_name : WordKind → List ℕ
word_kind_name words.Missing = codes "Missing"
word_kind_name words.Command = codes "Command"
word_kind_name words.Flag = codes "Flag"
word_kind_name words.Number = codes "Number"
word_kind_name words.Range = codes "Range"
word_kind_name words.Extra = codes "Extra"
word_kind_name words.Conflict = codes "Conflict"

-- the name of a fault of a text
abbrev pub text_kind_name : TextKind → List ℕ
text_kind_name texts.BadNumber = codes "BadNumber"
text_kind_name texts.NumberRange = codes "NumberRange"
text_kind_name texts.MatrixShort = codes "MatrixShort"
text_kind_name texts.WeightSum = codes "WeightSum"
text_kind_name texts.Lengths = codes "Lengths"
text_kind_name texts.ZeroColumn = codes "ZeroColumn"
text_kind_name texts.NoWeights = codes "NoWeights"
text_kind_name texts.Quotient = codes "Quotient"
text_kind_name texts.BadByte = codes "BadByte"

-- the line of a note
abbrev pub note_line : Note → List ℕ
note_line (Words fault) = codes "palp: word " ++ (decimal fault.index ++ (codes ": " ++ (word_kind_name fault.kind ++ codes "\n")))
note_line (Text fault) = codes "palp: line " ++ (decimal fault.line ++ (codes " column " ++ (decimal fault.column ++ (codes ": "
    ++ (text_kind_name fault.kind ++ codes "\n")))))
note_line (Refused item cause) = codes "palp: item " ++ (decimal item ++ (codes ": " ++ (refusal_text cause ++ codes "\n")))
note_line TextLimit = codes "palp: text limit\n"
note_line ReadFault = codes "palp: read fault\n"
note_line WriteFault = codes "palp: write fault\n"
note_line NoMemory = codes "palp: no memory\n"
