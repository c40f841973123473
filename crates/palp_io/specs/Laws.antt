-- What holds over several calls of a source or a sink. This project's own.
use Rattle.std.specs.Prelude.{◌≡◌, ◌≢◌, ℕ, ◌<◌, ◌≤◌, ◌⊎◌, ◌↔◌, List, [], ◌++◌, Some, None}
use Rattle.palp_io.specs.Faults.{last_count, Rose}
use Rattle.palp_io.specs.Source.{SourceState, Passes, Takes}
use Rattle.palp_io.specs.Sink.{SinkState, Gains, GainsFront}
use Rattle.palp_io.specs.declared.taking.Took.{Took}
use Rattle.palp_io.specs.declared.taking.Took.TheVariants.{End, Failed}

-- a count rose exactly where it is greater now than before, or stands at its last value now
abbrev pub RoseInWords : Type 0
RoseInWords = (before now : ℕ) → before ≤ now → now ≤ last_count
    → (Rose before now ↔ ((before < now) ⊎ (now ≡ last_count)))

-- a count that rose in one of several calls rose over all of them
abbrev pub RoseOverCalls : Type 0
RoseOverCalls = (first before now last : ℕ) → first ≤ before → Rose before now → now ≤ last
    → Rose first last

-- a count that is constantly 0 never rises
abbrev pub ZeroNeverRises : Type 0
ZeroNeverRises = Rose 0 0 → ⊥

-- no call passes no bytes
abbrev pub PassesNothing : Type 0
PassesNothing = (source : SourceState) → Passes source source []

-- the bytes of two stretches of calls pass one after another
abbrev pub PassesOverCalls : Type 0
PassesOverCalls = (before between now : SourceState) (first second : List ℕ)
    → Passes before between first → Passes between now second → Passes before now (first ++ second)

-- a source that tells its bytes gives the next ones of them, and goes on telling
abbrev pub PassesTheNext : Type 0
PassesTheNext = (before now : SourceState) (left bytes : List ℕ) → before.left ≡ Some left
    → Passes before now bytes
    → (rest : List ℕ) × (now.left ≡ Some rest) × (left ≡ bytes ++ rest)
    × (now.taken ≡ before.taken ++ bytes)

-- a source that tells nothing goes on telling nothing
abbrev pub TellsNothingOn : Type 0
TellsNothingOn = (before now : SourceState) (bytes : List ℕ) → before.left ≡ None
    → Passes before now bytes → now.left ≡ None

-- a take that didn't fail answers the end exactly where nothing was left
abbrev pub EndsExactly : Type 0
EndsExactly = (answer : Took) (buf : List ℕ) (before now : SourceState) (left : List ℕ)
    → before.left ≡ Some left → Takes answer buf before now
    → answer ≢ Failed → ((answer ≡ End) ↔ (left ≡ []))

-- no call appends nothing
abbrev pub GainsNothing : Type 0
GainsNothing = (sink : SinkState) → Gains sink sink []

-- the bytes of two stretches of calls are appended one after another
abbrev pub GainsOverCalls : Type 0
GainsOverCalls = (before between now : SinkState) (first second : List ℕ)
    → Gains before between first → Gains between now second → Gains before now (first ++ second)

-- a front that was appended after some bytes is a front of all
abbrev pub GainsFrontOverCalls : Type 0
GainsFrontOverCalls = (before between now : SinkState) (first second : List ℕ)
    → Gains before between first → GainsFront between now second
    → GainsFront before now (first ++ second)

-- a front of some bytes is a front of these with more behind them
abbrev pub GainsFrontOfMore : Type 0
GainsFrontOfMore = (before now : SinkState) (bytes more : List ℕ)
    → GainsFront before now bytes → GainsFront before now (bytes ++ more)
