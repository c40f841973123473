-- What is said of points, of items and of texts is said once: the laws of this crate, as statements. This project's own.
use Rattle.std.specs.Prelude.{◌≡◌, ◌↔◌, ℕ, ◌<◌, true, false, IsTrue, List, [], ℤ, length}
use Rattle.std.specs.List.{concat}
use Rattle.lattice_core.specs.declared.faults.Refusal.{Refusal}
use Rattle.palp_io.specs.Sink.{IsPrefix}
use Rattle.report_theory.specs.Report.{Closing, ArePieces}
use Rattle.palp_words.specs.declared.job.Job.{Job}
use Rattle.palp_words.specs.declared.job.PolyFlags.{PolyFlags}
use Rattle.palp_input.specs.Grammar.{Listed, TextEnd}
use Rattle.dual_pair.specs.Polytopes.{PolytopeState, IsPolytope}
use Rattle.dual_pair.specs.Pairs.{IsReflexivePolytope, PairState, IsPair}
use Rattle.palp_engine.specs.Reports.{HaveFewPoints, IsRefused}
use Rattle.item_polytopes.specs.Kinds.{HasPolytope}
use Rattle.palp_print.specs.Lists.{item_echo}
use Rattle.palp_engine.specs.Items.{IsItemRefused, IsPiece, IsUnwanted, have_ones}
use Rattle.palp_engine.specs.Entries.{Entry, AreEntries}
use Rattle.palp_engine.specs.Commands.{Says}
use Rattle.palp_engine.specs.Texts.{HaveReport, IsReport, IsFront}
use Rattle.palp_engine.specs.Ended.{IsEndedReport}
use Rattle.palp_engine.specs.declared.outcome.Outcome.{Outcome}

-- points that aren't refused have one list of lattice points, of vertices and of facets
abbrev pub OnePolytope : Type 0
OnePolytope = (n : ℕ) (points : List (List ℤ)) (few other : HaveFewPoints n points) → (few.lattice ≡ other.lattice)
    × (few.polytope.vertices ≡ other.polytope.vertices) × (few.polytope.faces.facets ≡ other.polytope.faces.facets)

-- points, if there is one, are refused for no two causes
abbrev pub OneRefusal : Type 0
OneRefusal = (n : ℕ) (points : List (List ℤ)) (cause other : Refusal) → 0 < length points → IsRefused n points cause
    → IsRefused n points other
    → cause ≡ other

-- points that have such lists aren't refused
abbrev pub PolytopeOrRefusal : Type 0
PolytopeOrRefusal = (n : ℕ) (points : List (List ℤ)) (cause : Refusal) → HaveFewPoints n points → IsRefused n points cause → ⊥

-- the constants of the facets tell whether a polytope is reflexive
abbrev pub OnesTellReflexive : Type 0
OnesTellReflexive = (p : PolytopeState) → IsPolytope p → IsTrue (have_ones p.facets) ↔ IsReflexivePolytope p

-- letters ask for no two pieces of an item
abbrev pub OnePiece : Type 0
OnePiece = (flags : PolyFlags) (item : Listed) (piece other : List ℕ) → IsPiece flags item piece → IsPiece flags item other → piece ≡ other

-- an item is refused for no two causes
abbrev pub OneItemRefusal : Type 0
OneItemRefusal = (flags : PolyFlags) (item : Listed) (cause other : Refusal) → IsItemRefused flags item cause → IsItemRefused flags item other
    → cause ≡ other

-- an item that has a piece isn't refused
abbrev pub PieceOrRefusal : Type 0
PieceOrRefusal = (flags : PolyFlags) (item : Listed) (piece : List ℕ) (cause : Refusal) → IsPiece flags item piece
    → IsItemRefused flags item cause → ⊥

-- and so isn't one that has none, as it isn't wanted
abbrev pub PieceOrNone : Type 0
PieceOrNone = (flags : PolyFlags) (item : Listed) (piece : List ℕ) → IsPiece flags item piece → IsUnwanted flags item → ⊥

-- an item that has none isn't refused
abbrev pub NoneOrRefusal : Type 0
NoneOrRefusal = (flags : PolyFlags) (item : Listed) (cause : Refusal) → IsUnwanted flags item → IsItemRefused flags item cause → ⊥

-- The way back: of a reflexive polytope the letters print what the same letters with `D` print of its dual. So two items that have the sides of a
-- pair for their polytopes, and the same numbers in front of their lines, have one piece, where each has any.
abbrev pub with_dual : PolyFlags → PolyFlags
with_dual flags = record {
  general = flags.general;
  points = flags.points;
  vertices = flags.vertices;
  equations = flags.equations;
  matrix = flags.matrix;
  dual_points = flags.dual_points;
  incidence = flags.incidence;
  reflexive_only = flags.reflexive_only;
  dual_input = true;
  plain = flags.plain;
}

abbrev pub WayBack : Type 0
WayBack = (flags : PolyFlags) (item back : Listed) (pair : PairState) (piece other : List ℕ) → flags.plain ≡ false → flags.dual_input ≡ false
    → IsPair pair → HasPolytope item pair.m → HasPolytope back pair.n → item_echo item ≡ item_echo back → IsPiece flags item piece
    → IsPiece (with_dual flags) back other → piece ≡ other

-- a job reports on one list of entries of a text, which ends in one way
abbrev pub OneListOfEntries : Type 0
OneListOfEntries = (job : Job) (text : List ℕ) (entries others : List Entry) (ending another : TextEnd)
    → AreEntries job text entries ending → AreEntries job text others another → (entries ≡ others) × (ending ≡ another)

-- of an entry a job says one list of pieces, which ends in one way: so it is whole, or refused for one cause
abbrev pub OneList : Type 0
OneList = (job : Job) (entry : Entry) (pieces other : List (List ℕ)) (closing another : Closing Refusal)
    → ArePieces (Says job) 0 entry pieces closing → ArePieces (Says job) 0 entry other another → (pieces ≡ other) × (closing ≡ another)

-- words and a text have one report, which ends with one outcome
abbrev pub OneReport : Type 0
OneReport = (words : List (List ℕ)) (text : List ℕ) (report other : List (List ℕ)) (outcome another : Outcome)
    → HaveReport words text report outcome → HaveReport words text other another → (report ≡ other) × (outcome ≡ another)

-- a front of a report stands at its front
abbrev pub FrontsAreFronts : Type 0
FrontsAreFronts = (words : List (List ℕ)) (text : List ℕ) (front report : List (List ℕ))
    → IsFront words text front → IsReport words text report → IsPrefix (concat front) (concat report)

-- an empty report has no front but nothing
abbrev pub EmptyFront : Type 0
EmptyFront = (words : List (List ℕ)) (text : List ℕ) (front : List (List ℕ)) → IsFront words text front → IsReport words text []
    → front ≡ []

-- the items whose last line end stands among some bytes have one report
abbrev pub OneEndedReport : Type 0
OneEndedReport = (words : List (List ℕ)) (bytes : List ℕ) (report other : List (List ℕ)) → IsEndedReport words bytes report
    → IsEndedReport words bytes other → report ≡ other

-- and it is a front of the report of these bytes
abbrev pub EndedReportsAreFronts : Type 0
EndedReportsAreFronts = (words : List (List ℕ)) (bytes : List ℕ) (report : List (List ℕ)) → IsEndedReport words bytes report
    → IsFront words bytes report
