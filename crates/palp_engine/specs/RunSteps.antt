-- What the steps of a run answer. This project's own.
use Rattle.std.specs.Prelude.{◌≡◌, ℕ, ◌+◌, ◌≤◌, min, Bool, IsTrue, List, length, ℤ, Result, Ok, Err}
use Rattle.lattice_theory.specs.Affine.{Affine}
use Rattle.lattice_theory.specs.Hull.{AreVertices}
use Rattle.lattice_theory.specs.Facet.{AreFacets}
use Rattle.lattice_theory.specs.Points.{AreLatticePoints}
use Rattle.lattice_core.specs.Dimensions.{dimension_of}
use Rattle.lattice_core.specs.Limits.{IsSized}
use Rattle.lattice_core.specs.PointLists.{ArePoints}
use Rattle.lattice_core.specs.declared.limits.TheConstants.{MOST_FACETS, MOST_VERTICES, MOST_POINTS}
use Rattle.lattice_core.specs.declared.faults.Fault.{Fault}
use Rattle.lattice_core.specs.declared.faults.Fault.TheVariants as stops
use Rattle.palp_io.specs.Source.{SourceState}
use Rattle.palp_io.specs.Sink.{SinkState}
use Rattle.palp_words.specs.Words.{words_of}
use Rattle.palp_words.specs.declared.job.Job.{Job}
use Rattle.palp_input.specs.Grammar.{Listed, ListedWeights, ListedPoints}
use Rattle.palp_input.specs.declared.fault.NextFault.{NextFault}
use Rattle.palp_input.specs.declared.fault.NextFault.TheVariants.{Text, TooLong, Read, NoMemory as NoTextMemory}
use Rattle.facet_theory.specs.Solid.{AreSolid}
use Rattle.dual_pair.specs.Polytopes.{PolytopeState, IsPolytopeOf}
use Rattle.palp_print.specs.Blocks.{AreFunctions, ArePaired}
use Rattle.palp_engine.specs.declared.polytopes.Polytope.{Polytope}
use Rattle.palp_engine.specs.declared.polytopes.Lattice.{Lattice}
use Rattle.palp_engine.specs.Commands.{ReadsText, GiveJob}
use Rattle.palp_engine.specs.Runs.{HasTaken, AreUntouched, LeavesSource, IsReported, IsReportedInPart, IsDone, HasReadFault, HasWriteFault}
use Rattle.palp_engine.specs.declared.outcome.Outcome.{Outcome}
use Rattle.palp_engine.specs.declared.outcome.Outcome.TheVariants.{Done, BadWords, BadText, Refused, TextLimit, ReadFault, WriteFault, NoMemory}
use Rattle.weight_lists.specs.declared.fault.ListFault.{ListFault}
use Rattle.weight_lists.specs.declared.fault.ListFault.TheVariants as lists
use Rattle.nef_report.specs.declared.fault.NefFault.{NefFault}
use Rattle.nef_report.specs.declared.fault.NefFault.TheVariants as parts
use Rattle.palp_engine.specs.declared.session.ItemFault.{ItemFault}
use Rattle.palp_engine.specs.declared.session.ItemFault.TheVariants as faults

-- the number of lattice points of points, or limit + 1 where there are more than `limit`
pub record CountsLatticePoints (n : ℕ) (points : List (List ℤ)) (limit counted : ℕ) : Type 0 where
  pub lattice : List (List ℤ)
  pub are_lattice_points : AreLatticePoints n points lattice
  pub counted_is : counted ≡ min (length lattice) (limit + 1)

-- the points are all lattice points of their hull, and few
pub record AreAllAndFew (points : List (List ℤ)) : Type 0 where
  pub all : AreLatticePoints (dimension_of points) points points
  pub few : length points ≤ MOST_POINTS

-- the facets and vertices of points that passed the steps before the lattice points
pub record ArePassed (n : ℕ) (points : List (List ℤ)) (facets : List Affine) (vertices : List (List ℤ)) : Type 0 where
  pub solid : AreSolid n points
  pub sized : IsSized n points
  pub are_facets : AreFacets n points facets
  pub few_facets : length facets ≤ MOST_FACETS
  pub are_vertices : AreVertices n points vertices
  pub few_vertices : length vertices ≤ MOST_VERTICES

-- the number of lattice points, of which there are few, and all of them where they are listed
pub record IsLattice (n : ℕ) (points : List (List ℤ)) (listed : Bool) (lattice : Lattice) : Type 0 where
  pub list : List (List ℤ)
  pub are_lattice_points : AreLatticePoints n points list
  pub few : length list ≤ MOST_POINTS
  pub count_is : lattice.count ≡ length list
  pub listed_is : IsTrue listed → lattice.points.items ≡ list

-- what can be printed of a polytope: vertices and facets that can be paired, and lattice points, where they are listed
pub record ArePrinted (listed : Bool) (polytope : Polytope) : Type 0 where
  pub lattice : IsTrue listed → ArePoints polytope.lattice.items
  pub vertices : ArePoints polytope.vertices.items
  pub facets : AreFunctions polytope.facets.items
  pub paired : ArePaired polytope.facets.items polytope.vertices.items

-- what is kept of points that aren't refused: the number of their lattice points, all of them where they are listed, vertices and facets
pub record IsKept (points : List (List ℤ)) (listed : Bool) (kept : Polytope) : Type 0 where
  pub polytope : PolytopeState
  pub is_polytope : IsPolytopeOf points polytope
  pub count_is : kept.count ≡ length polytope.points
  pub lattice_is : IsTrue listed → kept.lattice.items ≡ polytope.points
  pub vertices_are : kept.vertices.items ≡ polytope.vertices
  pub facets_are : kept.facets.items ≡ polytope.facets
  pub printed : ArePrinted listed kept

-- the item is a weight line
abbrev pub IsWeightLine : Listed → Type 0
IsWeightLine (ListedWeights systems) = Unit {0}
IsWeightLine (ListedPoints lines columns entries) = ⊥

-- a fault of the work on an item, as the fault of its report
abbrev pub IsItemStop : Fault → ItemFault → Type 0
IsItemStop (stops.Refused cause) fault = fault ≡ faults.Refused cause
IsItemStop stops.NoMemory fault = fault ≡ faults.NoMemory

-- a fault of the list of an item's nef partitions, as the fault of its report
abbrev pub IsListStop : NefFault → ItemFault → Type 0
IsListStop (parts.Refused cause) fault = fault ≡ faults.Refused cause
IsListStop parts.Write fault = fault ≡ faults.Write
IsListStop parts.NoMemory fault = fault ≡ faults.NoMemory

-- the outcome where the reader gives no item and no end
abbrev pub outcome_unread : NextFault → Outcome
outcome_unread (Text fault) = BadText fault
outcome_unread TooLong = TextLimit
outcome_unread Read = ReadFault
outcome_unread NoTextMemory = NoMemory

-- the outcome of an entry with this number whose report isn't given whole
abbrev pub IsStopped : ℕ → ItemFault → Outcome → Type 0
IsStopped number (faults.Refused cause) outcome = outcome ≡ Refused number cause
IsStopped number faults.Write outcome = outcome ≡ WriteFault
IsStopped number faults.NoMemory outcome = outcome ≡ NoMemory

-- the outcome of the report of a list
abbrev pub list_outcome : Result (Unit {0}) ListFault → Outcome
list_outcome (Ok done) = Done
list_outcome (Err (lists.Refused number cause)) = Refused number cause
list_outcome (Err lists.Write) = WriteFault
list_outcome (Err lists.NoMemory) = NoMemory

-- some words give the job
abbrev pub IsGiven : Job → Type 0
IsGiven job = (words : List (List ℕ)) × (words_of words ≡ Ok job)

-- what each outcome of words means that give a job
abbrev pub PerformedMeans : List (List ℕ) → SourceState → SourceState → SinkState → SinkState → Outcome → Type 0
PerformedMeans words source source_now out out_now Done = IsDone words source source_now out out_now
PerformedMeans words source source_now out out_now (BadText fault) = IsReported words source source_now out out_now (BadText fault)
PerformedMeans words source source_now out out_now (Refused item cause) =
    IsReported words source source_now out out_now (Refused item cause)
PerformedMeans words source source_now out out_now TextLimit = IsReported words source source_now out out_now TextLimit
PerformedMeans words source source_now out out_now ReadFault = HasReadFault words source source_now out out_now
PerformedMeans words source source_now out out_now WriteFault = HasWriteFault words source source_now out out_now
PerformedMeans words source source_now out out_now NoMemory = IsReportedInPart words source source_now out out_now
PerformedMeans words source source_now out out_now other = ⊥

-- the job was done, whatever words give it
pub record IsPerformed (job : Job) (source source_now : SourceState) (out out_now : SinkState) (outcome : Outcome) : Type 0 where
  pub taken : HasTaken source source_now
  pub kept : (ReadsText job → ⊥) → source_now ≡ source
  pub means : (words : List (List ℕ)) (asked : GiveJob words) → asked.job ≡ job
      → PerformedMeans words source source_now out out_now outcome

-- what each outcome means
abbrev pub OutcomeMeans : List (List ℕ) → SourceState → SourceState → SinkState → SinkState → Outcome → Type 0
OutcomeMeans words source source_now out out_now (BadWords fault) = (words_of words ≡ Err fault) × AreUntouched source source_now out out_now
OutcomeMeans words source source_now out out_now outcome = GiveJob words × PerformedMeans words source source_now out out_now outcome

-- so many bytes passed, and the outcome means what it says
pub record IsAnswered (words : List (List ℕ)) (source source_now : SourceState) (out out_now : SinkState) (outcome : Outcome) : Type 0 where
  pub taken : HasTaken source source_now
  pub kept : LeavesSource words source source_now
  pub means : OutcomeMeans words source source_now out out_now outcome
