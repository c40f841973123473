-- What is printed of an item's polytope: the polytope alone, or with its dual, or the dual in its place (alg-geom/9310003: reflexive polytopes and
-- their duals). Which of them is printed, and what is asked of it, is this project's own.
use Rattle.std.specs.Prelude.{◌≡◌, ◌⊎◌, ℕ, ◌≤◌, Bool, true, false, not, ◌&&◌, ◌||◌, IsTrue}
use Rattle.lattice_core.specs.Dimensions.{dimension_of}
use Rattle.palp_words.specs.declared.job.PolyFlags.{PolyFlags}
use Rattle.dual_pair.specs.Polytopes.{PolytopeState}
use Rattle.dual_pair.specs.Pairs.{IsReflexivePolytope, PairState, IsPair}
use Rattle.batyrev.specs.Lines.{IsHodgeLine}
use Rattle.batyrev.specs.declared.line.HodgeLine.{HodgeLine}

-- the letters ask for the dual of a polytope that has one
abbrev pub ask_dual : PolyFlags → Bool
ask_dual flags = not flags.plain && (flags.general || (flags.dual_points || flags.dual_input))

-- they ask for a block that every polytope has
abbrev pub ask_own_block : PolyFlags → Bool
ask_own_block flags = flags.general || (flags.points || (flags.vertices || (flags.equations || (flags.matrix || flags.incidence))))

-- only of reflexive polytopes anything is printed: the letter for that is on, or no block is asked but that of the dual's points
abbrev pub only_reflexive : PolyFlags → Bool
only_reflexive flags = flags.reflexive_only || not (ask_own_block flags)

-- a polytope alone, or a reflexive polytope with its dual
pub data Shown : Type 0 where
  Alone : PolytopeState → Shown
  Paired : PairState → Shown

-- the polytope of which the blocks tell
abbrev pub shown_polytope : Shown → PolytopeState
shown_polytope (Alone p) = p
shown_polytope (Paired pair) = pair.m

-- the side that is the item's own polytope: the second one where the dual takes its place
abbrev pub own_side : Bool → PairState → PolytopeState
own_side true pair = pair.n
own_side false pair = pair.m

-- What the letters print of a polytope p: a pair where p is reflexive and its dual is asked, and otherwise p alone.
abbrev pub IsShown : PolyFlags → PolytopeState → Shown → Type 0
IsShown flags p (Alone q) = (q ≡ p) × (IsTrue (ask_dual flags) → IsReflexivePolytope p → ⊥)
IsShown flags p (Paired pair) = IsTrue (ask_dual flags) × (IsPair pair × (own_side flags.dual_input pair ≡ p))

-- the dimensions in which a reflexive polytope has Batyrev's numbers
abbrev pub HasNumbers : ℕ → Type 0
HasNumbers n = (3 ≤ n) × (n ≤ 5)

-- those of a pair are printed
abbrev pub AskNumbers : PolyFlags → ℕ → Type 0
AskNumbers flags n = IsTrue flags.general × HasNumbers n

-- the faces are asked: for their numbers and the incidences, or for Batyrev's numbers on the general line
abbrev pub AskFaces : PolyFlags → Shown → Type 0
AskFaces flags (Alone p) = IsTrue flags.incidence
AskFaces flags (Paired pair) = IsTrue flags.incidence ⊎ AskNumbers flags (dimension_of pair.m.vertices)

-- the numbers on the general line are Batyrev's, where it tells of a pair
abbrev pub AreNumbersOf : PolyFlags → Shown → HodgeLine → Type 0
AreNumbersOf flags (Alone p) numbers = Unit {0}
AreNumbersOf flags (Paired pair) numbers = IsTrue flags.general → IsHodgeLine pair.m numbers
