-- The piece of an item in the report of `poly`, or that it has none, or why the item is refused. This project's own.
use Rattle.std.specs.Prelude.{◌≡◌, ◌⊎◌, ℕ, ◌+◌, Bool, true, false, List, [], ◌++◌, length, if◌then◌else◌, IsTrue, ℤ, pos}
use Rattle.std.specs.List.{list_all}
use Rattle.std.specs.Ordering.{int_eq}
use Rattle.lattice_theory.specs.Affine.{Affine}
use Rattle.lattice_core.specs.Dimensions.{dimension_of}
use Rattle.lattice_core.specs.declared.faults.Refusal.{Refusal}
use Rattle.lattice_core.specs.declared.faults.Refusal.TheVariants.{Limit}
use Rattle.lattice_core.specs.declared.faults.LimitName.TheVariants.{Faces}
use Rattle.palp_words.specs.declared.job.PolyFlags.{PolyFlags}
use Rattle.palp_input.specs.Grammar.{Listed}
use Rattle.item_points.specs.Points.{HasPoints, IsPointsRefusal}
use Rattle.face_closing.specs.Tables.{HasMoreFaces}
use Rattle.face_closing.specs.declared.limits.TheConstants.{MOST_FACES}
use Rattle.face_poset.specs.Counts.{AreFaceCounts}
use Rattle.dual_pair.specs.Polytopes.{PolytopeState}
use Rattle.dual_pair.specs.Pairs.{IsReflexivePolytope, HasNoDual}
use Rattle.dual_pair.specs.Faces.{on_facets}
use Rattle.item_polytopes.specs.Kinds.{HasPolytope}
use Rattle.batyrev.specs.declared.line.HodgeLine.{HodgeLine}
use Rattle.palp_print.specs.Lists.{item_echo, body_line, pair_line}
use Rattle.palp_print.specs.Blocks.{columns, dual_rows, equations, pairing, incidence}
use Rattle.palp_print.specs.declared.titles.Title.TheVariants.{Vertices, Points, DualPoints}
use Rattle.palp_engine.specs.Reports.{IsRefused}
use Rattle.palp_engine.specs.Shown.{ask_dual, only_reflexive, Shown, Alone, Paired, shown_polytope, IsShown, AskFaces, AreNumbersOf}

-- why an item with points is refused
pub record IsHullRefusal (item : Listed) (cause : Refusal) : Type 0 where
  pub points : List (List ℤ)
  pub has_points : HasPoints item points
  pub refused : IsRefused (dimension_of points) points cause

-- the polytope is reflexive and its dual is asked, but exceeds a limit
pub record HasNoAskedDual (flags : PolyFlags) (item : Listed) (cause : Refusal) : Type 0 where
  pub polytope : PolytopeState
  pub has_polytope : HasPolytope item polytope
  pub are_asked : IsTrue (ask_dual flags)
  pub no_dual : HasNoDual polytope cause

-- the faces of what is printed are asked, but too many: the limit and one are told
pub record HasManyFaces (flags : PolyFlags) (item : Listed) (told : ℕ) : Type 0 where
  pub polytope : PolytopeState
  pub has_polytope : HasPolytope item polytope
  pub shown : Shown
  pub is_shown : IsShown flags polytope shown
  pub are_asked : AskFaces flags shown
  pub more : HasMoreFaces (on_facets (shown_polytope shown))
  pub told_is : told ≡ MOST_FACES + 1

-- why what the letters ask of an item's polytope is refused: first the dual, then the faces
pub data IsAskedRefusal (flags : PolyFlags) (item : Listed) : Refusal → Type 0 where
  no_asked_dual : {cause : Refusal} → HasNoAskedDual flags item cause → IsAskedRefusal flags item cause
  many_faces : {told : ℕ} → HasManyFaces flags item told → IsAskedRefusal flags item (Limit Faces told)

-- why an item is refused: it has no points within the limits, or these are refused, or what the letters ask of them is
abbrev pub IsItemRefused : PolyFlags → Listed → Refusal → Type 0
IsItemRefused flags item cause = IsPointsRefusal item cause ⊎ (IsHullRefusal item cause ⊎ IsAskedRefusal flags item cause)

-- the constants of all facets are 1: so the polytope is reflexive (alg-geom/9310003)
abbrev pub have_ones : List Affine → Bool
have_ones facets = list_all (λ (f : Affine). int_eq f.constant (pos 1)) facets

-- the facets: as the vertices of the dual where the polytope is reflexive, and otherwise as equations
abbrev pub facet_block : List Affine → List ℕ
facet_block facets = if have_ones facets then dual_rows facets else equations facets

-- what is printed where it is asked
abbrev pub asked : Bool → List ℕ → List ℕ
asked true text = text
asked false text = []

-- the general line: with the numbers of the dual and Batyrev's numbers where there is a dual, and otherwise with the number of facets
abbrev pub general_line : Shown → HodgeLine → List ℕ
general_line (Alone p) numbers = body_line (length p.points) (length p.vertices) (length p.facets)
general_line (Paired pair) numbers =
    pair_line (length pair.m.points) (length pair.m.vertices) (length pair.n.points) (length pair.n.vertices) numbers

-- the points of the dual, where there is one
abbrev pub dual_columns : Shown → List ℕ
dual_columns (Alone p) = []
dual_columns (Paired pair) = columns DualPoints pair.n.points

-- the blocks of lists that the letters ask, with those of the dual's points, and with numbers of faces
abbrev pub list_blocks : PolyFlags → PolytopeState → List ℕ → List ℕ → List ℕ
list_blocks flags p duals counts =
    asked flags.points (columns Points p.points) ++ (asked flags.vertices (columns Vertices p.vertices)
    ++ (asked flags.equations (facet_block p.facets) ++ (asked flags.matrix (pairing p.facets p.vertices)
    ++ (asked flags.dual_points duals ++ asked flags.incidence (incidence counts p.facets p.vertices)))))

-- the blocks that the letters ask of an item of which this is printed, with these numbers
abbrev pub blocks : PolyFlags → Listed → Shown → HodgeLine → List ℕ → List ℕ
blocks flags item shown numbers counts = asked flags.general (item_echo item ++ general_line shown numbers)
    ++ list_blocks flags (shown_polytope shown) (dual_columns shown) counts

-- the item isn't refused, and this is printed of it
pub record IsAccepted (flags : PolyFlags) (item : Listed) (polytope : PolytopeState) (shown : Shown) : Type 0 where
  pub has_polytope : HasPolytope item polytope
  pub is_shown : IsShown flags polytope shown
  pub few_faces : AskFaces flags shown → HasMoreFaces (on_facets (shown_polytope shown)) → ⊥

-- the item isn't refused, and this is its piece of the report: the blocks that the letters ask
pub record IsPiece (flags : PolyFlags) (item : Listed) (piece : List ℕ) : Type 0 where
  pub polytope : PolytopeState
  pub shown : Shown
  pub accepted : IsAccepted flags item polytope shown
  pub is_wanted : IsTrue (only_reflexive flags) → IsReflexivePolytope polytope
  pub numbers : HodgeLine
  pub are_numbers : AreNumbersOf flags shown numbers
  pub counts : List ℕ
  pub are_counts : IsTrue flags.incidence
      → AreFaceCounts (on_facets (shown_polytope shown)) (dimension_of (shown_polytope shown).vertices) counts
  pub written : piece ≡ blocks flags item shown numbers counts

-- the item isn't refused, and it has no piece, as nothing is printed of it: only of reflexive polytopes anything is, and its isn't one
pub record IsUnwanted (flags : PolyFlags) (item : Listed) : Type 0 where
  pub polytope : PolytopeState
  pub shown : Shown
  pub accepted : IsAccepted flags item polytope shown
  pub reflexive_only : IsTrue (only_reflexive flags)
  pub other : IsReflexivePolytope polytope → ⊥
