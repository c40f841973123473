-- Points in the interior of a face of a pair's polytope, or of the dual face in its dual (alg-geom/9310003).
use Rattle.std.specs.Prelude.{ℕ, Bool, List, length}
use Rattle.face_closing.specs.Words.{set_of}
use Rattle.face_poset.specs.Faces.{FaceState}
use Rattle.batyrev_theory.specs.Interior.{IsInteriorCount, IsDualInteriorCount}
use Rattle.lattice_core.specs.Dimensions.{dimension_of}
use Rattle.dual_pair.specs.Polytopes.{PolytopeState}
use Rattle.dual_pair.specs.Pairs.{PairState}
use Rattle.dual_pair.specs.declared.side.Side.{Side}
use Rattle.dual_pair.specs.declared.side.Side.TheVariants as sides

-- the polytope of a side
abbrev pub side_of : PairState → Side → PolytopeState
side_of pair sides.M = pair.m
side_of pair sides.N = pair.n

-- the vertices of a face of a table
abbrev pub set_in : PolytopeState → FaceState → List Bool
set_in p face = set_of (length p.vertices) face.members

-- k is the number of lattice points in the interior of the face, or of those of the dual in the interior of the dual face
abbrev pub IsInsideCount : PolytopeState → Side → FaceState → ℕ → Type 0
IsInsideCount p sides.M face k = IsInteriorCount (dimension_of p.vertices) p.vertices p.facets (set_in p face) k
IsInsideCount p sides.N face k = IsDualInteriorCount (dimension_of p.vertices) p.vertices (set_in p face) k
