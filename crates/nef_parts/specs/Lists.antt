-- The lists of a pair between which nef partitions are (alg-geom/9509009: nef partitions of reflexive polytopes).
use Rattle.std.specs.Prelude.{List, ℤ}
use Rattle.dual_pair.specs.Pairs.{PairState}

-- the vertices and the lattice points of a reflexive polytope, and the normals of its facets, which are the vertices of its dual
pub record PairLists : Type 0 where
  pub vertices : List (List ℤ)
  pub points : List (List ℤ)
  pub normals : List (List ℤ)

abbrev pub lists_of : PairState → PairLists
lists_of pair = record { vertices = pair.m.vertices; points = pair.m.points; normals = pair.n.vertices }
