-- How large the ranks of a table of a cone are.
use Rattle.std.proofs.Common.{ℕ, ◌+◌, ◌≤◌, sym, subst}
use Rattle.lattice_theory.specs.Vector.{HaveDimension}
use Rattle.lattice_theory.proofs.Members.{each_from_all, all_from_each, each_weaker}
use Rattle.face_theory.specs.Pairings.{paired}
use Rattle.face_closing.specs.Words.{set_of}
use Rattle.face_poset.specs.Faces.{IsFaceOf}
use Rattle.cayley_theory.proofs.ConeVectors.{cone_rank_bound_lem}
use Rattle.cayley.specs.Laws.{ConeTopRankBound}
use Rattle.cayley.proofs.PairFacts.{normals_dimension}

pub cone_top_rank_bound_lem : ConeTopRankBound
cone_top_rank_bound_lem pair part_of cone table is h t =
    let dimension = subst (λ (k : ℕ). HaveDimension k pair.n.vertices) (sym h.dim_is) (normals_dimension pair is) in
    all_from_each {P = λ face. face.rank ≤ cone.dim + cone.parts}
    (each_weaker (λ face f. cone_rank_bound_lem cone.dim pair.n.vertices cone.parts part_of cone.members cone.functions dimension h.functions_are
    (set_of (paired cone.members cone.functions).members face.members) face.rank f.is_face f.rank_is)
    (each_from_all (IsFaceOf table (paired cone.members cone.functions)) table.faces t.are_faces))
