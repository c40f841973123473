-- The numbers of points in the interior of faces, by the table of a pair's faces.
use Rattle.std.proofs.Common.{◌≡◌, inl, inr, ⊎_elim, ℕ, ◌<◌, ◌≤◌, List, length, take, sym, ap, ◌∙◌, subst, arith}
use Rattle.std.proofs.lemmas.Bool.{cases_lt}
use Rattle.std.proofs.lemmas.List.{length-take-le}
use Rattle.std.specs.Prelude.{ℤ, Bool}
use Rattle.lattice_theory.specs.Affine.{Affine}
use Rattle.face_theory.specs.Faces.{TightRelation, IsDualFace, IsRank}
use Rattle.face_theory.proofs.Heights.{rank_is_unique_lem}
use Rattle.face_theory.proofs.DualFaces.{dual_tells_lem}
use Rattle.bit_pool.specs.Bits.{HasBit, words_for}
use Rattle.incidence.specs.Incidences.{HaveValues}
use Rattle.face_closing.specs.Words.{set_of}
use Rattle.face_closing.proofs.MeetRows.{same_from_sets}
use Rattle.face_poset.specs.Faces.{TableState, no_face, face_at, IsFaceOf, ComesBefore}
use Rattle.lattice_core.specs.Dimensions.{dimension_of}
use Rattle.batyrev_theory.specs.Interior.{IsDualInteriorCount}
use Rattle.batyrev_theory.specs.Tables.{points_with}
use Rattle.batyrev_theory.proofs.InteriorLists.{interior_by_list_lem, dual_interior_by_list_lem}
use Rattle.dual_pair.specs.Polytopes.{PolytopeState, IsPolytope}
use Rattle.dual_pair.specs.Pairs.{PairState, IsPair, IsReflexivePolytope}
use Rattle.dual_pair.specs.Faces.{on_facets, AreFacesOf}
use Rattle.dual_pair.specs.Interiors.{side_of, set_in, IsInsideCount}
use Rattle.dual_pair.specs.CountSteps.{sought, AreSought, opened_on}
use Rattle.dual_pair.specs.declared.side.Side.{Side}
use Rattle.dual_pair.specs.declared.side.Side.TheVariants as sides
use Rattle.dual_pair.proofs.DualSides.{exchanged_pair, length-with_ones}
use Rattle.dual_pair.proofs.SmallPoints.{points_light, facet_values}

module _ (p : PolytopeState) (table : TableState) (t : AreFacesOf p table) where
  abbrev R : TightRelation
  R = on_facets p

  pub face_is : (k : ℕ) → k < length table.faces → IsFaceOf table R (face_at table.faces k)
  face_is k l = t.faces.are_faces k no_face l

  -- a face comes once
  pub before : (j k : ℕ) → j < k → k < length table.faces → set_in p (face_at table.faces j) ≡ set_in p (face_at table.faces k) → ⊥
  before j k l m e = by (t.faces.ascending j k no_face l m)
    where
      a : IsFaceOf table R (face_at table.faces j)
      a = face_is j (omega arith)

      b : IsFaceOf table R (face_at table.faces k)
      b = face_is k m

      ranks : (face_at table.faces j).rank ≡ (face_at table.faces k).rank
      ranks = rank_is_unique_lem R (set_in p (face_at table.faces j)) (face_at table.faces j).rank (face_at table.faces k).rank a.rank_is
          (subst (λ (set : List Bool). IsRank R set (face_at table.faces k).rank) (sym e) b.rank_is)

      words : (face_at table.faces j).members ≡ (face_at table.faces k).members
      words = same_from_sets (words_for table.members) (length p.vertices) (face_at table.faces j).members (face_at table.faces k).members
          a.members_tell b.members_tell e

      by : ComesBefore (face_at table.faces j) (face_at table.faces k) → ⊥
      by (inl h) = omega (arith, h, ranks)
      by (inr h) = h.1.missing (subst (λ (w : List ℕ). HasBit w h.1.first) words h.1.here)

  pub one_face : (j k : ℕ) → j < length table.faces → k < length table.faces
      → set_in p (face_at table.faces j) ≡ set_in p (face_at table.faces k) → j ≡ k
  one_face j k l m e = ⊎_elim
      (λ (h : j < k). absurd (before j k h m e))
      (λ (h : k ≤ j). ⊎_elim (λ (g : k < j). absurd (before k j g l (sym e))) (λ (g : j ≤ k). omega arith) (cases_lt k j))
      (cases_lt j k)

  -- so does a dual face
  one_dual : (j k : ℕ) → j < length table.faces → k < length table.faces
      → sought (length p.facets) sides.M table.faces j ≡ sought (length p.facets) sides.M table.faces k → j ≡ k
  one_dual j k l m e = one_face j k l m (dual_tells_lem R (set_in p (face_at table.faces j)) (set_in p (face_at table.faces k))
      (sought (length p.facets) sides.M table.faces j) (face_is j l).is_face (face_is k m).is_face (face_is j l).dual
      (subst (λ (set : List Bool). IsDualFace R (set_in p (face_at table.faces k)) set) (sym e) (face_is k m).dual))

  pub sought_by_facets : AreSought (words_for table.functions) (length p.facets) sides.M table.faces
  sought_by_facets = record { sets = λ k l. (face_is k l).functions_tell; apart = one_dual }

  pub sought_by_vertices : AreSought (words_for table.members) (length p.vertices) sides.N table.faces
  sought_by_vertices = record { sets = λ k l. (face_is k l).members_tell; apart = one_face }

module _ (pair : PairState) (is : IsPair pair) (table : TableState) (t : AreFacesOf pair.m table) where
  -- each side is a reflexive polytope
  pub side_is : (side : Side) → IsPolytope (side_of pair side) × IsReflexivePolytope (side_of pair side)
  side_is sides.M = (is.polytope, is.reflexive)
  side_is sides.N = let back = exchanged_pair pair is in (back.polytope, back.reflexive)

  pub side_values : (side : Side) → HaveValues (side_of pair side).points (side_of pair side).facets
  side_values side = let own = side_is side in facet_values (side_of pair side) own.0 own.1 (side_of pair side).points
      (points_light (side_of pair side) own.0)

  -- as many functions on side N as vertices
  dual_many : length pair.n.facets ≡ length pair.m.vertices
  dual_many = ap (λ (fs : List Affine). length fs) is.dual.facets_are ∙ length-with_ones pair.m.vertices

  pub side_sought : (side : Side) → AreSought (words_for (opened_on side table)) (length (side_of pair side).facets) side table.faces
  side_sought sides.M = sought_by_facets pair.m table t
  side_sought sides.N = subst (λ (n : ℕ). AreSought (words_for table.members) n sides.N table.faces) (sym dual_many)
      (sought_by_vertices pair.m table t)

  -- there is room for a bit of each
  pub side_fits : (side : Side) → length (side_of pair side).facets ≤ opened_on side table
  side_fits sides.M = t.functions_fit
  side_fits sides.N = let h = t.members_fit in let e = dual_many in omega arith

  -- what is counted by the lists
  pub side_counted : (side : Side) (k : ℕ) → k < length table.faces
      → IsInsideCount pair.m side (face_at table.faces k) (points_with (side_of pair side).facets (side_of pair side).points
      (sought (length (side_of pair side).facets) side table.faces k))
  side_counted sides.M k l = interior_by_list_lem (dimension_of pair.m.vertices) pair.m.vertices pair.m.facets pair.m.points
      (set_in pair.m (face_at table.faces k)) (sought (length pair.m.facets) sides.M table.faces k) is.polytope.points_are
      (face_is pair.m table t k l).dual
  side_counted sides.N k l =
      subst (λ (n : ℕ). IsDualInteriorCount (dimension_of pair.m.vertices) pair.m.vertices (set_in pair.m (face_at table.faces k))
      (points_with pair.n.facets pair.n.points (set_of n (face_at table.faces k).members))) (sym dual_many)
      (subst (λ (fs : List Affine). IsDualInteriorCount (dimension_of pair.m.vertices) pair.m.vertices (set_in pair.m (face_at table.faces k))
      (points_with fs pair.n.points (set_in pair.m (face_at table.faces k)))) (sym is.dual.facets_are)
      (dual_interior_by_list_lem (dimension_of pair.m.vertices) pair.m.vertices pair.n.points (set_in pair.m (face_at table.faces k))
      is.dual.points_are))

  -- the same of lists that the calls hand out
  pub handed : (side : Side) (functions : List Affine) (points : List (List ℤ)) → functions ≡ (side_of pair side).facets
      → points ≡ (side_of pair side).points → (k : ℕ) → k < length table.faces → (c : ℕ)
      → c ≡ points_with functions points (sought (length functions) side table.faces k)
      → IsInsideCount pair.m side (face_at table.faces k) c
  handed side functions points e f k l c g = subst (IsInsideCount pair.m side (face_at table.faces k))
      (sym (g ∙ ap (λ (fs : List Affine). points_with fs points (sought (length fs) side table.faces k)) e
      ∙ ap (λ (xs : List (List ℤ)). points_with (side_of pair side).facets xs (sought (length (side_of pair side).facets) side table.faces k)) f))
      (side_counted side k l)

  pub handed_values_on : (side : Side) (points : List (List ℤ)) (functions : List Affine) → points ≡ (side_of pair side).points
      → functions ≡ (side_of pair side).facets → HaveValues points functions
  handed_values_on side points functions e f = rw (e, f) (side_values side)

  pub handed_sought : (side : Side) (functions : List Affine) (words : List ℕ) (count : ℕ) → functions ≡ (side_of pair side).facets
      → count ≤ length words → count ≡ words_for (opened_on side table)
      → AreSought (length (take count words)) (length functions) side table.faces
  handed_sought side functions words count e l f =
      subst (λ (n : ℕ). AreSought n (length functions) side table.faces) (sym (length-take-le count words l ∙ f))
      (subst (λ (fs : List Affine). AreSought (words_for (opened_on side table)) (length fs) side table.faces) (sym e) (side_sought side))
