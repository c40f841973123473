-- Counts in the dual cone by the points of the dual polytope's dilates: each point has a base, whose degree isn't negative as the origin is in the
-- polytope, and the points of the vectors of a degree are in the dilate.
use Rattle.std.proofs.Common.{◌≡◌, ◌⊎◌, ℕ, ◌<◌, ◌≤◌, Bool, List, [], ◌++◌, length, ℤ, pos, negsuc, ◌+ℤ◌, ◌*ℤ◌, ◌≤ℤ◌, ◌<ℤ◌, refl, sym, ◌∙◌, subst, inl, inr, arith, slice_index_or}
use Rattle.std.specs.List.{Contains}
use Rattle.std.proofs.lemmas.List.Elements.{All-contains, Contains-get_or}
use Rattle.lattice_theory.specs.Vector.{dot}
use Rattle.lattice_theory.specs.Affine.{Affine, value_over}
use Rattle.lattice_theory.specs.Order.{Lists, LexLess}
use Rattle.lattice_theory.specs.Facet.{IsFacet}
use Rattle.lattice_theory.specs.Hull.{InHull}
use Rattle.lattice_theory.specs.Points.{IsDilatePoint}
use Rattle.lattice_theory.proofs.Integers.{linear, *ℤ-one, positive_or_not}
use Rattle.lattice_theory.proofs.Vectors.{dot_comm}
use Rattle.lattice_theory.proofs.Members.{In, all_from_each, each_from_in, in_from_contains, contains_from_in}
use Rattle.lattice_theory.proofs.Sublists.{IsImage, from_map}
use Rattle.facet_theory.specs.Solid.{AreSolid}
use Rattle.facet_theory.proofs.Hull.{hull_by_facets_lem}
use Rattle.facet_theory.proofs.Signs.{nonnegative_from}
use Rattle.facet_theory.proofs.Smallest.{Smallest, smallest_of}
use Rattle.face_theory.specs.Sets.{set_size}
use Rattle.duality_theory.specs.Reflexive.{with_one, IsReflexive}
use Rattle.duality_theory.specs.Lists.{with_ones}
use Rattle.nef_theory.specs.Nef.{IsPartPoint}
use Rattle.point_scan.specs.Dilates.{AreDilatePoints}
use Rattle.lattice_core.specs.Dimensions.{dimension_of}
use Rattle.cayley_theory.specs.Cones.{zero_vector, lifted}
use Rattle.cayley_theory.specs.Counts.{sum_of, IsConePair}
use Rattle.cayley_theory.specs.Bases.{lifted_all, HaveParts, HaveAllParts, HasBaseOf, HasDegree, pairing_with, AreFreeParts, Number, summed}
use Rattle.cayley_theory.proofs.ConeVectors.{length-zero_vector, dot-zero_vector}
use Rattle.cayley_theory.proofs.BasePoints.{from_pair}
use Rattle.cayley_theory.proofs.EachBase.{base_of, is_base_of, has_degree, place_of, height_above}
use Rattle.cayley_theory.proofs.PairSums.{counts_by_bases_lem}
use Rattle.cayley_theory.proofs.VertexSums.{above_vertex}
use Rattle.dual_pair.specs.Pairs.{PairState, IsPair}
use Rattle.dual_pair.proofs.VertexLists.{solid_of}
use Rattle.cayley.specs.PairCones.{ConeState, IsConeOf}
use Rattle.cayley.specs.Laws.{MembersHaveAllParts, DualPairsAreCounted, DualFacesAreCounted}
use Rattle.cayley.proofs.PairFacts.{same_dimension, facet_of, below_parts}

-- steps over plain numbers
origin_value : (d c : ℤ) → d ≡ pos 0 → c ≡ pos 1 → pos 0 ≤ℤ (d +ℤ c)
origin_value d c e f = omega (arith, linear, e, f)

one_below : (d p q : ℤ) → d ≡ q → p ≤ℤ q → pos 0 <ℤ p → pos 0 ≤ℤ (d +ℤ negsuc 0)
one_below d p q e l h = omega (arith, linear, e, l, h)

not_above : (d : ℤ) → d ≡ pos 0 → pos 0 ≤ℤ (d +ℤ negsuc 0) → ⊥
not_above d e h = absurd (omega (arith, linear, e, h))

sum_above : (d s : ℤ) → d ≤ℤ pos 0 → pos 0 ≤ℤ (d +ℤ s) → pos 0 ≤ℤ s
sum_above d s l h = omega (arith, linear, l, h)

within_dilate : (p c t : ℤ) (s dilate : ℕ) → pos 0 ≤ℤ (p +ℤ c) → c ≡ pos s → s ≤ dilate → t ≡ pos dilate → pos 0 ≤ℤ (p +ℤ t)
within_dilate p c t s dilate h e l f = omega (arith, linear, h, e, l, f)

-- a reflexive polytope has a point that isn't above 0 in a direction, as the origin is in it
record IsNotAbove (points : List (List ℤ)) (q : List ℤ) : Type 0 where
  point : List ℤ
  member : Contains points point
  low : dot point q ≤ℤ pos 0

module _ (n : ℕ) (points : List (List ℤ)) (solid : AreSolid n points) (reflexive : IsReflexive n points) (q : List ℤ) (dimension : length q ≡ n) where
  origin_inside : InHull n points (zero_vector n)
  origin_inside = (hull_by_facets_lem n points solid (zero_vector n) (length-zero_vector n)).1
      (λ f facet. origin_value (dot f.normal (zero_vector n)) f.constant (dot_comm f.normal (zero_vector n) ∙ dot-zero_vector n f.normal) (reflexive f facet))

  -- the direction, with the constant -1
  abbrev one_less : Affine
  one_less = record { normal = q; constant = negsuc 0 }

  none_positive : (s : Smallest points (λ m. dot m q)) → pos 0 <ℤ dot s.place q → ⊥
  none_positive s h = not_above (dot q (zero_vector n)) (dot_comm q (zero_vector n) ∙ dot-zero_vector n q)
      (origin_inside one_less dimension (nonnegative_from points one_less
      (λ p i. one_below (dot q p) (dot s.place q) (dot p q) (dot_comm q p) (s.least p i) h)))

  not_above_zero : {p : List ℤ} → In p points → IsNotAbove points q
  not_above_zero i = by (smallest_of (λ m. dot m q) points i)
    where
      by : Smallest points (λ m. dot m q) → IsNotAbove points q
      by s = cases (positive_or_not (dot s.place q))
        where
          cases : (pos 0 <ℤ dot s.place q) ⊎ (dot s.place q ≤ℤ pos 0) → IsNotAbove points q
          cases (inl h) = absurd (none_positive s h)
          cases (inr h) = record { point = s.place; member = contains_from_in s.inside; low = h }

module _ (pair : PairState) (part_of : List ℕ) (cone : ConeState) (is : IsPair pair) (h : IsConeOf pair part_of cone) (ms : List Affine)
    (same : lifted_all cone.parts ms ≡ cone.members) (haves : HaveParts cone.dim cone.parts ms) where
  -- a point of a part at a vertex, with the unit vector of the part, is one of the members
  member_of : (m : List ℤ) → Contains pair.m.vertices m → (i : ℕ) (x : List ℤ) → i < cone.parts → IsPartPoint cone.dim pair.n.vertices part_of m i x
      → Contains (lifted_all cone.parts ms) (lifted cone.parts x i)
  member_of m c i x l p = subst (λ (gs : List (List ℤ)). Contains gs (lifted cone.parts x i)) (sym same)
      ((h.members_are.members (lifted cone.parts x i)).1
      (record { vertex = m; of_vertices = c; part = i; within = l; point = x; is_point = p; is = refl }))

  first_vertex : Contains pair.m.vertices (slice_index_or pair.m.vertices 0 [])
  first_vertex = Contains-get_or pair.m.vertices 0 [] is.polytope.solid.sized.are_points.some

  pub members_all_parts : HaveAllParts cone.parts ms
  members_all_parts j l =
      let x = h.nef.points (slice_index_or pair.m.vertices 0 []) first_vertex j l in
      let p = place_of cone.dim cone.parts ms haves x.0 j x.1.dimension l
      (member_of (slice_index_or pair.m.vertices 0 []) first_vertex j x.0 l x.1) in
      (p.0, p.1, p.3)

  vertex_dimension : (m : List ℤ) → Contains pair.m.vertices m → length m ≡ cone.dim
  vertex_dimension m c = All-contains (λ v. length v ≡ dimension_of pair.m.vertices) pair.m.vertices m is.polytope.solid.sized.are_points.one_dimension c
      ∙ sym h.dim_is

  -- the points of the parts at a vertex add up to it, so it is above the sum of heights with which the members pair nonnegatively
  vertex_above : (m : List ℤ) → Contains pair.m.vertices m → (q a : List ℤ) → length a ≡ cone.parts
      → ((i : ℕ) → i < length ms → pos 0 ≤ℤ pairing_with ms q a i) → pos 0 ≤ℤ (dot m q +ℤ sum_of a)
  vertex_above m c q a long up = above_vertex cone.dim pair.n.vertices part_of m cone.parts (λ i l. h.nef.points m c i l)
      (subst (λ (k : ℕ). IsFacet k pair.n.vertices (with_one m)) (sym h.dim_is) (facet_of pair is m c)) (vertex_dimension m c)
      (λ e l. below_parts cone.parts part_of h.nef.growth e (let s = h.nef.count in omega (arith, s, l))) q a long
      (λ i x l p. height_above cone.dim cone.parts ms haves q a up x i p.dimension l (member_of m c i x l p))

  -- so a base has a degree
  with_degree : (q : List ℤ) → length q ≡ cone.dim → HasDegree cone.parts ms q
  with_degree q dimension =
      let base = is_base_of cone.dim cone.parts ms haves members_all_parts q in
      let solid : AreSolid cone.dim pair.m.vertices = subst (λ (k : ℕ). AreSolid k pair.m.vertices) (sym h.dim_is)
      (solid_of pair.m.vertices is.polytope.least is.polytope.solid) in
      let reflexive : IsReflexive cone.dim pair.m.vertices = subst (λ (k : ℕ). IsReflexive k pair.m.vertices) (sym h.dim_is) is.reflexive in
      let low = not_above_zero cone.dim pair.m.vertices solid reflexive q dimension (in_from_contains pair.m.vertices first_vertex) in
      has_degree cone.dim cone.parts ms haves members_all_parts q
      (sum_above (dot low.point q) (sum_of (base_of cone.dim cone.parts ms haves members_all_parts q)) low.low
      (vertex_above low.point low.member q (base_of cone.dim cone.parts ms haves members_all_parts q) base.parts base.above))

  module _ (set : List Bool) (wide : length set ≡ length ms) (s dilate : ℕ) (low : s ≤ dilate) (q a : List ℤ) (dimension : length q ≡ cone.dim)
      (pairs : IsConePair cone.dim cone.parts (lifted_all cone.parts ms) set s (q ++ a)) where
    -- each facet of the dual is the function of a vertex
    at_vertex : (f : Affine) → IsImage with_one pair.m.vertices f → pos 0 ≤ℤ value_over f q (pos dilate)
    at_vertex f i =
        let over = from_pair cone.dim cone.parts ms haves q dimension set wide s a pairs in
        subst (λ (g : Affine). pos 0 ≤ℤ value_over g q (pos dilate)) (sym i.is)
        (within_dilate (dot i.source q) (sum_of a) (pos dilate *ℤ pos 1) s dilate
        (vertex_above i.source (contains_from_in i.member) q a over.parts over.nonnegative) over.degree low (*ℤ-one (pos dilate)))

    at_facet : (f : Affine) → IsFacet cone.dim pair.n.vertices f → pos 0 ≤ℤ value_over f q (pos dilate)
    at_facet f facet =
        let facet' = subst (λ (k : ℕ). IsFacet k pair.n.vertices f) (h.dim_is ∙ sym (same_dimension pair is)) facet in
        at_vertex f (from_map with_one pair.m.vertices (in_from_contains (with_ones pair.m.vertices)
        (subst (λ (fs : List Affine). Contains fs f) is.dual.facets_are ((is.dual.polytope.facets_are.members f).1 facet'))))

    in_dilate : IsDilatePoint cone.dim pair.n.vertices dilate q
    in_dilate = record { dimension = dimension; inside = at_facet }

  -- the vectors of the degree that are 0 on the set
  pub dual_pairs_counted : (dilate : ℕ) (points : List (List ℤ)) → AreDilatePoints cone.dim pair.n.vertices dilate points → (set free : List Bool)
      → length set ≡ length ms → AreFreeParts cone.parts ms set free → (s : ℕ) → s ≤ dilate → (counts : ℕ → ℕ)
      → ((l : ℕ) → l ≤ s → Number (HasBaseOf cone.parts ms set l) points (counts l))
      → (pairs : List (List ℤ)) × Lists LexLess (IsConePair cone.dim cone.parts cone.members set s) pairs
      × (summed (set_size free) counts s ≡ length pairs)
  dual_pairs_counted dilate points are set free wide frees s low counts numbers =
      let found = counts_by_bases_lem cone.dim cone.parts ms set free s points counts haves wide frees are.ascends
      (all_from_each {P = λ x. length x ≡ cone.dim} (each_from_in points (λ x i. ((are.members x).0 (contains_from_in i)).dimension)))
      (all_from_each {P = HasDegree cone.parts ms} (each_from_in points (λ x i. with_degree x ((are.members x).0 (contains_from_in i)).dimension)))
      (λ x a q d. (are.members x).1 (in_dilate set wide s dilate low x a d q)) numbers in
      (found.0, subst (λ (gs : List (List ℤ)). Lists LexLess (IsConePair cone.dim cone.parts gs set s) found.0) same found.1, found.2)

pub members_all_parts_lem : MembersHaveAllParts
members_all_parts_lem pair part_of cone is h ms same haves = members_all_parts pair part_of cone is h ms same haves

pub dual_pairs_counted_lem : DualPairsAreCounted
dual_pairs_counted_lem pair part_of cone is h ms same haves dilate points are set free wide frees s low counts numbers =
    dual_pairs_counted pair part_of cone is h ms same haves dilate points are set free wide frees s low counts numbers

pub dual_faces_counted_lem : DualFacesAreCounted
dual_faces_counted_lem pair part_of cone is h ms same haves dilate points are face free wide frees s low counts numbers =
    let found = dual_pairs_counted pair part_of cone is h ms same haves dilate points are face free wide frees s low counts numbers in
    record { pairs = found.0; are_pairs = found.1; count_is = found.2 }
