-- Counts in a cone by the points of the polytope's dilates: each point has a base, whose degree isn't negative, and the points of the vectors of a
-- degree are in the dilate.
use Rattle.std.proofs.Common.{◌≡◌, ℕ, ◌<◌, ◌≤◌, Bool, List, [], ◌++◌, length, ℤ, pos, ◌+ℤ◌, ◌*ℤ◌, ◌≤ℤ◌, refl, sym, ap, ◌∙◌, subst, inl, inr, arith, slice_index_or}
use Rattle.std.specs.List.{Contains}
use Rattle.std.proofs.lemmas.List.{get_or_default, length-map}
use Rattle.lattice_theory.specs.Vector.{entry, dot, HaveDimension}
use Rattle.lattice_theory.specs.Affine.{Affine, value_over}
use Rattle.lattice_theory.specs.Order.{Lists, LexLess}
use Rattle.lattice_theory.specs.Facet.{IsFacet}
use Rattle.lattice_theory.specs.Points.{IsDilatePoint}
use Rattle.lattice_theory.proofs.Integers.{linear, *ℤ-one}
use Rattle.lattice_theory.proofs.Members.{all_from_each, each_from_in, in_from_contains, contains_from_in}
use Rattle.lattice_theory.proofs.Sublists.{in_map}
use Rattle.face_theory.specs.Sets.{set_size}
use Rattle.nef_theory.specs.Nef.{part_at}
use Rattle.point_scan.specs.Dilates.{AreDilatePoints}
use Rattle.cayley_theory.specs.Cones.{zero_vector, lifted}
use Rattle.cayley_theory.specs.Counts.{sum_of, IsConePair}
use Rattle.cayley_theory.specs.Bases.{lifted_one, lifted_all, HaveParts, HaveAllParts, HasBaseOf, HasDegree, pairing_with, AreFreeParts, Number, summed}
use Rattle.cayley_theory.proofs.ConeVectors.{length-zero_vector, dot-zero_vector, length_at}
use Rattle.cayley_theory.proofs.BasePoints.{from_pair}
use Rattle.cayley_theory.proofs.EachBase.{base_of, is_base_of, has_degree, place_of, height_above, sum_nonnegative, entry_below_sum}
use Rattle.cayley_theory.proofs.PairSums.{counts_by_bases_lem}
use Rattle.dual_pair.specs.Pairs.{PairState, IsPair}
use Rattle.cayley.specs.PairCones.{ConeState, IsConeOf}
use Rattle.cayley.specs.Laws.{FunctionsHaveAllParts, PairsAreCounted, FacesAreCounted}
use Rattle.cayley.proofs.PairFacts.{normals_dimension, below_parts}

-- steps over plain numbers
no_pairing : (a d : ℤ) → d ≡ pos 0 → pos 0 ≤ℤ (d +ℤ a) → pos 0 ≤ℤ a
no_pairing a d e h = omega (arith, linear, e, h)

within_dilate : (p a c t : ℤ) (s dilate : ℕ) → pos 0 ≤ℤ (p +ℤ a) → a ≤ℤ c → c ≡ pos s → s ≤ dilate → t ≡ pos dilate → pos 0 ≤ℤ (p +ℤ t)
within_dilate p a c t s dilate h k e l f = omega (arith, linear, h, k, e, l, f)

taken_once : (d c : ℤ) → c ≡ pos 1 → d *ℤ c ≡ d
taken_once d c e = ap (λ (z : ℤ). d *ℤ z) e ∙ *ℤ-one d

module _ (pair : PairState) (part_of : List ℕ) (cone : ConeState) (is : IsPair pair) (h : IsConeOf pair part_of cone) (fs : List Affine)
    (same : lifted_all cone.parts fs ≡ cone.functions) (haves : HaveParts cone.dim cone.parts fs) where
  -- the unit vector of a part is one of the functions
  unit_function : (j : ℕ) → j < cone.parts → Contains (lifted_all cone.parts fs) (lifted cone.parts (zero_vector cone.dim) j)
  unit_function j l = subst (λ (gs : List (List ℤ)). Contains gs (lifted cone.parts (zero_vector cone.dim) j)) (sym same)
      ((h.functions_are.members (lifted cone.parts (zero_vector cone.dim) j)).1 (inr (record { part = j; within = l; is = refl })))

  -- and so is a normal with that of its part
  normal_function : (e : ℕ) → e < length pair.n.vertices
      → Contains (lifted_all cone.parts fs) (lifted cone.parts (slice_index_or pair.n.vertices e []) (part_at part_of e))
  normal_function e l = subst (λ (gs : List (List ℤ)). Contains gs (lifted cone.parts (slice_index_or pair.n.vertices e []) (part_at part_of e))) (sym same)
      ((h.functions_are.members (lifted cone.parts (slice_index_or pair.n.vertices e []) (part_at part_of e))).1
      (inl (record { place = e; within = l; is = refl })))

  pub functions_all_parts : HaveAllParts cone.parts fs
  functions_all_parts j l =
      let p = place_of cone.dim cone.parts fs haves (zero_vector cone.dim) j (length-zero_vector cone.dim) l (unit_function j l) in
      (p.0, p.1, p.3)

  -- heights with which the functions pair nonnegatively aren't negative
  no_height_below : (x a : List ℤ) → ((i : ℕ) → i < length fs → pos 0 ≤ℤ pairing_with fs x a i) → (j : ℕ) → j < cone.parts → pos 0 ≤ℤ entry a j
  no_height_below x a up j l = no_pairing (entry a j) (dot (zero_vector cone.dim) x) (dot-zero_vector cone.dim x)
      (height_above cone.dim cone.parts fs haves x a up (zero_vector cone.dim) j (length-zero_vector cone.dim) l (unit_function j l))

  -- so a base has a degree
  with_degree : (x : List ℤ) → HasDegree cone.parts fs x
  with_degree x =
      let base = is_base_of cone.dim cone.parts fs haves functions_all_parts x in
      has_degree cone.dim cone.parts fs haves functions_all_parts x
      (sum_nonnegative (base_of cone.dim cone.parts fs haves functions_all_parts x)
      (λ j l. no_height_below x (base_of cone.dim cone.parts fs haves functions_all_parts x) base.above j
      (subst (λ (k : ℕ). j < k) base.parts l)))

  module _ (set : List Bool) (wide : length set ≡ length fs) (s dilate : ℕ) (low : s ≤ dilate) (x a : List ℤ) (dimension : length x ≡ cone.dim)
      (q : IsConePair cone.dim cone.parts (lifted_all cone.parts fs) set s (x ++ a)) where
    -- the heights of a vector of the degree
    above : (i : ℕ) → i < length fs → pos 0 ≤ℤ pairing_with fs x a i
    above = (from_pair cone.dim cone.parts fs haves x dimension set wide s a q).nonnegative

    long : length a ≡ cone.parts
    long = (from_pair cone.dim cone.parts fs haves x dimension set wide s a q).parts

    degree : sum_of a ≡ pos s
    degree = (from_pair cone.dim cone.parts fs haves x dimension set wide s a q).degree

    height_below : (j : ℕ) → j < cone.parts → entry a j ≤ℤ sum_of a
    height_below j l = entry_below_sum a (λ i k. no_height_below x a above i (subst (λ (m : ℕ). i < m) long k)) j (subst (λ (m : ℕ). j < m) (sym long) l)

    -- each facet, its constant taken as often as the dilate says, is nonnegative at its point
    at_normal : (e : ℕ) → e < length pair.n.vertices → (f : Affine) → slice_index_or pair.n.vertices e [] ≡ f.normal → f.constant ≡ pos 1
        → pos 0 ≤ℤ value_over f x (pos dilate)
    at_normal e l f is_normal one =
        let j = part_at part_of e in
        let part : j < cone.parts = below_parts cone.parts part_of h.nef.growth e (let c = h.nef.count in omega (arith, c, l)) in
        let long_normal : length (slice_index_or pair.n.vertices e []) ≡ cone.dim = normal_long e l in
        let high : pos 0 ≤ℤ (dot f.normal x +ℤ entry a j) = subst (λ (v : List ℤ). pos 0 ≤ℤ (dot v x +ℤ entry a j)) is_normal
        (height_above cone.dim cone.parts fs haves x a above (slice_index_or pair.n.vertices e []) j long_normal part (normal_function e l)) in
        within_dilate (dot f.normal x) (entry a j) (sum_of a) (pos dilate *ℤ f.constant) s dilate high (height_below j part) degree low
        (taken_once (pos dilate) f.constant one)
      where
        normal_long : (e : ℕ) → e < length pair.n.vertices → length (slice_index_or pair.n.vertices e []) ≡ cone.dim
        normal_long e l = length_at cone.dim pair.n.vertices (subst (λ (k : ℕ). HaveDimension k pair.n.vertices) (sym h.dim_is) (normals_dimension pair is)) e l

    at_facet : (f : Affine) → IsFacet cone.dim pair.m.vertices f → pos 0 ≤ℤ value_over f x (pos dilate)
    at_facet f facet =
        let facet' = subst (λ (k : ℕ). IsFacet k pair.m.vertices f) h.dim_is facet in
        let c : Contains pair.n.vertices f.normal = subst (λ (ns : List (List ℤ)). Contains ns f.normal) (sym is.dual.vertices_are)
        (contains_from_in (in_map (λ (g : Affine). g.normal) (in_from_contains pair.m.facets ((is.polytope.facets_are.members f).1 facet')))) in
        at_normal c.0 c.1 f (get_or_default pair.n.vertices c.0 [] f.normal c.1 ∙ c.2) (is.reflexive f facet')

    in_dilate : IsDilatePoint cone.dim pair.m.vertices dilate x
    in_dilate = record { dimension = dimension; inside = at_facet }

  -- the vectors of the degree that are 0 on the set
  pub pairs_counted : (dilate : ℕ) (points : List (List ℤ)) → AreDilatePoints cone.dim pair.m.vertices dilate points → (set free : List Bool)
      → length set ≡ length fs → AreFreeParts cone.parts fs set free → (s : ℕ) → s ≤ dilate → (counts : ℕ → ℕ)
      → ((l : ℕ) → l ≤ s → Number (HasBaseOf cone.parts fs set l) points (counts l))
      → (pairs : List (List ℤ)) × Lists LexLess (IsConePair cone.dim cone.parts cone.functions set s) pairs
      × (summed (set_size free) counts s ≡ length pairs)
  pairs_counted dilate points are set free wide frees s low counts numbers =
      let found = counts_by_bases_lem cone.dim cone.parts fs set free s points counts haves wide frees are.ascends
      (all_from_each {P = λ x. length x ≡ cone.dim} (each_from_in points (λ x i. ((are.members x).0 (contains_from_in i)).dimension)))
      (all_from_each {P = HasDegree cone.parts fs} (each_from_in points (λ x i. with_degree x)))
      (λ x a q d. (are.members x).1 (in_dilate set wide s dilate low x a d q)) numbers in
      (found.0, subst (λ (gs : List (List ℤ)). Lists LexLess (IsConePair cone.dim cone.parts gs set s) found.0) same found.1, found.2)

pub functions_all_parts_lem : FunctionsHaveAllParts
functions_all_parts_lem pair part_of cone is h fs same haves = functions_all_parts pair part_of cone is h fs same haves

pub pairs_counted_lem : PairsAreCounted
pairs_counted_lem pair part_of cone is h fs same haves dilate points are set free wide frees s low counts numbers =
    pairs_counted pair part_of cone is h fs same haves dilate points are set free wide frees s low counts numbers

pub faces_counted_lem : FacesAreCounted
faces_counted_lem pair part_of cone is h fs same haves dilate points are face dual free is_dual frees s low counts numbers =
    let wide : length dual ≡ length fs = is_dual.width ∙ ap length (sym same) ∙ length-map fs (lifted_one cone.parts) in
    let found = pairs_counted pair part_of cone is h fs same haves dilate points are dual free wide frees s low counts numbers in
    record { dual = dual; is_dual = is_dual; pairs = found.0; are_pairs = found.1; count_is = found.2 }
