-- Whether weights are an interior-point system can be told: their tails are listed, and whether these are flat and which facets they have.
use Rattle.std.proofs.Common.{◌≡◌, ◌⊎◌, inl, inr, ℕ, zero, suc, ◌+◌, ◌<◌, ◌≤◌, List, [], ◌∷◌, length, map, ℤ, pos, negsuc, ◌+ℤ◌, ◌<ℤ◌, All, refl, sym, ap, ◌∙◌, subst, arith}
use Rattle.std.specs.Prelude.{slice_index_or}
use Rattle.std.proofs.lemmas.Bool.{cases_eq}
use Rattle.lattice_theory.specs.Vector.{entry, dot, EndsAt, HaveDimension, IsPrimitive}
use Rattle.lattice_theory.specs.Affine.{Affine, value}
use Rattle.lattice_theory.specs.Facet.{IsFlat, AreFacets}
use Rattle.lattice_theory.proofs.Integers.{linear}
use Rattle.lattice_theory.proofs.Members.{In, here, Each, empty, more, each_head, each_tail, each_in, each_from_in, each_from_all, all_from_each, in_from_contains}
use Rattle.lattice_theory.proofs.Members.{contains_from_in}
use Rattle.lattice_theory.proofs.Sublists.{in_map, from_map, IsImage}
use Rattle.lattice_theory.proofs.Divisibility.{HasGcd, gcd_exists, primitive_from_combination}
use Rattle.lattice_theory.proofs.Vectors.{unit, length-unit, entry-unit_same, zero_from_entries}
use Rattle.elimination.specs.Elimination.{Member, IsKernel, ArePivots}
use Rattle.elimination.proofs.KernelLaws.{kernel_exists_lem}
use Rattle.elimination.proofs.KernelSize.{empty_kernel_lem}
use Rattle.facet_theory.proofs.Values.{dot-zero}
use Rattle.facet_theory.proofs.Lifted.{vector_of, lifted, in_lifted, from_lifted, lifted_value, lifted_dimension}
use Rattle.facet_theory.proofs.Listed.{facets_are_listed_lem}
use Rattle.lattice_core.specs.Weights.{Weighted, IsMonomial, IsSummed, AreWellFormed, monomial_point, total}
use Rattle.weight_points.specs.Members.{AreMonomials}
use Rattle.weight_points.specs.Listing.{solutions}
use Rattle.weight_points.proofs.Solutions.{are_monomials}
use Rattle.interior_point_theory.specs.Interior.{HasInteriorPoint, IsInteriorPointSystem, system_of}
use Rattle.interior_point_theory.specs.Around.{AreAround, IsTail, HasTails}
use Rattle.interior_point_theory.specs.Beginnings.{IsBeginning}
use Rattle.interior_point_theory.proofs.WeightVectors.{length-point}
use Rattle.interior_point_theory.proofs.Tails.{interior_by_tails_lem}

-- it can be told whether P holds
abbrev pub Decided : Type 0 → Type 0
Decided P = P ⊎ (P → ⊥)

decide_each : {X : Type 0} (P : X → Type 0) (xs : List X) → ((x : X) → Decided (P x)) → Decided (Each P xs)
decide_each P [] d = inl empty
decide_each P (x ∷ xs) d = by (d x) (decide_each P xs d)
  where
    by : Decided (P x) → Decided (Each P xs) → Decided (Each P (x ∷ xs))
    by (inl p) (inl ps) = inl (more p ps)
    by (inr n) ps = inr (λ e. n (each_head e))
    by (inl p) (inr n) = inr (λ e. n (each_tail e))

decide_positive : (z : ℤ) → Decided (pos 0 <ℤ z)
decide_positive (pos zero) = inr (λ h. omega (arith, linear))
decide_positive (pos (suc k)) = inl (omega (arith, linear))
decide_positive (negsuc k) = inr (λ h. omega (arith, linear))

above_zero : (z : ℤ) → pos 0 <ℤ z → z ≡ pos 0 → ⊥
above_zero z h e = omega (arith, linear)

one_nonzero : pos 1 ≡ pos 0 → ⊥
one_nonzero e = omega (arith, linear)

-- no points are flat
none_flat : (n : ℕ) → 0 < n → IsFlat n []
none_flat n some = record {
  function = record { normal = unit n 0; constant = pos 0 };
  dimension = length-unit n 0;
  nonconstant = (0, λ e. one_nonzero (sym (entry-unit_same n 0 some) ∙ e));
  vanishes = λ k d l. absurd (omega arith);
}

module _ (n : ℕ) (points : List (List ℤ)) (p : List ℤ) (member : In p points) (dimension : HaveDimension n points) where
  only_constant : (c d : ℤ) → c +ℤ d ≡ pos 0 → d ≡ pos 0 → pos 0 <ℤ c → ⊥
  only_constant c d e z h = omega (arith, linear)

  -- a vector that isn't 0 and pairs to 0 with all of them
  flat_by : (k : Member) → length k.vector ≡ suc n → Each (λ v. dot k.vector v ≡ pos 0) (lifted points) → pos 0 <ℤ entry k.vector k.own
      → EndsAt k.vector k.own → IsFlat n points
  flat_by k l z positive ends = by k.vector k.own l (λ q i. each_in z (in_lifted i)) positive ends
    where
      by : (v : List ℤ) (own : ℕ) → length v ≡ suc n → ((q : List ℤ) → In q points → dot v (pos 1 ∷ q) ≡ pos 0) → pos 0 <ℤ entry v own
          → EndsAt v own → IsFlat n points
      by [] own l z positive ends = absurd (omega (arith, l))
      by (c ∷ a) zero l z positive ends = absurd (only_constant c (dot a p)
          (let e = sym (lifted_value (record { normal = a; constant = c }) p) ∙ z p member in omega (arith, linear))
          (dot-zero a p (each_from_all (λ x. x ≡ pos 0) a (zero_from_entries a (λ i. ends.zeros (suc i) (omega arith))))) positive)
      by (c ∷ a) (suc own) l z positive ends = record {
        function = record { normal = a; constant = c };
        dimension = omega (arith, l);
        nonconstant = (own, above_zero (entry a own) positive);
        vanishes = all_from_each {P = λ q. value (record { normal = a; constant = c }) q ≡ pos 0}
            (each_from_in points (λ q i. sym (lifted_value (record { normal = a; constant = c }) q) ∙ z q i));
      }

  solid_by : IsKernel (suc n) (lifted points) [] → IsFlat n points → ⊥
  solid_by h f =
      let zeros = empty_kernel_lem (suc n) (lifted points) h (vector_of f.function) (ap suc f.dimension)
      (all_from_each {P = λ v. dot (vector_of f.function) v ≡ pos 0} (each_from_in (lifted points) (λ v i. at v (from_lifted points v i)))) in
      f.nonconstant.1 (entries f.function.normal (each_tail (each_from_all (λ a. a ≡ pos 0) (vector_of f.function) zeros)) f.nonconstant.0)
    where
      at : (v : List ℤ) → (q : List ℤ) × In q points × (v ≡ pos 1 ∷ q) → dot (vector_of f.function) v ≡ pos 0
      at v (q, i, e) = ap (dot (vector_of f.function)) e ∙ lifted_value f.function q
          ∙ each_in (each_from_all (λ x. value f.function x ≡ pos 0) points f.vanishes) i

      entries : (a : List ℤ) → Each (λ x. x ≡ pos 0) a → (i : ℕ) → entry a i ≡ pos 0
      entries [] h i = refl
      entries (x ∷ a) (more e h) zero = e
      entries (x ∷ a) (more e h) (suc i) = entries a h i

  pub decide_flat : Decided (IsFlat n points)
  decide_flat = found (kernel_exists_lem (suc n) (lifted points)
      (all_from_each {P = λ v. length v ≡ suc n} (each_from_in (lifted points) (lifted_dimension n points dimension))))
    where
      by : (ks : List Member) → IsKernel (suc n) (lifted points) ks → Decided (IsFlat n points)
      by [] h = inr (solid_by h)
      by (k ∷ ks) h = inl (flat_by k (each_head (each_from_all (λ l. length l.vector ≡ suc n) (k ∷ ks) h.lengths))
          (each_from_all (λ v. dot k.vector v ≡ pos 0) (lifted points)
          (each_head (each_from_all (λ (l : Member). All (λ v. dot l.vector v ≡ pos 0) (lifted points)) (k ∷ ks) h.annihilate)))
          (each_head (each_from_all (λ (l : Member). pos 0 <ℤ entry l.vector l.own) (k ∷ ks) h.own_positive))
          (each_head (each_from_all (λ (l : Member). EndsAt l.vector l.own) (k ∷ ks) h.ends)))

      found : (ks : List Member) × (pivots : List (List ℤ)) × IsKernel (suc n) (lifted points) ks × ArePivots (suc n) (lifted points) pivots ks
          → Decided (IsFlat n points)
      found (ks, pivots, h, q) = by ks h

flat_or_solid : (n : ℕ) (points : List (List ℤ)) → 0 < n → HaveDimension n points → Decided (IsFlat n points)
flat_or_solid n [] some h = inl (none_flat n some)
flat_or_solid n (p ∷ points) some h = decide_flat n (p ∷ points) p here h

pub decide_around : (n : ℕ) (points : List (List ℤ)) → 0 < n → HaveDimension n points → Decided (AreAround n points)
decide_around n points some h = by (flat_or_solid n points some h)
  where
    all_positive : (solid : IsFlat n points → ⊥) (fs : List Affine) → AreFacets n points fs → Decided (Each (λ f. pos 0 <ℤ f.constant) fs)
        → Decided (AreAround n points)
    all_positive solid fs are (inl ps) =
        inl (record { solid = solid; constants = λ f is. each_in ps (in_from_contains fs ((are.members f).1 is)) })
    all_positive solid fs are (inr none) = inr (λ a. none (each_from_in fs (λ f i. a.constants f ((are.members f).0 (contains_from_in i)))))

    by : Decided (IsFlat n points) → Decided (AreAround n points)
    by (inl flat) = inr (λ a. a.solid flat)
    by (inr solid) =
        let listed = facets_are_listed_lem n points (record { coordinates = some; dimension = h; solid = solid }) in
        all_positive solid listed.0 listed.1 (decide_each (λ f. pos 0 <ℤ f.constant) listed.0 (λ f. decide_positive f.constant))

-- the weight line of a system
positive_at : (weights : List ℕ) (place : ℕ) → Each (λ w. 1 ≤ w) weights → place < length weights → 1 ≤ slice_index_or weights place 0
positive_at [] place e h = absurd (omega arith)
positive_at (w ∷ weights) zero (more e rest) h = e
positive_at (w ∷ weights) (suc place) (more e rest) h = positive_at weights place rest (omega arith)

pub well_formed : (system : Weighted) → All (λ w. 1 ≤ w) system.weights → IsSummed (length system.weights) system
    → AreWellFormed (system ∷ [])
well_formed system positive summed = record {
  some = omega arith;
  summed = all_from_each {P = IsSummed (length system.weights)} (more summed empty);
  used = λ place l. record {
    system = system;
    member = contains_from_in {xs = system ∷ []} here;
    positive = positive_at system.weights place (each_from_all (λ w. 1 ≤ w) system.weights positive) l;
  };
}

-- the tails of a system, one for each exponent vector
pub tail_of : List ℤ → List ℤ
tail_of [] = []
tail_of (a ∷ x) = monomial_point x

pub tails : Weighted → List (List ℤ)
tails system = map tail_of (solutions (system ∷ []))

module _ (n : ℕ) (system : Weighted) (some : 0 < n) (positive : All (λ w. 1 ≤ w) system.weights) (summed : IsSummed (n + 1) system)
    (small : system.degree ≤ 32767) where
  monomials : AreMonomials (system ∷ []) (solutions (system ∷ []))
  monomials =
      let columns = summed.columns in
      are_monomials (system ∷ [])
      (well_formed system positive (record { columns = refl; sum = summed.sum; positive = summed.positive }))
      (all_from_each {P = λ (s : Weighted). s.degree ≤ 32767} (more small empty))

  columns_are : (a : List ℤ) → IsMonomial (system ∷ []) a → length a ≡ n + 1
  columns_are a m = m.columns ∙ summed.columns

  is_tail : (a : List ℤ) → IsMonomial (system ∷ []) a → (y : List ℤ) → y ≡ tail_of a → IsTail system y
  unfolding tail_of
  is_tail [] m y e = absurd (let c = columns_are [] m in omega (arith, c))
  is_tail (first ∷ later) m y e = record { first = first; later = later; monomial = m; same = e }

  pub has_tails : HasTails n system (tails system)
  unfolding tails tail_of
  has_tails = record {
    some = some;
    positive = positive;
    summed = summed;
    members = λ y. (
      λ c. from y (from_map tail_of (solutions (system ∷ [])) (in_from_contains _ c)),
      λ t. contains_from_in (subst (λ (z : List ℤ). In z (map tail_of (solutions (system ∷ [])))) (sym t.same)
          (in_map tail_of (in_from_contains _ ((monomials.members (t.first ∷ t.later)).1 t.monomial)))),
    );
  }
    where
      from : (y : List ℤ) → IsImage tail_of (solutions (system ∷ [])) y → IsTail system y
      from y i = is_tail i.source ((monomials.members i.source).0 (contains_from_in i.member)) y i.is

  tail_dimension : HaveDimension n (tails system)
  tail_dimension = all_from_each {P = λ y. length y ≡ n} (each_from_in (tails system) (λ y i. at y ((has_tails.members y).0 (contains_from_in i))))
    where
      at : (y : List ℤ) → IsTail system y → length y ≡ n
      at y t =
          let c = columns_are (t.first ∷ t.later) t.monomial in
          ap length t.same ∙ (length-point t.later ∙ omega (arith, c))

  pub decide_interior : Decided (HasInteriorPoint system)
  decide_interior = by (decide_around n (tails system) some tail_dimension)
    where
      by : Decided (AreAround n (tails system)) → Decided (HasInteriorPoint system)
      by (inl a) = inl ((interior_by_tails_lem n system (tails system) has_tails).1 a)
      by (inr none) = inr (λ h. none ((interior_by_tails_lem n system (tails system) has_tails).0 h))

-- numbers with the greatest common divisor 1
pub decide_primitive : (x : List ℤ) → Decided (IsPrimitive x)
decide_primitive x = by (gcd_exists x)
  where
    of : (g : ℕ) → HasGcd x g → Decided (g ≡ 1) → Decided (IsPrimitive x)
    of g h (inl e) = inl (primitive_from_combination h.coefficients x (h.combination ∙ ap pos e))
    of g h (inr none) = inr (λ p. none (p g (all_from_each h.divides)))

    by : (g : ℕ) × HasGcd x g → Decided (IsPrimitive x)
    by (g, h) = of g h (cases_eq g 1)

pub decide_system : (n degree : ℕ) (x : List ℕ) → 0 < n → degree ≤ 32767 → length x ≡ n + 1 → IsBeginning x
    → Decided (IsInteriorPointSystem (system_of degree x))
decide_system n degree x some small columns b = by (cases_eq (total x) degree) (decide_primitive (map pos x))
  where
    some_sum : (ws : List ℕ) → Each (λ w. 1 ≤ w) ws → length ws ≡ n + 1 → 1 ≤ total ws
    some_sum [] h l = absurd (omega (arith, l))
    some_sum (w ∷ ws) (more h rest) l = omega (arith, h)

    inner : total x ≡ degree → IsPrimitive (map pos x) → Decided (HasInteriorPoint (system_of degree x))
        → Decided (IsInteriorPointSystem (system_of degree x))
    inner e p (inl h) = inl (record { positive = b.positive; ascends = b.ascends; primitive = p; sum = e; interior = h })
    inner e p (inr none) = inr (λ s. none s.interior)

    by : Decided (total x ≡ degree) → Decided (IsPrimitive (map pos x)) → Decided (IsInteriorPointSystem (system_of degree x))
    by (inr none) p = inr (λ s. none s.sum)
    by (inl e) (inr none) = inr (λ s. none s.primitive)
    by (inl e) (inl p) =
        let least = some_sum x (each_from_all (λ w. 1 ≤ w) x b.positive) columns in
        inner e p (decide_interior n (system_of degree x) some b.positive
        (record { columns = columns; sum = e; positive = omega (arith, e, least) }) small)
