-- The points of a weight line are all lattice points of their hull, and stand in lexicographic order.
use Rattle.std.specs.List.{Contains}
use Rattle.std.proofs.Common.{◌≡◌, inl, inr, ℕ, ◌<◌, List, [], ◌∷◌, length, map, ℤ, pos, ◌+ℤ◌, ◌-ℤ◌, ◌≤ℤ◌, refl, sym, ap, subst, ◌∙◌, arith}
use Rattle.std.proofs.lemmas.Int.{ints}
use Rattle.std.proofs.lemmas.List.{length-map, get_or-map}
use Rattle.std.proofs.lemmas.List.Elements.{All-get_or, All-from_get_or}
use Rattle.lattice_theory.specs.Vector.{entry, dot}
use Rattle.lattice_theory.specs.Affine.{Affine, value, IsNonnegative}
use Rattle.lattice_theory.specs.Hull.{InHull}
use Rattle.lattice_theory.specs.Order.{LexLess, Ascends}
use Rattle.lattice_theory.specs.Points.{IsLatticePoint}
use Rattle.lattice_theory.proofs.Members.{Each, empty, more, In, each_in, each_from_in, each_weaker, each_from_all, all_from_each, in_from_contains, contains_from_in}
use Rattle.lattice_theory.proofs.Vectors.{dot_comm}
use Rattle.lattice_core.specs.Dimensions.{dimension_of}
use Rattle.lattice_core.specs.Weights.{Weighted, weighted_degree, columns_of, total, monomial_point, IsInLattice, IsMonomial, IsSummed, AreWellFormed}
use Rattle.weight_frame.specs.Frame.{IsFrame, AreCoordinates}
use Rattle.weight_frame.proofs.Leads.{column}
use Rattle.weight_frame.proofs.Spans.{combination_exists}
use Rattle.weight_frame.proofs.Frames.{frame_is_basis, frame_sized}
use Rattle.weight_frame.proofs.FrameOrder.{frame_keeps_order}
use Rattle.item_points.specs.WeightLines.{HaveCoordinates, AreWeightPoints}
use Rattle.item_points.specs.Laws.{WeightPointsAreLatticePoints}
use Rattle.item_points.proofs.WeightPoints.{weight_are_points}
use Rattle.item_points.proofs.WeightWalks.{shifted_degree, HasPoint, have_point}

-- the exponents that a vector is the point of
abbrev exponents_of : List ℤ → List ℤ
exponents_of z = map (λ e. e +ℤ pos 1) z

point_of_exponents : (z : List ℤ) → monomial_point (exponents_of z) ≡ z
point_of_exponents [] = refl
point_of_exponents (e ∷ z) =
    let same : (e +ℤ pos 1) -ℤ pos 1 ≡ e = omega (arith, ints) in let later = point_of_exponents z in λ i. same i ∷ later i

-- points stand as their exponent vectors do
points_ordered : (a b : List ℤ) → LexLess a b → LexLess (monomial_point a) (monomial_point b)
points_ordered [] b h = absurd h
points_ordered (e ∷ a) [] h = absurd h
points_ordered (e ∷ a) (f ∷ b) (inl h) = inl (omega (arith, ints))
points_ordered (e ∷ a) (f ∷ b) (inr h) = inr (ap (λ (z : ℤ). z -ℤ pos 1) h.0, points_ordered a b h.1)

-- the function of a point's coordinates whose value is an exponent
abbrev exponent_at : List (List ℤ) → ℕ → Affine
exponent_at vectors j = record { normal = column j vectors; constant = pos 1 }

exponent_value : (n : ℕ) (vectors : List (List ℤ)) (a p : List ℤ) (j : ℕ) → AreCoordinates n vectors (monomial_point a) p → j < length a
    → value (exponent_at vectors j) p ≡ entry a j
exponent_value n vectors a p j c within =
    one_more (dot (column j vectors) p) (dot p (column j vectors)) (entry (monomial_point a) j) (entry a j) (dot_comm (column j vectors) p)
    (c.combination.entries j) (get_or-map (λ (e : ℤ). e -ℤ pos 1) a j (pos 0) (pos 0) within)
  where
    one_more : (d b m e : ℤ) → d ≡ b → m ≡ b → m ≡ e -ℤ pos 1 → d +ℤ pos 1 ≡ e
    one_more d b m e f g h = omega (arith, ints)

-- what holds of the coordinates of each member's point holds of the points
each_point : (n : ℕ) (vectors members points : List (List ℤ)) (P : List ℤ → Type 0) → HaveCoordinates n vectors members points
    → Each (λ a. (p : List ℤ) → AreCoordinates n vectors (monomial_point a) p → P p) members → Each P points
each_point n vectors [] [] P h e = empty
each_point n vectors [] (p ∷ points) P h e = absurd h
each_point n vectors (a ∷ members) [] P h e = absurd h
each_point n vectors (a ∷ members) (p ∷ points) P h (more k e) = more (k p h.0) (each_point n vectors members points P h.1 e)

module _ (systems : List Weighted) (points : List (List ℤ)) (formed : AreWellFormed systems) (are : AreWeightPoints systems points) where
  abbrev n : ℕ
  n = columns_of systems

  abbrev vectors : List (List ℤ)
  vectors = are.frame.vectors

  frame : IsFrame systems vectors
  frame = record { made = are.frame.is_frame.made; recursion = are.frame.is_frame.recursion }

  -- the exponents are nonnegative at the points
  exponents_nonnegative : (j : ℕ) → j < n → IsNonnegative points (exponent_at vectors j)
  exponents_nonnegative j within =
      all_from_each (each_point n vectors are.members points (λ p. pos 0 ≤ℤ value (exponent_at vectors j) p) are.coordinates
      (each_from_in are.members (λ a i p c.
      let m = (are.are_monomials.members a).0 (contains_from_in i) in
      let inside : j < length a = let e = m.columns in omega arith in
      rw (exponent_value n vectors a p j c inside) (All-get_or (λ e. pos 0 ≤ℤ e) a j (pos 0) inside m.nonnegative))))

  -- a lattice point of the hull
  module _ (x : List ℤ) (dimension : length x ≡ length vectors) (inside : InHull (length vectors) points x) where
    combination : (z : List ℤ) × AreCoordinates n vectors z x
    combination =
        let z = combination_exists n x vectors (frame_sized systems vectors frame.made frame.recursion) in
        (z.0, record { count = dimension; combination = z.1 })

    abbrev exponents : List ℤ
    exponents = exponents_of combination.0

    coordinates : AreCoordinates n vectors (monomial_point exponents) x
    coordinates = subst (λ z. AreCoordinates n vectors z x) (sym (point_of_exponents combination.0)) combination.1

    in_lattice : IsInLattice systems (monomial_point exponents)
    in_lattice = (frame_is_basis systems vectors frame).inside (monomial_point exponents) x coordinates.combination

    many : length exponents ≡ n
    many = sym (length-map exponents (λ (e : ℤ). e -ℤ pos 1)) ∙ in_lattice.columns

    degree : (s : Weighted) → In s systems → weighted_degree s exponents ≡ pos s.degree
    degree s i =
        let summed : IsSummed n s = each_in (each_from_all (IsSummed n) systems formed.summed) i in
        let zero : weighted_degree s (monomial_point exponents) ≡ pos 0 =
        each_in (each_from_all (λ t. weighted_degree t (monomial_point exponents) ≡ pos 0) systems in_lattice.vanish) i in
        sum (weighted_degree s (monomial_point exponents)) (weighted_degree s exponents) (total s.weights) s.degree zero
        (shifted_degree s.weights exponents (summed.columns ∙ sym many)) summed.sum
      where
        sum : (d e : ℤ) (t k : ℕ) → d ≡ pos 0 → d ≡ e -ℤ pos t → t ≡ k → e ≡ pos k
        sum d e t k f g h = omega (arith, ints)

    nonnegative : (j : ℕ) → j < length exponents → pos 0 ≤ℤ entry exponents j
    nonnegative j within =
        let few : j < n = let e = many in omega arith in
        rw (← exponent_value n vectors exponents x j coordinates within)
        (inside (exponent_at vectors j) (length-map vectors (λ (b : List ℤ). entry b j)) (exponents_nonnegative j few))

    monomial : IsMonomial systems exponents
    monomial = record {
      columns = many;
      nonnegative = All-from_get_or (λ e. pos 0 ≤ℤ e) exponents (pos 0) nonnegative;
      degrees = all_from_each {P = λ s. weighted_degree s exponents ≡ pos s.degree} (each_from_in systems degree);
    }

    found : HasPoint n vectors points exponents
    found =
        have_point n vectors are.members points exponents are.coordinates
        (in_from_contains are.members ((are.are_monomials.members exponents).1 monomial))

    -- it is the point of its exponents
    is_found : found.point ≡ x
    is_found =
        let one = (frame_is_basis systems vectors frame).spans (monomial_point exponents) in_lattice in
        one.only found.point found.coordinates ∙ sym (one.only x coordinates)

    lattice_point_is_point : Contains points x
    lattice_point_is_point = subst (λ p. Contains points p) is_found (contains_from_in found.member)

  -- the points are in their hull
  point_is_lattice_point : (x : List ℤ) → Contains points x → IsLatticePoint (dimension_of points) points x
  point_is_lattice_point x c =
      let i = in_from_contains points c in
      record {
        dimension =
            each_in (each_from_all (λ p. length p ≡ dimension_of points) points (weight_are_points systems points are).0.one_dimension) i;
        inside = λ f e h. each_in (each_from_all (λ p. pos 0 ≤ℤ value f p) points h) i;
      }

  -- the points' order
  ascend : (members some : List (List ℤ)) → HaveCoordinates n vectors members some → Ascends LexLess members → Ascends LexLess some
  ascend [] [] h a = tt
  ascend [] (p ∷ some) h a = absurd h
  ascend (b ∷ members) [] h a = absurd h
  ascend (b ∷ members) (p ∷ some) h a = (
    all_from_each (each_point n vectors members some (LexLess p) h.1 (each_weaker (λ d less q k.
        (frame_keeps_order systems vectors (monomial_point b) (monomial_point d) p q frame h.0 k).0 (points_ordered b d less))
        (each_from_all (LexLess b) members a.0))),
    ascend members some h.1 a.1,
  )

pub weight_points_are_all : WeightPointsAreLatticePoints
weight_points_are_all systems points formed are =
    let first = (weight_are_points systems points are).1 in
    record {
      ascends = ascend systems points formed are are.members points are.coordinates are.are_monomials.ascends;
      members = λ x. (
        point_is_lattice_point systems points formed are x,
        λ h. lattice_point_is_point systems points formed are x (h.dimension ∙ first) (subst (λ k. InHull k points x) first h.inside),
      );
    }
