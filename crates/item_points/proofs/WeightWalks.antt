-- The walk through the exponent vectors of a weight line: their points are in the lattice and small, and what is kept of them on the way.
use Rattle.std.specs.List.{All}
use Rattle.std.specs.Prelude.{ℤ, pos, ◌+ℤ◌, ◌-ℤ◌, ◌*ℤ◌, ◌≤ℤ◌, nat_abs, replicate, None}
use Rattle.std.proofs.Common.{◌≡◌, ◌∙◌, sym, ap, refl, subst, ℕ, zero, suc, ◌+◌, ◌<◌, ◌≤◌, Bool, true, false, List, [], ◌∷◌, ◌++◌, length, map, inl, arith}
use Rattle.std.proofs.lemmas.Int.{ints}
use Rattle.std.proofs.lemmas.List.{length-map, length-replicate, length-append}
use Rattle.lattice_theory.specs.Vector.{dot}
use Rattle.lattice_theory.proofs.Integers.{linear, *ℤ-one, *ℤ-+ℤ}
use Rattle.lattice_core.specs.Dimensions.{dimension_of}
use Rattle.lattice_core.specs.Weights.{Weighted, weighted_degree, columns_of, total, monomial_point}
use Rattle.lattice_core.specs.Weights.{IsInLattice, IsMonomial, IsSummed, AreWellFormed, AreWithinLimits}
use Rattle.lattice_core.specs.declared.faults.Refusal.TheVariants.{Limit}
use Rattle.lattice_core.specs.declared.faults.LimitName.TheVariants.{Monomials, Size}
use Rattle.lattice_theory.proofs.Members.{Each, empty, more, each_head, each_tail, each_in, each_map, each_weaker, each_push, each_from_in}
use Rattle.lattice_theory.proofs.Members.{each_from_all, all_from_each, In, here, there, in_push, in_append_left, in_from_contains, contains_from_in}
use Rattle.weight_points.specs.Members.{Walked, AreMonomials, IsMonomialAt, HasMonomials, AreFirst}
use Rattle.weight_points.proofs.Collecting.{none_are_first, first_and_next, first_are_all}
use Rattle.weight_points.proofs.Entries.{exponents_small}
use Rattle.lattice_core.specs.declared.limits.TheConstants.{MOST_COORDINATE}
use Rattle.weight_frame.specs.Answers.{IsFrameWithinLimit, IsFrameFault, IsHandedOut, HasCoordinates, HasLargeCoordinate}
use Rattle.weight_frame.specs.Frame.{AreCoordinates, largest}
use Rattle.weight_frame.proofs.Frames.{frame_coordinates}
use Rattle.lattice_core.specs.declared.faults.Fault.{Fault}
use Rattle.weight_frame.specs.declared.frame.FrameFault.{FrameFault}
use Rattle.weight_frame.specs.declared.frame.FrameFault.TheVariants as frames
use Rattle.palp_input.specs.Grammar.{ListedWeights}
use Rattle.lattice_core.specs.Stops.{Stops}
use Rattle.item_points.specs.WeightLines.{numbers_refusal, HasFrame, HaveCoordinates, AreWeightPoints, entry, other_dimension, many_monomials}
use Rattle.item_points.specs.Points.{HaveLargeCoordinate, IsPointsRefusal, input, large_size}
use Rattle.item_points.specs.WeightSteps.{AreSmallPoints, IsFrameStop}
use Rattle.item_points.proofs.LargeCoordinates.{large_size_from_coordinate}
use Rattle.item_points.proofs.WeightPoints.{weight_are_points}

-- the weighted degree of an exponent vector's point
shifted_sum : (a t e d s : ℤ) → d ≡ s -ℤ t → a *ℤ (e -ℤ pos 1) +ℤ d ≡ (a *ℤ e +ℤ s) -ℤ (a +ℤ t)
shifted_sum a t e d s h =
    let split : a *ℤ (e -ℤ pos 1) ≡ a *ℤ e -ℤ a = *ℤ-less a e in
    omega (arith, linear)
  where
    *ℤ-less : (a e : ℤ) → a *ℤ (e -ℤ pos 1) ≡ a *ℤ e -ℤ a
    *ℤ-less a e =
        let back : e ≡ (e -ℤ pos 1) +ℤ pos 1 = omega (arith, linear) in
        let whole = ap (λ (z : ℤ). a *ℤ z) back ∙ *ℤ-+ℤ a (e -ℤ pos 1) (pos 1) in
        let one = *ℤ-one a in
        omega (arith, linear)

pub shifted_degree : (weights : List ℕ) (a : List ℤ) → length weights ≡ length a
    → dot (map pos weights) (monomial_point a) ≡ dot (map pos weights) a -ℤ pos (total weights)
shifted_degree [] [] l = refl
shifted_degree [] (e ∷ a) l = absurd (omega arith)
shifted_degree (w ∷ weights) [] l = absurd (omega arith)
shifted_degree (w ∷ weights) (e ∷ a) l =
    shifted_sum (pos w) (pos (total weights)) e (dot (map pos weights) (monomial_point a)) (dot (map pos weights) a)
    (shifted_degree weights a (omega arith))

-- the point of an exponent vector is in the lattice
pub point_inside : (systems : List Weighted) (a : List ℤ) → AreWellFormed systems → IsMonomial systems a
    → IsInLattice systems (monomial_point a)
point_inside systems a formed m = record {
  columns = length-map a (λ (e : ℤ). e -ℤ pos 1) ∙ m.columns;
  vanish = all_from_each {P = λ s. weighted_degree s (monomial_point a) ≡ pos 0} (each_from_in systems vanishes);
}
  where
    nothing : (d s : ℤ) (degree sum : ℕ) → d ≡ s -ℤ pos sum → s ≡ pos degree → sum ≡ degree → d ≡ pos 0
    nothing d s degree sum e f g = omega (arith, ints)

    vanishes : (s : Weighted) → In s systems → weighted_degree s (monomial_point a) ≡ pos 0
    vanishes s i =
        let summed : IsSummed (columns_of systems) s = each_in (each_from_all (IsSummed (columns_of systems)) systems formed.summed) i in
        let degree : weighted_degree s a ≡ pos s.degree =
        each_in (each_from_all (λ t. weighted_degree t a ≡ pos t.degree) systems m.degrees) i in
        nothing (weighted_degree s (monomial_point a)) (weighted_degree s a) s.degree (total s.weights)
        (shifted_degree s.weights a (summed.columns ∙ sym m.columns)) degree summed.sum

-- the entries of an exponent vector's point are small
pub point_small : (systems : List Weighted) (a : List ℤ) → AreWellFormed systems → AreWithinLimits systems → IsMonomial systems a
    → All (λ e. nat_abs e ≤ 32_768) (monomial_point a)
point_small systems a formed limits m =
    all_from_each (each_map (λ e. nat_abs e ≤ 32_768) (λ (e : ℤ). e -ℤ pos 1)
    (each_weaker less (each_from_all (λ e. (pos 0 ≤ℤ e) × (e ≤ℤ pos 32_767)) a (exponents_small systems a formed limits m))))
  where
    less : (e : ℤ) → (pos 0 ≤ℤ e) × (e ≤ℤ pos 32_767) → nat_abs (e -ℤ pos 1) ≤ 32_768
    less e h = omega (arith, ints, h.0, h.1)

-- (1, .., 1) is an exponent vector
ones_degree : (weights : List ℕ) → dot (map pos weights) (replicate (length weights) (pos 1)) ≡ pos (total weights)
ones_degree [] = refl
ones_degree (w ∷ weights) = let r = ones_degree weights in let one = *ℤ-one (pos w) in rw r (omega (arith, ints))

ones_nonnegative : (n : ℕ) → Each (λ e. pos 0 ≤ℤ e) (replicate n (pos 1))
ones_nonnegative zero = empty
ones_nonnegative (suc n) = more (omega (arith, ints)) (ones_nonnegative n)

ones_monomial : (systems : List Weighted) → AreWellFormed systems → IsMonomial systems (replicate (columns_of systems) (pos 1))
ones_monomial systems formed = record {
  columns = length-replicate (columns_of systems) (pos 1);
  nonnegative = all_from_each {P = λ e. pos 0 ≤ℤ e} (ones_nonnegative (columns_of systems));
  degrees = all_from_each {P = λ s. weighted_degree s (replicate (columns_of systems) (pos 1)) ≡ pos s.degree}
      (each_from_in systems degree);
}
  where
    degree : (s : Weighted) → In s systems → weighted_degree s (replicate (columns_of systems) (pos 1)) ≡ pos s.degree
    degree s i =
        let summed : IsSummed (columns_of systems) s = each_in (each_from_all (IsSummed (columns_of systems)) systems formed.summed) i in
        rw (← summed.columns) (ones_degree s.weights ∙ ap (λ (n : ℕ). pos n) summed.sum)

-- a list with a member
filled : {X : Type 0} {x : X} {xs : List X} → In x xs → 0 < length xs
filled here = omega arith
filled (there i) = omega arith

pub some_monomial : (systems : List Weighted) (members : List (List ℤ)) → AreWellFormed systems → AreMonomials systems members
    → 0 < length members
some_monomial systems members formed are =
    filled (in_from_contains members ((are.members (replicate (columns_of systems) (pos 1))).1 (ones_monomial systems formed)))

-- one more member, and its point
have_push : (n : ℕ) (vectors members points : List (List ℤ)) (a p : List ℤ) → HaveCoordinates n vectors members points
    → AreCoordinates n vectors (monomial_point a) p
    → HaveCoordinates n vectors (members ++ a ∷ []) (points ++ p ∷ [])
have_push n vectors [] [] a p h k = (k, tt)
have_push n vectors [] (q ∷ points) a p h k = absurd h
have_push n vectors (b ∷ members) [] a p h k = absurd h
have_push n vectors (b ∷ members) (q ∷ points) a p h k = (h.0, have_push n vectors members points a p h.1 k)

-- all members have coordinates
record HaveAllCoordinates (n : ℕ) (vectors members : List (List ℤ)) : Type 0 where
  points : List (List ℤ)
  coordinates : HaveCoordinates n vectors members points

have_all : (systems : List Weighted) (vectors members : List (List ℤ)) → AreWellFormed systems → IsFrameWithinLimit systems vectors
    → Each (IsMonomial systems) members
    → HaveAllCoordinates (columns_of systems) vectors members
have_all systems vectors [] formed frame e = record { points = []; coordinates = tt }
have_all systems vectors (a ∷ members) formed frame e =
    let one = frame_coordinates systems vectors (monomial_point a) frame (point_inside systems a formed (each_head e)) in
    let others = have_all systems vectors members formed frame (each_tail e) in
    record { points = one.coefficients ∷ others.points; coordinates = (one.are_coordinates, others.coordinates) }

-- the coordinates of a member
pub record HasPoint (n : ℕ) (vectors points : List (List ℤ)) (a : List ℤ) : Type 0 where
  pub point : List ℤ
  pub member : In point points
  pub coordinates : AreCoordinates n vectors (monomial_point a) point

pub have_point : (n : ℕ) (vectors members points : List (List ℤ)) (a : List ℤ) → HaveCoordinates n vectors members points → In a members
    → HasPoint n vectors points a
have_point n vectors [] points a h i = elim i [ ]
have_point n vectors (b ∷ members) [] a h i = absurd h
have_point n vectors (b ∷ members) (p ∷ points) _ h here = record { point = p; member = here; coordinates = h.0 }
have_point n vectors (b ∷ members) (p ∷ points) a h (there i) =
    let r = have_point n vectors members points a h.1 i in
    record { point = r.point; member = there r.member; coordinates = r.coordinates }

-- a member whose point has a large coordinate
pub record HasLargeMember (systems : List Weighted) (vectors members : List (List ℤ)) : Type 0 where
  pub exponents : List ℤ
  pub member : In exponents members
  pub large : HasLargeCoordinate (record { systems = systems; vectors = vectors }) (monomial_point exponents)

-- what is known of the points on the way: a large coordinate was met, or the points are those of the members
abbrev pub AreSeen : Bool → List Weighted → List (List ℤ) → List (List ℤ) → List (List ℤ) → Type 0
AreSeen true systems vectors members points = HasLargeMember systems vectors members
AreSeen false systems vectors members points = HaveCoordinates (columns_of systems) vectors members points

-- the walk after so many exponent vectors
pub record IsUnderWay (systems : List Weighted) (vectors : List (List ℤ)) (count : ℕ) (large : Bool) (points : List (List ℤ)) : Type 0 where
  pub members : List (List ℤ)
  pub first : AreFirst systems count members
  pub few : count ≤ 16_384
  pub seen : AreSeen large systems vectors members points
  pub small : Each (λ p. largest p ≤ MOST_COORDINATE) points

pub under_way : (systems : List Weighted) (vectors : List (List ℤ)) → AreWellFormed systems → AreWithinLimits systems
    → IsUnderWay systems vectors 0 false []
under_way systems vectors formed limits = record {
  members = [];
  first = none_are_first systems formed limits;
  few = omega arith;
  seen = tt;
  small = empty;
}

-- what is given is an exponent vector
given_monomial : (systems : List Weighted) (place : ℕ) (a : List ℤ) → IsMonomialAt systems place a → IsMonomial systems a
given_monomial systems place a m = (m.are_monomials.members a).0 (contains_from_in (in_middle m.before a m.after))
  where
    in_middle : (xs : List (List ℤ)) (x : List ℤ) (ys : List (List ℤ)) → In x (xs ++ x ∷ ys)
    in_middle [] x ys = here
    in_middle (y ∷ xs) x ys = there (in_middle xs x ys)

-- what a step of the walk gives
pub record IsGiven (new : Walked) (systems : List Weighted) (count : ℕ) (a : List ℤ) : Type 0 where
  pub systems_same : new.systems ≡ systems
  pub given : new.given ≡ count + 1
  pub is_monomial_at : IsMonomialAt systems count a
  pub is_monomial : IsMonomial systems a

pub next_given : (old new : Walked) (systems : List Weighted) (count : ℕ) (a : List ℤ) → old.systems ≡ systems → old.given ≡ count
    → (new.systems ≡ old.systems) × (new.given ≡ old.given + 1) × IsMonomialAt old.systems old.given a → IsGiven new systems count a
next_given old new systems count a e f next =
    let m : IsMonomialAt systems count a = rw (e, f) at next.2 in
    record {
      systems_same = next.0 ∙ e;
      given = next.1 ∙ ap (λ (n : ℕ). n + 1) f;
      is_monomial_at = m;
      is_monomial = given_monomial systems count a m;
    }

-- a point more
seen_more : (large : Bool) (systems : List Weighted) (vectors members points : List (List ℤ)) (a p : List ℤ)
    → AreSeen large systems vectors members points
    → AreCoordinates (columns_of systems) vectors (monomial_point a) p
    → AreSeen large systems vectors (members ++ a ∷ []) (points ++ p ∷ [])
seen_more true systems vectors members points a p seen k = record {
  exponents = seen.exponents;
  member = in_append_left (a ∷ []) seen.member;
  large = seen.large;
}
seen_more false systems vectors members points a p seen k = have_push (columns_of systems) vectors members points a p seen k

pub point_more : (systems : List Weighted) (vectors : List (List ℤ)) (count : ℕ) (large : Bool) (points : List (List ℤ)) (a p : List ℤ)
    → IsUnderWay systems vectors count large points → count < 16_384 → IsMonomialAt systems count a
    → HasCoordinates (record { systems = systems; vectors = vectors }) (monomial_point a) p → largest p ≤ MOST_COORDINATE
    → IsUnderWay systems vectors (count + 1) large (points ++ p ∷ [])
point_more systems vectors count large points a p way few m h k = record {
  members = way.members ++ a ∷ [];
  first = first_and_next systems count way.members a way.first m;
  few = omega arith;
  seen = seen_more large systems vectors way.members points a p way.seen h.are_coordinates;
  small = each_push way.small k;
}

-- a large coordinate more
pub large_more : (systems : List Weighted) (vectors : List (List ℤ)) (count : ℕ) (large : Bool) (points : List (List ℤ)) (a : List ℤ)
    → IsUnderWay systems vectors count large points → count < 16_384 → IsMonomialAt systems count a
    → HasLargeCoordinate (record { systems = systems; vectors = vectors }) (monomial_point a)
    → IsUnderWay systems vectors (count + 1) true points
large_more systems vectors count large points a way few m h = record {
  members = way.members ++ a ∷ [];
  first = first_and_next systems count way.members a way.first m;
  few = omega arith;
  seen = record { exponents = a; member = in_push way.members; large = h };
  small = way.small;
}

-- the frame of the line
abbrev has_frame : (systems : List Weighted) (vectors : List (List ℤ)) → numbers_refusal systems ≡ None
    → IsHandedOut (record { systems = systems; vectors = vectors }) → HasFrame systems
has_frame systems vectors numbers frame = record {
  numbers = numbers;
  vectors = vectors;
  is_frame = frame.is_frame;
  least = frame.least;
  most = frame.most;
}

-- there are more exponent vectors than a line may have
pub many_monomials_met : (systems : List Weighted) (vectors : List (List ℤ)) (a : List ℤ) → numbers_refusal systems ≡ None
    → IsHandedOut (record { systems = systems; vectors = vectors }) → IsMonomialAt systems 16_384 a
    → IsPointsRefusal (ListedWeights systems) (Limit Monomials 16_385)
many_monomials_met systems vectors a numbers frame m = input (many_monomials (record {
  frame = has_frame systems vectors numbers frame;
  members = m.before ++ a ∷ m.after;
  are_monomials = m.are_monomials;
  many = let l = length-append m.before (a ∷ m.after) in let e = m.count in omega arith;
  told_is = omega arith;
}))

-- all points
framed_points : (systems : List Weighted) (vectors members points : List (List ℤ)) (count : ℕ) → numbers_refusal systems ≡ None
    → IsHandedOut (record { systems = systems; vectors = vectors }) → AreFirst systems count members → count ≤ 16_384
    → HasMonomials systems count
    → HaveCoordinates (columns_of systems) vectors members points → AreWeightPoints systems points
framed_points systems vectors members points count numbers frame first few all h = record {
  frame = has_frame systems vectors numbers frame;
  members = members;
  are_monomials = first_are_all systems count members first all;
  some = some_monomial systems members frame.formed (first_are_all systems count members first all);
  few = let e = first.count_is in omega arith;
  coordinates = h;
}

-- the walk has ended, and no coordinate was large
pub walk_points : (systems : List Weighted) (vectors points : List (List ℤ)) (count : ℕ) → numbers_refusal systems ≡ None
    → IsHandedOut (record { systems = systems; vectors = vectors }) → IsUnderWay systems vectors count false points
    → HasMonomials systems count
    → AreSmallPoints systems points
walk_points systems vectors points count numbers frame way all = record {
  are_points = framed_points systems vectors way.members points count numbers frame way.first way.few all way.seen;
  small = all_from_each {P = λ p. largest p ≤ MOST_COORDINATE} way.small;
}

-- the coordinates of a vector with a large coordinate
large_coordinates : (systems : List Weighted) (vectors : List (List ℤ)) (x p : List ℤ) → IsFrameWithinLimit systems vectors
    → HasLargeCoordinate (record { systems = systems; vectors = vectors }) x → AreCoordinates (columns_of systems) vectors x p
    → MOST_COORDINATE < largest p
large_coordinates systems vectors x p frame large k =
    let one = frame_coordinates systems vectors x frame large.are_coordinates.inside in
    let same = one.only large.coordinates large.are_coordinates.are_coordinates ∙ sym (one.only p k) in
    subst (λ y. MOST_COORDINATE < largest y) same large.large

-- the walk has ended, and a coordinate was large
pub large_point_met : (systems : List Weighted) (vectors points : List (List ℤ)) (count : ℕ) → numbers_refusal systems ≡ None
    → IsHandedOut (record { systems = systems; vectors = vectors }) → IsUnderWay systems vectors count true points
    → HasMonomials systems count
    → IsPointsRefusal (ListedWeights systems) (Limit Size 1_073_741_825)
large_point_met systems vectors points count numbers frame way all =
    let seen = way.seen in
    let members = way.members in
    let are = first_are_all systems count members way.first all in
    let each = each_from_in members (λ b i. (are.members b).0 (contains_from_in i)) in
    let made = have_all systems vectors members frame.formed frame.is_frame each in
    let p = have_point (columns_of systems) vectors members made.points seen.exponents made.coordinates seen.member in
    let points_are = framed_points systems vectors members made.points count numbers frame way.first way.few all made.coordinates in
    let large : HaveLargeCoordinate made.points = record {
      point = p.point;
      member = contains_from_in p.member;
      large = large_coordinates systems vectors (monomial_point seen.exponents) p.point frame.is_frame seen.large p.coordinates;
    } in
    large_size (record {
      points = made.points;
      are_points = points_are;
      large = large_size_from_coordinate (dimension_of made.points) made.points
          (weight_are_points systems made.points points_are).0.one_dimension large;
      is_told = inl (large, omega arith);
    })

-- there is no frame
pub frame_stops : (systems : List Weighted) (fault : FrameFault) (told : Fault) → numbers_refusal systems ≡ None
    → IsFrameFault systems fault
    → IsFrameStop fault told
    → Stops (IsPointsRefusal (ListedWeights systems)) told
frame_stops systems (frames.Entry n) told numbers h e = rw e (input (entry numbers h))
frame_stops systems (frames.Dim n) told numbers h e = rw e (input (other_dimension numbers h))
frame_stops systems frames.NoMemory told numbers h e = rw e tt
