-- Worked examples.
use Rattle.std.proofs.Common.{◌≡◌, ◌≢◌, ℕ, zero, suc, ◌*◌, ◌<◌, ◌≤◌, List, [], ◌∷◌, length, ℤ, pos, negsuc, ◌+ℤ◌, ◌*ℤ◌, ◌≤ℤ◌, ◌⊎◌, inl, inr, refl, sym, ap, ap₂, ◌∙◌, arith, subst}
use Rattle.std.proofs.lemmas.Int.{ints}
use Rattle.lattice_theory.specs.Vector.{dot, DividesInteger}
use Rattle.lattice_theory.specs.Examples.{in_plane, minus1}
use Rattle.lattice_theory.proofs.Integers.{one-*ℤ}
use Rattle.lattice_theory.proofs.Members.{Each, empty, more, all_from_each, each_from_all, each_head, each_tail, In, here, there, contains_from_in, in_from_contains}
use Rattle.lattice_theory.proofs.ExampleSteps.{one_nonzero}
use Rattle.lattice_core.specs.Weights.{Weighted, IsMonomial, weighted_degree, monomial_point}
use Rattle.interior_point_theory.specs.Interior.{HasInteriorPoint, IsNonnegativeOnMonomials, IsInteriorPointSystem, IsSystemOfRange, AreSystemsOfRange, system_of}
use Rattle.interior_point_theory.specs.Around.{IsTail, HasTails}
use Rattle.interior_point_theory.specs.Beginnings.{MayFollow}
use Rattle.interior_point_theory.specs.Certificates.{IsRefuter, IsSurrounded, entries_at, integer_sum}
use Rattle.interior_point_theory.specs.Examples.{three_ones, two_ones, two_tails, around_origin, beside_origin}
use Rattle.interior_point_theory.proofs.WeightVectors.{degree_is, no_multiple, monomial}
use Rattle.interior_point_theory.proofs.Ones.{ones_are_system_lem}
use Rattle.interior_point_theory.proofs.LargestWeights.{largest_weights_lem}

-- what holds of two numbers
two : {x y : ℤ} → pos 0 ≤ℤ x → pos 0 ≤ℤ y → Each (λ e. pos 0 ≤ℤ e) (x ∷ y ∷ [])
two p q = more p (more q empty)

two_weights : {u v : ℕ} → 1 ≤ u → 1 ≤ v → Each (λ w. 1 ≤ w) (u ∷ v ∷ [])
two_weights p q = more p (more q empty)

pub three_ones_system : IsInteriorPointSystem three_ones
three_ones_system = ones_are_system_lem 3 (omega arith)

-- 1 1 3: the function -a_3 refutes
abbrev one_one_three : Weighted
one_one_three = system_of 5 (1 ∷ 1 ∷ 3 ∷ [])

third_at_most_one : IsNonnegativeOnMonomials one_one_three (pos 0 ∷ pos 0 ∷ negsuc 0 ∷ [])
third_at_most_one [] m = absurd (let l = m.columns in omega arith)
third_at_most_one (x ∷ []) m = absurd (let l = m.columns in omega arith)
third_at_most_one (x ∷ y ∷ []) m = absurd (let l = m.columns in omega arith)
third_at_most_one (x ∷ y ∷ z ∷ []) m =
    let n = each_from_all (λ e. pos 0 ≤ℤ e) (x ∷ y ∷ z ∷ []) m.nonnegative in
    at x y z (each_head n) (each_head (each_tail n)) (degree_is one_one_three (x ∷ y ∷ z ∷ []) m)
  where
    at : (x y z : ℤ) → pos 0 ≤ℤ x → pos 0 ≤ℤ y → weighted_degree one_one_three (x ∷ y ∷ z ∷ []) ≡ pos 5
        → pos 0 ≤ℤ dot (pos 0 ∷ pos 0 ∷ negsuc 0 ∷ []) (monomial_point (x ∷ y ∷ z ∷ []))
    at x y z p q e = omega (arith, ints)
third_at_most_one (x ∷ y ∷ z ∷ u ∷ a) m = absurd (let l = m.columns in omega arith)

pub one_one_three_outside : HasInteriorPoint one_one_three → ⊥
one_one_three_outside interior = no_multiple (pos 0 ∷ pos 0 ∷ negsuc 0 ∷ []) (1 ∷ 1 ∷ 3 ∷ []) 0 2
    (more (omega arith) (two_weights (omega arith) (omega arith))) (omega arith) refl refl
    (interior (pos 0 ∷ pos 0 ∷ negsuc 0 ∷ []) refl third_at_most_one)

pub twos_no_system : IsInteriorPointSystem (system_of 6 (2 ∷ 2 ∷ 2 ∷ [])) → ⊥
twos_no_system is = apart 2 refl (is.primitive 2 (all_from_each {P = DividesInteger 2} (more (pos 1, refl) (more (pos 1, refl) (more (pos 1, refl) empty)))))
  where
    apart : (m : ℕ) → m ≡ 2 → m ≡ 1 → ⊥
    apart m e f = absurd (omega arith)

-- two weights are 1 1
only_two_ones : (degree : ℕ) (weights : List ℕ) → length weights ≡ 2 → IsInteriorPointSystem (system_of degree weights) → system_of degree weights ≡ two_ones
only_two_ones degree [] l is = absurd (omega arith)
only_two_ones degree (u ∷ []) l is = absurd (omega arith)
only_two_ones degree (u ∷ v ∷ []) l is =
    let cut = largest_weights_lem (system_of degree (u ∷ v ∷ [])) 1 1 is refl (omega arith) (inl (omega arith)) in
    let below = each_head (each_from_all (λ w. u ≤ w) (v ∷ []) is.ascends.0) in
    let sum = is.sum in
    let same : v ≡ u = omega arith in
    let one : u ≡ 1 = is.primitive u (all_from_each {P = DividesInteger u} (more (pos 1, one-*ℤ (pos u)) (more (pos 1, one-*ℤ (pos u) ∙ ap pos (sym same)) empty))) in
    ap₂ system_of (omega arith) (ap₂ (λ (a b : ℕ). a ∷ b ∷ []) one (same ∙ one))
only_two_ones degree (u ∷ v ∷ w ∷ x) l is = absurd (omega arith)

pub two_weights_lem : AreSystemsOfRange 1 1 9 (two_ones ∷ [])
two_weights_lem = record {
  ascends = (all_from_each empty, tt);
  members = λ s. (
    (λ c. by s (in_from_contains (two_ones ∷ []) c)),
    (λ r. contains_from_in (subst (λ (t : Weighted). In t (two_ones ∷ [])) (sym (only_two_ones s.degree s.weights r.columns r.is_system)) here)),
  );
}
  where
    by : (s : Weighted) → In s (two_ones ∷ []) → IsSystemOfRange 1 1 9 s
    by s here = record { columns = refl; least = omega arith; most = omega arith; is_system = ones_are_system_lem 2 (omega arith) }
    by s (there i) = elim i [ ]

-- the rows of the inverse of (2, -1) and (-1, 2)
abbrev rows : ℕ → List ℤ
rows zero = pos 2 ∷ pos 1 ∷ []
rows (suc k) = pos 1 ∷ pos 2 ∷ []

pub surrounded_example : IsSurrounded 2 around_origin
surrounded_example = record {
  chosen = in_plane (pos 2) minus1 ∷ in_plane minus1 (pos 2) ∷ [];
  inside = λ y i. contains_from_in (within y (in_from_contains (in_plane (pos 2) minus1 ∷ in_plane minus1 (pos 2) ∷ []) i));
  inverse = record {
    divisor = pos 3;
    nonzero = λ e. absurd (omega (arith, ints));
    rows = rows;
    own = own;
    others = others;
  };
  times = 1;
  positive = omega arith;
  multiples = 1 ∷ 1 ∷ [];
  balance = balance;
}
  where
    within : (y : List ℤ) → In y (in_plane (pos 2) minus1 ∷ in_plane minus1 (pos 2) ∷ []) → In y around_origin
    within y here = there (there here)
    within y (there here) = there (there (there here))
    within y (there (there i)) = elim i [ ]

    own : (k : ℕ) → k < 2 → dot (rows k) (entries_at k (in_plane (pos 2) minus1 ∷ in_plane minus1 (pos 2) ∷ [])) ≡ pos 3
    own zero h = refl
    own (suc zero) h = refl
    own (suc (suc k)) h = absurd (omega arith)

    others : (k j : ℕ) → k < 2 → j < 2 → k ≢ j → dot (rows k) (entries_at j (in_plane (pos 2) minus1 ∷ in_plane minus1 (pos 2) ∷ [])) ≡ pos 0
    others zero zero h l n = absurd (n refl)
    others zero (suc zero) h l n = refl
    others (suc zero) zero h l n = refl
    others (suc zero) (suc zero) h l n = absurd (n refl)
    others (suc (suc k)) j h l n = absurd (omega arith)
    others k (suc (suc j)) h l n = absurd (omega arith)

    balance : (j : ℕ) → j < 2 → pos 1 *ℤ integer_sum (entries_at j around_origin)
        +ℤ dot (pos 1 ∷ pos 1 ∷ []) (entries_at j (in_plane (pos 2) minus1 ∷ in_plane minus1 (pos 2) ∷ [])) ≡ pos 0
    balance zero h = refl
    balance (suc zero) h = refl
    balance (suc (suc j)) h = absurd (omega arith)

pub refuter_example : IsRefuter 2 beside_origin (in_plane (pos 1) (pos 0))
refuter_example = record {
  dimension = refl;
  nonnegative = all_from_each {P = λ y. pos 0 ≤ℤ dot (in_plane (pos 1) (pos 0)) y} (more (omega (arith, ints)) (more (omega (arith, ints)) (more (omega (arith, ints)) empty)));
  place = 0;
  nonzero = one_nonzero;
}

-- the tails of 1 1
two_ones_tail : (first : ℤ) (later : List ℤ) → IsMonomial (two_ones ∷ []) (first ∷ later) → In (monomial_point later) two_tails
two_ones_tail x [] m = absurd (let l = m.columns in omega arith)
two_ones_tail x (z ∷ []) m =
    let n = each_from_all (λ e. pos 0 ≤ℤ e) (x ∷ z ∷ []) m.nonnegative in
    at x z (each_head n) (each_head (each_tail n)) (degree_is two_ones (x ∷ z ∷ []) m)
  where
    at : (x z : ℤ) → pos 0 ≤ℤ x → pos 0 ≤ℤ z → weighted_degree two_ones (x ∷ z ∷ []) ≡ pos 2 → In (monomial_point (z ∷ [])) two_tails
    at x (pos zero) p q e = here
    at x (pos (suc zero)) p q e = there here
    at x (pos (suc (suc zero))) p q e = there (there here)
    at x (pos (suc (suc (suc z)))) p q e = absurd (omega (arith, ints))
    at x (negsuc z) p q e = absurd (omega (arith, ints))
two_ones_tail x (z ∷ u ∷ a) m = absurd (let l = m.columns in omega arith)

pub two_ones_tails : HasTails 1 two_ones two_tails
two_ones_tails = record {
  some = omega arith;
  positive = all_from_each {P = λ w. 1 ≤ w} (two_weights (omega arith) (omega arith));
  summed = record { columns = refl; sum = refl; positive = omega arith };
  members = λ y. (
    (λ c. by y (in_from_contains two_tails c)),
    (λ t. contains_from_in (subst (λ (x : List ℤ). In x two_tails) (sym t.same) (two_ones_tail t.first t.later t.monomial))),
  );
}
  where
    tail : (x z : ℤ) → pos 0 ≤ℤ x → pos 0 ≤ℤ z → weighted_degree two_ones (x ∷ z ∷ []) ≡ pos 2 → IsTail two_ones (monomial_point (z ∷ []))
    tail x z p q e = record { first = x; later = z ∷ []; monomial = monomial two_ones (x ∷ z ∷ []) refl (two p q) e; same = refl }

    by : (y : List ℤ) → In y two_tails → IsTail two_ones y
    by y here = tail (pos 2) (pos 0) (omega (arith, ints)) (omega (arith, ints)) refl
    by y (there here) = tail (pos 1) (pos 1) (omega (arith, ints)) (omega (arith, ints)) refl
    by y (there (there here)) = tail (pos 0) (pos 2) (omega (arith, ints)) (omega (arith, ints)) refl
    by y (there (there (there i))) = elim i [ ]

-- 2 and 3 may follow 1 in the degree 6, and 1 begins the three ones; 3 can't follow 1 1 in the degree 5
pub two_follows_one : MayFollow 6 (1 ∷ []) 2 2
two_follows_one = record {
  some = omega arith;
  positive = omega arith;
  ascends = all_from_each {P = λ w. w ≤ 2} (more (omega arith) empty);
  room = omega arith;
  last = λ e. absurd (omega arith);
  cut = λ side. omega arith;
}

pub one_begins : MayFollow 3 [] 1 3
one_begins = record {
  some = omega arith;
  positive = omega arith;
  ascends = all_from_each {P = λ w. w ≤ 1} empty;
  room = omega arith;
  last = λ e. absurd (omega arith);
  cut = side;
}
  where
    side : (0 < length {A = ℕ} []) ⊎ ◌≢◌ {A = ℕ} 3 3 → 4 * 1 ≤ 3
    side (inl l) = absurd (omega arith)
    side (inr n) = absurd (n refl)

pub three_is_cut : MayFollow 5 (1 ∷ 1 ∷ []) 3 1 → ⊥
three_is_cut f = let c = f.cut (inl (omega arith)) in omega arith
