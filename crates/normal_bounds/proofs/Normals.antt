-- The bound on normals: a function that is fixed by n points is no larger than a vector that pairs to 0 with their differences.
use Rattle.std.proofs.Common.{◌≡◌, ◌≢◌, ℕ, suc, ◌*◌, ◌^◌, ◌≤◌, List, [], ◌∷◌, length, map, ℤ, pos, negsuc, ◌+ℤ◌, ◌-ℤ◌, ◌*ℤ◌, neg_ℤ, nat_abs, sym, ap, ◌∙◌, All, arith}
use Rattle.std.proofs.lemmas.Int.{ints}
use Rattle.std.proofs.lemmas.List.{length-map}
use Rattle.std.proofs.Math.Nat.{mul-le-mul_left, mul-le-mul_right, pow-suc}
use Rattle.lattice_theory.specs.Vector.{entry, dot, scaled, IsPrimitive}
use Rattle.lattice_theory.specs.Affine.{Affine, value, IsMultiple}
use Rattle.lattice_theory.specs.Size.{absolute_sum}
use Rattle.elimination.specs.Elimination.{Annihilates}
use Rattle.normal_bounds.specs.Bounds.{EntriesWithin, IsFixedBy}
use Rattle.normal_bounds.specs.Laws.{NormalBound}
use Rattle.lattice_theory.proofs.Integers.{linear, zero-*ℤ}
use Rattle.lattice_theory.proofs.Members.{Each, empty, more, each_head, each_tail, each_from_all, all_from_each}
use Rattle.lattice_theory.proofs.Vectors.{combined, entry-combined, entry-scaled, dot-combined_right, zero_from_entries}
use Rattle.lattice_theory.proofs.Divisibility.{multiple_of_primitive}
use Rattle.normal_bounds.proofs.Counting.{counting_bound_lem}
use Rattle.normal_bounds.proofs.Sizes.{abs_product, pairing_bound_lem, difference_absolute_sum_lem}

-- a factor other than 0 doesn't make an absolute value smaller
factor_within : (k a : ℤ) → k ≢ pos 0 → nat_abs a ≤ nat_abs (k *ℤ a)
factor_within k a n = let e = abs_product k a in let f = mul-le-mul_right (nat_abs a) (above_zero k n) in omega arith
  where
    above_zero : (k : ℤ) → k ≢ pos 0 → 1 ≤ nat_abs k
    above_zero k n = omega (arith, ints)

-- a primitive vector is no larger than a vector on its line that isn't 0
pub primitive_within : (bound : ℕ) (q p : ℤ) (x f : List ℤ) → q ≢ pos 0 → IsPrimitive f → scaled q x ≡ scaled p f
    → (All (λ a. a ≡ pos 0) x → ⊥) → EntriesWithin bound x → EntriesWithin bound f
primitive_within bound q p x f n h e z b = let s = multiple_of_primitive q p x f n h e in by s.0 s.2
  where
    by : (k : ℤ) → x ≡ scaled k f → (i : ℕ) → nat_abs (entry f i) ≤ bound
    by k g i = let c = b i in let u = ap nat_abs (entries i) in let w = factor_within k (entry f i) nonzero in omega arith
      where
        entries : (i : ℕ) → entry x i ≡ k *ℤ entry f i
        entries i = ap (λ (y : List ℤ). entry y i) g ∙ entry-scaled k f i

        nonzero : k ≢ pos 0
        nonzero u = z (zero_from_entries x (λ i. entries i ∙ ap (λ (c : ℤ). c *ℤ entry f i) u ∙ zero-*ℤ (entry f i)))

-- the difference of two points
abbrev pub step_from : List ℤ → List ℤ → List ℤ
step_from p q = combined (pos 1) q (negsuc 0) p

-- its absolute sum
step_absolute_sum : (S : ℕ) (p q : List ℤ) → absolute_sum p ≤ S → absolute_sum q ≤ S → absolute_sum (step_from p q) ≤ 2 * S
step_absolute_sum S p q h k = let e = difference_absolute_sum_lem q p (step_from p q) (λ i. entry-combined (pos 1) q (negsuc 0) p i
    ∙ as_difference (entry q i) (entry p i)) in omega arith
  where
    as_difference : (a b : ℤ) → pos 1 *ℤ a +ℤ negsuc 0 *ℤ b ≡ a -ℤ b
    as_difference a b = omega (arith, ints)

-- of all points
steps_absolute_sum : (S : ℕ) (p : List ℤ) {ps : List (List ℤ)} → absolute_sum p ≤ S → Each (λ q. absolute_sum q ≤ S) ps
    → Each (λ w. absolute_sum w ≤ 2 * S) (map (step_from p) ps)
steps_absolute_sum S p h empty = empty
steps_absolute_sum S p h (more {x = q} k ks) = more (step_absolute_sum S p q h k) (steps_absolute_sum S p h ks)

-- the function through a point with a given normal
abbrev through : List ℤ → List ℤ → Affine
through x p = record { normal = x; constant = neg_ℤ (dot x p) }

-- it vanishes on the points whose differences its normal pairs to 0 with
through_vanishes : (x p : List ℤ) (ps : List (List ℤ)) → Each (λ w. dot x w ≡ pos 0) (map (step_from p) ps)
    → Each (λ q. value (through x p) q ≡ pos 0) ps
through_vanishes x p [] h = empty
through_vanishes x p (q ∷ ps) (more e es) = more (vanishes (dot x q) (dot x p) (sym (dot-combined_right x (pos 1) q (negsuc 0) p) ∙ e))
    (through_vanishes x p ps es)
  where
    vanishes : (a b : ℤ) → pos 1 *ℤ a +ℤ negsuc 0 *ℤ b ≡ pos 0 → a +ℤ neg_ℤ b ≡ pos 0
    vanishes a b u = omega (arith, ints)

-- the bounds on the parts of a function
pub record IsBounded (k S : ℕ) (f : Affine) : Type 0 where
  pub normal : EntriesWithin ((2 * S) ^ k) f.normal
  pub constant : nat_abs f.constant ≤ (2 * S) ^ k * S
  pub values : (q : List ℤ) → absolute_sum q ≤ S → nat_abs (value f q) ≤ (2 * S) ^ suc k

-- the constant is the negative of the pairing at a point, and a value the pairing with a difference
bounded_from : (k S : ℕ) (f : Affine) (p : List ℤ) → value f p ≡ pos 0 → absolute_sum p ≤ S → EntriesWithin ((2 * S) ^ k) f.normal
    → IsBounded k S f
bounded_from k S f p e h b = record {
  normal = b;
  constant = let u = pairing_bound_lem ((2 * S) ^ k) f.normal p b in let w = mul-le-mul_left ((2 * S) ^ k) h in
      let v = opposite (dot f.normal p) f.constant e in omega arith;
  values = λ q l. value_within q l;
}
  where
    opposite : (a c : ℤ) → a +ℤ c ≡ pos 0 → nat_abs c ≡ nat_abs a
    opposite a c u = omega (arith, ints)

    as_step : (a b c : ℤ) → b +ℤ c ≡ pos 0 → pos 1 *ℤ a +ℤ negsuc 0 *ℤ b ≡ a +ℤ c
    as_step a b c u = omega (arith, ints)

    value_within : (q : List ℤ) → absolute_sum q ≤ S → nat_abs (value f q) ≤ (2 * S) ^ suc k
    value_within q l =
        let u = pairing_bound_lem ((2 * S) ^ k) f.normal (step_from p q) b in
        let w = mul-le-mul_left ((2 * S) ^ k) (step_absolute_sum S p q h l) in
        let v = ap nat_abs (dot-combined_right f.normal (pos 1) q (negsuc 0) p ∙ as_step (dot f.normal q) (dot f.normal p) f.constant e) in
        let s = pow-suc (2 * S) k in
        omega arith

-- from a vector that pairs to 0 with the differences
normal_from : (k S : ℕ) (p : List ℤ) (ps : List (List ℤ)) (f : Affine) (x : List ℤ) → IsFixedBy (suc k) (p ∷ ps) f → length x ≡ suc k
    → (All (λ a. a ≡ pos 0) x → ⊥) → Each (λ w. dot x w ≡ pos 0) (map (step_from p) ps) → EntriesWithin ((2 * S) ^ k) x
    → EntriesWithin ((2 * S) ^ k) f.normal
normal_from k S p ps f x s l n a b =
    by (s.determined (through x p) l (all_from_each (more (cancelled (dot x p)) (through_vanishes x p ps a))))
  where
    cancelled : (a : ℤ) → a +ℤ neg_ℤ a ≡ pos 0
    cancelled a = omega (arith, linear)

    by : IsMultiple (through x p) f → EntriesWithin ((2 * S) ^ k) f.normal
    by m = primitive_within ((2 * S) ^ k) m.left m.right x f.normal m.nonzero s.primitive m.normals n b

-- for points with a first one
bounded : (k S : ℕ) (p : List ℤ) (ps : List (List ℤ)) (f : Affine) → 1 ≤ S → length ps ≡ k → Each (λ q. absolute_sum q ≤ S) (p ∷ ps)
    → IsFixedBy (suc k) (p ∷ ps) f → IsBounded k S f
bounded k S p ps f t e h s = by (counting_bound_lem k (2 * S) steps (omega arith) (length-map ps (step_from p) ∙ e)
    (all_from_each (steps_absolute_sum S p (each_head h) (each_tail h))))
  where
    steps : List (List ℤ)
    steps = map (step_from p) ps

    by : (x : List ℤ) × (length x ≡ suc k) × (All (λ a. a ≡ pos 0) x → ⊥) × Annihilates (map (step_from p) ps) x
        × EntriesWithin ((2 * S) ^ k) x → IsBounded k S f
    by (x, l, n, a, b) = bounded_from k S f p (each_head (each_from_all (λ q. value f q ≡ pos 0) (p ∷ ps) s.vanishes)) (each_head h)
        (normal_from k S p ps f x s l n (each_from_all (λ w. dot x w ≡ pos 0) (map (step_from p) ps) a) b)

-- the law
pub normal_bound_lem : NormalBound
normal_bound_lem k S [] f t e d h s = absurd (omega arith)
normal_bound_lem k S (p ∷ ps) f t e d h s = let b =
    bounded k S p ps f t (omega arith) (each_from_all (λ q. absolute_sum q ≤ S) (p ∷ ps) h) s in (b.normal, b.constant, b.values)
