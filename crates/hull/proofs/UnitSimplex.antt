-- A point and the points one unit step from it are a simplex, which is no larger than points that aren't flat.
use Rattle.std.proofs.Common.{◌≡◌, ◌≢◌, ◌⊎◌, inl, inr, ⊎_elim, ℕ, zero, suc, ◌+◌, ◌<◌, ◌≤◌, ◌==◌, List, [], length, true, false, ℤ, pos, negsuc}
use Rattle.std.proofs.Common.{◌+ℤ◌, ◌-ℤ◌, ◌*ℤ◌, neg_ℤ, ◌<ℤ◌, refl, sym, ap, ◌∙◌, subst, arith, All, Contains}
use Rattle.std.specs.Prelude.{nat_abs}
use Rattle.std.proofs.lemmas.Int.{ints}
use Rattle.std.proofs.lemmas.Bool.{cases_lt}
use Rattle.std.proofs.lemmas.Bool.Decides.{eqb_tells}
use Rattle.std.proofs.lemmas.List.{get_or_default}
use Rattle.std.proofs.lemmas.List.Elements.{All-weaker, All-contains_itself}
use Rattle.lattice_theory.specs.Vector.{entry, dot, scaled, IsPrimitive, DividesInteger}
use Rattle.lattice_theory.specs.Affine.{Affine, value}
use Rattle.lattice_theory.specs.Size.{reach}
use Rattle.lattice_theory.specs.Facet.{IsFlat}
use Rattle.lattice_theory.proofs.Integers.{products_out, linear, factor_zero}
use Rattle.lattice_theory.proofs.Members.{in_from_contains}
use Rattle.lattice_theory.proofs.Vectors.{unit, length-unit, entry-unit_same, entry-unit_other, dot-unit, dot_comm, dot-scaled_right}
use Rattle.lattice_theory.proofs.Vectors.{entry-scaled, length-scaled, same_from_entries, entry_past}
use Rattle.lattice_theory.proofs.Divisibility.{divides_one, divides_minus_one}
use Rattle.lattice_theory.proofs.Sizes.{within_reach}
use Rattle.facet_theory.specs.Solid.{AreSolid}
use Rattle.hull.specs.steps.Differences.{difference}
use Rattle.hull.specs.steps.Tight.{function_of}
use Rattle.hull.specs.steps.Facing.{corner_of, AreFacing, IsReachedBy, IsFacingSimplex, unit_step, step_at, IsStepped, IsUnitSimplex}
use Rattle.hull.proofs.Vectors.{entry-difference, length-difference, dot-difference}

-- unit steps
step_square : (a : ℤ) → unit_step a *ℤ unit_step a ≡ pos 1
step_square (pos zero) = omega (arith, ints)
step_square (pos (suc a)) = omega (arith, ints)
step_square (negsuc a) = omega (arith, ints)

step_is : (a : ℤ) → (unit_step a ≡ pos 1) ⊎ (unit_step a ≡ negsuc 0)
step_is (pos zero) = inl refl
step_is (pos (suc a)) = inr refl
step_is (negsuc a) = inl refl

step_nonzero : (a : ℤ) → unit_step a ≢ pos 0
step_nonzero a e = ⊎_elim (λ (h : unit_step a ≡ pos 1). absurd (omega (arith, linear))) (λ (h : unit_step a ≡ negsuc 0). absurd (omega (arith, linear)))
    (step_is a)

step_small : (a : ℤ) (m : ℕ) → nat_abs a ≤ m → 1 ≤ m → nat_abs (a +ℤ unit_step a) ≤ m
step_small (pos zero) m h l = omega (arith, ints)
step_small (pos (suc a)) m h l = omega (arith, ints)
step_small (negsuc a) m h l = omega (arith, ints)

own_step : (i : ℕ) (a : ℤ) → step_at i i a ≡ unit_step a
own_step i a = ⊎_elim (λ h. rw h.0 refl) (λ h. absurd (h.1 refl)) (eqb_tells i i)

other_step : (axis i : ℕ) (a : ℤ) → i ≢ axis → step_at axis i a ≡ pos 0
other_step axis i a n = ⊎_elim (λ h. absurd (n h.1)) (λ h. rw h.0 refl) (eqb_tells i axis)

-- a vector with an entry 1 or -1 is primitive
unit_entry_primitive : (x : List ℤ) (i : ℕ) (s : ℤ) → i < length x → entry x i ≡ s → (s ≡ pos 1) ⊎ (s ≡ negsuc 0) → IsPrimitive x
unit_entry_primitive x i s h e is d all = ⊎_elim
    (λ (o : s ≡ pos 1). divides_one d (subst (DividesInteger d) (e ∙ o) (all i (pos 0) h)))
    (λ (o : s ≡ negsuc 0). divides_minus_one d (subst (DividesInteger d) (e ∙ o) (all i (pos 0) h))) is

-- pairings with a stepped point
stepped_dot : (m p q : List ℤ) (axis : ℕ) → length m ≡ length p → axis < length p → IsStepped p axis q
    → dot m q ≡ dot m p +ℤ entry m axis *ℤ unit_step (entry p axis)
stepped_dot m p q axis e h step = joined (dot m q) (dot m p) (entry m axis) (unit_step (entry p axis))
    (sym (dot-difference m q p step.dimension) ∙ ap (dot m) is ∙ dot-scaled_right (unit_step (entry p axis)) m (unit (length p) axis)
    ∙ ap (λ (z : ℤ). unit_step (entry p axis) *ℤ z) (dot_comm m (unit (length p) axis) ∙ dot-unit (length p) axis m h))
  where
    joined : (a b c s : ℤ) → a -ℤ b ≡ s *ℤ c → a ≡ b +ℤ c *ℤ s
    joined a b c s k = let k' = simp products_out at k in omega (arith, linear)

    taken : (a b c : ℤ) → a ≡ b +ℤ c → a -ℤ b ≡ c
    taken a b c k = omega (arith, linear)

    at : (i : ℕ) → entry (difference q p) i ≡ entry (scaled (unit_step (entry p axis)) (unit (length p) axis)) i
    at i = ⊎_elim within past (cases_lt i (length p))
      where
        within : i < length p → entry (difference q p) i ≡ entry (scaled (unit_step (entry p axis)) (unit (length p) axis)) i
        within b = entry-difference q p i step.dimension ∙ taken (entry q i) (entry p i) (step_at axis i (entry p i)) (step.entries i b)
            ∙ ⊎_elim
            (λ (c : (i == axis ≡ true) × (i ≡ axis)). same (i) c.1)
            (λ (c : (i == axis ≡ false) × (i ≢ axis)). other_step axis i (entry p i) c.1
            ∙ sym (entry-scaled (unit_step (entry p axis)) (unit (length p) axis) i ∙ none (unit_step (entry p axis)) _ (entry-unit_other (length p) axis i (λ e. c.1 (sym e)))))
            (eqb_tells i axis)
          where
            none : (s z : ℤ) → z ≡ pos 0 → s *ℤ z ≡ pos 0
            none s z k = rw k (simp products_out)

            one : (s z : ℤ) → z ≡ pos 1 → s *ℤ z ≡ s
            one s z k = rw k (simp products_out)

            same : (j : ℕ) → j ≡ axis → step_at axis j (entry p j) ≡ entry (scaled (unit_step (entry p axis)) (unit (length p) axis)) j
            same j k = subst (λ (t : ℕ). step_at axis t (entry p t) ≡ entry (scaled (unit_step (entry p axis)) (unit (length p) axis)) t) (sym k)
                (own_step axis (entry p axis)
                ∙ sym (entry-scaled (unit_step (entry p axis)) (unit (length p) axis) axis
                ∙ one (unit_step (entry p axis)) _ (entry-unit_same (length p) axis h)))

        past : length p ≤ i → entry (difference q p) i ≡ entry (scaled (unit_step (entry p axis)) (unit (length p) axis)) i
        past b = entry_past (difference q p) i (let l = length-difference q p step.dimension in let d = step.dimension in omega arith)
            ∙ sym (entry_past (scaled (unit_step (entry p axis)) (unit (length p) axis)) i
            (let l = length-scaled (unit_step (entry p axis)) (unit (length p) axis) in let d = length-unit (length p) axis in omega arith))

    is : difference q p ≡ scaled (unit_step (entry p axis)) (unit (length p) axis)
    is = same_from_entries (difference q p) (scaled (unit_step (entry p axis)) (unit (length p) axis))
        (length-difference q p step.dimension ∙ step.dimension
        ∙ sym (length-scaled (unit_step (entry p axis)) (unit (length p) axis) ∙ length-unit (length p) axis)) at

-- the unit simplex at a point
module _ (n : ℕ) (p : List ℤ) (corners : List (List ℤ)) (functions : List Affine) (long : length p ≡ n) (some : 0 < n)
    (unit_simplex : IsUnitSimplex p corners functions) where
  step_of : (j : ℕ) → ℤ
  step_of j = unit_step (entry p j)

  at_first : corner_of corners zero ≡ p
  at_first = unit_simplex.first

  side_length : (i : ℕ) → i < length p → length (function_of functions (suc i)).normal ≡ length p
  side_length i h = (unit_simplex.sides i h).dimension

  -- a function through p along the steps
  through_first : (f : Affine) (x : List ℤ) (d e : ℤ) → f.constant ≡ neg_ℤ e → dot f.normal x ≡ e +ℤ d → value f x ≡ d
  through_first f x d e c k = rw (k, c) (gone d e)
    where
      gone : (d e : ℤ) → (e +ℤ d) +ℤ neg_ℤ e ≡ d
      gone d e = omega (arith, linear)

  nothing : (e : ℤ) → e ≡ e +ℤ pos 0
  nothing e = omega (arith, linear)

  side_first : (i : ℕ) → i < length p → value (function_of functions (suc i)) (corner_of corners zero) ≡ pos 0
  side_first i h = ap (value (function_of functions (suc i))) at_first
      ∙ through_first (function_of functions (suc i)) p (pos 0) (dot (function_of functions (suc i)).normal p) (unit_simplex.sides i h).constant
      (nothing (dot (function_of functions (suc i)).normal p))

  side_step : (i j : ℕ) → i < length p → j < length p → value (function_of functions (suc i)) (corner_of corners (suc j))
      ≡ step_at i j (entry p j) *ℤ unit_step (entry p j)
  side_step i j h k = through_first (function_of functions (suc i)) (corner_of corners (suc j)) _ (dot (function_of functions (suc i)).normal p)
      (unit_simplex.sides i h).constant
      (stepped_dot (function_of functions (suc i)).normal p (corner_of corners (suc j)) j (side_length i h) k (unit_simplex.steps j k)
      ∙ ap (λ (z : ℤ). dot (function_of functions (suc i)).normal p +ℤ z *ℤ unit_step (entry p j)) ((unit_simplex.sides i h).entries j k))

  side_own : (i : ℕ) → i < length p → value (function_of functions (suc i)) (corner_of corners (suc i)) ≡ pos 1
  side_own i h = side_step i i h h ∙ ap (λ (z : ℤ). z *ℤ unit_step (entry p i)) (own_step i (entry p i)) ∙ step_square (entry p i)

  side_other : (i j : ℕ) → i < length p → j < length p → j ≢ i → value (function_of functions (suc i)) (corner_of corners (suc j)) ≡ pos 0
  side_other i j h k a = side_step i j h k ∙ ap (λ (z : ℤ). z *ℤ unit_step (entry p j)) (other_step i j (entry p j) a)
      ∙ zero_times (unit_step (entry p j))
    where
      zero_times : (z : ℤ) → pos 0 *ℤ z ≡ pos 0
      zero_times z = simp products_out

  first_place : zero < length p
  first_place = omega (arith, long, some)

  top_length : length (function_of functions zero).normal ≡ length p
  top_length = unit_simplex.top.dimension

  top_dot : (j : ℕ) → j < length p → dot (function_of functions zero).normal (corner_of corners (suc j))
      ≡ dot (function_of functions zero).normal p +ℤ negsuc 0
  top_dot j h = stepped_dot (function_of functions zero).normal p (corner_of corners (suc j)) j top_length h (unit_simplex.steps j h)
      ∙ ap (λ (z : ℤ). dot (function_of functions zero).normal p +ℤ z) (ap (λ (z : ℤ). z *ℤ unit_step (entry p j)) (unit_simplex.top.entries j h)
      ∙ minus (unit_step (entry p j)) (step_square (entry p j)))
    where
      minus : (s : ℤ) → s *ℤ s ≡ pos 1 → neg_ℤ s *ℤ s ≡ negsuc 0
      minus s e = simp products_out (omega (arith, linear))

  top_step : (j : ℕ) → j < length p → value (function_of functions zero) (corner_of corners (suc j)) ≡ pos 0
  top_step j h = through_first (function_of functions zero) (corner_of corners (suc j)) (pos 0)
      (dot (function_of functions zero).normal (corner_of corners 1)) unit_simplex.top.constant
      (top_dot j h ∙ sym (top_dot zero first_place) ∙ nothing (dot (function_of functions zero).normal (corner_of corners 1)))

  top_first : value (function_of functions zero) (corner_of corners zero) ≡ pos 1
  top_first = ap (value (function_of functions zero)) at_first
      ∙ through_first (function_of functions zero) p (pos 1) (dot (function_of functions zero).normal (corner_of corners 1)) unit_simplex.top.constant
      (back (dot (function_of functions zero).normal p) _ (top_dot zero first_place))
    where
      back : (a b : ℤ) → b ≡ a +ℤ negsuc 0 → a ≡ b +ℤ pos 1
      back a b e = omega (arith, linear)

  one_positive : (a : ℤ) → a ≡ pos 1 → pos 0 <ℤ a
  one_positive a e = omega (arith, linear)

  minus_step : (a : ℤ) → (neg_ℤ (unit_step a) ≡ pos 1) ⊎ (neg_ℤ (unit_step a) ≡ negsuc 0)
  minus_step a = ⊎_elim (λ (e : unit_step a ≡ pos 1). inr (ap neg_ℤ e)) (λ (e : unit_step a ≡ negsuc 0). inl (ap neg_ℤ e)) (step_is a)

  pub unit_facing : AreFacing n corners functions
  unit_facing = record {
    corner_count = unit_simplex.corner_count ∙ ap (λ (m : ℕ). m + 1) long;
    function_count = unit_simplex.function_count ∙ ap (λ (m : ℕ). m + 1) long;
    dimension = dimension;
    primitive = primitive;
    away = away;
    on = on;
  }
    where
      dimension : (i : ℕ) → i < n + 1 → length (function_of functions i).normal ≡ n
      dimension zero h = top_length ∙ long
      dimension (suc i) h = side_length i (omega (arith, h, long)) ∙ long

      primitive : (i : ℕ) → i < n + 1 → IsPrimitive (function_of functions i).normal
      primitive zero h = unit_entry_primitive (function_of functions zero).normal zero (neg_ℤ (unit_step (entry p zero)))
          (omega (arith, top_length, long, some)) (unit_simplex.top.entries zero first_place) (minus_step (entry p zero))
      primitive (suc i) h = unit_entry_primitive (function_of functions (suc i)).normal i (unit_step (entry p i))
          (let l = side_length i (omega (arith, h, long)) in omega (arith, h, long))
          ((unit_simplex.sides i (omega (arith, h, long))).entries i (omega (arith, h, long)) ∙ own_step i (entry p i)) (step_is (entry p i))

      away : (i : ℕ) → i < n + 1 → pos 0 <ℤ value (function_of functions i) (corner_of corners i)
      away zero h = one_positive _ top_first
      away (suc i) h = one_positive _ (side_own i (omega (arith, h, long)))

      on : (i j : ℕ) → i < n + 1 → j < n + 1 → i ≢ j → value (function_of functions i) (corner_of corners j) ≡ pos 0
      on zero zero h k a = absurd (a refl)
      on zero (suc j) h k a = top_step j (omega (arith, k, long))
      on (suc i) zero h k a = side_first i (omega (arith, h, long))
      on (suc i) (suc j) h k a = side_other i j (omega (arith, h, long)) (omega (arith, k, long)) (λ e. a (ap suc (sym e)))

  corner_length : (i : ℕ) → i < n + 1 → length (corner_of corners i) ≡ n
  corner_length zero h = ap length at_first ∙ long
  corner_length (suc i) h = (unit_simplex.steps i (omega (arith, h, long))).dimension ∙ long

  -- a fact of each corner
  each_corner : (P : List ℤ → Type 0) → ((i : ℕ) → i < n + 1 → P (corner_of corners i)) → All P corners
  each_corner P h i d l = subst P (get_or_default corners i [] d l)
      (h i (let c = unit_simplex.corner_count in omega (arith, long)))

  pub unit_solid : AreSolid n corners
  unit_solid = record {
    coordinates = some;
    dimension = each_corner (λ q. length q ≡ n) corner_length;
    solid = λ u. flat u u.nonconstant;
  }
    where
      flat : (u : IsFlat n corners) → (k : ℕ) × (entry u.function.normal k ≢ pos 0) → ⊥
      flat u (k, other) = ⊎_elim
          (λ (h : k < n). other (factor_zero (unit_step (entry p k)) (entry u.function.normal k) (step_nonzero (entry p k))
          (turned (entry u.function.normal k) (unit_step (entry p k))
          (difference_zero (dot u.function.normal p) (dot u.function.normal (corner_of corners (suc k))) u.function.constant _
          (at zero (omega arith) (ap (value u.function) at_first)) (at (suc k) (omega arith) refl)
          (stepped_dot u.function.normal p (corner_of corners (suc k)) k (u.dimension ∙ sym long) (omega (arith, long))
          (unit_simplex.steps k (omega (arith, long))))))))
          (λ (h : n ≤ k). other (entry_past u.function.normal k (let d = u.dimension in omega arith))) (cases_lt k n)
        where
          at : (i : ℕ) → i < n + 1 → {a : ℤ} → value u.function (corner_of corners i) ≡ a → a ≡ pos 0
          at i h e = sym e ∙ u.vanishes i [] (let c = unit_simplex.corner_count in omega (arith, long))

          difference_zero : (a b c d : ℤ) → a +ℤ c ≡ pos 0 → b +ℤ c ≡ pos 0 → b ≡ a +ℤ d → d ≡ pos 0
          difference_zero a b c d e k l = omega (arith, linear)

          swapped : (a b : ℤ) → b *ℤ a ≡ a *ℤ b
          swapped a b = simp products_out

          turned : (a b : ℤ) → a *ℤ b ≡ pos 0 → b *ℤ a ≡ pos 0
          turned a b e = swapped a b ∙ e

  -- the points reach it, where they aren't flat and p is one of them
  pub unit_reached : (points : List (List ℤ)) → AreSolid n points → Contains points p → All (IsReachedBy n points) corners
  unit_reached points solid c = each_corner (IsReachedBy n points) (λ i h. record { dimension = corner_length i h; within = within i h })
    where
      reach_p : (j : ℕ) → nat_abs (entry p j) ≤ reach points j
      reach_p j = within_reach points j (in_from_contains points c)

      -- in each coordinate some point isn't 0
      positive : (j : ℕ) → j < n → 1 ≤ reach points j
      positive j h = ⊎_elim (λ (l : 0 < reach points j). omega arith) (λ (l : reach points j ≤ 0). absurd (solid.solid (flat l)))
          (cases_lt 0 (reach points j))
        where
          none : (a : ℤ) → nat_abs a ≤ 0 → a +ℤ pos 0 ≡ pos 0
          none a l = omega (arith, ints)

          one_nonzero : pos 1 ≡ pos 0 → ⊥
          one_nonzero e = absurd (omega (arith, linear))

          flat : reach points j ≤ 0 → IsFlat n points
          flat l = record {
            function = record { normal = unit n j; constant = pos 0 };
            dimension = length-unit n j;
            nonconstant = (j, λ e. one_nonzero (sym (entry-unit_same n j h) ∙ e));
            vanishes = All-weaker (Contains points) (λ q. value (record { normal = unit n j; constant = pos 0 }) q ≡ pos 0)
                (λ q m. ap (λ (z : ℤ). z +ℤ pos 0) (dot-unit n j q h)
                ∙ none (entry q j) (let r = within_reach points j (in_from_contains points m) in omega arith)) points (All-contains_itself points);
          }

      moved : (i j : ℕ) → i < length p → (j < length p) ⊎ (length p ≤ j) → nat_abs (entry (corner_of corners (suc i)) j) ≤ reach points j
      moved i j h (inl l) = subst (λ (z : ℤ). nat_abs z ≤ reach points j) (sym ((unit_simplex.steps i h).entries j l)) (⊎_elim
          (λ (e : (j == i ≡ true) × (j ≡ i)). subst (λ (t : ℕ). nat_abs (entry p j +ℤ step_at t j (entry p j)) ≤ reach points j) e.1
          (subst (λ (z : ℤ). nat_abs (entry p j +ℤ z) ≤ reach points j) (sym (own_step j (entry p j)))
          (step_small (entry p j) (reach points j) (reach_p j) (positive j (omega (arith, long))))))
          (λ (e : (j == i ≡ false) × (j ≢ i)). subst (λ (z : ℤ). nat_abs (entry p j +ℤ z) ≤ reach points j)
          (sym (other_step i j (entry p j) e.1)) (still (entry p j) (reach points j) (reach_p j)))
          (eqb_tells j i))
        where
          still : (a : ℤ) (m : ℕ) → nat_abs a ≤ m → nat_abs (a +ℤ pos 0) ≤ m
          still a m l = omega (arith, ints)
      moved i j h (inr l) = gone (entry (corner_of corners (suc i)) j) (reach points j)
          (entry_past (corner_of corners (suc i)) j (let d = (unit_simplex.steps i h).dimension in omega arith))
        where
          gone : (a : ℤ) (m : ℕ) → a ≡ pos 0 → nat_abs a ≤ m
          gone a m e = omega (arith, ints)

      within : (i : ℕ) → i < n + 1 → (j : ℕ) → nat_abs (entry (corner_of corners i) j) ≤ reach points j
      within zero h j = subst (λ (q : List ℤ). nat_abs (entry q j) ≤ reach points j) (sym at_first) (reach_p j)
      within (suc i) h j = moved i j (omega (arith, h, long)) (cases_lt j (length p))

  pub unit_is_simplex : (points : List (List ℤ)) → AreSolid n points → Contains points p → IsFacingSimplex n points corners functions
  unit_is_simplex points solid c = record { facing = unit_facing; solid = unit_solid; small = unit_reached points solid c }
