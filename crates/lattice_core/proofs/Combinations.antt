-- Positive combinations of two functions, and the one that vanishes at a point.
use Rattle.std.specs.Prelude.{nat_abs}
use Rattle.std.proofs.Common.{◌≡◌, ℕ, zero, suc, ◌*◌, ◌-◌, ◌^◌, ◌<◌, ◌≤◌, List, [], ◌∷◌, length, ℤ, pos, negsuc, neg_ℤ, ◌+ℤ◌, ◌*ℤ◌, ◌<ℤ◌, ⊎_elim, sym, ap, ap₂, ◌∙◌, subst, All, arith}
use Rattle.std.proofs.lemmas.List.Elements.{All-weaker}
use Rattle.std.proofs.lemmas.Int.{ints}
use Rattle.std.proofs.Math.Nat.{mul-le-mul_right}
use Rattle.lattice_theory.specs.Vector.{entry, dot, scaled, IsPrimitive}
use Rattle.lattice_theory.specs.Affine.{Affine, value}
use Rattle.lattice_theory.specs.Size.{absolute_sum, size}
use Rattle.lattice_theory.proofs.Integers.{products_out, *ℤ-zero, minus_one-*ℤ, linear, positive_nonzero, positive_pos, product_positive, factor_zero, *ℤ_assoc}
use Rattle.lattice_theory.proofs.Vectors.{dot_comm, entry-scaled, length-scaled, same_from_entries, zero_from_entries, entries_from_zero}
use Rattle.lattice_theory.proofs.Combinations.{combination_value}
use Rattle.lattice_theory.proofs.Divisibility.{primitive_nonzero, primitive_same}
use Rattle.lattice_theory.proofs.Members.{Each, empty, more, each_from_all}
use Rattle.normal_bounds.specs.Bounds.{EntriesWithin}
use Rattle.normal_bounds.proofs.Sizes.{all_within, point_absolute_sum_lem}
use Rattle.normal_bounds.proofs.Normals.{normal_bound_lem}
use Rattle.normal_bounds.proofs.Numbers.{values_fit_lem}
use Rattle.normal_bounds.proofs.Products.{functions_fit_lem, combine_products_fit_lem}
use Rattle.lattice_core.specs.Limits.{size_limit_of}
use Rattle.lattice_core.specs.Divisors.{IsPrimitivePart}
use Rattle.lattice_theory.specs.Combinations.{IsPositiveCombination, IsCombinationAt}
use Rattle.lattice_core.specs.Combine.{AreOpposite, twice_limit, IsSmallAt, IsFixedWithinLimit}
use Rattle.lattice_core.specs.CombineSteps.{IsCrossSum}
use Rattle.lattice_core.proofs.SizeLimits.{limit_positive}

-- the absolute sum of a vector with small entries
absolute_sum_each : (bound : ℕ) {x : List ℤ} → Each (λ a. nat_abs a ≤ bound) x → absolute_sum x ≤ length x * bound
absolute_sum_each bound empty = omega arith
absolute_sum_each bound (more a w) = let h = absolute_sum_each bound w in omega (arith, a, h)

absolute_sum_within : (bound : ℕ) (x : List ℤ) → EntriesWithin bound x → absolute_sum x ≤ length x * bound
absolute_sum_within bound x h = absolute_sum_each bound (each_from_all _ x (all_within bound x h))

-- the bound on the entries of normals, in numbers
normal_power : (n : ℕ) → n ≤ 6 → twice_limit n ^ (n - 1) ≤ 2 ^ 57
normal_power zero h = omega arith
normal_power (suc zero) h = omega arith
normal_power (suc (suc zero)) h = omega arith
normal_power (suc (suc (suc zero))) h = omega arith
normal_power (suc (suc (suc (suc zero)))) h = omega arith
normal_power (suc (suc (suc (suc (suc zero))))) h = omega arith
normal_power (suc (suc (suc (suc (suc (suc zero)))))) h = omega arith
normal_power (suc (suc (suc (suc (suc (suc (suc n))))))) h = absurd (omega arith)

-- a normal with entries within the bound has a small absolute sum
pub normal_absolute_sum : (n : ℕ) (x : List ℤ) → n ≤ 6 → length x ≡ n → EntriesWithin (twice_limit n ^ (n - 1)) x → absolute_sum x ≤ 2 ^ 60
normal_absolute_sum n x h l w =
    let total = absolute_sum_within _ x w in
    let power = normal_power n h in
    few (length x) _ (absolute_sum x) (omega (arith, l)) power total
  where
    few : (m b t : ℕ) → m ≤ 6 → b ≤ 2 ^ 57 → t ≤ m * b → t ≤ 2 ^ 60
    few m b t h k e = let p = mul-le-mul_right b h in omega arith

-- a small function's value
pub value_small : (p : List ℤ) (f : Affine) → IsSmallAt p f → nat_abs (value f p) < 2 ^ 76
value_small p f h =
    let n = length p in
    let fits : twice_limit n ^ n < 2 ^ 76 = values_fit_lem n n (size_limit_of n) (omega arith) (omega arith) in
    let b = h.at_point in
    omega (arith, fits, b)

-- a pairing with the point and the constant make the value
pub value_is : (f : Affine) (p xs ys : List ℤ) (d c : ℤ) → xs ≡ p → ys ≡ f.normal → d ≡ dot xs ys → c ≡ f.constant → d +ℤ c ≡ value f p
value_is f p xs ys d c ep ef ed ec = ap₂ (λ (a b : ℤ). a +ℤ b) (ed ∙ ap₂ dot ep ef ∙ dot_comm p f.normal) ec

-- a value times the entries of a normal is below 2^126
pub products_small : (p : List ℤ) (f g : Affine) (b : ℤ) → 1 ≤ length p → IsSmallAt p f → IsSmallAt p g → b ≡ pos (nat_abs (value g p))
    → All (λ a. nat_abs (b *ℤ a) < 2 ^ 126) f.normal
products_small [] f g b some hf hg e = absurd (omega arith)
products_small (x ∷ p) f g b some hf hg e =
    let n = suc (length p) in
    let at_point = hg.at_point in
    combine_products_fit_lem (length p) (size_limit_of n) b f.normal (omega arith) (rw e at_point)
    (subst (λ (j : ℕ). EntriesWithin (twice_limit n ^ j) f.normal) (behind (length p)) hf.entries)
  where
    behind : (k : ℕ) → suc k - 1 ≡ k
    behind k = omega arith

-- the values of a positive combination that vanishes at p: the multiples of the values of f and of g cancel out
values_cancel : (f g h : Affine) (p : List ℤ) (c : IsPositiveCombination f g h) → length f.normal ≡ length p → length g.normal ≡ length p
    → length h.normal ≡ length p → value h p ≡ pos 0 → pos c.left *ℤ value f p +ℤ pos c.right *ℤ value g p ≡ pos 0
values_cancel f g h p c df dg dh v =
    sym (combination_value (pos c.whole) (pos c.left) (pos c.right) f g h (length p) df dg dh c.normals c.constants p)
    ∙ ap (λ (z : ℤ). pos c.whole *ℤ z) v ∙ *ℤ-zero (pos c.whole)

-- the multiples of opposite values that cancel out, in absolute values
balance : (l r : ℕ) (a b : ℤ) → AreOpposite a b → pos l *ℤ a +ℤ pos r *ℤ b ≡ pos 0 → pos r *ℤ pos (nat_abs b) ≡ pos l *ℤ pos (nat_abs a)
balance l r a b s e = ⊎_elim (λ (h : (pos 0 <ℤ a) × (b <ℤ pos 0)). first h.0 h.1) (λ (h : (a <ℤ pos 0) × (pos 0 <ℤ b)). second h.0 h.1) s
  where
    own : (a : ℤ) → pos 0 <ℤ a → pos (nat_abs a) ≡ a
    own a h = omega (arith, ints, linear)

    other : (a : ℤ) → a <ℤ pos 0 → pos (nat_abs a) ≡ neg_ℤ a
    other a h = omega (arith, ints, linear)

    first_cancels : (l r a b : ℤ) → l *ℤ a +ℤ r *ℤ b ≡ pos 0 → r *ℤ neg_ℤ b ≡ l *ℤ a
    first_cancels l r a b e = simp products_out (omega (arith, linear))

    second_cancels : (l r a b : ℤ) → l *ℤ a +ℤ r *ℤ b ≡ pos 0 → r *ℤ b ≡ l *ℤ neg_ℤ a
    second_cancels l r a b e = simp products_out (omega (arith, linear))

    first : pos 0 <ℤ a → b <ℤ pos 0 → pos r *ℤ pos (nat_abs b) ≡ pos l *ℤ pos (nat_abs a)
    first h k = ap (λ (z : ℤ). pos r *ℤ z) (other b k) ∙ first_cancels (pos l) (pos r) a b e ∙ ap (λ (z : ℤ). pos l *ℤ z) (sym (own a h))

    second : a <ℤ pos 0 → pos 0 <ℤ b → pos r *ℤ pos (nat_abs b) ≡ pos l *ℤ pos (nat_abs a)
    second h k = ap (λ (z : ℤ). pos r *ℤ z) (own b k) ∙ second_cancels (pos l) (pos r) a b e ∙ ap (λ (z : ℤ). pos l *ℤ z) (sym (other a h))

-- one entry of the sum of multiples lies on the combination's line
on_line : (w l r a b s x y z : ℤ) → r *ℤ b ≡ l *ℤ a → w *ℤ z ≡ l *ℤ x +ℤ r *ℤ y → s ≡ b *ℤ x +ℤ a *ℤ y → r *ℤ s ≡ (a *ℤ w) *ℤ z
on_line w l r a b s x y z e k m =
    let e' = simp products_out at (ap (λ (t : ℤ). t *ℤ x) e) in
    let k' = simp products_out at (ap (λ (t : ℤ). a *ℤ t) k) in
    let m' = simp products_out at (ap (λ (t : ℤ). r *ℤ t) m) in
    simp products_out (omega (arith, linear))

-- two primitive vectors on one ray are the same
pub same_on_ray : (q p : ℤ) (x f : List ℤ) → pos 0 <ℤ q → pos 0 <ℤ p → IsPrimitive x → IsPrimitive f → scaled q x ≡ scaled p f → x ≡ f
same_on_ray q p x f hq hp hx hf e =
    ⊎_elim (λ (same : x ≡ f). same) (λ (opposite : x ≡ scaled (negsuc 0) f). absurd (never opposite))
    (primitive_same q p x f (positive_nonzero q hq) hx hf e)
  where
    both : (q p a b : ℤ) → q *ℤ a ≡ p *ℤ b → a ≡ negsuc 0 *ℤ b → (q +ℤ p) *ℤ b ≡ pos 0
    both q p a b e h =
        let e' = simp products_out at (ap (λ (z : ℤ). q *ℤ z) (sym (minus_one-*ℤ b) ∙ sym h) ∙ e) in
        simp products_out (omega (arith, linear))

    sum_positive : (q p : ℤ) → pos 0 <ℤ q → pos 0 <ℤ p → pos 0 <ℤ (q +ℤ p)
    sum_positive q p h k = omega (arith, linear)

    entry_zero : x ≡ scaled (negsuc 0) f → (i : ℕ) → entry f i ≡ pos 0
    entry_zero o i =
        let line = sym (entry-scaled q x i) ∙ ap (λ v. entry v i) e ∙ entry-scaled p f i in
        factor_zero (q +ℤ p) (entry f i) (positive_nonzero _ (sum_positive q p hq hp))
        (both q p (entry x i) (entry f i) line (ap (λ v. entry v i) o ∙ entry-scaled (negsuc 0) f i))

    never : x ≡ scaled (negsuc 0) f → ⊥
    never o = primitive_nonzero f hf (zero_from_entries f (entry_zero o))

-- a sum of such multiples
pub cross_from : (f g : Affine) (p s a b : List ℤ) (l r : ℤ) → a ≡ f.normal → b ≡ g.normal → l ≡ pos (nat_abs (value g p))
    → r ≡ pos (nat_abs (value f p))
    → ((i : ℕ) → entry s i ≡ l *ℤ entry a i +ℤ r *ℤ entry b i) → IsCrossSum f g p s
cross_from f g p s a b l r ea eb el er e i = e i ∙ ap₂ (λ (x y : ℤ). x +ℤ y) (ap₂ (λ (x : ℤ) (v : List ℤ). x *ℤ entry v i) el ea)
    (ap₂ (λ (x : ℤ) (v : List ℤ). x *ℤ entry v i) er eb)

-- it lies on the line of the combination
cross_line : (f g h : Affine) (p s : List ℤ) → AreOpposite (value f p) (value g p) → length f.normal ≡ length p → length g.normal ≡ length p
    → (c : IsCombinationAt f g p h) → IsCrossSum f g p s → (i : ℕ)
    → pos c.combination.right *ℤ entry s i ≡ (pos (nat_abs (value f p)) *ℤ pos c.combination.whole) *ℤ entry h.normal i
cross_line f g h p s opposite df dg c es i =
    let k = c.combination in
    let cancel = values_cancel f g h p k df dg c.dimension c.vanishes in
    let even = balance k.left k.right (value f p) (value g p) opposite cancel in
    on_line (pos k.whole) (pos k.left) (pos k.right) (pos (nat_abs (value f p))) (pos (nat_abs (value g p)))
    (entry s i) (entry f.normal i) (entry g.normal i) (entry h.normal i) even (k.normals i) (es i)

-- the factor of the combination is positive
factor_positive : (a b : ℤ) (w : ℕ) → AreOpposite a b → 0 < w → pos 0 <ℤ (pos (nat_abs a) *ℤ pos w)
factor_positive a b w s h = product_positive _ _
    (⊎_elim (λ (k : (pos 0 <ℤ a) × (b <ℤ pos 0)). over a k.0) (λ (k : (a <ℤ pos 0) × (pos 0 <ℤ b)). under a k.0) s) (positive_pos w h)
  where
    over : (a : ℤ) → pos 0 <ℤ a → pos 0 <ℤ pos (nat_abs a)
    over a h = omega (arith, ints, linear)

    under : (a : ℤ) → a <ℤ pos 0 → pos 0 <ℤ pos (nat_abs a)
    under a h = omega (arith, ints, linear)

-- it isn't 0
pub cross_nonzero : (f g h : Affine) (p s : List ℤ) → AreOpposite (value f p) (value g p) → length f.normal ≡ length p
    → length g.normal ≡ length p
    → IsCombinationAt f g p h → IsCrossSum f g p s → All (λ a. a ≡ pos 0) s → ⊥
cross_nonzero f g h p s opposite df dg c es zeros =
    let k = c.combination in
    let positive = factor_positive (value f p) (value g p) k.whole opposite k.positive.0 in
    let none = λ (i : ℕ). sym (cross_line f g h p s opposite df dg c es i) ∙ ap (λ z. pos k.right *ℤ z) (entries_from_zero s zeros i)
    ∙ *ℤ-zero (pos k.right) in
    primitive_nonzero h.normal c.primitive
    (zero_from_entries h.normal (λ i. factor_zero _ (entry h.normal i) (positive_nonzero _ positive) (none i)))

-- and its primitive part is the combination's normal
pub part_is : (f g h : Affine) (p s v : List ℤ) → AreOpposite (value f p) (value g p) → length f.normal ≡ length p
    → length g.normal ≡ length p
    → IsCombinationAt f g p h → length s ≡ length p → IsCrossSum f g p s → IsPrimitivePart s v → v ≡ h.normal
part_is f g h p s v opposite df dg c ds es part =
    let k = c.combination in
    let q = pos k.right *ℤ pos part.factor in
    let m = pos (nat_abs (value f p)) *ℤ pos k.whole in
    let lengths = length-scaled q v ∙ sym (length-scaled (pos part.factor) v) ∙ ap length part.multiple ∙ ds ∙ sym c.dimension
    ∙ sym (length-scaled m h.normal) in
    let entries = λ (i : ℕ). entry-scaled q v i ∙ *ℤ_assoc (pos k.right) (pos part.factor) (entry v i)
    ∙ ap (λ z. pos k.right *ℤ z) (sym (entry-scaled (pos part.factor) v i) ∙ ap (λ x. entry x i) part.multiple)
    ∙ cross_line f g h p s opposite df dg c es i ∙ sym (entry-scaled m h.normal i) in
    same_on_ray q m v h.normal (product_positive _ _ (positive_pos k.right k.positive.2) (positive_pos part.factor part.positive))
    (factor_positive (value f p) (value g p) k.whole opposite k.positive.0) part.primitive c.primitive
    (same_from_entries _ _ lengths entries)

-- a function that points within the limit fix is small
pub fixed_small : (n : ℕ) (h : Affine) → 1 ≤ n → n ≤ 6 → IsFixedWithinLimit n h → All (λ a. nat_abs a < 2 ^ 63) h.normal
    × (absolute_sum h.normal ≤ 2 ^ 60)
fixed_small zero h some most f = absurd (omega arith)
fixed_small (suc k) h some most f =
    let n = suc k in
    let S = size_limit_of n in
    let positive = limit_positive n some most in
    let absolute_sums = All-weaker (λ p. absolute_sum p ≤ size n f.points) (λ p. absolute_sum p ≤ S) (λ p w. let s = f.small in
    omega (arith, w, s)) f.points (point_absolute_sum_lem n f.points f.dimension) in
    let bound = normal_bound_lem k S f.points h positive f.count f.dimension absolute_sums f.fixed in
    let fits = functions_fit_lem k S f.points h positive (omega arith) f.count f.dimension absolute_sums f.fixed in (
      fits.0,
      normal_absolute_sum n h.normal most f.fixed.dimension (subst (λ (j : ℕ). EntriesWithin (twice_limit n ^ j) h.normal)
          (behind k) bound.0),
    )
  where
    behind : (k : ℕ) → k ≡ suc k - 1
    behind k = omega arith

-- a function with the combination's normal that vanishes at the point is the combination
pub answer_is : (f g h r : Affine) (p v : List ℤ) → IsCombinationAt f g p h → v ≡ h.normal → r.normal ≡ v → r.constant ≡ neg_ℤ (dot v p)
    → IsCombinationAt f g p r
answer_is f g h r p v c e n k =
    let constants = k ∙ ap neg_ℤ (ap (λ x. dot x p) e) ∙ from_zero (dot h.normal p) h.constant c.vanishes in
    subst (IsCombinationAt f g p) (sym (ap₂ (λ (x : List ℤ) (z : ℤ). record { normal = x; constant = z }) (n ∙ e) constants)) c
  where
    from_zero : (d c : ℤ) → d +ℤ c ≡ pos 0 → neg_ℤ d ≡ c
    from_zero d c e = omega (arith, linear)
