-- Kernels as the program finds them: how small they are, where they start, and what a step makes of them.
use Rattle.std.proofs.Common.{◌≡◌, ◌≢◌, ℕ, suc, ◌+◌, ◌*◌, ◌^◌, ◌<◌, ◌≤◌, List, [], ◌∷◌, ◌++◌, length, map, get_or, ℤ, pos, ◌*ℤ◌, ◌<ℤ◌}
use Rattle.std.proofs.Common.{refl, sym, ap, ap₂, ◌∙◌, subst, All, Contains, arith, length-append}
use Rattle.std.specs.Prelude.{nat_abs}
use Rattle.std.specs.List.{AllZip}
use Rattle.std.proofs.lemmas.List.Elements.{All-contains, All-weaker, All-contains_itself, All-append, length_all_zip}
use Rattle.std.proofs.lemmas.List.{map-append}
use Rattle.lattice_theory.specs.Vector.{entry, dot, IsPrimitive}
use Rattle.lattice_theory.specs.Size.{absolute_sum}
use Rattle.lattice_theory.specs.Order.{Ascends}
use Rattle.elimination.specs.Elimination.{Member, IsUnitMember, IsReduced, AreApart}
use Rattle.elimination.proofs.KernelLaws.{kernel_starts_lem, kernel_stays_lem, kernel_steps_lem}
use Rattle.lattice_theory.proofs.Members.{Each, empty, more, here, there, each_from_all, all_from_each, each_left, each_right, each_append}
use Rattle.lattice_theory.proofs.Members.{each_tail, in_from_contains, contains_from_in, in_append_right}
use Rattle.lattice_theory.proofs.Divisibility.{primitive_from_combination}
use Rattle.lattice_theory.proofs.Vectors.{unit, dot-unit}
use Rattle.normal_bounds.proofs.Products.{members_fit_lem, step_products_fit_lem}
use Rattle.lattice_core.specs.Limits.{size_limit_of}
use Rattle.hull.specs.steps.Kernels.{IsPrimitiveKernel, IsSmallKernel, CanReduce, IsReducedBy, IsStepped}
use Rattle.lattice_core.proofs.SizeLimits.{limit_positive}

-- the pivots are as small as the vectors
pivots_small : (n : ℕ) (ks : List Member) (h : IsSmallKernel n ks) → All (λ v. absolute_sum v ≤ 2 * size_limit_of n) h.is_kernel.pivots
pivots_small n ks h = All-weaker (Contains h.is_kernel.pivots) (λ v. absolute_sum v ≤ 2 * size_limit_of n)
    (λ v c. All-contains (λ w. absolute_sum w ≤ 2 * size_limit_of n) h.vectors v h.small (h.is_kernel.are_pivots.chosen v c))
    h.is_kernel.pivots (All-contains_itself h.is_kernel.pivots)

-- a member is primitive
member_primitive : (n : ℕ) (vs : List (List ℤ)) (ks : List Member) → IsPrimitiveKernel n vs ks → (k : Member) → Contains ks k
    → IsPrimitive k.vector
member_primitive n vs ks h k c = All-contains (λ l. IsPrimitive l.vector) ks k h.primitive c

-- its length
pub member_length : (n : ℕ) (vs : List (List ℤ)) (ks : List Member) → IsPrimitiveKernel n vs ks → (k : Member) → Contains ks k
    → length k.vector ≡ n
member_length n vs ks h k c = All-contains (λ l. length l.vector ≡ n) ks k h.kernel.lengths c

-- its entries and its values
pub member_entries : (n : ℕ) (ks : List Member) → 1 ≤ n → n ≤ 6 → IsSmallKernel n ks → (k : Member) → Contains ks k
    → All (λ a. nat_abs a < 2 ^ 63) k.vector
member_entries n ks a b h k c =
    (members_fit_lem n (size_limit_of n) h.vectors h.is_kernel.pivots ks (limit_positive n a b) (omega arith) h.is_kernel.are_pivots
    (pivots_small n ks h) k c (member_primitive n h.vectors ks h.is_kernel k c)).0

-- the values at a difference
pub member_value : (n : ℕ) (ks : List Member) → 1 ≤ n → n ≤ 6 → IsSmallKernel n ks → (k : Member) → Contains ks k → (v : List ℤ)
    → absolute_sum v ≤ 2 * size_limit_of n → nat_abs (dot k.vector v) < 2 ^ 76
member_value n ks a b h k c v w =
    (members_fit_lem n (size_limit_of n) h.vectors h.is_kernel.pivots ks (limit_positive n a b) (omega arith) h.is_kernel.are_pivots
    (pivots_small n ks h) k c (member_primitive n h.vectors ks h.is_kernel k c)).1 v w

-- the products of a step
member_products : (n : ℕ) (ks : List Member) → 1 ≤ n → n ≤ 6 → IsSmallKernel n ks → 2 ≤ length ks → (k l : Member) → Contains ks k
    → Contains ks l → (v : List ℤ) → absolute_sum v ≤ 2 * size_limit_of n → All (λ a. nat_abs (dot k.vector v *ℤ a) < 2 ^ 126) l.vector
member_products n ks a b h t k l c d v w = step_products_fit_lem n (size_limit_of n) h.vectors h.is_kernel.pivots ks (limit_positive n a b)
    (omega arith) h.is_kernel.are_pivots (pivots_small n ks h) t k l c d (member_primitive n h.vectors ks h.is_kernel k c)
    (member_primitive n h.vectors ks h.is_kernel l d) v w

-- a member behind another has the entry 0 at its own place in it
apart_behind : (before : List Member) (p : Member) (after : List Member) → AreApart (before ++ (p ∷ after)) → (k : Member)
    → Contains after k → entry p.vector k.own ≡ pos 0
apart_behind [] p after h k c = (All-contains (λ l. (entry p.vector l.own ≡ pos 0) × (entry l.vector p.own ≡ pos 0)) after k h.0 c).0
apart_behind (b ∷ before) p after h k c = apart_behind before p after h.1 k c

-- the members of a split list
in_pivot : (before : List Member) (p : Member) (after : List Member) → Contains (before ++ (p ∷ after)) p
in_pivot before p after = contains_from_in (in_append_right before here)

-- behind the pivot
in_after : (before : List Member) (p : Member) (after : List Member) (k : Member) → Contains after k → Contains (before ++ (p ∷ after)) k
in_after before p after k c = contains_from_in (in_append_right before (there (in_from_contains after c)))

-- a list with a pivot and one more has two members
two_members : (before : List Member) (p : Member) (after : List Member) (k : Member) → Contains after k → 2 ≤ length (before ++ (p ∷ after))
two_members before p after k c = let l = c.1 in let e = length-append before (p ∷ after) in omega arith

-- so a member behind the pivot can be reduced
pub can_reduce : (n : ℕ) (before : List Member) (p : Member) (after : List Member) (v : List ℤ) → 1 ≤ n → n ≤ 6
    → IsSmallKernel n (before ++ (p ∷ after)) → absolute_sum v ≤ 2 * size_limit_of n → dot p.vector v ≢ pos 0
    → (k : Member) → Contains after k → CanReduce p (dot p.vector v) k (dot k.vector v)
can_reduce n before p after v a b h w u k c =
    let ks = before ++ (p ∷ after) in
    let in_p = in_pivot before p after in
    let in_k = in_after before p after k c in
    let long = member_length n h.vectors ks h.is_kernel k in_k in
    let long_p = member_length n h.vectors ks h.is_kernel p in_p in
    let two = two_members before p after k c in
    let value_p = member_value n ks a b h p in_p v w in
    let value_k = member_value n ks a b h k in_k v w in
    record {
      same = long ∙ sym long_p;
      some = omega (arith, long);
      most = omega (arith, long);
      usable = u;
      apart = apart_behind before p after h.is_kernel.kernel.apart k c;
      positive = All-contains (λ l. pos 0 <ℤ entry l.vector l.own) ks k h.is_kernel.kernel.own_positive in_k;
      small_a = omega (arith, value_p);
      small_b = omega (arith, value_k);
      small_own = member_products n ks a b h two p k in_p in_k v w;
      small_pivot = member_products n ks a b h two k p in_k in_p v w;
    }

-- the step's member, with the values at the vector
pub reduced_at : (p k l : Member) (v : List ℤ) → IsReducedBy p (dot p.vector v) k (dot k.vector v) l → IsReduced p v k l
reduced_at p k l v h = record {
  own = h.own;
  dimension = h.dimension;
  positive = h.positive;
  factor = h.factor;
  nonzero = h.nonzero;
  entries = h.entries;
}

-- the own places of reduced members are those of the members
owns_reduced : (p : Member) (v : List ℤ) (ks ls : List Member) → AllZip (IsReduced p v) ks ls → map (λ k. k.own) ls ≡ map (λ k. k.own) ks
owns_reduced p v [] [] r = refl
owns_reduced p v [] (l ∷ ls) r = absurd r
owns_reduced p v (k ∷ ks) [] r = absurd r
owns_reduced p v (k ∷ ks) (l ∷ ls) r = ap₂ (λ (i : ℕ) (is : List ℕ). i ∷ is) r.0.own (owns_reduced p v ks ls r.1)

-- an ascending list without one member ascends
ascends_without : (before : List ℕ) (i : ℕ) (after : List ℕ) → Ascends (λ x y. x ≤ y) (before ++ (i ∷ after))
    → Ascends (λ x y. x ≤ y) (before ++ after)
ascends_without [] i after h = h.1
ascends_without (b ∷ before) i after h =
    let e = each_from_all (λ y. b ≤ y) (before ++ (i ∷ after)) h.0 in (
      all_from_each (each_append (each_left before (i ∷ after) e) (each_tail (each_right before (i ∷ after) e))),
      ascends_without before i after h.1,
    )

-- those behind a member aren't smaller
ascends_behind : (before : List ℕ) (i : ℕ) (after : List ℕ) → Ascends (λ x y. x ≤ y) (before ++ (i ∷ after)) → All (λ y. i ≤ y) after
ascends_behind [] i after h = h.0
ascends_behind (b ∷ before) i after h = ascends_behind before i after h.1

-- the own places of a split list
owns_split : (before : List Member) (p : Member) (after : List Member) → map (λ k. k.own) (before ++ (p ∷ after)) ≡ map (λ k. k.own) before
    ++ (p.own ∷ map (λ k. k.own) after)
owns_split before p after = map-append (λ (k : Member). k.own) before (p ∷ after)

-- from the own places to the members
pub owns_later : (i : ℕ) (ks : List Member) → Each (λ y. i ≤ y) (map (λ k. k.own) ks) → Each (λ k. i ≤ k.own) ks
owns_later i [] h = empty
owns_later i (k ∷ ks) (more p ps) = more p (owns_later i ks ps)

-- with the step, a kernel stays a kernel
pub kernel_stepped : (n : ℕ) (vs : List (List ℤ)) (before : List Member) (p : Member) (after new : List Member) (v : List ℤ)
    → IsPrimitiveKernel n vs (before ++ (p ∷ after)) → All (λ k. dot k.vector v ≡ pos 0) before → dot p.vector v ≢ pos 0
    → IsStepped before p after v new → IsPrimitiveKernel n (vs ++ (v ∷ [])) new
kernel_stepped n vs before p after new v h z u s =
    let owns = subst (Ascends (λ x y. x ≤ y)) (owns_split before p after) h.ascends in
    let later = all_from_each (owns_later p.own after
    (each_from_all (λ y. p.own ≤ y) (map (λ k. k.own) after)
    (ascends_behind (map (λ k. k.own) before) p.own (map (λ k. k.own) after) owns))) in
    let law = kernel_steps_lem n vs h.pivots before p after s.next v h.kernel h.are_pivots z u later s.reduced in
    let same : map (λ (k : Member). k.own) (before ++ s.next) ≡ map (λ (k : Member). k.own) before ++ map (λ (k : Member). k.own) after =
    map-append (λ (k : Member). k.own) before s.next ∙ ap (λ (is : List ℕ). map (λ (k : Member). k.own) before ++ is)
    (owns_reduced p v after s.next s.reduced) in
    subst (IsPrimitiveKernel n (vs ++ (v ∷ []))) (sym s.whole) (record {
      kernel = law.0;
      pivots = h.pivots ++ (v ∷ []);
      are_pivots = law.1;
      primitive = All-append (λ k. IsPrimitive k.vector) before s.next
          (all_from_each (each_left before (p ∷ after)
          (each_from_all (λ k. IsPrimitive k.vector) (before ++ (p ∷ after)) h.primitive))) s.primitive;
      ascends = subst (Ascends (λ x y. x ≤ y)) (sym same) (ascends_without (map (λ k. k.own) before) p.own (map (λ k. k.own) after) owns);
    })

-- it has one member less
pub stepped_length : (before : List Member) (p : Member) (after new : List Member) (v : List ℤ) → IsStepped before p after v new
    → length new + 1 ≡ length (before ++ (p ∷ after))
stepped_length before p after new v s =
    let e = length_all_zip (IsReduced p v) after s.next s.reduced in
    let w = ap length s.whole in
    let a = length-append before s.next in
    let b = length-append before (p ∷ after) in
    omega arith

-- without a pivot nothing changes
pub kernel_stayed : (n : ℕ) (vs : List (List ℤ)) (ks : List Member) (v : List ℤ) → IsPrimitiveKernel n vs ks
    → All (λ k. dot k.vector v ≡ pos 0) ks → IsPrimitiveKernel n (vs ++ (v ∷ [])) ks
kernel_stayed n vs ks v h z =
    let law = kernel_stays_lem n vs h.pivots ks v h.kernel h.are_pivots z in
    record { kernel = law.0; pivots = h.pivots; are_pivots = law.1; primitive = h.primitive; ascends = h.ascends }

-- a unit vector is primitive
unit_primitive : (n i : ℕ) (k : Member) → i < n → IsUnitMember n i k → IsPrimitive k.vector
unit_primitive n i k h u = primitive_from_combination (unit n i) k.vector (dot-unit n i k.vector h ∙ u.unit.one)

-- the own places of unit vectors ascend
owns_from : (start : ℕ) (ks : List Member) → ((i : ℕ) (d : Member) → i < length ks → (get_or ks i d).own ≡ start + i)
    → Ascends (λ x y. x ≤ y) (map (λ k. k.own) ks)
owns_from start [] h = tt
owns_from start (k ∷ ks) h = (
  all_from_each (later ks (λ i d l. start_next start i (h (suc i) d (omega arith)))),
  owns_from (suc start) ks (λ i d l. h (suc i) d (omega arith) ∙ next start i),
)
  where
    next : (a b : ℕ) → a + suc b ≡ suc a + b
    next a b = omega arith

    start_next : (a b : ℕ) {x : ℕ} → x ≡ a + suc b → a ≤ x
    start_next a b e = omega arith

    first : k.own ≡ start
    first = h 0 k (omega arith) ∙ omega arith

    later : (ls : List Member) → ((i : ℕ) (d : Member) → i < length ls → start ≤ (get_or ls i d).own)
        → Each (λ y. k.own ≤ y) (map (λ l. l.own) ls)
    later [] g = empty
    later (l ∷ ls) g = more (let a = g 0 l (omega arith) in let b = first in omega arith) (later ls (λ i d m. g (suc i) d (omega arith)))

-- the unit vectors are the kernel of no vectors
pub kernel_started : (n : ℕ) (ks : List Member) → length ks ≡ n → ((i : ℕ) (d : Member) → i < n → IsUnitMember n i (get_or ks i d))
    → IsPrimitiveKernel n [] ks
kernel_started n ks e units =
    let law = kernel_starts_lem n ks e (λ i d h. units i d h) in
    record {
      kernel = law.0;
      pivots = [];
      are_pivots = law.1;
      primitive = λ i d h. unit_primitive n i (get_or ks i d) (omega arith) (units i d (omega arith));
      ascends = owns_from 0 ks (λ i d h. (units i d (omega arith)).own ∙ omega arith);
    }

-- the entries as the pairing asks for them
pub entries_at_most : (x y : List ℤ) → x ≡ y → All (λ a. nat_abs a < 2 ^ 63) y → All (λ a. nat_abs a ≤ 2 ^ 63) x
entries_at_most x y e h = rw e (All-weaker (λ a. nat_abs a < 2 ^ 63) (λ a. nat_abs a ≤ 2 ^ 63) (λ a l. omega arith) y h)

-- the entries of all members
pub members_entries : (n : ℕ) (ks : List Member) → 1 ≤ n → n ≤ 6 → IsSmallKernel n ks → All (λ k. All (λ a. nat_abs a < 2 ^ 63) k.vector) ks
members_entries n ks a b h = All-weaker (Contains ks) (λ k. All (λ x. nat_abs x < 2 ^ 63) k.vector) (λ k c. member_entries n ks a b h k c)
    ks (All-contains_itself ks)
