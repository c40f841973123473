-- The bounds on members and on functions, as numbers.
use Rattle.std.proofs.Common.{◌≡◌, ℕ, suc, ◌+◌, ◌*◌, ◌^◌, ◌<◌, ◌≤◌, List, length, ℤ, ◌*ℤ◌, nat_abs, get_or, All, Contains, arith}
use Rattle.std.proofs.lemmas.Nat.{mul-le}
use Rattle.std.proofs.Math.Nat.{mul-le-mul_left, pow-suc}
use Rattle.lattice_theory.specs.Vector.{dot}
use Rattle.elimination.specs.Elimination.{Member}
use Rattle.normal_bounds.specs.Bounds.{EntriesWithin}
use Rattle.normal_bounds.specs.InNumbers.{MembersFit, StepProductsFit, FunctionsFit, CombineProductsFit}
use Rattle.normal_bounds.proofs.Sizes.{abs_product, all_within, all_below}
use Rattle.normal_bounds.proofs.Normals.{normal_bound_lem}
use Rattle.normal_bounds.proofs.KernelMembers.{member_bound_lem}
use Rattle.normal_bounds.proofs.Numbers.{entries_fit_lem, values_fit_lem, step_fits_lem, combine_fits_lem}

-- a kernel with a member has fewer pivots than places
some_member : (j m : ℕ) (ks : List Member) (k : Member) → Contains ks k → j + length ks ≡ m → j + 1 ≤ m
some_member j m ks k c e = let l = c.1 in omega arith

-- twice a safe size is at least 1
twice_positive : (S : ℕ) → 1 ≤ S → 1 ≤ 2 * S
twice_positive S h = omega arith

-- the law on members
pub members_fit_lem : MembersFit
members_fit_lem m S vectors pivots ks s h hp hs k c p =
    let b = member_bound_lem m (2 * S) vectors pivots ks (twice_positive S s) hp hs k c p in
    let l = some_member (length pivots) m ks k c hp.count in
    let n = values_fit_lem m (length pivots + 1) S l h in (
      all_below ((2 * S) ^ length pivots) (2 ^ 63) k.vector b.0 (entries_fit_lem m (length pivots) S l h),
      λ v w. let u = b.1 v w in
          omega arith,
    )

-- each product of a number with an entry is at most the product of both bounds
products_below : (limit b₁ b₂ : ℕ) (b : ℤ) (x : List ℤ) → nat_abs b ≤ b₁ → EntriesWithin b₂ x → b₁ * b₂ < limit
    → All (λ a. nat_abs (b *ℤ a) < limit) x
products_below limit b₁ b₂ b x h w l k d i = below (get_or x k d) (all_within b₂ x w k d i)
  where
    below : (a : ℤ) → nat_abs a ≤ b₂ → nat_abs (b *ℤ a) < limit
    below a e = let u = abs_product b a in let v = mul-le (nat_abs b) (nat_abs a) b₁ b₂ h e in omega arith

-- half of what two products have together
half : (a b n : ℕ) → 2 * (a * b) < 2 * n → b * a < n
half a b n h = omega arith

-- the law on products of a step
pub step_products_fit_lem : StepProductsFit
step_products_fit_lem m S vectors pivots ks s h hp hs t k l c d p q v w =
    let j = length pivots in
    let b = member_bound_lem m (2 * S) vectors pivots ks (twice_positive S s) hp hs in
    let n : j + 2 ≤ m = let e = hp.count in omega arith in
    products_below (2 ^ 126) ((2 * S) ^ (j + 1)) ((2 * S) ^ j) (dot k.vector v) l.vector ((b k c p).1 v w) ((b l d q).0)
    (half ((2 * S) ^ j) ((2 * S) ^ (j + 1)) (2 ^ 126) (step_fits_lem m j S n h))

-- the law on functions
pub functions_fit_lem : FunctionsFit
functions_fit_lem k S points f s h e d w g =
    let b = normal_bound_lem k S points f s e d w g in
    let u = values_fit_lem (suc k) (suc k) S (omega arith) h in
    let v = pow-suc (2 * S) k in
    let r : (2 * S) ^ k * S ≤ (2 * S) ^ k * (2 * S) = mul-le-mul_left ((2 * S) ^ k) (once_twice S) in (
      all_below ((2 * S) ^ k) (2 ^ 63) f.normal b.0 (entries_fit_lem (suc k) k S (omega arith) h),
      let c = b.1 in
          omega arith,
      λ q l. let c = b.2 q l in omega arith,
    )
  where
    once_twice : (S : ℕ) → S ≤ 2 * S
    once_twice S = omega arith

-- the law on products of values and entries
pub combine_products_fit_lem : CombineProductsFit
combine_products_fit_lem k S b x h l w = products_below (2 ^ 126) ((2 * S) ^ suc k) ((2 * S) ^ k) b x l w (let e = combine_fits_lem k S h in
    omega arith)
