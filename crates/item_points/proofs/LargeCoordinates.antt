-- Points with a coordinate above the limit on coordinates are above the size limit, too.
use Rattle.std.specs.Prelude.{ℤ, pos, nat_abs}
use Rattle.std.proofs.Common.{◌≡◌, ℕ, zero, suc, ◌<◌, ◌≤◌, List, length, get_or, arith, ⊎_elim}
use Rattle.std.proofs.lemmas.Bool.{cases_lt}
use Rattle.std.proofs.lemmas.List.{get_or_default}
use Rattle.lattice_theory.specs.Vector.{entry, HaveDimension}
use Rattle.lattice_theory.specs.Size.{reach, size}
use Rattle.lattice_theory.proofs.Members.{In, in_from_contains, each_from_all, each_in}
use Rattle.lattice_theory.proofs.Sizes.{within_reach}
use Rattle.lattice_core.specs.Limits.{size_limit_of}
use Rattle.lattice_core.proofs.SizeLimits.{limit_bound}
use Rattle.weight_frame.specs.Frame.{largest}
use Rattle.weight_frame.proofs.Largest.{largest_of_all}
use Rattle.item_points.specs.Points.{HaveLargeCoordinate}

-- no coordinate's largest absolute value is above the size
reach_within : (n : ℕ) (points : List (List ℤ)) (i : ℕ) → i < n → reach points i ≤ size n points
reach_within zero points i h = absurd (omega arith)
reach_within (suc n) points i h =
    ⊎_elim (λ (below : i < n). let r = reach_within n points i below in omega arith) (λ (last : n ≤ i). at i n last h) (cases_lt i n)
  where
    at : (i n : ℕ) → n ≤ i → i < suc n → reach points i ≤ size (suc n) points
    at i n last within = let same : i ≡ n = omega arith in rw same (omega arith)

-- so no point's is
largest_within : (n : ℕ) (points : List (List ℤ)) (p : List ℤ) → length p ≡ n → In p points → largest p ≤ size n points
largest_within n points p l i = largest_of_all p (size n points) entry_within
  where
    within : (k : ℕ) → k < length p → nat_abs (entry p k) ≤ size n points
    within k h =
        let a = within_reach points k i in
        let b = reach_within n points k (omega arith) in
        omega arith

    entry_within : (k : ℕ) (x : ℤ) → k < length p → nat_abs (get_or p k x) ≤ size n points
    entry_within k x h = rw (get_or_default p k x (pos 0) h) (within k h)

-- so points with a large coordinate are large
pub large_size_from_coordinate : (n : ℕ) (points : List (List ℤ)) → HaveDimension n points → HaveLargeCoordinate points
    → size_limit_of n < size n points
large_size_from_coordinate n points dims large =
    let member = in_from_contains points large.member in
    let l = each_in (each_from_all (λ p. length p ≡ n) points dims) member in
    let w = largest_within n points large.point l member in
    let b = limit_bound n in
    let c = large.large in
    omega arith
