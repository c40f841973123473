-- The size limits of the dimensions.
use Rattle.std.proofs.Common.{ℕ, zero, suc, ◌^◌, ◌≤◌, arith}
use Rattle.lattice_core.specs.Limits.{size_limit_of}

-- no limit is above that of the plane
pub limit_bound : (n : ℕ) → size_limit_of n ≤ 2 ^ 30
limit_bound zero = omega arith
limit_bound (suc zero) = omega arith
limit_bound (suc (suc zero)) = omega arith
limit_bound (suc (suc (suc zero))) = omega arith
limit_bound (suc (suc (suc (suc zero)))) = omega arith
limit_bound (suc (suc (suc (suc (suc zero))))) = omega arith
limit_bound (suc (suc (suc (suc (suc (suc zero)))))) = omega arith
limit_bound (suc (suc (suc (suc (suc (suc (suc n))))))) = omega arith

-- each of the six is positive
pub limit_positive : (n : ℕ) → 1 ≤ n → n ≤ 6 → 1 ≤ size_limit_of n
limit_positive zero h k = absurd (omega arith)
limit_positive (suc zero) h k = omega arith
limit_positive (suc (suc zero)) h k = omega arith
limit_positive (suc (suc (suc zero))) h k = omega arith
limit_positive (suc (suc (suc (suc zero)))) h k = omega arith
limit_positive (suc (suc (suc (suc (suc zero))))) h k = omega arith
limit_positive (suc (suc (suc (suc (suc (suc zero)))))) h k = omega arith
limit_positive (suc (suc (suc (suc (suc (suc (suc n))))))) h k = absurd (omega arith)
