-- What a pairing in 64 bits supposes. This project's own.
use Rattle.std.specs.Prelude.{ℕ, ◌*◌, ◌^◌, ◌<◌, ◌≤◌, List, ℤ, nat_abs}
use Rattle.std.specs.List.{All}
use Rattle.lattice_theory.specs.Size.{absolute_sum}

-- no sum of the products of the first entries reaches 2^63
pub record HasNarrowSums (a b : List ℤ) : Type 0 where
  pub bound : ℕ
  pub entries : All (λ x. nat_abs x ≤ bound) a
  pub sums : bound * absolute_sum b < 2 ^ 63
