-- The least plausible value that isn't below another.
use Rattle.std.proofs.Common.{◌≡◌, ◌⊎◌, inl, inr, ℕ, suc, ◌+◌, ◌-◌, ◌*◌, ◌<◌, ◌≤◌, drop, arith}
use Rattle.std.proofs.Math.Nat.{le-mul_of_pos_right, mul-le-mul_right}
use Rattle.std.proofs.lemmas.Bool.{cases_lt}
use Rattle.lattice_core.specs.declared.limits.TheConstants.{MOST_DEGREE}
use Rattle.weight_points.specs.declared.rows.Row.{Row}
use Rattle.weight_points.specs.declared.waits.TheConstants.{NEVER}
use Rattle.weight_points.specs.steps.Waits.{spent, Takes, IsWait}
use Rattle.weight_points.specs.steps.Rows.{weight_at, IsPlausible, IsNextValue, HasNoValue}

-- so many times more
moved : (v j u w s l t : ℕ) → u ≡ v + j → u * w + s ≡ t → l + v * w ≡ t → j * w + s ≡ l
moved v j u w s l t e f g = let f' = rw e at f in omega arith

moved_back : (v j w s l t : ℕ) → j * w + s ≡ l → l + v * w ≡ t → (v + j) * w + s ≡ t
moved_back v j w s l t e f = omega arith

-- a value that isn't affordable has none from it on
pub none_affordable : (row : Row) (place value : ℕ) → row.left < value * weight_at row place → HasNoValue (λ v. IsPlausible place v row) value
none_affordable row place value h u above small p =
    let more : value * weight_at row place ≤ u * weight_at row place = mul-le-mul_right (weight_at row place) above in
    let is = p.is in
    absurd (omega arith)

module _ (row : Row) (place value left k : ℕ) (small : row.left ≤ MOST_DEGREE) (value_small : value ≤ MOST_DEGREE)
    (left_is : left + value * weight_at row place ≡ row.left)
    (wait : IsWait (weight_at row place) (drop (suc place) row.system.weights.items) left k) where
  more_times : (u : ℕ) → value ≤ u → IsPlausible place u row
      → Takes (weight_at row place) (drop (suc place) row.system.weights.items) left (u - value)
  more_times u h p = (
    p.further,
    moved value (u - value) u (weight_at row place) (spent (drop (suc place) row.system.weights.items) p.further) left row.left (omega arith)
        p.is left_is,
  )

  not_large : Takes (weight_at row place) (drop (suc place) row.system.weights.items) left k → value + k ≤ MOST_DEGREE
  not_large (b, e) = by (cases_lt 0 (weight_at row place))
    where
      none_less : (w : ℕ) → w ≡ 0 → k * w + spent (drop (suc place) row.system.weights.items) b ≡ left
          → 0 * w + spent (drop (suc place) row.system.weights.items) b ≡ left
      none_less w z f = let f' = rw z at f in omega arith

      by : (0 < weight_at row place) ⊎ (weight_at row place ≤ 0) → value + k ≤ MOST_DEGREE
      by (inl h) =
          let most : value + k ≤ (value + k) * weight_at row place = le-mul_of_pos_right _ h in
          let all = moved_back value k (weight_at row place) (spent (drop (suc place) row.system.weights.items) b) left row.left e left_is in
          omega arith
      by (inr h) =
          let least = wait.least 0 (b, none_less (weight_at row place) (omega arith) e) in
          omega arith

  plausible_there : Takes (weight_at row place) (drop (suc place) row.system.weights.items) left k → IsPlausible place (value + k) row
  plausible_there (b, e) = record {
    further = b;
    is = moved_back value k (weight_at row place) (spent (drop (suc place) row.system.weights.items) b) left row.left e left_is;
  }

  pub next_plausible : k < NEVER → IsNextValue (λ v. IsPlausible place v row) value (value + k)
  next_plausible l = record {
    above = omega arith;
    small = not_large (wait.takes l);
    holds = plausible_there (wait.takes l);
    least = λ u h p. let least = wait.least (u - value) (more_times u h p) in omega arith;
  }

  pub none_plausible : NEVER ≤ k → HasNoValue (λ v. IsPlausible place v row) value
  none_plausible l u h m p = let least = wait.least (u - value) (more_times u h p) in absurd (omega arith)
