-- The greatest weight that may follow.
use Rattle.std.proofs.Common.{◌≡◌, ◌≢◌, ◌⊎◌, inl, inr, ℕ, ◌+◌, ◌-◌, ◌*◌, ◌/◌, ◌<◌, ◌≤◌, length, subst, arith}
use Rattle.std.proofs.Math.Nat.{le-div_iff_mul-le, mul_comm, div-le_self}
use Rattle.std.proofs.lemmas.Bool.{cases_lt}
use Rattle.weight_enum.specs.steps.Listing.{IsMost}

pub room_most : (n degree place rest : ℕ) → place < n → IsMost n degree place rest (rest / (n - place))
room_most n degree place rest within b v k columns there leaves m =
    let same : k ≡ n - place = omega (arith, there) in
    let some = m.some in
    let room = m.room in
    let affordable : k * v ≤ rest = omega (arith, room, leaves) in
    subst (λ (j : ℕ). v ≤ rest / j) same ((le-div_iff_mul-le some).1 (subst (λ (z : ℕ). z ≤ rest) (mul_comm k v) affordable))

pub cut_most : (n degree place rest : ℕ) → place < n → ((place ≡ 0) × (degree ≡ n) → ⊥) → IsMost n degree place rest (degree / (n - place + 1))
cut_most n degree place rest within side b v k columns there leaves m =
    let same : k ≡ n - place = omega (arith, there) in
    let positive : 0 < k + 1 = omega arith in
    subst (λ (j : ℕ). v ≤ degree / (j + 1)) same
    ((le-div_iff_mul-le positive).1 (subst (λ (z : ℕ). z ≤ degree) (mul_comm (k + 1) v) (m.cut (by (cases_lt 0 place)))))
  where
    by : (0 < place) ⊎ (place ≤ 0) → (0 < length b) ⊎ (degree ≢ k)
    by (inl h) = inl (omega (arith, h, columns))
    by (inr h) = inr (λ e. side (omega (arith, h), omega (arith, h, e, there)))

-- what the room allows isn't above the rest
pub room_affordable : (rest k : ℕ) → rest / k ≤ rest
room_affordable rest k = div-le_self rest k
