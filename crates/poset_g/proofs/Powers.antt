-- The first coefficients of the powers of t - 1.
use Rattle.std.proofs.Common.{◌≡◌, ℕ, zero, suc, ◌+◌, ◌*◌, ◌≤◌, List, [], ◌∷◌, ℤ, pos, negsuc, nat_abs, to_z, of_z, refl, arith}
use Rattle.std.specs.Int.{w64}
use Rattle.lattice_theory.specs.Vector.{entry}
use Rattle.polynomial_theory.specs.Series.{power, t_minus_1}

-- those of 1, t, t^2 and t^3, power by power
abbrev pub powers : List ℤ
powers = pos 1 ∷ pos 0 ∷ pos 0 ∷ pos 0 ∷ negsuc 0 ∷ pos 1 ∷ pos 0 ∷ pos 0 ∷ pos 1 ∷ negsuc 1 ∷ pos 1 ∷ pos 0 ∷ negsuc 0 ∷ pos 3 ∷ negsuc 2 ∷ pos 1
    ∷ pos 1 ∷ negsuc 3 ∷ pos 6 ∷ negsuc 3 ∷ negsuc 0 ∷ pos 5 ∷ negsuc 9 ∷ pos 10 ∷ pos 1 ∷ negsuc 5 ∷ pos 15 ∷ negsuc 19 ∷ negsuc 0 ∷ pos 7
    ∷ negsuc 20 ∷ pos 35 ∷ pos 1 ∷ negsuc 7 ∷ pos 28 ∷ negsuc 55 ∷ []

abbrev pub IsPower : ℤ → ℕ → ℕ → Type 0
IsPower z n a = (z ≡ power t_minus_1 n a) × (nat_abs z ≤ 56)

pub powers_at : (n a : ℕ) → n ≤ 8 → a ≤ 3 → IsPower (to_z w64 (of_z w64 (entry powers (4 * n + a)))) n a
powers_at n (suc (suc (suc (suc a)))) h k = absurd (omega arith)
powers_at zero zero h k = (refl, omega arith)
powers_at zero (suc zero) h k = (refl, omega arith)
powers_at zero (suc (suc zero)) h k = (refl, omega arith)
powers_at zero (suc (suc (suc zero))) h k = (refl, omega arith)
powers_at (suc zero) zero h k = (refl, omega arith)
powers_at (suc zero) (suc zero) h k = (refl, omega arith)
powers_at (suc zero) (suc (suc zero)) h k = (refl, omega arith)
powers_at (suc zero) (suc (suc (suc zero))) h k = (refl, omega arith)
powers_at (suc (suc zero)) zero h k = (refl, omega arith)
powers_at (suc (suc zero)) (suc zero) h k = (refl, omega arith)
powers_at (suc (suc zero)) (suc (suc zero)) h k = (refl, omega arith)
powers_at (suc (suc zero)) (suc (suc (suc zero))) h k = (refl, omega arith)
powers_at (suc (suc (suc zero))) zero h k = (refl, omega arith)
powers_at (suc (suc (suc zero))) (suc zero) h k = (refl, omega arith)
powers_at (suc (suc (suc zero))) (suc (suc zero)) h k = (refl, omega arith)
powers_at (suc (suc (suc zero))) (suc (suc (suc zero))) h k = (refl, omega arith)
powers_at (suc (suc (suc (suc zero)))) zero h k = (refl, omega arith)
powers_at (suc (suc (suc (suc zero)))) (suc zero) h k = (refl, omega arith)
powers_at (suc (suc (suc (suc zero)))) (suc (suc zero)) h k = (refl, omega arith)
powers_at (suc (suc (suc (suc zero)))) (suc (suc (suc zero))) h k = (refl, omega arith)
powers_at (suc (suc (suc (suc (suc zero))))) zero h k = (refl, omega arith)
powers_at (suc (suc (suc (suc (suc zero))))) (suc zero) h k = (refl, omega arith)
powers_at (suc (suc (suc (suc (suc zero))))) (suc (suc zero)) h k = (refl, omega arith)
powers_at (suc (suc (suc (suc (suc zero))))) (suc (suc (suc zero))) h k = (refl, omega arith)
powers_at (suc (suc (suc (suc (suc (suc zero)))))) zero h k = (refl, omega arith)
powers_at (suc (suc (suc (suc (suc (suc zero)))))) (suc zero) h k = (refl, omega arith)
powers_at (suc (suc (suc (suc (suc (suc zero)))))) (suc (suc zero)) h k = (refl, omega arith)
powers_at (suc (suc (suc (suc (suc (suc zero)))))) (suc (suc (suc zero))) h k = (refl, omega arith)
powers_at (suc (suc (suc (suc (suc (suc (suc zero))))))) zero h k = (refl, omega arith)
powers_at (suc (suc (suc (suc (suc (suc (suc zero))))))) (suc zero) h k = (refl, omega arith)
powers_at (suc (suc (suc (suc (suc (suc (suc zero))))))) (suc (suc zero)) h k = (refl, omega arith)
powers_at (suc (suc (suc (suc (suc (suc (suc zero))))))) (suc (suc (suc zero))) h k = (refl, omega arith)
powers_at (suc (suc (suc (suc (suc (suc (suc (suc zero)))))))) zero h k = (refl, omega arith)
powers_at (suc (suc (suc (suc (suc (suc (suc (suc zero)))))))) (suc zero) h k = (refl, omega arith)
powers_at (suc (suc (suc (suc (suc (suc (suc (suc zero)))))))) (suc (suc zero)) h k = (refl, omega arith)
powers_at (suc (suc (suc (suc (suc (suc (suc (suc zero)))))))) (suc (suc (suc zero))) h k = (refl, omega arith)
powers_at (suc (suc (suc (suc (suc (suc (suc (suc (suc n))))))))) zero h k = absurd (omega arith)
powers_at (suc (suc (suc (suc (suc (suc (suc (suc (suc n))))))))) (suc zero) h k = absurd (omega arith)
powers_at (suc (suc (suc (suc (suc (suc (suc (suc (suc n))))))))) (suc (suc zero)) h k = absurd (omega arith)
powers_at (suc (suc (suc (suc (suc (suc (suc (suc (suc n))))))))) (suc (suc (suc zero))) h k = absurd (omega arith)
