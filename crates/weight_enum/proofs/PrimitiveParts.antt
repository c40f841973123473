-- A vector is primitive where it is its own primitive part.
use Rattle.std.proofs.Common.{◌≡◌, ℕ, suc, List, [], ◌∷◌, ℤ, pos, nat_abs, ◌<◌, ◌^◌, All, map, get_or, sym, ◌∙◌, subst, arith}
use Rattle.lattice_theory.specs.Vector.{IsPrimitive, DividesInteger, scaled}
use Rattle.lattice_theory.proofs.Integers.{*ℤ_comm}
use Rattle.lattice_theory.proofs.Members.{Each, empty, more, all_from_each}
use Rattle.lattice_theory.proofs.Vectors.{scaled-one}
use Rattle.lattice_core.specs.Divisors.{IsPrimitivePart}

-- a number divides its multiples
divided : (k : ℕ) (w : List ℤ) → Each (DividesInteger k) (scaled (pos k) w)
divided k [] = empty
divided k (a ∷ w) = more (a, *ℤ_comm a (pos k)) (divided k w)

pub primitive_from_part : (v w : List ℤ) → IsPrimitivePart v w → w ≡ v → IsPrimitive v
primitive_from_part v w p e = subst IsPrimitive e p.primitive

pub part_from_primitive : (v w : List ℤ) → IsPrimitivePart v w → IsPrimitive v → w ≡ v
part_from_primitive v w p h =
    let one : p.factor ≡ 1 = h p.factor (all_from_each (subst (Each (DividesInteger p.factor)) p.multiple (divided p.factor w))) in
    sym (scaled-one w) ∙ subst (λ (k : ℕ). scaled (pos k) w ≡ v) one p.multiple

-- numbers of 64 bits as integers
pub small_integers : (xs : List ℕ) → ((i : ℕ) → get_or xs i 0 < 2 ^ 64) → All (λ a. nat_abs a < 2 ^ 127) (map pos xs)
small_integers xs small = all_from_each (each xs small)
  where
    each : (ys : List ℕ) → ((i : ℕ) → get_or ys i 0 < 2 ^ 64) → Each (λ a. nat_abs a < 2 ^ 127) (map pos ys)
    each [] h = empty
    each (y ∷ ys) h = more (let first : y < 2 ^ 64 = h 0 in omega (arith, first)) (each ys (λ i. h (suc i)))
