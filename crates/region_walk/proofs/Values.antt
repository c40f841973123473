-- The values of functions at beginnings of vectors.
use Rattle.std.specs.Prelude.{ℤ, pos, ◌+ℤ◌, ◌*ℤ◌}
use Rattle.std.proofs.Common.{◌≡◌, ℕ, zero, suc, ◌<◌, List, [], ◌∷◌, ◌++◌, length, take, refl, ap, ◌∙◌, arith, zero-lt-suc, suc-le-suc}
use Rattle.std.proofs.lemmas.Int.{ints}
use Rattle.lattice_theory.specs.Affine.{Affine, value}
use Rattle.lattice_theory.specs.Vector.{entry, dot}
use Rattle.lattice_theory.proofs.Integers.{zero-*ℤ}
use Rattle.lattice_theory.proofs.Vectors.{dot-nil}

-- factors past the end of a vector don't matter
pub dot-take : (a x : List ℤ) → dot (take (length x) a) x ≡ dot a x
dot-take [] [] = refl
dot-take [] (c ∷ x) = refl
dot-take (b ∷ a) [] = refl
dot-take (b ∷ a) (c ∷ x) = ap (λ (z : ℤ). b *ℤ c +ℤ z) (dot-take a x)

-- one more coordinate
dot-push : (a x : List ℤ) (v : ℤ) → dot a (x ++ v ∷ []) ≡ entry a (length x) *ℤ v +ℤ dot a x
dot-push [] x v = rw (zero-*ℤ v) refl
dot-push (b ∷ a) [] v = let rest = dot-nil a in omega (arith, ints, rest)
dot-push (b ∷ a) (c ∷ x) v = let below = dot-push a x v in omega (arith, ints, below)

-- so the value grows with it
pub value-push : (f : Affine) (x : List ℤ) (v : ℤ) → value f (x ++ v ∷ []) ≡ entry f.normal (length x) *ℤ v +ℤ value f x
value-push f x v = let whole = dot-push f.normal x v in omega (arith, ints, whole)

-- coordinates at which the factors are 0 don't matter
dot-ends : (a y : List ℤ) (k : ℕ) → ((j : ℕ) → k < j → entry a j ≡ pos 0) → dot a (take (suc k) y) ≡ dot a y
dot-ends [] y k ends = refl
dot-ends (b ∷ a) [] k ends = refl
dot-ends (b ∷ a) (c ∷ y) (suc k) ends =
    ap (λ (z : ℤ). b *ℤ c +ℤ z) (dot-ends a y k (λ j l. ends (suc j) (suc-le-suc l)))
dot-ends (b ∷ a) (c ∷ y) zero ends =
    let rest = none a y (λ j. ends (suc j) (zero-lt-suc j)) in let nothing = dot-nil a in omega (arith, ints, rest, nothing)
  where
    none : (a y : List ℤ) → ((j : ℕ) → entry a j ≡ pos 0) → dot a y ≡ pos 0
    none [] y h = refl
    none (b ∷ a) [] h = refl
    none (b ∷ a) (c ∷ y) h =
        let first : b ≡ pos 0 = h 0 in
        let below = none a y (λ j. h (suc j)) in
        let nothing = ap (λ (z : ℤ). z *ℤ c) first ∙ zero-*ℤ c in
        omega (arith, ints, below, nothing)

-- so the value at the first coordinates is the value
pub value-take : (f : Affine) (y : List ℤ) (k : ℕ) → ((j : ℕ) → k < j → entry f.normal j ≡ pos 0) → value f (take (suc k) y) ≡ value f y
value-take f y k ends = ap (λ (z : ℤ). z +ℤ f.constant) (dot-ends f.normal y k ends)
