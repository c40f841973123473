-- A list that is written over from its start.
use Rattle.std.proofs.Common.{◌≡◌, ℕ, zero, suc, ◌<◌, List, [], ◌∷◌, ◌++◌, length, map, get_or, take, drop, refl, ap, arith}
use Rattle.std.proofs.Math.ListN.{set}

-- what isn't reached yet
pub unreached : {X : Type 0} (f : X → X) (xs : List X) (i : ℕ) (d : X) → get_or (map f (take i xs) ++ drop i xs) i d ≡ get_or xs i d
unreached f [] zero d = refl
unreached f [] (suc i) d = refl
unreached f (x ∷ xs) zero d = refl
unreached f (x ∷ xs) (suc i) d = unreached f xs i d

-- one more entry is written
pub over_more : {X Y : Type 0} (f : X → Y) (xs : List X) (ys : List Y) (i : ℕ) (d : X) → i < length xs → length ys ≡ length xs
    → set (map f (take i xs) ++ drop i ys) i (f (get_or xs i d)) ≡ map f (take (suc i) xs) ++ drop (suc i) ys
over_more f [] ys i d h e = absurd (omega arith)
over_more f (x ∷ xs) [] i d h e = absurd (omega arith)
over_more f (x ∷ xs) (y ∷ ys) zero d h e = refl
over_more {Y = Y} f (x ∷ xs) (y ∷ ys) (suc i) d h e = ap (λ (zs : List Y). f x ∷ zs) (over_more f xs ys i d (omega arith) (omega arith))
