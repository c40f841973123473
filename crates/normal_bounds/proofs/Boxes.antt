-- Boxes of vectors: at a free place the entries 0 to M, at a fixed place the
-- entry 0. A box with j free places has (M + 1)^j members, all different.
use Rattle.std.proofs.Common.{◌≡◌, ◌≢◌, ℕ, zero, suc, ◌*◌, ◌^◌, ◌<◌, ◌≤◌, List, [], ◌∷◌, ◌++◌, length, map, Bool, true, false, ℤ, pos, sym, ap, ◌∙◌, arith}
use Rattle.std.proofs.lemmas.List.{length-append, length-map}
use Rattle.std.proofs.lemmas.Int.{ints}
use Rattle.std.proofs.Math.Nat.{pow-zero, pow-succ'}
use Rattle.lattice_theory.proofs.Members.{Each, empty, more, each_append, each_map, each_weaker}

-- every two members differ
pub data Different {X : Type 0} : List X → Type 0 where
  none : Different []
  one_more : {x : X} {xs : List X} → Each (λ y. x ≢ y) xs → Different xs → Different (x ∷ xs)

-- of two lists end to end, where no member of the first is one of the second
pub different_append : {X : Type 0} {xs ys : List X} → Different xs → Different ys → Each (λ x. Each (λ y. x ≢ y) ys) xs
    → Different (xs ++ ys)
different_append none ds es = ds
different_append (one_more p ps) ds (more e es) = one_more (each_append p e) (different_append ps ds es)

-- of the images under a map that keeps different things different
pub different_map : {X Y : Type 0} (f : X → Y) → ((x y : X) → x ≢ y → f x ≢ f y) → {xs : List X} → Different xs → Different (map f xs)
different_map f h none = none
different_map f h (one_more {x = x} p ps) = one_more (each_map (λ z. f x ≢ z) f (each_weaker (λ y n. h x y n) p)) (different_map f h ps)

-- how many places of a mask are free
abbrev pub free_places : List Bool → ℕ
free_places [] = 0
free_places (true ∷ mask) = suc (free_places mask)
free_places (false ∷ mask) = free_places mask

-- x lies in the box of the mask
pub data Inside (M : ℕ) : List Bool → List ℤ → Type 0 where
  nothing : Inside M [] []
  free : {mask : List Bool} {x : List ℤ} (n : ℕ) → n ≤ M → Inside M mask x → Inside M (true ∷ mask) (pos n ∷ x)
  fixed : {mask : List Bool} {x : List ℤ} → Inside M mask x → Inside M (false ∷ mask) (pos 0 ∷ x)

-- the vectors of a list, behind each number below n
abbrev pub layers : ℕ → List (List ℤ) → List (List ℤ)
layers zero xs = []
layers (suc n) xs = map (λ x. pos n ∷ x) xs ++ layers n xs

-- all members of a box
abbrev pub box : ℕ → List Bool → List (List ℤ)
box M [] = [] ∷ []
box M (true ∷ mask) = layers (suc M) (box M mask)
box M (false ∷ mask) = map (λ x. pos 0 ∷ x) (box M mask)

-- their number
length-layers : (n : ℕ) (xs : List (List ℤ)) → length (layers n xs) ≡ n * length xs
length-layers zero xs = omega arith
length-layers (suc n) xs = let e = length-layers n xs in let f = length-append (map (λ (x : List ℤ). pos n ∷ x) xs) (layers n xs) in
    let g = length-map xs (λ (x : List ℤ). pos n ∷ x) in omega arith

-- one power for each free place
pub length-box : (M : ℕ) (mask : List Bool) → length (box M mask) ≡ suc M ^ free_places mask
length-box M [] = sym (pow-zero (suc M))
length-box M (true ∷ mask) = length-layers (suc M) (box M mask) ∙ ap (λ (n : ℕ). suc M * n) (length-box M mask)
    ∙ sym (pow-succ' (suc M) (free_places mask))
length-box M (false ∷ mask) = length-map (box M mask) (λ (x : List ℤ). pos 0 ∷ x) ∙ length-box M mask

-- each lies in the box
layers_inside : (M : ℕ) (mask : List Bool) (n : ℕ) (xs : List (List ℤ)) → n ≤ suc M → Each (Inside M mask) xs
    → Each (Inside M (true ∷ mask)) (layers n xs)
layers_inside M mask zero xs h ps = empty
layers_inside M mask (suc n) xs h ps =
    each_append (each_map (Inside M (true ∷ mask)) (λ x. pos n ∷ x) (each_weaker (λ x p. free n (omega arith) p) ps))
    (layers_inside M mask n xs (omega arith) ps)

-- all of them
pub box_inside : (M : ℕ) (mask : List Bool) → Each (Inside M mask) (box M mask)
box_inside M [] = more nothing empty
box_inside M (true ∷ mask) = layers_inside M mask (suc M) (box M mask) (omega arith) (box_inside M mask)
box_inside M (false ∷ mask) = each_map (Inside M (false ∷ mask)) (λ x. pos 0 ∷ x) (each_weaker (λ x p. fixed p) (box_inside M mask))

-- vectors that differ still differ behind a number
still_different : (a : ℤ) (x y : List ℤ) → x ≢ y → (a ∷ x) ≢ (a ∷ y)
still_different a x y n e = n (tails e)
  where
    tails : a ∷ x ≡ a ∷ y → x ≡ y
    tails e = cc

-- vectors behind different numbers differ
heads_different : (m n : ℕ) (x y : List ℤ) → n < m → (pos m ∷ x) ≢ (pos n ∷ y)
heads_different m n x y h e = absurd (numbers (heads e))
  where
    heads : pos m ∷ x ≡ pos n ∷ y → pos m ≡ pos n
    heads e = cc

    numbers : pos m ≡ pos n → ⊥
    numbers e = omega (arith, ints)

-- none of the vectors behind m is one of those behind the numbers below
layers_apart : (m n : ℕ) (x : List ℤ) (xs : List (List ℤ)) → n ≤ m → Each (λ y. (pos m ∷ x) ≢ y) (layers n xs)
layers_apart m zero x xs h = empty
layers_apart m (suc n) x xs h = each_append (behind xs) (layers_apart m n x xs (omega arith))
  where
    behind : (ys : List (List ℤ)) → Each (λ y. (pos m ∷ x) ≢ y) (map (λ y. pos n ∷ y) ys)
    behind [] = empty
    behind (y ∷ ys) = more (heads_different m n x y (omega arith)) (behind ys)

-- for all vectors behind m
all_layers_apart : (m : ℕ) (xs ys : List (List ℤ)) → Each (λ x. Each (λ y. x ≢ y) (layers m ys)) (map (λ x. pos m ∷ x) xs)
all_layers_apart m [] ys = empty
all_layers_apart m (x ∷ xs) ys = more (layers_apart m m x ys (omega arith)) (all_layers_apart m xs ys)

-- the layers differ
layers_different : (n : ℕ) (xs : List (List ℤ)) → Different xs → Different (layers n xs)
layers_different zero xs d = none
layers_different (suc n) xs d = different_append (different_map (λ x. pos n ∷ x) (λ x y u. still_different (pos n) x y u) d)
    (layers_different n xs d) (all_layers_apart n xs xs)

-- the members of a box differ
pub box_different : (M : ℕ) (mask : List Bool) → Different (box M mask)
box_different M [] = one_more empty none
box_different M (true ∷ mask) = layers_different (suc M) (box M mask) (box_different M mask)
box_different M (false ∷ mask) = different_map (λ x. pos 0 ∷ x) (λ x y u. still_different (pos 0) x y u) (box_different M mask)
