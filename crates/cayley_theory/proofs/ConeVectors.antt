-- The vectors of Cayley cones: their lengths and pairings, and how long chains of faces are.
use Rattle.std.proofs.Common.{◌≡◌, ◌≢◌, ◌⊎◌, ℕ, zero, suc, ◌+◌, ◌<◌, List, [], ◌∷◌, ◌++◌, length, ℤ, pos, negsuc, ◌+ℤ◌, ◌≤ℤ◌, refl, sym, ap, ap₂, ◌∙◌, subst, inl, inr, arith, slice_index_or}
use Rattle.std.proofs.lemmas.Bool.{cases_eq}
use Rattle.std.proofs.lemmas.List.{length-append}
use Rattle.std.proofs.lemmas.List.Elements.{All-contains, Contains-get_or}
use Rattle.lattice_theory.specs.Vector.{dot, HaveDimension}
use Rattle.lattice_theory.specs.Order.{LexLess}
use Rattle.lattice_theory.proofs.Integers.{products_out, linear}
use Rattle.lattice_theory.proofs.Vectors.{dot_comm}
use Rattle.lattice_theory.proofs.Members.{all_from_each, each_from_in, contains_from_in}
use Rattle.face_theory.proofs.Climbs.{rank_bound_lem}
use Rattle.nef_theory.specs.Nef.{part_at, IsPartPoint}
use Rattle.cayley_theory.specs.Cones.{zero_vector, unit_vector, lifted, IsConeMember, IsConeFunction}
use Rattle.cayley_theory.specs.Laws.{ConeLengths, PairingsAreNonnegative, ConeRankBound}

pub length-zero_vector : (n : ℕ) → length (zero_vector n) ≡ n
length-zero_vector zero = refl
length-zero_vector (suc n) = ap suc (length-zero_vector n)

pub length-unit_vector : (r i : ℕ) → length (unit_vector r i) ≡ r
length-unit_vector zero i = refl
length-unit_vector (suc r) zero = ap suc (length-zero_vector r)
length-unit_vector (suc r) (suc i) = ap suc (length-unit_vector r i)

pub length-lifted : (n r : ℕ) (x : List ℤ) (i : ℕ) → length x ≡ n → length (lifted r x i) ≡ n + r
length-lifted n r x i h = length-append x (unit_vector r i) ∙ ap₂ (λ (a b : ℕ). a + b) h (length-unit_vector r i)

-- pairings of vectors in two parts
pub dot_append : (a x b y : List ℤ) → length a ≡ length x → dot (a ++ b) (x ++ y) ≡ dot a x +ℤ dot b y
dot_append [] [] b y e = omega (arith, linear)
dot_append [] (x ∷ rest) b y e = absurd (omega arith)
dot_append (a ∷ front) [] b y e = absurd (omega arith)
dot_append (a ∷ front) (x ∷ rest) b y e = let f = dot_append front rest b y (omega arith) in omega (arith, linear)

-- the order of vectors in two parts
pub lex_append : (x y u v : List ℤ) → LexLess x y → LexLess (x ++ u) (y ++ v)
lex_append [] y u v h = absurd h
lex_append (a ∷ x) [] u v h = absurd h
lex_append (a ∷ x) (b ∷ y) u v (inl l) = inl l
lex_append (a ∷ x) (b ∷ y) u v (inr h) = inr (h.0, lex_append x y u v h.1)

pub lex_behind : (x u v : List ℤ) → LexLess u v → LexLess (x ++ u) (x ++ v)
lex_behind [] u v h = h
lex_behind (a ∷ x) u v h = inr (refl, lex_behind x u v h)

pub dot-zero_vector : (n : ℕ) (x : List ℤ) → dot (zero_vector n) x ≡ pos 0
dot-zero_vector zero x = refl
dot-zero_vector (suc n) [] = refl
dot-zero_vector (suc n) (a ∷ x) = let e = dot-zero_vector n x in simp (products_out, e)

-- unit vectors pair to 1 with themselves, and to 0 with others
pub unit_itself : (r i : ℕ) → i < r → dot (unit_vector r i) (unit_vector r i) ≡ pos 1
unit_itself zero i h = absurd (omega arith)
unit_itself (suc r) zero h = let e = dot-zero_vector r (zero_vector r) in omega (arith, linear)
unit_itself (suc r) (suc i) h = let e = unit_itself r i (omega arith) in omega (arith, linear)

pub unit_other : (r i j : ℕ) → i ≢ j → dot (unit_vector r i) (unit_vector r j) ≡ pos 0
unit_other zero i j n = refl
unit_other (suc r) zero zero n = absurd (n refl)
unit_other (suc r) zero (suc j) n = let e = dot-zero_vector r (unit_vector r j) in omega (arith, linear)
unit_other (suc r) (suc i) zero n = let e = dot_comm (unit_vector r i) (zero_vector r) ∙ dot-zero_vector r (unit_vector r i) in omega (arith, linear)
unit_other (suc r) (suc i) (suc j) n = let e = unit_other r i j (λ s. n (ap suc s)) in omega (arith, linear)

-- a vector's length is that of the others in its list
pub length_at : (n : ℕ) (xs : List (List ℤ)) → HaveDimension n xs → (k : ℕ) → k < length xs → length (slice_index_or xs k []) ≡ n
length_at n xs d k h = All-contains (λ p. length p ≡ n) xs (slice_index_or xs k []) d (Contains-get_or xs k [] h)

pub cone_lengths_lem : ConeLengths
cone_lengths_lem n vertices normals r parts d = (member, function)
  where
    member : (x : List ℤ) → IsConeMember n vertices normals r parts x → length x ≡ n + r
    member x h = ap length h.is ∙ length-lifted n r h.point h.part h.is_point.dimension

    function : (f : List ℤ) → IsConeFunction n normals r parts f → length f ≡ n + r
    function f (inl h) = ap length h.is
        ∙ length-lifted n r (slice_index_or normals h.place []) (part_at parts h.place) (length_at n normals d h.place h.within)
    function f (inr h) = ap length h.is ∙ length-lifted n r (zero_vector n) h.part (length-zero_vector n)

pub cone_rank_bound_lem : ConeRankBound
cone_rank_bound_lem n normals r parts members functions d h = rank_bound_lem (n + r) members functions
    (all_from_each {P = λ p. length p ≡ n + r} (each_from_in functions
    (λ f i. (cone_lengths_lem n [] normals r parts d).1 f ((h.members f).0 (contains_from_in i)))))

-- what a point of a part, lifted, pairs to with a normal or with 0
module _ (n : ℕ) (normals : List (List ℤ)) (r : ℕ) (parts : List ℕ) (d : HaveDimension n normals) (m : List ℤ) (i : ℕ) (x : List ℤ) (within : i < r)
    (p : IsPartPoint n normals parts m i x) where
  pairing : (e : List ℤ) (j : ℕ) → length e ≡ n → dot (lifted r e j) (lifted r x i) ≡ dot x e +ℤ dot (unit_vector r j) (unit_vector r i)
  pairing e j l = dot_append e x (unit_vector r j) (unit_vector r i) (l ∙ sym p.dimension)
      ∙ ap (λ (a : ℤ). a +ℤ dot (unit_vector r j) (unit_vector r i)) (dot_comm e x)

  own : (e : List ℤ) (j : ℕ) → length e ≡ n → j ≡ i → negsuc 0 ≤ℤ dot x e → pos 0 ≤ℤ dot (lifted r e j) (lifted r x i)
  own e j l s h =
      let u = pairing e j l in
      let v = subst (λ (k : ℕ). dot (unit_vector r k) (unit_vector r i) ≡ pos 1) (sym s) (unit_itself r i within) in
      omega (arith, linear)

  other : (e : List ℤ) (j : ℕ) → length e ≡ n → j ≢ i → pos 0 ≤ℤ dot x e → pos 0 ≤ℤ dot (lifted r e j) (lifted r x i)
  other e j l s h = let u = pairing e j l in let v = unit_other r j i s in omega (arith, linear)

  with_normal : (k : ℕ) → k < length normals → pos 0 ≤ℤ dot (lifted r (slice_index_or normals k []) (part_at parts k)) (lifted r x i)
  with_normal k h = by (cases_eq (part_at parts k) i)
    where
      by : (part_at parts k ≡ i) ⊎ (part_at parts k ≡ i → ⊥)
          → pos 0 ≤ℤ dot (lifted r (slice_index_or normals k []) (part_at parts k)) (lifted r x i)
      by (inl s) = own (slice_index_or normals k []) (part_at parts k) (length_at n normals d k h) s (p.least k h s)
      by (inr s) = other (slice_index_or normals k []) (part_at parts k) (length_at n normals d k h) s (p.apart k h s)

  with_zero : (j : ℕ) → pos 0 ≤ℤ dot (lifted r (zero_vector n) j) (lifted r x i)
  with_zero j = by (cases_eq j i)
    where
      zero : dot x (zero_vector n) ≡ pos 0
      zero = dot_comm x (zero_vector n) ∙ dot-zero_vector n x

      by : (j ≡ i) ⊎ (j ≡ i → ⊥) → pos 0 ≤ℤ dot (lifted r (zero_vector n) j) (lifted r x i)
      by (inl s) = own (zero_vector n) j (length-zero_vector n) s (let e = zero in omega (arith, linear))
      by (inr s) = other (zero_vector n) j (length-zero_vector n) s (let e = zero in omega (arith, linear))

pub pairings_are_nonnegative_lem : PairingsAreNonnegative
pairings_are_nonnegative_lem n vertices normals r parts d nef x f hx hf = subst (λ (y : List ℤ). pos 0 ≤ℤ dot f y) (sym hx.is) (by hf)
  where
    by : IsConeFunction n normals r parts f → pos 0 ≤ℤ dot f (lifted r hx.point hx.part)
    by (inl h) = subst (λ (g : List ℤ). pos 0 ≤ℤ dot g (lifted r hx.point hx.part)) (sym h.is)
        (with_normal n normals r parts d hx.vertex hx.part hx.point hx.within hx.is_point h.place h.within)
    by (inr h) = subst (λ (g : List ℤ). pos 0 ≤ℤ dot g (lifted r hx.point hx.part)) (sym h.is)
        (with_zero n normals r parts d hx.vertex hx.part hx.point hx.within hx.is_point h.part)
