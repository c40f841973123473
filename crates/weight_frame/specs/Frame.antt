-- The frame of a weight lattice: an integer basis that is made by a recursion over the weight systems. This project's own.
use Rattle.std.specs.Prelude.{◌≡◌, ℕ, ◌*◌, ◌<◌, ◌≤◌, max, List, [], ◌∷◌, ◌++◌, length, map, ℤ, pos, negsuc, neg_ℤ, ◌+ℤ◌, ◌*ℤ◌, ◌<ℤ◌, nat_abs, slice_index_or}
use Rattle.std.specs.List.{All}
use Rattle.lattice_theory.specs.Vector.{entry, dot, scaled, DividesInteger, IsUnitVector}
use Rattle.lattice_core.specs.declared.limits.TheConstants.{MOST_FRAME_ENTRY}
use Rattle.lattice_core.specs.Weights.{Weighted, weighted_degree, columns_of}

-- x is the vector of n entries 0
pub record IsZeroVector (n : ℕ) (x : List ℤ) : Type 0 where
  pub dimension : length x ≡ n
  pub zeros : (j : ℕ) → entry x j ≡ pos 0

-- the n unit vectors, in order
pub record AreUnitVectors (n : ℕ) (vectors : List (List ℤ)) : Type 0 where
  pub count : length vectors ≡ n
  pub units : (i : ℕ) → i < n → IsUnitVector n i (slice_index_or vectors i [])

-- z is p x + q y, a vector of n entries
pub record IsSumOfMultiples (n : ℕ) (p : ℤ) (x : List ℤ) (q : ℤ) (y z : List ℤ) : Type 0 where
  pub dimension : length z ≡ n
  pub entries : (j : ℕ) → entry z j ≡ p *ℤ entry x j +ℤ q *ℤ entry y j

-- the weighted degrees of vectors
abbrev pub degrees_of : Weighted → List (List ℤ) → List ℤ
degrees_of system vectors = map (weighted_degree system) vectors

-- g is the greatest common divisor of the values: it divides each of them, and what divides them all divides it. It is 0 where all are 0.
pub record IsGreatestDivisor (values : List ℤ) (g : ℕ) : Type 0 where
  pub divides : All (DividesInteger g) values
  pub greatest : (d : ℕ) → All (DividesInteger d) values → DividesInteger d (pos g)

-- p is the quotient after/g and q the quotient v/g, and s v + t after = g, where 0 <= s < p: this fixes s and t
pub record AreLeastMultipliers (v : ℤ) (after g p : ℕ) (q : ℤ) (s : ℕ) (t : ℤ) : Type 0 where
  pub behind : p * g ≡ after
  pub here : q *ℤ pos g ≡ v
  pub combination : pos s *ℤ v +ℤ t *ℤ pos after ≡ pos g
  pub least : s < p

-- The step of the recursion at a vector u of value v. Behind it stand the vector h and the greatest common divisor `after` of the values
-- there; the greatest common divisor with v is g. The step makes a list of at most one vector k, and the next h.
pub data Exchange (n : ℕ) (u : List ℤ) (v : ℤ) (h : List ℤ) (after g : ℕ) : List (List ℤ) → List ℤ → Type 0 where
  -- both are 0: k is u, and h is the zero vector
  keeps : {zero : List ℤ} → after ≡ 0 → v ≡ pos 0 → IsZeroVector n zero → Exchange n u v h after g (u ∷ []) zero
  -- only the divisor behind is 0: there is no k, and h is u or -u, as v is positive or negative
  takes : after ≡ 0 → pos 0 <ℤ v → Exchange n u v h after g [] u
  turns : after ≡ 0 → v <ℤ pos 0 → Exchange n u v h after g [] (scaled (negsuc 0) u)
  -- otherwise k is (after/g) u - (v/g) h, and the next h is s u + t h, where s v + t after = g and 0 <= s < after/g
  exchanges : {k next : List ℤ} (p : ℕ) (q : ℤ) (s : ℕ) (t : ℤ) → 0 < after → AreLeastMultipliers v after g p q s t
      → IsSumOfMultiples n (pos p) u (neg_ℤ q) h k → IsSumOfMultiples n (pos s) u t h next
      → Exchange n u v h after g (k ∷ []) next

-- What a system makes of the vectors u_1, .., u_m of n entries: the list of the k_i by rising i, the vector h_1, and the greatest common
-- divisor g_1 of the values. The last list has all k_i and h_i, by falling i, with k_i before h_i.
pub data Exchanges (n : ℕ) (system : Weighted) : List (List ℤ) → List (List ℤ) → List ℤ → ℕ → List (List ℤ) → Type 0 where
  none : {zero : List ℤ} → IsZeroVector n zero → Exchanges n system [] [] zero 0 []
  more : {u : List ℤ} {us ks : List (List ℤ)} {h : List ℤ} {after : ℕ} {made k : List (List ℤ)} {next : List ℤ} {g : ℕ}
      → Exchanges n system us ks h after made → IsGreatestDivisor (degrees_of system (u ∷ us)) g
      → Exchange n u (weighted_degree system u) h after g k next
      → Exchanges n system (u ∷ us) (k ++ ks) next g (made ++ (k ++ (next ∷ [])))

-- what the systems, in order, make of the vectors us, and all vectors that are made on the way
pub data AreExchanged (n : ℕ) : List Weighted → List (List ℤ) → List (List ℤ) → List (List ℤ) → Type 0 where
  done : {us : List (List ℤ)} → AreExchanged n [] us us []
  next : {system : Weighted} {systems : List Weighted} {us ks vectors : List (List ℤ)} {h : List ℤ} {g : ℕ} {made later : List (List ℤ)}
      → Exchanges n system us ks h g made → AreExchanged n systems ks vectors later
      → AreExchanged n (system ∷ systems) us vectors (made ++ later)

-- the recursion of the systems ends with these vectors, and makes the others on the way: it begins with the unit vectors
pub record IsRecursion (systems : List Weighted) (vectors made : List (List ℤ)) : Type 0 where
  pub units : List (List ℤ)
  pub are_units : AreUnitVectors (columns_of systems) units
  pub exchanged : AreExchanged (columns_of systems) systems units vectors made

-- the frame of the weight lattice of the systems
pub record IsFrame (systems : List Weighted) (vectors : List (List ℤ)) : Type 0 where
  pub made : List (List ℤ)
  pub recursion : IsRecursion systems vectors made

-- x is the sum of the multiples of the vectors by the coefficients, a vector of n entries
pub record IsIntegerCombination (n : ℕ) (coefficients : List ℤ) (vectors : List (List ℤ)) (x : List ℤ) : Type 0 where
  pub dimension : length x ≡ n
  pub entries : (j : ℕ) → entry x j ≡ dot coefficients (map (λ b. entry b j) vectors)

-- the coefficients, as many as there are vectors, with which x is a combination of them
pub record AreCoordinates (n : ℕ) (vectors : List (List ℤ)) (x coefficients : List ℤ) : Type 0 where
  pub count : length coefficients ≡ length vectors
  pub combination : IsIntegerCombination n coefficients vectors x

-- the largest absolute value of the entries
abbrev pub largest : List ℤ → ℕ
largest [] = 0
largest (a ∷ x) = max (nat_abs a) (largest x)

-- no vector has an entry above the limit
abbrev pub AreWithinEntryLimit : List (List ℤ) → Type 0
AreWithinEntryLimit vectors = All (λ x. largest x ≤ MOST_FRAME_ENTRY) vectors

-- the first vector of the list with an entry above the limit has the largest absolute value that is told
pub record IsFirstAboveLimit (vectors : List (List ℤ)) (told : ℕ) : Type 0 where
  pub before : List (List ℤ)
  pub vector : List ℤ
  pub behind : List (List ℤ)
  pub split : vectors ≡ before ++ (vector ∷ behind)
  pub within : AreWithinEntryLimit before
  pub value : told ≡ largest vector
  pub above : MOST_FRAME_ENTRY < told
