-- For each function a point at which it is least, and which some function tells from all other points: 0 there and positive at the others.
use Rattle.std.proofs.Common.{◌≡◌, ℕ, zero, suc, ◌<◌, ◌≤◌, List, length, ℤ, pos, ◌+ℤ◌, ◌-ℤ◌, ◌*ℤ◌, neg_ℤ, ◌≤ℤ◌, ◌<ℤ◌, ◌⊎◌, inl, inr, ⊎_elim, sym, ◌∙◌, subst, arith, ap}
use Rattle.std.proofs.lemmas.Bool.{cases_lt}
use Rattle.lattice_theory.specs.Vector.{entry}
use Rattle.lattice_theory.specs.Affine.{Affine, value}
use Rattle.lattice_theory.proofs.Integers.{products_out, linear, product_nonnegative, positive_or_not, one-*ℤ, *ℤ-zero}
use Rattle.lattice_theory.proofs.Members.{In}
use Rattle.lattice_theory.proofs.Vectors.{same_from_entries, entry_past}
use Rattle.lattice_theory.proofs.Functions.{mixed, length-mixed, value-mixed, lowered, length-lowered, value-lowered, value-lowered_self}
use Rattle.facet_theory.proofs.Smallest.{Smallest, Spread, find_spread, smallest_of}
use Rattle.facet_theory.proofs.Coordinates.{above_low, length-above_low, above_low-value}
use Rattle.facet_theory.proofs.Signs.{nonnegative_same}

-- a point at which f is least, and a nonnegative function that is 0 there and
-- else only at points with the same value of f and the same first k entries
pub record Peak (n : ℕ) (points : List (List ℤ)) (f : Affine) (k : ℕ) : Type 0 where
  pub place : List ℤ
  pub inside : In place points
  pub least : (q : List ℤ) → In q points → value f place ≤ℤ value f q
  pub function : Affine
  pub dimension : length function.normal ≡ n
  pub nonnegative : (q : List ℤ) → In q points → pos 0 ≤ℤ value function q
  pub zero_there : value function place ≡ pos 0
  pub same_value : (q : List ℤ) → In q points → value function q ≡ pos 0 → value f q ≡ value f place
  pub same_entries : (q : List ℤ) → In q points → value function q ≡ pos 0 → (i : ℕ) → i < k → entry q i ≡ entry place i

-- a multiple below the multiplier is 0
small_multiple : (n a d : ℤ) → pos 0 ≤ℤ a → (n *ℤ a) ≤ℤ d → d <ℤ n → pos 0 ≤ℤ n → a ≡ pos 0
small_multiple n a d h k l m = by (positive_or_not a)
  where
    by : (pos 0 <ℤ a) ⊎ (a ≤ℤ pos 0) → a ≡ pos 0
    by (inl p) = let q : pos 0 ≤ℤ (a -ℤ pos 1) = omega (arith, linear) in let s = simp products_out at
        (product_nonnegative n (a -ℤ pos 1) m q) in absurd (omega (arith, linear))
    by (inr q) = omega (arith, linear)

-- no entries are told yet
first_peak : (n : ℕ) (points : List (List ℤ)) (f : Affine) → length f.normal ≡ n → (p : List ℤ) → In p points → Peak n points f 0
first_peak n points f e p i = by (smallest_of (value f) points i)
  where
    by : Smallest points (value f) → Peak n points f 0
    by s = record {
      place = s.place;
      inside = s.inside;
      least = s.least;
      function = g;
      dimension = length-lowered n f (value f s.place) e;
      nonnegative = λ q j. nonnegative_same (sym (value-lowered f (value f s.place) q))
          (difference (value f s.place) (value f q) (s.least q j));
      zero_there = value-lowered_self f s.place;
      same_value = λ q j z. equal (value f q) (value f s.place) (sym (value-lowered f (value f s.place) q) ∙ z);
      same_entries = λ q j z k l. absurd (omega arith);
    }
      where
        g : Affine
        g = lowered f (value f s.place)

        difference : (a b : ℤ) → a ≤ℤ b → pos 0 ≤ℤ (b -ℤ a)
        difference a b h = omega (arith, linear)

        equal : (a b : ℤ) → a -ℤ b ≡ pos 0 → a ≡ b
        equal a b h = omega (arith, linear)

-- one more entry: a large multiple of the function plus the coordinate, which is least at a point at which the function is 0
next_peak : (n : ℕ) (points : List (List ℤ)) (f : Affine) (k : ℕ) → k < n → Peak n points f k → Peak n points f (suc k)
next_peak n points f k l p = by (find_spread (λ q. entry q k) points)
  where
    by : Spread points (λ q. entry q k) → Peak n points f (suc k)
    by b = at (smallest_of (λ q. large *ℤ value p.function q +ℤ entry q k) points p.inside)
      where
        large : ℤ
        large = pos b.number +ℤ pos b.number

        at : Smallest points (λ q. large *ℤ value p.function q +ℤ entry q k) → Peak n points f (suc k)
        at s = record {
          place = s.place;
          inside = s.inside;
          least = λ q i. subst (λ (z : ℤ). z ≤ℤ value f q) (sym (p.same_value s.place s.inside on)) (p.least q i);
          function = g;
          dimension = length-mixed n large p.function (pos 1) (above_low n k (entry s.place k)) p.dimension
              (length-above_low n k (entry s.place k));
          nonnegative = λ q i. nonnegative_same (sym (values q))
              (nonnegative large (value p.function s.place) (value p.function q) (entry s.place k) (entry q k) on (s.least q i));
          zero_there = values s.place ∙ zero_value large (value p.function s.place) (entry s.place k) on;
          same_value = λ q i z. p.same_value q i (zero_before q i z) ∙ sym (p.same_value s.place s.inside on);
          same_entries = entries;
        }
          where
            g : Affine
            g = mixed large p.function (pos 1) (above_low n k (entry s.place k))

            values : (q : List ℤ) → value g q ≡ large *ℤ value p.function q +ℤ (entry q k -ℤ entry s.place k)
            values q = value-mixed large p.function (pos 1) (above_low n k (entry s.place k)) q
                ∙ ap (λ (z : ℤ). large *ℤ value p.function q +ℤ z)
                (one-*ℤ (value (above_low n k (entry s.place k)) q) ∙ above_low-value n k (entry s.place k) l q)

            nonnegative : (n a b x y : ℤ) → a ≡ pos 0 → (n *ℤ a +ℤ x) ≤ℤ (n *ℤ b +ℤ y) → pos 0 ≤ℤ (n *ℤ b +ℤ (y -ℤ x))
            nonnegative n a b x y e h = let h' = rw (e, *ℤ-zero n) at h in omega (arith, linear)

            zero_value : (n a x : ℤ) → a ≡ pos 0 → n *ℤ a +ℤ (x -ℤ x) ≡ pos 0
            zero_value n a x e = rw (e, *ℤ-zero n) (omega (arith, linear))

            small : (m : ℕ) (a b x y : ℤ) → pos 0 ≤ℤ a → b ≡ pos 0 → neg_ℤ (pos m) <ℤ x → y <ℤ pos m
                → ((pos m +ℤ pos m) *ℤ a +ℤ x) ≤ℤ ((pos m +ℤ pos m) *ℤ b +ℤ y) → a ≡ pos 0
            small m a b x y h e c d le = small_multiple (pos m +ℤ pos m) a (y -ℤ x) h
                (let le' = rw (e, *ℤ-zero (pos m +ℤ pos m)) at le in omega (arith, linear)) (omega (arith, linear)) (omega (arith, linear))

            on : value p.function s.place ≡ pos 0
            on = small b.number (value p.function s.place) (value p.function p.place) (entry s.place k) (entry p.place k)
                (p.nonnegative s.place s.inside) p.zero_there (b.below s.place s.inside) (b.above p.place p.inside)
                (s.least p.place p.inside)

            zero_small : (m : ℕ) (a x y : ℤ) → pos 0 ≤ℤ a → neg_ℤ (pos m) <ℤ x → y <ℤ pos m → (pos m +ℤ pos m) *ℤ a +ℤ (x -ℤ y) ≡ pos 0
                → a ≡ pos 0
            zero_small m a x y h c d e = small_multiple (pos m +ℤ pos m) a (y -ℤ x) h (omega (arith, linear)) (omega (arith, linear))
                (omega (arith, linear))

            zero_before : (q : List ℤ) → In q points → value g q ≡ pos 0 → value p.function q ≡ pos 0
            zero_before q i z = zero_small b.number (value p.function q) (entry q k) (entry s.place k) (p.nonnegative q i) (b.below q i)
                (b.above s.place s.inside) (sym (values q) ∙ z)

            equal : (n a x y : ℤ) → a ≡ pos 0 → n *ℤ a +ℤ (x -ℤ y) ≡ pos 0 → x ≡ y
            equal n a x y e h = let h' = rw (e, *ℤ-zero n) at h in omega (arith, linear)

            entries : (q : List ℤ) → In q points → value g q ≡ pos 0 → (i : ℕ) → i < suc k → entry q i ≡ entry s.place i
            entries q i z j h = ⊎_elim
                (λ (c : j < k). p.same_entries q i (zero_before q i z) j c ∙ sym (p.same_entries s.place s.inside on j c))
                (λ (c : k ≤ j). let e : j ≡ k = omega arith in rw e
                (equal large (value p.function q) (entry q k) (entry s.place k) (zero_before q i z) (sym (values q) ∙ z)))
                (cases_lt j k)

-- a peak for each number of entries
pub peak : (n : ℕ) (points : List (List ℤ)) (f : Affine) → length f.normal ≡ n → (p : List ℤ) → In p points → (k : ℕ) → k ≤ n
    → Peak n points f k
peak n points f e p i zero h = first_peak n points f e p i
peak n points f e p i (suc k) h = next_peak n points f k (omega arith) (peak n points f e p i k (omega arith))

-- with all entries told, the function is 0 at one point alone
pub peak_alone : (n : ℕ) (points : List (List ℤ)) (f : Affine) → ((q : List ℤ) → In q points → length q ≡ n) → (p : Peak n points f n)
    → (q : List ℤ)
    → In q points → value p.function q ≡ pos 0 → q ≡ p.place
peak_alone n points f dims p q i z = same_from_entries q p.place (dims q i ∙ sym (dims p.place p.inside)) (λ j. ⊎_elim
    (λ (c : j < n). p.same_entries q i z j c)
    (λ (c : n ≤ j). entry_past q j (past q i c) ∙ sym (entry_past p.place j (past p.place p.inside c)))
    (cases_lt j n))
  where
    past : {j : ℕ} (x : List ℤ) → In x points → n ≤ j → length x ≤ j
    past x i c = let e = dims x i in omega arith
