-- What is listed from the last place on are the tails.
use Rattle.std.proofs.Common.{◌≡◌, ◌⊎◌, inl, inr, ℕ, ◌-◌, ◌<◌, ◌≤◌, List, [], ◌∷◌, length, map, take, drop, ℤ, pos, ◌-ℤ◌, All, refl, sym, ap, ◌∙◌, subst, arith}
use Rattle.std.specs.List.{Contains}
use Rattle.std.proofs.lemmas.List.{drop_all}
use Rattle.lattice_core.specs.Weights.{Weighted, monomial_point, total}
use Rattle.lattice_theory.proofs.Members.{Each, empty, more, each_from_all, all_from_each}
use Rattle.interior_point_theory.specs.Interior.{system_of}
use Rattle.interior_point_theory.specs.Around.{IsTail, HasTails}
use Rattle.weight_points.specs.steps.Waits.{spent, CanTake}
use Rattle.weight_points.specs.steps.Search.{Solves}
use Rattle.weight_points.proofs.Integral.{monomial_from_solution, solution_of}
use Rattle.weight_tails.specs.steps.Listing.{IsListed, AddsEach, lowered, tail_of}
use Rattle.weight_tails.proofs.LastWeights.{all, takes_ones}

-- the point of exponents
pub lowered_point : (a : List ℕ) → map lowered a ≡ monomial_point (map pos a)
lowered_point [] = refl
lowered_point (e ∷ a) = ap (λ (x : List ℤ). (pos e -ℤ pos 1) ∷ x) (lowered_point a)

module _ (weights entries : List ℕ) (degree : ℕ) (y : List ℤ) (some : 0 < length weights) where
  solves : (a : List ℕ) → length a ≡ length weights → spent weights a ≡ degree → Solves (system_of degree weights ∷ []) a
  solves a c t = record { columns = c; degrees = all_from_each {P = λ (s : Weighted). spent s.weights a ≡ s.degree} (more t empty) }

  pub tail_from_listed : IsListed weights entries (length weights) degree y → IsTail (system_of degree weights) y
  tail_from_listed l = by l.exponents l.columns (subst (λ (ws : List ℕ). spent ws l.exponents ≡ degree) (all weights) l.takes) l.same
    where
      by : (a : List ℕ) → length a ≡ length weights → spent weights a ≡ degree → y ≡ tail_of a → IsTail (system_of degree weights) y
      by [] c t s = absurd (omega (arith, c, some))
      by (e ∷ a) c t s = record {
        first = pos e;
        later = map pos a;
        monomial = monomial_from_solution (system_of degree weights ∷ []) (e ∷ a) (solves (e ∷ a) c t);
        same = s ∙ lowered_point a;
      }

  pub listed_from_tail : length entries ≡ length weights → IsTail (system_of degree weights) y → IsListed weights entries (length weights) degree y
  listed_from_tail columns tail =
      let s = solution_of (system_of degree weights ∷ []) (tail.first ∷ tail.later) tail.monomial in
      by s.exponents s.is s.solves.columns (s.solves.degrees 0 (system_of degree weights) (omega arith))
    where
      by : (a : List ℕ) → map pos a ≡ tail.first ∷ tail.later → length a ≡ length weights → spent weights a ≡ degree
          → IsListed weights entries (length weights) degree y
      by a e c t = record {
        exponents = a;
        columns = c;
        takes = subst (λ (ws : List ℕ). spent ws a ≡ degree) (sym (all weights)) t;
        agrees = drop_all (length weights) a (omega (arith, c)) ∙ sym (drop_all (length weights) entries (omega (arith, columns)));
        same = tail.same ∙ (ap (λ (x : List ℤ). monomial_point (drop 1 x)) (sym e) ∙ points a);
      }
        where
          points : (b : List ℕ) → monomial_point (drop 1 (map pos b)) ≡ tail_of b
          points [] = refl
          points (n ∷ b) = sym (lowered_point b)

-- the weights take their sum
pub sum_taken : (weights : List ℕ) (degree : ℕ) → total weights ≡ degree → CanTake (take (length weights) weights) degree
sum_taken weights degree e = subst (λ (ws : List ℕ). CanTake ws degree) (sym (all weights)) (_, takes_ones weights ∙ e)

-- the list that begins with nothing has exactly the tails
pub tails_are : (weights entries : List ℕ) (degree : ℕ) (old new : List (List ℤ)) → 1 < length weights → All (λ w. 1 ≤ w) weights
    → total weights ≡ degree → length entries ≡ length weights → old ≡ [] → AddsEach (IsListed weights entries (length weights) degree) old new
    → HasTails (length weights - 1) (system_of degree weights) new
tails_are weights entries degree old new some positive sum columns none added = record {
  some = omega (arith, some);
  positive = positive;
  summed = record { columns = omega (arith, some); sum = sum; positive = rw (sym sum) (total_positive weights (each_from_all _ weights positive) some) };
  members = λ y. (λ c. from ((added y).0 c), λ t. (added y).1 (inr (listed_from_tail weights entries degree y (omega (arith, some)) columns t)));
}
  where
    total_positive : (ws : List ℕ) → Each (λ w. 1 ≤ w) ws → 1 < length ws → 1 ≤ total ws
    total_positive [] h l = absurd (omega (arith, l))
    total_positive (w ∷ ws) (more h rest) l = omega (arith, h)

    from : {y : List ℤ} → Contains old y ⊎ IsListed weights entries (length weights) degree y → IsTail (system_of degree weights) y
    from {y = y} (inl (k, h, e)) = absurd (let h' = rw none at h in omega (arith, h'))
    from {y = y} (inr l) = tail_from_listed weights entries degree y (omega (arith, some)) l
