-- The numbers of all sets, as they are summed set by set.
use Rattle.std.proofs.Common.{◌≡◌, ◌⊎◌, inl, inr, ℕ, suc, ◌+◌, ◌*◌, ◌<◌, ◌≤◌, List, length, refl, sym, ◌∙◌, subst, arith}
use Rattle.std.specs.List.{All}
use Rattle.std.proofs.lemmas.Bool.{cases_eq, cases_lt}
use Rattle.std.proofs.lemmas.List.Elements.{All-contains, Contains-get_or}
use Rattle.base_counts.specs.Counting.{set_at, count_at}
use Rattle.cone_counts.specs.CountSteps.{IsSummed, IsWithinNumber, IsSummedWithin, AreSummed}
use Rattle.cayley_theory.proofs.Summed.{summed_same}

-- the numbers of the first sets are summed, and the others are as before
pub record AreSummedTo (masks rows : List (List ℕ)) (i : ℕ) (old new : List ℕ) : Type 0 where
  pub done : (k : ℕ) → k < i → IsSummedWithin masks (set_at rows k) (count_at old k) (count_at new k)
  pub behind : (k l : ℕ) → i ≤ k → l < 7 → count_at new k l ≡ count_at old k l

pub none_done : (masks rows : List (List ℕ)) (old : List ℕ) → AreSummedTo masks rows 0 old old
none_done masks rows old = record { done = λ k h. absurd (omega (arith, h)); behind = λ k l h m. refl }

pub all_done : (masks rows : List (List ℕ)) (i : ℕ) (old new : List ℕ) → length rows ≤ i → AreSummedTo masks rows i old new
    → AreSummed masks rows old new
all_done masks rows i old new h a k l = a.done k (omega (arith, h, l))

-- numbers of rows of 7 are those of the list
pub small_at : (counts : List ℕ) (many b : ℕ) → length counts ≡ many * 7 → All (λ count. count ≤ b) counts → (k l : ℕ) → k < many → l < 7
    → count_at counts k l ≤ b
small_at counts many b e all k l h m = All-contains (λ count. count ≤ b) counts (count_at counts k l) all
    (Contains-get_or counts (k * 7 + l) 0 (let s : suc k * 7 ≤ many * 7 = omega (arith, h) in omega (arith, s, e, m)))

module _ (masks rows : List (List ℕ)) (i : ℕ) (old now new : List ℕ) (a : AreSummedTo masks rows i old now) where
  pub done_one : (times : ℕ) → IsWithinNumber (set_at rows i) masks times → IsSummed times i now new → AreSummedTo masks rows (i + 1) old new
  done_one times n s = record {
    done = done;
    behind = λ k l h m. s.others k l (λ e. absurd (omega (arith, h, e))) m ∙ a.behind k l (omega (arith, h)) m;
  }
    where
      here : IsSummedWithin masks (set_at rows i) (count_at old i) (count_at new i)
      here = record {
        times = times;
        within = n;
        sums = λ l m. s.sums l m ∙ summed_same times (count_at now i) (count_at old i) l (λ j k. a.behind i j (omega arith) (omega (arith, k, m)));
      }

      same : (k : ℕ) → (k ≡ i → ⊥) → IsSummedWithin masks (set_at rows k) (count_at old k) (count_at now k)
          → IsSummedWithin masks (set_at rows k) (count_at old k) (count_at new k)
      same k d f = record { times = f.times; within = f.within; sums = λ l m. s.others k l d m ∙ f.sums l m }

      done : (k : ℕ) → k < i + 1 → IsSummedWithin masks (set_at rows k) (count_at old k) (count_at new k)
      done k h = by (cases_eq k i) (cases_lt k i)
        where
          by : (k ≡ i) ⊎ (k ≡ i → ⊥) → (k < i) ⊎ (i ≤ k) → IsSummedWithin masks (set_at rows k) (count_at old k) (count_at new k)
          by (inl e) c = subst (λ (j : ℕ). IsSummedWithin masks (set_at rows j) (count_at old j) (count_at new j)) (sym e) here
          by (inr d) (inl l) = same k d (a.done k l)
          by (inr d) (inr l) = absurd (d (omega (arith, h, l)))
