-- A counter that visits a point.
use Rattle.std.proofs.Common.{◌≡◌, ℕ, zero, suc, ◌-◌, true, List, length, refl, sym, ap, ◌∙◌, subst, arith}
use Rattle.std.specs.Prelude.{ℤ}
use Rattle.lattice_theory.specs.Affine.{Affine}
use Rattle.base_counts.specs.Visited.{AreWithin, IsFar, IsTightAt}
use Rattle.base_counts.proofs.Visited.{have_parts}
use Rattle.dilate_counts.specs.Classes.{IsClear, StayLow, AreTotalsRaised}
use Rattle.dilate_counts.specs.Counters.{AreSets, AreBelow, CounterState, IsCounter, IsVisit}
use Rattle.dilate_counts.proofs.Raised.{point_raised, point_passed}

-- one point fewer may come
one_fewer : (left : ℕ) → (left ≡ 0 → ⊥) → left ≡ suc (left - 1)
one_fewer zero some = absurd (some (omega arith))
one_fewer (suc n) some = omega arith

module _ (n r : ℕ) (vs : List Affine) (many : ℕ) (rows : List (List ℕ)) (row_words : ℕ) (classes : List (List ℕ)) (seen counts : List ℕ) (left : ℕ)
    (c : IsCounter n r vs many rows row_words classes seen counts left) (some : left ≡ 0 → ⊥) where
  abbrev before : CounterState
  before = record { dim = n; parts = r; vectors = vs; rows = rows; classes = classes; seen = seen; counts = counts; left = left }

  low : (old new : List ℕ) → AreBelow left old → StayLow old new → AreBelow (left - 1) new
  low old new b stay = stay (left - 1) (subst (λ (q : ℕ). AreBelow q old) (one_fewer left some) b)

  -- what holds of the counter still does
  pub counter_on : (s words width : ℕ) (now : List (List ℕ)) (first next seen' from to counts' : List ℕ) → s ≡ r → words ≡ many → width ≡ row_words
      → first ≡ seen → from ≡ counts → seen' ≡ next → counts' ≡ to → length next ≡ length first → length to ≡ length from
      → (IsClear classes first → IsClear now next) → StayLow first next → StayLow from to → IsCounter n s vs words rows width now seen' counts' (left - 1)
  counter_on s words width now first next seen' from to counts' e f g a b i j places whole clear seen_low counts_low = record {
    sets = subst (λ (q : ℕ). AreSets n q vs words rows) (sym e) (subst (λ (q : ℕ). AreSets n r vs q rows) (sym f) c.sets);
    row = f ∙ c.row ∙ sym g;
    whole = ap length j ∙ whole ∙ ap length b ∙ c.whole;
    places = ap length i ∙ places ∙ ap length a ∙ c.places;
    clear = subst (IsClear now) (sym i) (clear (subst (IsClear classes) (sym a) c.clear));
    below = subst (AreBelow (left - 1)) (sym j) (low from to (subst (AreBelow left) (sym b) c.below) counts_low);
    seen_below = subst (AreBelow (left - 1)) (sym i) (low first next (subst (AreBelow left) (sym a) c.seen_below) seen_low);
  }

  module _ (x : List ℤ) (dimension : length x ≡ n) where
    -- the visit counts the point
    pub visited : (s : ℕ) (now : List (List ℕ)) (first next seen' from to counts' tight words : List ℕ) (degree : ℕ) → s ≡ r → first ≡ seen → from ≡ counts
        → seen' ≡ next → counts' ≡ to → words ≡ tight → length to ≡ length from → IsTightAt r vs x degree tight
        → ((width : ℕ) → AreWithin width rows → IsClear classes first → AreTotalsRaised rows words degree classes first from now next to)
        → IsVisit before x true (record { dim = n; parts = s; vectors = vs; rows = rows; classes = now; seen = seen'; counts = counts'; left = left - 1 })
    visited s now first next seen' from to counts' tight words degree e a b i j t whole at raised = (
      record { dim = refl; parts = e; vectors = refl; rows = refl; whole = ap length j ∙ whole ∙ ap length b },
      point_raised n r vs (have_parts n r vs c.sets.of_parts) x dimension rows degree tight classes now seen seen' counts counts' at c.sets.within
          (subst (λ (q : List ℕ). AreTotalsRaised rows q degree classes seen counts now seen' counts') t
          (subst (λ (q : List ℕ). AreTotalsRaised rows words degree classes q counts now seen' counts') a
          (subst (λ (q : List ℕ). AreTotalsRaised rows words degree classes first q now seen' counts') b
          (subst (λ (q : List ℕ). AreTotalsRaised rows words degree classes first from now q counts') (sym i)
          (subst (λ (q : List ℕ). AreTotalsRaised rows words degree classes first from now next q) (sym j)
          (raised (length vs) c.sets.within (subst (IsClear classes) (sym a) c.clear))))))),
      one_fewer left some,
    )

    -- a point whose degree isn't told apart changes no number
    pub passed_by : (s : ℕ) → s ≡ r → IsFar r vs x
        → IsVisit before x true (record { dim = n; parts = s; vectors = vs; rows = rows; classes = classes; seen = seen; counts = counts; left = left - 1 })
    passed_by s e far = (
      record { dim = refl; parts = e; vectors = refl; rows = refl; whole = refl },
      point_passed n r vs (have_parts n r vs c.sets.of_parts) x dimension rows classes seen counts far,
      one_fewer left some,
    )
