-- Points that a counter visited are counted.
use Rattle.std.proofs.Common.{◌≡◌, ◌⊎◌, inl, inr, ℕ, suc, ◌+◌, ◌*◌, ◌/◌, ◌%◌, ◌<◌, ◌≤◌, Bool, true, false, List, [], ◌∷◌, ◌++◌, length, get_or, replicate, refl, sym, ap, ◌∙◌, subst, arith}
use Rattle.std.specs.Prelude.{ℤ}
use Rattle.std.proofs.lemmas.Nat.{div-add-mod'}
use Rattle.std.proofs.lemmas.List.{length-append}
use Rattle.std.proofs.lemmas.List.Elements.{All-from_get_or}
use Rattle.lattice_theory.specs.Affine.{Affine}
use Rattle.lattice_core.specs.Dimensions.{dimension_of}
use Rattle.point_scan.specs.Visits.{Visited, none, one_more, StopsWithin, VisitsDilate}
use Rattle.cayley_theory.specs.Bases.{Number}
use Rattle.base_counts.specs.Counting.{set_at, count_at}
use Rattle.base_counts.specs.Visited.{HasBaseOn, AreCountsOf}
use Rattle.base_counts.proofs.Visited.{counted_last, passed_last}
use Rattle.dilate_counts.specs.Classes.{AreShared, HaveFewTotals}
use Rattle.dilate_counts.specs.Counters.{CounterState, HasTotal, IsSameCounter, CountsPoint, IsVisit, HasCounted}
use Rattle.dilate_counts.specs.DilateCounts.{AreDilateCounts, HasFewPoints}
use Rattle.dilate_counts.proofs.Gathering.{gathered_is}
use Rattle.dilate_counts.proofs.Starts.{none_at_first, few_members}
use Rattle.dilate_counts.proofs.FirstCounter.{zeros_whole}

-- the same counter, over several visits
same_counter : (c : CounterState) → IsSameCounter c c
same_counter c = record { dim = refl; parts = refl; vectors = refl; rows = refl; whole = refl }

same_after : (a b c : CounterState) → IsSameCounter a b → IsSameCounter b c → IsSameCounter a c
same_after a b c s t = record {
  dim = t.dim ∙ s.dim;
  parts = t.parts ∙ s.parts;
  vectors = t.vectors ∙ s.vectors;
  rows = t.rows ∙ s.rows;
  whole = t.whole ∙ s.whole;
}

-- numbers that are those of some points are so with one more
more_counted : (before after : CounterState) (xs : List (List ℤ)) (x : List ℤ) → IsSameCounter before after → CountsPoint before x after
    → HasCounted before xs → HasCounted after (xs ++ x ∷ [])
more_counted before after xs x s one had k l h m = by (had k l within m)
  where
    within : k < length before.rows
    within = subst (λ (rows : List (List ℕ)). k < length rows) s.rows h

    On : List ℤ → Type 0
    On = HasBaseOn before.parts before.vectors before.rows k l

    as_after : (v : ℕ) → Number On (xs ++ x ∷ []) v → Number (HasBaseOn after.parts after.vectors after.rows k l) (xs ++ x ∷ []) v
    as_after v n = subst (λ (r : ℕ). Number (HasBaseOn r after.vectors after.rows k l) (xs ++ x ∷ []) v) (sym s.parts)
        (subst (λ (vs : List Affine). Number (HasBaseOn before.parts vs after.rows k l) (xs ++ x ∷ []) v) (sym s.vectors)
        (subst (λ (rows : List (List ℕ)). Number (HasBaseOn before.parts before.vectors rows k l) (xs ++ x ∷ []) v) (sym s.rows) n))

    next : (v : ℕ) → Number On xs v → (On x × HasTotal after k l (suc v)) ⊎ ((On x → ⊥) × HasTotal after k l v)
        → (w : ℕ) × HasTotal after k l w × Number (HasBaseOn after.parts after.vectors after.rows k l) (xs ++ x ∷ []) w
    next v n (inl c) = (suc v, c.1, as_after (suc v) (counted_last n c.0))
    next v n (inr c) = (v, c.1, as_after v (passed_last n c.0))

    by : (v : ℕ) × HasTotal before k l v × Number On xs v
        → (w : ℕ) × HasTotal after k l w × Number (HasBaseOn after.parts after.vectors after.rows k l) (xs ++ x ∷ []) w
    by p = next p.0 p.2 (one k l p.0 within m p.1)

-- what visits leave: the numbers of the points that were visited
pub record AreVisited (before : CounterState) (xs : List (List ℤ)) (after : CounterState) : Type 0 where
  pub same : IsSameCounter before after
  pub counted : HasCounted after xs
  pub left : before.left ≡ length xs + after.left

pub visited_counted : (before after : CounterState) (xs : List (List ℤ)) → HasCounted before [] → Visited IsVisit before xs after → AreVisited before xs after
visited_counted before _ _ start none = record { same = same_counter before; counted = start; left = omega arith }
visited_counted before after _ start (one_more xs x middle _ h step) = by (visited_counted before middle xs start h)
  where
    by : AreVisited before xs middle → AreVisited before (xs ++ x ∷ []) after
    by v = record {
      same = same_after before middle after v.same step.0;
      counted = more_counted middle after xs x step.0 step.1 v.counted;
      left = let a = v.left in let b = step.2 in let c = length-append xs (x ∷ []) in omega (arith, a, b, c);
    }

-- a counter that may count all points doesn't stop within them
never_stops : (before after : CounterState) (xs : List (List ℤ)) → HasCounted before [] → length xs ≤ before.left
    → StopsWithin IsVisit before xs after → ⊥
never_stops before after xs start few s =
    let v = visited_counted before s.middle s.front start s.visited in
    let left = v.left in
    let last = s.last in
    let whole = ap length s.whole ∙ length-append s.front (s.x ∷ s.rest) in
    absurd (omega (arith, left, last, whole, few))

-- so the points that it visits are those of a dilate
module _ (vertices : List (List ℤ)) (dilate : ℕ) (before after : CounterState) (few : HasFewPoints vertices dilate) where
  all_visited : (all : Bool) (v : VisitsDilate IsVisit (dimension_of vertices) vertices dilate before all after) → before.left ≡ 4194304
      → HasCounted before [] → AreVisited before v.lattice after
  all_visited true v most start = visited_counted before after v.lattice start v.taken
  all_visited false v most start =
      let fits = few v.lattice v.are_dilate_points in
      let room : length v.lattice ≤ before.left = omega (arith, fits, most) in
      absurd (never_stops before after v.lattice start room v.taken)

  module _ (all : Bool) (v : VisitsDilate IsVisit (dimension_of vertices) vertices dilate before all after) (most : before.left ≡ 4194304)
      (many : ℕ) (empty : before.classes ≡ []) (zeros : before.counts ≡ replicate (many * 7) 0) (size : many ≡ length before.rows) where
    start : HasCounted before []
    start = none_at_first before many empty zeros size

    few_total : (k l u : ℕ) → Number (HasBaseOn after.parts after.vectors after.rows k l) v.lattice u → u ≤ 4194304
    few_total k l u n =
        let small = few_members n in
        let fits = few v.lattice v.are_dilate_points in
        omega (arith, small, fits)

    pub few_totals : HaveFewTotals after.rows after.classes after.seen after.counts
    few_totals k l h m = let c = (all_visited all v most start).counted k l h m in (c.0, c.1, few_total k l c.0 c.2)

    module _ (counts : List ℕ) (shared : AreShared after.rows after.classes after.seen (length after.classes) after.counts counts)
        (same : length counts ≡ length after.counts) where
      count_is : (k l u : ℕ) → k < length after.rows → l < 7 → HasTotal after k l u → count_at counts k l ≡ u
      count_is k l u h m t =
          let s = shared k l h m in
          let gathered = gathered_is (set_at after.rows k) after.classes after.seen l (length after.classes) s.0 t.sum s.1 t.gathered in
          let a = s.2 in
          let b = t.total in
          omega (arith, gathered, a, b)

      pub are_counts : AreCountsOf after.parts after.vectors after.rows v.lattice counts
      are_counts k l h m =
          let c = (all_visited all v most start).counted k l h m in
          subst (Number (HasBaseOn after.parts after.vectors after.rows k l) v.lattice) (sym (count_is k l c.0 h m c.1)) c.2

      whole : length counts ≡ length after.rows * 7
      whole =
          let s = (all_visited all v most start).same in
          same ∙ s.whole ∙ zeros_whole many before.rows before.counts zeros size ∙ ap (λ (rows : List (List ℕ)). length rows * 7) (sym s.rows)

      small : (i : ℕ) → i < length counts → get_or counts i 0 ≤ 4194304
      small i h = subst (λ (j : ℕ). get_or counts j 0 ≤ 4194304) (div-add-mod' i 7) (at (i / 7) (i % 7) (omega (arith, h, whole)) (omega arith))
        where
          at : (k l : ℕ) → k < length after.rows → l < 7 → count_at counts k l ≤ 4194304
          at k l h m =
              let c = (all_visited all v most start).counted k l h m in
              let is = count_is k l c.0 h m c.1 in
              let few = few_total k l c.0 c.2 in
              omega (arith, is, few)

      after_counts : AreDilateCounts after.parts after.vectors after.rows vertices dilate counts
      after_counts = record {
        points = v.lattice;
        are_points = v.are_dilate_points;
        counts_are = are_counts;
        whole = whole;
        few = All-from_get_or (λ count. count ≤ 4194304) counts 0 small;
      }

      pub dilate_counted : (r : ℕ) → before.parts ≡ r → AreDilateCounts r before.vectors before.rows vertices dilate counts
      dilate_counted r e =
          let s = (all_visited all v most start).same in
          subst (λ (q : ℕ). AreDilateCounts q before.vectors before.rows vertices dilate counts) (s.parts ∙ e)
          (subst (λ (vs : List Affine). AreDilateCounts after.parts vs before.rows vertices dilate counts) s.vectors
          (subst (λ (rows : List (List ℕ)). AreDilateCounts after.parts after.vectors rows vertices dilate counts) s.rows after_counts))
