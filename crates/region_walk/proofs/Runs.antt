-- What a walk through a region has found: all its points before the run where it stands, and up to the run's last one.
use Rattle.std.specs.Prelude.{ℤ, pos, negsuc, ◌+ℤ◌, ◌-ℤ◌, ◌≤ℤ◌, ◌<ℤ◌, nat_abs}
use Rattle.std.proofs.Common.{◌≡◌, ◌⊎◌, inl, inr, ℕ, zero, suc, ◌+◌, ◌^◌, ◌<◌, ◌≤◌, List, [], ◌∷◌, ◌++◌, length, refl, sym, ap, subst, ◌∙◌, arith, length-append}
use Rattle.std.proofs.lemmas.List.{append_assoc}
use Rattle.std.proofs.lemmas.Int.{ints}
use Rattle.lattice_theory.specs.Affine.{Affine}
use Rattle.lattice_theory.specs.Order.{LexLess, Lists}
use Rattle.lattice_theory.specs.Size.{absolute_sum}
use Rattle.lattice_theory.specs.Vector.{entry}
use Rattle.lattice_theory.specs.Grid.{LexAtMost, IsNext, natural_part, grid, behind}
use Rattle.lattice_theory.proofs.GridLists.{grid_lists}
use Rattle.lattice_theory.proofs.LexPlaces.{not_at_most, at_most_less}
use Rattle.lattice_theory.proofs.LexWalks.{AreBefore, AreUpTo, none_before, one_more, moved_on, all_found, found_first, behind_less}
use Rattle.lattice_theory.proofs.Members.{in_from_contains}
use Rattle.region_walk.specs.Regions.{IsInside, AreLevels}
use Rattle.region_walk.specs.Walks.{run_from}
use Rattle.region_walk.specs.steps.Beginnings.{IsRunOf}
use Rattle.region_walk.specs.steps.Spans.{IsBetween}

-- of two vectors that differ in their last coordinate the one with less comes first, and nothing of their length is between neighbours
push_less : (p : List ℤ) (v w : ℤ) → v <ℤ w → LexLess (p ++ v ∷ []) (p ++ w ∷ [])
push_less [] v w h = inl h
push_less (a ∷ p) v w h = inr (refl, push_less p v w h)

push_next : (p z : List ℤ) (v w : ℤ) → w ≡ v +ℤ pos 1 → length z ≡ length p + 1 → LexLess (p ++ v ∷ []) z → LexAtMost (p ++ w ∷ []) z
push_next [] [] v w e l h = absurd h
push_next [] (b ∷ []) v w e l (inl h) = by (order w b (omega (arith, ints, h)))
  where
    order : (w b : ℤ) → w ≤ℤ b → (w <ℤ b) ⊎ (w ≡ b)
    order w b h = grind (arith, ints)

    by : (w <ℤ b) ⊎ (w ≡ b) → LexAtMost (w ∷ []) (b ∷ [])
    by (inl m) = inl (inl m)
    by (inr s) = inr (λ i. s i ∷ [])
push_next [] (b ∷ []) v w e l (inr h) = absurd h.1
push_next [] (b ∷ c ∷ z) v w e l h = absurd (omega arith)
push_next (a ∷ p) [] v w e l h = absurd h
push_next (a ∷ p) (b ∷ z) v w e l (inl h) = inl (inl h)
push_next (a ∷ p) (b ∷ z) v w e l (inr h) = by (push_next p z v w e (omega arith) h.1)
  where
    by : LexAtMost (p ++ w ∷ []) z → LexAtMost (a ∷ (p ++ w ∷ [])) (b ∷ z)
    by (inl m) = inl (inr (h.0, m))
    by (inr s) = inr (λ i. h.0 i ∷ s i)

-- a list has so many points
pub length-run_from : (p : List ℤ) (v : ℤ) (k : ℕ) → length (run_from p v k) ≡ k
unfolding run_from
length-run_from p v zero = refl
length-run_from p v (suc k) = ap suc (length-run_from p (v +ℤ pos 1) k)

-- no entry is larger than the sum
entry_small : (x : List ℤ) (i : ℕ) → nat_abs (entry x i) ≤ absolute_sum x
entry_small [] i = omega arith
entry_small (a ∷ x) zero = omega arith
entry_small (a ∷ x) (suc i) = let h = entry_small x i in omega arith

module _ (low high : List ℤ) (levels : List (List Affine)) (sound : AreLevels low high levels) (p : List ℤ) (least most : ℤ)
    (run : IsRunOf low high levels p least most) where
  -- the values of a run's last coordinate are small
  value_small : (v : ℤ) → IsBetween least most v → nat_abs v ≤ 2 ^ 33
  value_small v b =
      let inside = (run.inside v b).inside in
      let longer = length-append p (v ∷ []) in
      let w = inside.within (length p) (omega (arith, longer)) in
      let is = last p v in
      let l = entry_small low (length p) in
      let h = entry_small high (length p) in
      let small_low = sound.small_low in
      let small_high = sound.small_high in
      let below = w.0 in
      let above = w.1 in
      omega (arith, ints)
    where
      last : (p : List ℤ) (v : ℤ) → entry (p ++ v ∷ []) (length p) ≡ v
      last [] v = refl
      last (a ∷ p) v = last p v

  pub least_small : nat_abs least ≤ 2 ^ 33
  least_small = value_small least (omega (arith, ints), run.ordered)

  pub most_small : nat_abs most ≤ 2 ^ 33
  most_small = value_small most (run.ordered, omega (arith, ints))

  -- the number of values
  pub run_count : length (run_from p least (natural_part (most +ℤ pos 1 -ℤ least))) ≡ nat_abs (most -ℤ least) + 1
  run_count = length-run_from p least (natural_part (most +ℤ pos 1 -ℤ least)) ∙ parts (most +ℤ pos 1 -ℤ least) refl
    where
      parts : (d : ℤ) → d ≡ most +ℤ pos 1 -ℤ least → natural_part d ≡ nat_abs (most -ℤ least) + 1
      parts (pos n) e = let o = run.ordered in omega (arith, ints)
      parts (negsuc n) e = let o = run.ordered in absurd (omega (arith, ints))

  -- the points of the region, up to the end of the run
  module _ (n : ℕ) (dimension : length low ≡ n) where
    columns : (y : List ℤ) → IsInside low high levels y → length y ≡ n
    columns y h = sym h.inside.low_dimension ∙ dimension

    run_length : (v : ℤ) → length (p ++ v ∷ []) ≡ n
    run_length v = let e = run.coordinates in omega (arith, length-append p (v ∷ []))

    -- so many of the run's points from v on are found, too
    found_from : (k : ℕ) (v : ℤ) (found : List (List ℤ)) → least ≤ℤ v → most ≡ v +ℤ pos k → AreBefore (IsInside low high levels) (p ++ v ∷ []) found
        → AreUpTo (IsInside low high levels) (p ++ most ∷ []) (found ++ run_from p v (suc k))
    unfolding run_from
    found_from zero v found above e before =
        let same : most ≡ v = omega (arith, ints) in
        let one = one_more (IsInside low high levels) (p ++ v ∷ []) found before (run.inside v (above, omega (arith, ints))) in
        rw same one
    found_from (suc k) v found above e before =
        let P = IsInside low high levels in
        let one = one_more P (p ++ v ∷ []) found before (run.inside v (above, omega (arith, ints))) in
        let next : IsNext P (p ++ v ∷ []) (p ++ (v +ℤ pos 1) ∷ []) = record {
          holds = run.inside (v +ℤ pos 1) (omega (arith, ints), omega (arith, ints));
          later = push_less p v (v +ℤ pos 1) (omega (arith, ints));
          first = λ z inside less. push_next p z v (v +ℤ pos 1) refl (let d = columns z inside in let c = run.coordinates in omega arith) less;
        } in
        let before' = moved_on P n columns P (λ z h. h) (p ++ v ∷ []) (p ++ (v +ℤ pos 1) ∷ []) (found ++ (p ++ v ∷ []) ∷ []) (run_length v) one next in
        let rest = found_from k (v +ℤ pos 1) (found ++ (p ++ v ∷ []) ∷ []) (omega (arith, ints)) (omega (arith, ints)) before' in
        subst (AreUpTo P (p ++ most ∷ [])) (append_assoc found ((p ++ v ∷ []) ∷ []) (run_from p (v +ℤ pos 1) (suc k))) rest

    pub run_found : (found : List (List ℤ)) → AreBefore (IsInside low high levels) (p ++ least ∷ []) found
        → AreUpTo (IsInside low high levels) (p ++ most ∷ []) (found ++ run_from p least (natural_part (most +ℤ pos 1 -ℤ least)))
    run_found found before = by (most -ℤ least) refl
      where
        by : (d : ℤ) → d ≡ most -ℤ least
            → AreUpTo (IsInside low high levels) (p ++ most ∷ []) (found ++ run_from p least (natural_part (most +ℤ pos 1 -ℤ least)))
        by (pos k) e =
            let count : most +ℤ pos 1 -ℤ least ≡ pos (suc k) = omega (arith, ints) in
            subst (λ (z : ℤ). AreUpTo (IsInside low high levels) (p ++ most ∷ []) (found ++ run_from p least (natural_part z))) (sym count)
            (found_from k least found (omega (arith, ints)) (omega (arith, ints)) before)
        by (negsuc k) e = let o = run.ordered in absurd (omega (arith, ints))

    -- a step leaves less behind
    pub fewer_behind : (x : List ℤ) → IsNext (IsInside low high levels) (p ++ most ∷ []) x
        → length (behind x (grid low high)) < length (behind (p ++ least ∷ []) (grid low high))
    fewer_behind x next =
        behind_less (p ++ least ∷ []) x (grid low high) (at_most_less (p ++ least ∷ []) (p ++ most ∷ []) x (first_last (order least most run.ordered)) next.later)
        (in_from_contains (grid low high) (((grid_lists low high (sym sound.high_dimension)).members x).1 next.holds.inside))
      where
        order : (a b : ℤ) → a ≤ℤ b → (a <ℤ b) ⊎ (a ≡ b)
        order a b h = grind (arith, ints)

        first_last : (least <ℤ most) ⊎ (least ≡ most) → LexAtMost (p ++ least ∷ []) (p ++ most ∷ [])
        first_last (inl h) = inl (push_less p least most h)
        first_last (inr e) = inr (ap (λ (z : ℤ). p ++ z ∷ []) e)

    -- at the next run all points before it are found
    pub next_before : (x : List ℤ) (found : List (List ℤ)) → AreUpTo (IsInside low high levels) (p ++ most ∷ []) found
        → IsNext (IsInside low high levels) (p ++ most ∷ []) x → AreBefore (IsInside low high levels) x found
    next_before x found up_to next =
        moved_on (IsInside low high levels) n columns (IsInside low high levels) (λ z h. h) (p ++ most ∷ []) x found (run_length most) up_to next

    -- where there is none, all points are found
    pub none_left : (found : List (List ℤ)) → AreUpTo (IsInside low high levels) (p ++ most ∷ []) found
        → ((z : List ℤ) → IsInside low high levels z → LexLess (p ++ most ∷ []) z → ⊥) → Lists LexLess (IsInside low high levels) found
    none_left found up_to none =
        all_found (IsInside low high levels) n columns (p ++ most ∷ []) found (run_length most) up_to none

    -- what is found is no more than all
    pub found_within : (found all : List (List ℤ)) → AreUpTo (IsInside low high levels) (p ++ most ∷ []) found
        → Lists LexLess (IsInside low high levels) all → length found ≤ length all
    found_within found all up_to lists =
        let split = found_first (IsInside low high levels) n columns (p ++ most ∷ []) found all (run_length most) up_to lists in
        let l = ap length split ∙ length-append found (behind (p ++ most ∷ []) all) in
        omega (arith, l)

-- at the first run nothing is found yet
pub first_before : (P : List ℤ → Type 0) (x : List ℤ) → ((y : List ℤ) → P y → LexAtMost x y) → AreBefore P x []
first_before P x first = none_before P x (λ y h less. not_at_most y x less (first y h))
