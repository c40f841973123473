-- From one run of points to the next.
use Rattle.std.specs.Prelude.{ℤ, ◌<ℤ◌}
use Rattle.std.proofs.Common.{◌≡◌, ◌⊎◌, inl, inr, ℕ, suc, ◌+◌, ◌≤◌, true, false, List, [], ◌∷◌, ◌++◌, length, take, ap, ◌∙◌, arith}
use Rattle.std.proofs.lemmas.Int.{ints}
use Rattle.lattice_theory.specs.Affine.{Affine}
use Rattle.lattice_theory.specs.Order.{LexLess}
use Rattle.lattice_theory.specs.Vector.{entry}
use Rattle.lattice_theory.specs.Grid.{IsNext}
use Rattle.region_walk.specs.Regions.{IsInside, AreLevels}
use Rattle.region_walk.specs.steps.Beginnings.{Begins, IsFrom, IsOpen, IsBeginning, IsRunOf, HasNoneFrom, Steps}
use Rattle.region_walk.specs.steps.Looks.{FindsRun}
use Rattle.region_walk.proofs.Starts.{less_cases, less_from_append, GoesBeyond}
use Rattle.region_walk.proofs.Openings.{none_beyond}
use Rattle.region_walk.proofs.Steps.{raised_open, raised_later, raised_length, beyond_raised}

module _ (low high : List ℤ) (levels : List (List Affine)) (sound : AreLevels low high levels) (p ends : List ℤ)
    (opened : IsOpen low high levels p ends) (least most : ℤ) (run : IsRunOf low high levels p least most) where
  -- what comes after the run's last point goes beyond p
  beyond_last : (y : List ℤ) → IsInside low high levels y → LexLess (p ++ most ∷ []) y → (j : ℕ) × GoesBeyond p y j
  beyond_last y inside less = by (less_cases p y most less)
    where
      by : ((j : ℕ) × GoesBeyond p y j) ⊎ (Begins p y × (most <ℤ entry y (length p))) → (j : ℕ) × GoesBeyond p y j
      by (inl g) = g
      by (inr k) = let last = (run.only y inside k.0).1 in let more = k.1 in absurd (omega (arith, ints))

  -- where no step is left, nothing does
  pub none_after : (q q_ends : List ℤ) → Steps p ends q q_ends false → (y : List ℤ) → IsInside low high levels y → LexLess (p ++ most ∷ []) y → ⊥
  none_after q q_ends top y inside less =
      let g = beyond_last y inside less in none_beyond low high levels sound p ends opened top y inside g.0 g.1

  module _ (q q_ends : List ℤ) (steps : Steps p ends q q_ends true) where
    -- a step gives a beginning
    pub step_begins : IsBeginning low high levels q q_ends
    step_begins =
        let i = steps.0 in
        let s = steps.1 in
        let one_more : i + 1 ≡ suc i = omega arith in
        let ends_are = s.ends_are ∙ ap (λ (n : ℕ). take n ends) one_more in
        let longer = raised_length low high levels sound p ends opened i s.within s.room s.behind in
        rw (s.entries_are, ends_are) (record {
          opened = raised_open low high levels sound p ends opened i s.within s.room s.behind;
          short = let w = s.within in let e = run.coordinates in omega (arith, longer);
        })

    -- from which all further points are
    after_step : (y : List ℤ) → IsInside low high levels y → LexLess (p ++ most ∷ []) y → IsFrom q y
    after_step y inside less =
        let g = beyond_last y inside less in
        let s = steps.1 in
        let long : length p ≤ length y = let e = inside.inside.low_dimension in let d = run.coordinates in omega arith in
        rw s.entries_are (beyond_raised low high levels sound p ends opened steps.0 s.within s.room s.behind y inside long g.0 g.1)

    -- so the first run from there on begins with the next point
    pub run_next : (r r_ends : List ℤ) (l m : ℤ) → FindsRun low high levels q r r_ends l m
        → IsNext (IsInside low high levels) (p ++ most ∷ []) (r ++ l ∷ [])
    run_next r r_ends l m found =
        let s = steps.1 in
        let later : LexLess p q = rw s.entries_are (raised_later low high levels sound p ends opened steps.0 s.within s.room s.behind) in
        record {
          holds = found.run.inside l (omega (arith, ints), found.run.ordered);
          later = less_from_append p q (most ∷ []) (r ++ l ∷ []) later found.from;
          first = λ z inside less. found.first z inside (after_step z inside less);
        }

    pub none_next : HasNoneFrom low high levels q → (y : List ℤ) → IsInside low high levels y → LexLess (p ++ most ∷ []) y → ⊥
    none_next none y inside less = none y inside (after_step y inside less)
