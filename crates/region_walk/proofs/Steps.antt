-- A beginning whose last coordinate that isn't at its end is raised by 1.
use Rattle.std.specs.Prelude.{ℤ, pos, ◌+ℤ◌, ◌≤ℤ◌, ◌<ℤ◌}
use Rattle.std.proofs.Common.{◌≡◌, ◌⊎◌, inl, inr, ℕ, zero, suc, ◌+◌, ◌<◌, ◌≤◌, List, [], ◌∷◌, ◌++◌, length, take, refl, sym, ap, ◌∙◌, arith, length-append}
use Rattle.std.proofs.lemmas.Bool.{cases_lt}
use Rattle.std.proofs.lemmas.Int.{ints}
use Rattle.lattice_theory.specs.Affine.{Affine}
use Rattle.lattice_theory.specs.Vector.{entry}
use Rattle.lattice_theory.specs.Order.{LexLess}
use Rattle.lattice_theory.proofs.Vectors.{entry_before, entry_last}
use Rattle.region_walk.specs.Regions.{IsInside, AreLevels}
use Rattle.region_walk.specs.steps.Beginnings.{MeetsLevel, Begins, IsFrom, IsOpen, IsFurther}
use Rattle.region_walk.specs.steps.Spans.{IsBetween}
use Rattle.region_walk.proofs.Starts.{less_from, from_cases, beyond_from, from_push, GoesBeyond}
use Rattle.region_walk.proofs.Openings.{length_take, take_push, take_whole, beyond_ends}

-- it comes after the old one
raised_less : (i : ℕ) (p : List ℤ) → i < length p → LexLess p (take i p ++ (entry p i +ℤ pos 1) ∷ [])
raised_less i [] l = absurd (omega arith)
raised_less zero (a ∷ p) l = inl (omega (arith, ints))
raised_less (suc i) (a ∷ p) l = inr (refl, raised_less i p (omega arith))

-- the first entries of the first entries
take_take : (j i : ℕ) (p : List ℤ) → j ≤ i → take j (take i p) ≡ take j p
take_take zero zero [] l = refl
take_take zero zero (a ∷ p) l = refl
take_take zero (suc i) [] l = refl
take_take zero (suc i) (a ∷ p) l = refl
take_take (suc j) zero p l = absurd (omega arith)
take_take (suc j) (suc i) [] l = refl
take_take (suc j) (suc i) (a ∷ p) l = ap (λ (z : List ℤ). a ∷ z) (take_take j i p (omega arith))

take_entry_at : (j i : ℕ) (p : List ℤ) → j < i → entry (take i p) j ≡ entry p j
take_entry_at j zero p l = absurd (omega arith)
take_entry_at j (suc i) [] l = refl
take_entry_at zero (suc i) (a ∷ p) l = refl
take_entry_at (suc j) (suc i) (a ∷ p) l = take_entry_at j i p (omega arith)

module _ (low high : List ℤ) (levels : List (List Affine)) (sound : AreLevels low high levels) (p ends : List ℤ)
    (opened : IsOpen low high levels p ends) (i : ℕ) (within : i < length p) (room : entry p i <ℤ entry ends i)
    (behind : (k : ℕ) → i < k → k < length p → entry ends k ≤ℤ entry p k) where
  abbrev pub raised : List ℤ
  raised = take i p ++ (entry p i +ℤ pos 1) ∷ []

  abbrev pub raised_ends : List ℤ
  raised_ends = take (suc i) ends

  pub raised_length : length raised ≡ i + 1
  raised_length = length-append (take i p) ((entry p i +ℤ pos 1) ∷ []) ∙ ap (λ n. n + 1) (length_take i p (omega arith))

  entry_same : (j : ℕ) → j < i → entry raised j ≡ entry p j
  entry_same j l = entry_before (take i p) (entry p i +ℤ pos 1) j (let e = length_take i p (omega arith) in omega arith) ∙ take_entry_at j i p l

  entry_raised : entry raised i ≡ entry p i +ℤ pos 1
  entry_raised = entry_last (take i p) (entry p i +ℤ pos 1) i (length_take i p (omega arith))

  end_same : (j : ℕ) → j < suc i → entry raised_ends j ≡ entry ends j
  end_same j l = take_entry_at j (suc i) ends l

  start_same : (j : ℕ) → j ≤ i → take j raised ≡ take j p
  start_same j l = by (cases_lt j i)
    where
      by : (j < i) ⊎ (i ≤ j) → take j raised ≡ take j p
      by (inl h) = take_push j (take i p) (entry p i +ℤ pos 1) (let e = length_take i p (omega arith) in omega arith) ∙ take_take j i p l
      by (inr h) =
          let same : j ≡ i = omega arith in
          let e = length_take i p (omega arith) in
          rw (same, sym e) (rw e (ap (λ n. take n raised) (sym e) ∙ take_whole (take i p) (entry p i +ℤ pos 1)))

  at_or_before : (j : ℕ) → j < i + 1 → (j < i) ⊎ (j ≡ i)
  at_or_before j l = grind arith

  pub raised_open : IsOpen low high levels raised raised_ends
  raised_open = record {
    same_length = let e = opened.same_length in let r = raised_length in let t = length_take (suc i) ends (omega arith) in omega arith;
    ordered = λ j l. ordered j (at_or_before j (let r = raised_length in omega arith));
    meets = λ j l. meets j (at_or_before j (let r = raised_length in omega arith));
    last = λ j l y inside begins.
        let r = raised_length in
        let short : j ≤ i = omega arith in
        rw (end_same j (omega arith)) (opened.last j (omega arith) y inside (rw (start_same j short) at begins));
  }
    where
      ordered : (j : ℕ) → (j < i) ⊎ (j ≡ i) → entry raised j ≤ℤ entry raised_ends j
      ordered j (inl l) = rw (entry_same j l, end_same j (omega arith)) (opened.ordered j (omega arith))
      ordered j (inr e) = rw (e, entry_raised, end_same i (omega arith)) (omega (arith, ints, room))

      meets : (j : ℕ) → (j < i) ⊎ (j ≡ i) → (v : ℤ) → IsBetween (entry raised j) (entry raised_ends j) v
          → MeetsLevel low high levels j (take j raised ++ v ∷ [])
      meets j (inl l) v b =
          rw (start_same j (omega arith)) (opened.meets j (omega arith) v (rw (entry_same j l, end_same j (omega arith)) at b))
      meets j (inr e) v b =
          let c = rw (e, entry_raised, end_same i (omega arith)) at b in
          rw (e, start_same i (omega arith)) (opened.meets i within v (omega (arith, ints, c.0), c.1))

  -- a vector of the region that goes beyond the old one is from the new one on
  pub beyond_raised : (y : List ℤ) → IsInside low high levels y → length p ≤ length y → (j : ℕ) → GoesBeyond p y j → IsFrom raised y
  beyond_raised y inside long j g = by (cases_lt j i) (cases_lt i j)
    where
      by : (j < i) ⊎ (i ≤ j) → (i < j) ⊎ (j ≤ i) → IsFrom raised y
      by (inl l) t = let r = raised_length in beyond_from raised y j (omega arith) (record {
        within = omega arith;
        alike = rw (start_same j (omega arith)) g.alike;
        more = rw (entry_same j l) g.more;
      })
      by (inr l) (inl m) =
          let less = beyond_ends low high levels sound p ends opened y inside j g in
          let most = behind j m g.within in
          absurd (omega (arith, ints))
      by (inr l) (inr m) =
          let same : j ≡ i = omega arith in
          let e = length_take i p (omega arith) in
          let more = rw same at g.more in
          let alike = rw same at g.alike in
          from_push (take i p) y (entry p i +ℤ pos 1) (omega arith) alike (rw e (omega (arith, ints, more)))

  -- so where none begins with the old one, all that are from it on are from the new one on
  pub raised_further : ((y : List ℤ) → IsInside low high levels y → Begins p y → ⊥) → length p ≤ length low → IsFurther low high levels p raised
  raised_further none short = record {
    later = λ y e h. less_from p raised y (raised_less i p within) h;
    all = λ y inside h. by y inside (from_cases p y h);
  }
    where
      by : (y : List ℤ) → IsInside low high levels y → Begins p y ⊎ ((j : ℕ) × GoesBeyond p y j) → IsFrom raised y
      by y inside (inl begins) = absurd (none y inside begins)
      by y inside (inr g) = beyond_raised y inside (let e = inside.inside.low_dimension in omega arith) g.0 g.1

  pub raised_later : LexLess p raised
  raised_later = raised_less i p within
