-- What a look at a beginning finds.
use Rattle.std.specs.Prelude.{ℤ, ◌≤ℤ◌}
use Rattle.std.proofs.Common.{◌≡◌, ◌⊎◌, inl, inr, ℕ, suc, ◌+◌, ◌<◌, true, false, List, [], ◌∷◌, ◌++◌, length, take, refl, ap, ◌∙◌, arith, length-append}
use Rattle.std.proofs.lemmas.Int.{ints}
use Rattle.lattice_theory.specs.Affine.{Affine}
use Rattle.lattice_theory.specs.Vector.{entry}
use Rattle.region_walk.specs.Regions.{IsInside, AreLevels}
use Rattle.region_walk.specs.steps.Beginnings.{MeetsLevel, Begins, IsBeginning, IsFurther, HasNoneFrom, Steps}
use Rattle.region_walk.specs.steps.Looks.{FindsRun, GoesFurther}
use Rattle.region_walk.specs.steps.Spans.{IsBetween}
use Rattle.region_walk.proofs.Starts.{from_cases, GoesBeyond}
use Rattle.region_walk.proofs.Openings.{inside_meets, open_between, push_open, push_further, none_beyond}
use Rattle.region_walk.proofs.Starts.{begins_is}
use Rattle.region_walk.proofs.Steps.{raised_open, raised_further, raised_later, raised_length}
use Rattle.region_walk.proofs.Measures.{later_ahead, push_ahead}

module _ (low high : List ℤ) (levels : List (List Affine)) (sound : AreLevels low high levels) (p ends : List ℤ)
    (beginning : IsBeginning low high levels p ends) where
  -- one coordinate more
  pub extended : (least most : ℤ) → least ≤ℤ most
      → ((v : ℤ) → (IsBetween least most v → MeetsLevel low high levels (length p) (p ++ v ∷ []))
      × (MeetsLevel low high levels (length p) (p ++ v ∷ []) → IsBetween least most v))
      → length (p ++ least ∷ []) < length low → (q q_ends : List ℤ) → q ≡ p ++ least ∷ [] → q_ends ≡ ends ++ most ∷ []
      → GoesFurther low high levels p q q_ends
  extended least most order span more q q_ends e f =
      let short = beginning.short in
      let opened = push_open low high levels sound p ends beginning.opened least most short order span in
      let further = push_further low high levels sound p ends beginning.opened least most short order span in
      let within = open_between low high levels sound (p ++ least ∷ []) (ends ++ most ∷ []) opened in
      let above = ((span least).0 (omega (arith, ints), order)).between in
      let value = entry_last_is p least in
      rw (e, f) (record {
        beginning = record { opened = opened; short = more };
        further = further;
        less = push_ahead low high sound.high_dimension sound.ordered p least short within (omega (arith, ints, above.0, value));
      })
    where
      entry_last_is : (p : List ℤ) (v : ℤ) → entry (p ++ v ∷ []) (length p) ≡ v
      entry_last_is [] v = refl
      entry_last_is (a ∷ p) v = entry_last_is p v

  -- where nothing extends the beginning, no vector of the region begins with it
  pub none_begins : ((v : ℤ) → MeetsLevel low high levels (length p) (p ++ v ∷ []) → ⊥) → (y : List ℤ) → IsInside low high levels y → Begins p y → ⊥
  none_begins none y inside begins =
      let within : length p < length y = let e = inside.inside.low_dimension in let s = beginning.short in omega arith in
      none (entry y (length p)) (rw (begins_is p y begins) at (inside_meets low high levels sound y inside (length p) within))

  -- so the next one is further on
  pub stepped : ((v : ℤ) → MeetsLevel low high levels (length p) (p ++ v ∷ []) → ⊥) → (q q_ends : List ℤ) → Steps p ends q q_ends true
      → GoesFurther low high levels p q q_ends
  stepped none q q_ends (i, s) =
      let short = beginning.short in
      let opened = raised_open low high levels sound p ends beginning.opened i s.within s.room s.behind in
      let longer = raised_length low high levels sound p ends beginning.opened i s.within s.room s.behind in
      let within = open_between low high levels sound _ _ opened in
      let one_more : i + 1 ≡ suc i = omega arith in
      let ends_are = s.ends_are ∙ ap (λ (n : ℕ). take n ends) one_more in
      rw (s.entries_are, ends_are) (record {
        beginning = record { opened = opened; short = let w = s.within in omega (arith, longer) };
        further = raised_further low high levels sound p ends beginning.opened i s.within s.room s.behind (none_begins none) (omega (arith, short));
        less = later_ahead low high sound.high_dimension sound.ordered p _ sound.most (let w = s.within in omega (arith, longer)) within
            (raised_later low high levels sound p ends beginning.opened i s.within s.room s.behind);
      })

  -- or there is none
  pub ended : ((v : ℤ) → MeetsLevel low high levels (length p) (p ++ v ∷ []) → ⊥) → (q q_ends : List ℤ) → Steps p ends q q_ends false
      → HasNoneFrom low high levels p
  ended none q q_ends top y inside h = by (from_cases p y h)
    where
      by : Begins p y ⊎ ((j : ℕ) × GoesBeyond p y j) → ⊥
      by (inl begins) = none_begins none y inside begins
      by (inr g) = none_beyond low high levels sound p ends beginning.opened top y inside g.0 g.1

-- what is known at the start of a search
pub further_itself : (low high : List ℤ) (levels : List (List Affine)) (p : List ℤ) → IsFurther low high levels p p
further_itself low high levels p = record { later = λ y e h. h; all = λ y inside h. h }

module _ (low high : List ℤ) (levels : List (List Affine)) (p q : List ℤ) (further : IsFurther low high levels p q) where
  -- what is further on than a beginning that is further on
  pub further_on : (r : List ℤ) → IsFurther low high levels q r → IsFurther low high levels p r
  further_on r more = record {
    later = λ y e h. further.later y e (more.later y e h);
    all = λ y inside h. more.all y inside (further.all y inside h);
  }

  -- a run that is the first one from there on
  pub run_from : (r ends : List ℤ) (least most : ℤ) → FindsRun low high levels q r ends least most → FindsRun low high levels p r ends least most
  run_from r ends least most found = record {
    opened = found.opened;
    run = found.run;
    from = further.later (r ++ least ∷ []) (let e = found.run.coordinates in omega (arith, length-append r (least ∷ []))) found.from;
    first = λ y inside h. found.first y inside (further.all y inside h);
  }

  -- or none
  pub none_from : HasNoneFrom low high levels q → HasNoneFrom low high levels p
  none_from none y inside h = none y inside (further.all y inside h)
