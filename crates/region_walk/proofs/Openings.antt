-- Beginnings whose coordinates meet their levels, and what the region has behind them.
use Rattle.std.specs.Prelude.{ℤ, ◌≤ℤ◌, ◌<ℤ◌, slice_index_or}
use Rattle.std.proofs.Common.{◌≡◌, ◌⊎◌, inl, inr, ℕ, zero, suc, ◌+◌, ◌<◌, ◌≤◌, List, [], ◌∷◌, ◌++◌, length, take, refl, sym, ap, ◌∙◌, arith, length-append}
use Rattle.std.proofs.lemmas.Int.{ints}
use Rattle.lattice_theory.specs.Affine.{Affine}
use Rattle.lattice_theory.specs.Vector.{entry}
use Rattle.lattice_theory.specs.Grid.{LexAtMost}
use Rattle.lattice_theory.proofs.Vectors.{entry_before, entry_last}
use Rattle.region_walk.specs.Regions.{level, IsInside, AreLevels}
use Rattle.region_walk.specs.steps.Beginnings.{MeetsLevel, Begins, IsFrom, IsOpen, IsFurther, IsRunOf}
use Rattle.region_walk.specs.steps.Spans.{IsBetween}
use Rattle.region_walk.proofs.Values.{value-take}
use Rattle.region_walk.proofs.Starts.{begins_is, from_push, push_from, from_cases, beyond_from, from_at_most, GoesBeyond}

-- the first k + 1 entries
pub take_entry : (k : ℕ) (x : List ℤ) → k < length x → take (suc k) x ≡ take k x ++ entry x k ∷ []
take_entry k [] l = absurd (omega arith)
take_entry zero (a ∷ x) l = refl
take_entry (suc k) (a ∷ x) l = ap (λ (z : List ℤ). a ∷ z) (take_entry k x (omega arith))

pub length_take : (k : ℕ) (x : List ℤ) → k ≤ length x → length (take k x) ≡ k
length_take zero [] l = refl
length_take zero (a ∷ x) l = refl
length_take (suc k) [] l = absurd (omega arith)
length_take (suc k) (a ∷ x) l = ap suc (length_take k x (omega arith))

-- a vector with one entry more
pub take_push : (i : ℕ) (p : List ℤ) (v : ℤ) → i < length p → take i (p ++ v ∷ []) ≡ take i p
take_push i [] v l = absurd (omega arith)
take_push zero (a ∷ p) v l = refl
take_push (suc i) (a ∷ p) v l = ap (λ (z : List ℤ). a ∷ z) (take_push i p v (omega arith))

pub take_whole : (p : List ℤ) (v : ℤ) → take (length p) (p ++ v ∷ []) ≡ p
take_whole [] v = refl
take_whole (a ∷ p) v = ap (λ (z : List ℤ). a ∷ z) (take_whole p v)

module _ (low high : List ℤ) (levels : List (List Affine)) (sound : AreLevels low high levels) where
  -- a vector of the region meets each level
  pub inside_meets : (x : List ℤ) → IsInside low high levels x → (k : ℕ) → k < length x → MeetsLevel low high levels k (take k x ++ entry x k ∷ [])
  inside_meets x h k l = record {
    between = rw (entry_last (take k x) (entry x k) k (length_take k x (omega arith))) (h.inside.within k l);
    nonnegative = λ i d m.
        let short : k < length low = let e = h.inside.low_dimension in omega arith in
        let of_level = sound.functions k short i d m in
        let there = h.nonnegative k l i d m in
        rw (sym (take_entry k x l)) (rw (value-take (slice_index_or (level levels k) i d) x k of_level.ends) there);
  }

  -- and back
  pub meets_inside : (x : List ℤ) → length x ≡ length low → ((k : ℕ) → k < length x → MeetsLevel low high levels k (take k x ++ entry x k ∷ []))
      → IsInside low high levels x
  meets_inside x e meets = record {
    inside = record {
      low_dimension = sym e;
      high_dimension = sound.high_dimension ∙ sym e;
      within = λ k l. rw (entry_last (take k x) (entry x k) k (length_take k x (omega arith))) at (meets k l).between;
    };
    nonnegative = λ k l i d m.
        let short : k < length low = omega arith in
        let of_level = sound.functions k short i d m in
        let there = (meets k l).nonnegative i d m in
        rw (value-take (slice_index_or (level levels k) i d) x k of_level.ends) at (rw (sym (take_entry k x l)) at there);
  }

  module _ (p ends : List ℤ) (opened : IsOpen low high levels p ends) where
    -- the coordinates themselves meet their levels
    pub open_meets : (i : ℕ) → i < length p → MeetsLevel low high levels i (take i p ++ entry p i ∷ [])
    open_meets i l = opened.meets i l (entry p i) (omega (arith, ints), opened.ordered i l)

    pub open_between : (i : ℕ) → i < length p → IsBetween (entry low i) (entry high i) (entry p i)
    open_between i l = rw (entry_last (take i p) (entry p i) i (length_take i p (omega arith))) at (open_meets i l).between

    -- no vector of the region goes beyond an end
    pub beyond_ends : (y : List ℤ) → IsInside low high levels y → (j : ℕ) → GoesBeyond p y j → entry p j <ℤ entry ends j
    beyond_ends y inside j g = let more = g.more in let last = opened.last j g.within y inside g.alike in omega (arith, ints)

    -- where each coordinate is at its end, none goes beyond them
    pub none_beyond : ((k : ℕ) → k < length p → entry ends k ≤ℤ entry p k) → (y : List ℤ) → IsInside low high levels y → (j : ℕ)
        → GoesBeyond p y j → ⊥
    none_beyond top y inside j g =
        let less = beyond_ends y inside j g in let most = top j g.within in omega (arith, ints)

    -- one coordinate more
    module _ (least most : ℤ) (l : length p < length low) (order : least ≤ℤ most)
        (span : (v : ℤ) → (IsBetween least most v → MeetsLevel low high levels (length p) (p ++ v ∷ []))
        × (MeetsLevel low high levels (length p) (p ++ v ∷ []) → IsBetween least most v)) where
      -- the next coordinate of a vector of the region that begins with p
      pub next_between : (y : List ℤ) → IsInside low high levels y → Begins p y → IsBetween least most (entry y (length p))
      next_between y inside begins =
          let within : length p < length y = let e = inside.inside.low_dimension in omega arith in
          let meets = inside_meets y inside (length p) within in
          (span (entry y (length p))).1 (rw (begins_is p y begins) at meets)

      place_cases : (i : ℕ) → i < length p + 1 → (i < length p) ⊎ (i ≡ length p)
      place_cases i h = grind arith

      pub push_open : IsOpen low high levels (p ++ least ∷ []) (ends ++ most ∷ [])
      push_open = record {
        same_length = let e = opened.same_length in rw (length-append p (least ∷ []), length-append ends (most ∷ [])) (omega arith);
        ordered = λ i h. ordered i (place_cases i (omega (arith, h, length-append p (least ∷ []))));
        meets = λ i h. meets i (place_cases i (omega (arith, h, length-append p (least ∷ []))));
        last = λ i h. last i (place_cases i (omega (arith, h, length-append p (least ∷ []))));
      }
        where
          entry_of : (i : ℕ) → i < length p → entry (p ++ least ∷ []) i ≡ entry p i
          entry_of i h = entry_before p least i h

          end_of : (i : ℕ) → i < length p → entry (ends ++ most ∷ []) i ≡ entry ends i
          end_of i h = entry_before ends most i (let e = opened.same_length in omega arith)

          new_entry : entry (p ++ least ∷ []) (length p) ≡ least
          new_entry = entry_last p least (length p) refl

          new_end : entry (ends ++ most ∷ []) (length p) ≡ most
          new_end = entry_last ends most (length p) opened.same_length

          ordered : (i : ℕ) → (i < length p) ⊎ (i ≡ length p) → entry (p ++ least ∷ []) i ≤ℤ entry (ends ++ most ∷ []) i
          ordered i (inl h) = rw (entry_of i h, end_of i h) (opened.ordered i h)
          ordered i (inr e) = rw (e, new_entry, new_end) order

          meets : (i : ℕ) → (i < length p) ⊎ (i ≡ length p) → (v : ℤ)
              → IsBetween (entry (p ++ least ∷ []) i) (entry (ends ++ most ∷ []) i) v
              → MeetsLevel low high levels i (take i (p ++ least ∷ []) ++ v ∷ [])
          meets i (inl h) v b = rw (take_push i p least h) (opened.meets i h v (rw (entry_of i h, end_of i h) at b))
          meets i (inr e) v b = rw (e, take_whole p least) ((span v).0 (rw (e, new_entry, new_end) at b))

          last : (i : ℕ) → (i < length p) ⊎ (i ≡ length p) → (y : List ℤ) → IsInside low high levels y → Begins (take i (p ++ least ∷ [])) y
              → entry y i ≤ℤ entry (ends ++ most ∷ []) i
          last i (inl h) y inside begins = rw (end_of i h) (opened.last i h y inside (rw (take_push i p least h) at begins))
          last i (inr e) y inside begins =
              rw (e, new_end) (next_between y inside (rw (e, take_whole p least) at begins)).1

      pub push_further : IsFurther low high levels p (p ++ least ∷ [])
      push_further = record {
        later = λ y e h. push_from p y least h;
        all = λ y inside h. by y inside (from_cases p y h);
      }
        where
          by : (y : List ℤ) → IsInside low high levels y → Begins p y ⊎ ((j : ℕ) × GoesBeyond p y j) → IsFrom (p ++ least ∷ []) y
          by y inside (inl begins) =
              from_push p y least (let e = inside.inside.low_dimension in omega arith) begins (next_between y inside begins).0
          by y inside (inr g) = beyond_from (p ++ least ∷ []) y g.0
              (let e = inside.inside.low_dimension in omega (arith, length-append p (least ∷ []))) (record {
                within = let w = g.1.within in omega (arith, length-append p (least ∷ []));
                alike = rw (take_push g.0 p least g.1.within) g.1.alike;
                more = rw (entry_before p least g.0 g.1.within) g.1.more;
              })

      -- the run of points behind p, where that coordinate is the last
      pub push_run : length p + 1 ≡ length low → IsRunOf low high levels p least most
      push_run e = record {
        coordinates = e;
        ordered = order;
        inside = λ v b. meets_inside (p ++ v ∷ []) (omega (arith, length-append p (v ∷ [])))
            (λ k h. each v b k (place_cases k (omega (arith, h, length-append p (v ∷ [])))));
        only = next_between;
      }
        where
          each : (v : ℤ) → IsBetween least most v → (k : ℕ) → (k < length p) ⊎ (k ≡ length p)
              → MeetsLevel low high levels k (take k (p ++ v ∷ []) ++ entry (p ++ v ∷ []) k ∷ [])
          each v b k (inl h) = rw (take_push k p v h, entry_before p v k h) (open_meets k h)
          each v b k (inr s) = rw (s, take_whole p v, entry_last p v (length p) refl) ((span v).0 b)

      pub push_first : length p + 1 ≡ length low → (y : List ℤ) → IsInside low high levels y → IsFrom p y → LexAtMost (p ++ least ∷ []) y
      push_first e y inside h = from_at_most p y least (let d = inside.inside.low_dimension in omega arith) (push_further.all y inside h)
