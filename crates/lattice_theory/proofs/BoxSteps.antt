-- One step through a box: the next vector in lexicographic order, its first and last vector, and vectors further on.
use Rattle.std.specs.Prelude.{◌≢◌, ℤ, pos, ◌+ℤ◌, ◌≤ℤ◌, ◌<ℤ◌}
use Rattle.std.proofs.Common.{◌≡◌, ℕ, ◌+◌, ◌<◌, ◌≤◌, ◌⊎◌, inl, inr, List, length, refl, sym, ap, ◌∙◌, arith}
use Rattle.std.proofs.lemmas.Bool.{cases_lt}
use Rattle.std.proofs.Math.ListN.{set, length-set}
use Rattle.std.proofs.lemmas.List.{get_or-set_same, get_or-set_other}
use Rattle.std.proofs.lemmas.Int.{ints}
use Rattle.lattice_theory.specs.Vector.{entry}
use Rattle.lattice_theory.specs.Order.{LexLess}
use Rattle.lattice_theory.specs.Grid.{AgreesTo, LexAtMost, IsInBox, IsNext}
use Rattle.lattice_theory.proofs.LexPlaces.{DiffersAt, first_difference, lex_at, lex_total}

-- `new` stands one step after `old`: at the place i it is 1 more, further on `old` is at its highest and `new` at its lowest
pub record IsStep (low high old new : List ℤ) (i : ℕ) : Type 0 where
  pub dimension : length new ≡ length old
  pub place : i < length old
  pub front : AgreesTo i old new
  pub here : entry new i ≡ entry old i +ℤ pos 1
  pub room : entry old i <ℤ entry high i
  pub back : (k : ℕ) → i < k → k < length old → (entry new k ≡ entry low k) × (entry old k ≡ entry high k)

-- it is in the box
pub step_in_box : (low high old new : List ℤ) (i : ℕ) → IsInBox low high old → IsStep low high old new i → IsInBox low high new
step_in_box low high old new i h s = record {
  low_dimension = h.low_dimension ∙ sym s.dimension;
  high_dimension = h.high_dimension ∙ sym s.dimension;
  within = λ k l. let e = s.dimension in let within : k < length old = omega arith in by k within (h.within k within) (cases_lt k i);
}
  where
    place : (k : ℕ) → i ≤ k → (k ≡ i) ⊎ (i < k)
    place k h = grind arith

    later : (k : ℕ) → k < length old → (entry low k ≤ℤ entry old k) × (entry old k ≤ℤ entry high k) → (k ≡ i) ⊎ (i < k)
        → (entry low k ≤ℤ entry new k) × (entry new k ≤ℤ entry high k)
    later k l w (inl e) =
        rw e (let up = s.here in let room = s.room in let w' = rw e at w in (omega (arith, ints, up, w'.0), omega (arith, ints, up, room)))
    later k l w (inr m) = let b = s.back k m l in (omega (arith, ints, b.0), omega (arith, ints, b.0, b.1, w.0, w.1))

    by : (k : ℕ) → k < length old → (entry low k ≤ℤ entry old k) × (entry old k ≤ℤ entry high k) → (k < i) ⊎ (i ≤ k)
        → (entry low k ≤ℤ entry new k) × (entry new k ≤ℤ entry high k)
    by k l w (inl m) = rw (s.front k m) w
    by k l w (inr m) = later k l w (place k m)

-- and no vector of the box stands between the two
step_first : (low high old new z : List ℤ) (i : ℕ) → IsInBox low high old → IsStep low high old new i → IsInBox low high z → LexLess old z
    → LexAtMost new z
step_first low high old new z i h s inside behind =
    let d = first_difference old z behind in
    by d.0 d.1 (lex_total new z same_length)
  where
    same_length : length new ≡ length z
    same_length = let e = s.dimension in let f = h.low_dimension in let g = inside.low_dimension in omega arith

    -- z can't come before new: neither differ below the place of the step, nor from it on
    in_front : (j : ℕ) → DiffersAt old z j → (p : ℕ) → DiffersAt z new p → p < i → (j < p) ⊎ (p ≤ j) → (p < j) ⊎ (j ≤ p) → ⊥
    in_front j d p g l (inl b) t = let a = g.agrees j b in let f = s.front j (omega arith) in let less = d.less in omega (arith, ints)
    in_front j d p g l (inr b) (inl c) = let a = d.agrees p c in let f = s.front p l in let less = g.less in omega (arith, ints)
    in_front j d p g l (inr b) (inr c) =
        let same : j ≡ p = omega arith in
        let more = rw same at d.less in
        let f = s.front p l in
        let less = g.less in
        omega (arith, ints)

    from_place : (j : ℕ) → DiffersAt old z j → (p : ℕ) → DiffersAt z new p → i ≤ p → (j < i) ⊎ (i ≤ j) → (i < j) ⊎ (j ≤ i)
        → (i < p) ⊎ (p ≤ i) → ⊥
    from_place j d p g l (inl b) t u =
        let a = g.agrees j (omega arith) in let f = s.front j b in let less = d.less in omega (arith, ints)
    from_place j d p g l (inr b) (inl c) u =
        let room = inside.within j (let e = h.high_dimension in let f = inside.high_dimension in let w = d.within in omega arith) in
        let top = (s.back j c d.within).1 in
        let less = d.less in
        omega (arith, ints, room.1)
    from_place j d p g l (inr b) (inr c) (inl u) =
        let lowest = (s.back p u (let w = g.within in let e = s.dimension in let f = same_length in omega arith)).0 in
        let room = inside.within p g.within in
        let less = g.less in
        omega (arith, ints, room.0)
    from_place j d p g l (inr b) (inr c) (inr u) =
        let there : j ≡ i = omega arith in
        let here : p ≡ i = omega arith in
        let more = rw there at d.less in
        let less = rw here at g.less in
        let up = s.here in
        omega (arith, ints)

    apart : (j : ℕ) → DiffersAt old z j → (p : ℕ) → DiffersAt z new p → (p < i) ⊎ (i ≤ p) → ⊥
    apart j d p g (inl l) = in_front j d p g l (cases_lt j p) (cases_lt p j)
    apart j d p g (inr l) = from_place j d p g l (cases_lt j i) (cases_lt i j) (cases_lt i p)

    by : (j : ℕ) → DiffersAt old z j → LexLess new z ⊎ LexAtMost z new → LexAtMost new z
    by j d (inl l) = inl l
    by j d (inr (inr e)) = inr (sym e)
    by j d (inr (inl l)) = let g = first_difference z new l in absurd (apart j d g.0 g.1 (cases_lt g.0 i))

-- so it is the next one
pub step_next : (low high old new : List ℤ) (i : ℕ) → IsInBox low high old → IsStep low high old new i → IsNext (IsInBox low high) old new
step_next low high old new i h s = record {
  holds = step_in_box low high old new i h s;
  later = lex_at old new i (sym s.dimension) (record { within = s.place; agrees = s.front; less = let up = s.here in omega (arith, ints) });
  first = λ z inside behind. step_first low high old new z i h s inside behind;
}

-- where each entry is at its highest, there is no next one
pub none_behind_highest : (low high x : List ℤ) → ((i : ℕ) → i < length x → entry x i ≡ entry high i) → (z : List ℤ) → IsInBox low high z
    → length x ≡ length z
    → LexLess x z → ⊥
none_behind_highest low high x top z inside e h =
    let d = first_difference x z h in
    let within = d.1.within in
    let room = inside.within d.0 (omega arith) in
    let t = top d.0 within in
    let less = d.1.less in
    omega (arith, ints, room.1)

-- nothing stands before the lowest corner, and it is in the box if anything is
pub none_before_lowest : (low high z : List ℤ) → IsInBox low high z → LexLess z low → ⊥
none_before_lowest low high z inside h =
    let d = first_difference z low h in
    let room = inside.within d.0 d.1.within in
    let less = d.1.less in
    omega (arith, ints, room.0)

pub low_in_box : (low high x : List ℤ) → IsInBox low high x → IsInBox low high low
low_in_box low high x h = record {
  low_dimension = refl;
  high_dimension = h.high_dimension ∙ sym h.low_dimension;
  within = λ i k. let w = h.within i (let e = h.low_dimension in omega arith) in (omega (arith, ints), omega (arith, ints, w.0, w.1));
}

-- a vector with the same first entries whose others are at their highest
module _ (low high old new : List ℤ) (k : ℕ) (h : IsInBox low high old) (same_length : length new ≡ length old)
    (agrees : AgreesTo k old new)
    (raised : (i : ℕ) → k ≤ i → i < length old → entry new i ≡ entry high i) where
  pub raised_in_box : IsInBox low high new
  raised_in_box = record {
    low_dimension = h.low_dimension ∙ sym same_length;
    high_dimension = h.high_dimension ∙ sym same_length;
    within = λ i l. let m : i < length old = omega arith in by i m (h.within i m) (cases_lt i k);
  }
    where
      by : (i : ℕ) → i < length old → (entry low i ≤ℤ entry old i) × (entry old i ≤ℤ entry high i) → (i < k) ⊎ (k ≤ i)
          → (entry low i ≤ℤ entry new i) × (entry new i ≤ℤ entry high i)
      by i m w (inl l) = rw (agrees i l) w
      by i m w (inr l) = let r = raised i l m in (omega (arith, ints, r, w.0, w.1), omega (arith, ints, r))

  pub raised_later : LexAtMost old new
  raised_later = by (lex_total new old same_length)
    where
      apart : (p : ℕ) → DiffersAt new old p → (p < k) ⊎ (k ≤ p) → ⊥
      apart p d (inl l) = let a = agrees p l in let less = d.less in omega (arith, ints)
      apart p d (inr l) =
          let within : p < length old = let w = d.within in omega arith in
          let r = raised p l within in
          let room = h.within p within in
          let less = d.less in
          omega (arith, ints, room.1)

      by : LexLess new old ⊎ LexAtMost old new → LexAtMost old new
      by (inl l) = let d = first_difference new old l in absurd (apart d.0 d.1 (cases_lt d.0 k))
      by (inr m) = m

-- what a loop from the last coordinate to the first has done before it reaches the places below m
module _ (low high old position : List ℤ) (m i : ℕ) (same_length : length position ≡ length old) (next : m ≡ i + 1)
    (within : i < length old)
    (front : AgreesTo m old position)
    (back : (k : ℕ) → m ≤ k → k < length old → (entry position k ≡ entry low k) × (entry old k ≡ entry high k)) where
  written : (v : ℤ) → entry (set position i v) i ≡ v
  written v = get_or-set_same position i v (pos 0) (omega arith)

  kept : (v : ℤ) (k : ℕ) → k ≢ i → entry (set position i v) k ≡ entry position k
  kept v k h = get_or-set_other position i k v (pos 0) h

  -- it ends with one step
  pub set_step : (v : ℤ) → v ≡ entry position i +ℤ pos 1 → entry position i <ℤ entry high i → IsStep low high old (set position i v) i
  set_step v up room = record {
    dimension = length-set position i v ∙ same_length;
    place = within;
    front = λ k h. kept v k (omega (arith, h)) ∙ front k (omega (arith, h));
    here = written v ∙ up ∙ ap (λ (z : ℤ). z +ℤ pos 1) (front i (omega arith));
    room = let e = front i (omega arith) in rw e at room;
    back = λ k h l. let b = back k (omega (arith, h)) l in (kept v k (omega (arith, h)) ∙ b.0, b.1);
  }

  -- or goes on
  pub set_front : (v : ℤ) → AgreesTo i old (set position i v)
  set_front v k h = kept v k (omega (arith, h)) ∙ front k (omega (arith, h))

  pub set_back : (v : ℤ) → v ≡ entry low i → entry high i ≤ℤ entry position i → entry old i ≤ℤ entry high i
      → (k : ℕ) → i ≤ k → k < length old → (entry (set position i v) k ≡ entry low k) × (entry old k ≡ entry high k)
  set_back v lowest above below k h l = by (place k h)
    where
      place : (k : ℕ) → i ≤ k → (k ≡ i) ⊎ (i < k)
      place k h = grind arith

      by : (k ≡ i) ⊎ (i < k) → (entry (set position i v) k ≡ entry low k) × (entry old k ≡ entry high k)
      by (inl e) = rw e (written v ∙ lowest, let f = front i (omega arith) in omega (arith, ints, f))
      by (inr more) = let b = back k (omega (arith, more)) l in (kept v k (omega (arith, more)) ∙ b.0, b.1)

-- one more entry is raised to its highest
module _ (high old position : List ℤ) (first i : ℕ) (v : ℤ) (behind : first ≤ i) (within : i < length position)
    (raised_to : v ≡ entry high i) where
  pub raise_kept : AgreesTo first old position → AgreesTo first old (set position i v)
  raise_kept h k l = let other : k ≢ i = omega arith in get_or-set_other position i k v (pos 0) other ∙ h k l

  pub raise_more : ((k : ℕ) → first ≤ k → k < i → entry position k ≡ entry high k) → (k : ℕ) → first ≤ k → k < i + 1
      → entry (set position i v) k ≡ entry high k
  raise_more h k l m = by (place k m)
    where
      place : (k : ℕ) → k < i + 1 → (k < i) ⊎ (k ≡ i)
      place k m = grind arith

      by : (k < i) ⊎ (k ≡ i) → entry (set position i v) k ≡ entry high k
      by (inl b) = let other : k ≢ i = omega arith in get_or-set_other position i k v (pos 0) other ∙ h k l b
      by (inr e) = rw e (get_or-set_same position i v (pos 0) within ∙ raised_to)
