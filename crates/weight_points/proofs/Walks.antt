-- A step from one exponent vector to the next, as a step through the list of all.
use Rattle.std.specs.List.{All}
use Rattle.std.specs.Prelude.{ℤ, pos}
use Rattle.std.proofs.Common.{◌≡◌, inl, inr, ℕ, zero, suc, ◌+◌, ◌≤◌, Bool, true, false, List, [], ◌∷◌, ◌++◌, length, map, get_or, replicate}
use Rattle.std.proofs.Common.{refl, sym, ap, ◌∙◌, subst, arith, min, length-append, append_assoc}
use Rattle.std.proofs.lemmas.List.{length-map, length-replicate}
use Rattle.std.proofs.lemmas.Int.{ints}
use Rattle.lattice_theory.specs.Order.{LexLess}
use Rattle.lattice_theory.specs.Grid.{LexAtMost, IsNext, behind, up_to}
use Rattle.lattice_theory.proofs.LexPlaces.{first_difference}
use Rattle.lattice_theory.proofs.LexWalks.{AreUpTo, none_up_to, next_found, all_found, found_first, up_to_lists, up_to_unique}
use Rattle.lattice_core.specs.declared.limits.TheConstants.{MOST_DEGREE}
use Rattle.lattice_core.specs.Weights.{Weighted, columns_of, AreWellFormed, AreWithinLimits, IsMonomial, IsSummed}
use Rattle.weight_points.specs.declared.rows.Row.{Row}
use Rattle.weight_points.specs.Members.{Walked, AreMonomials, IsMonomialAt, HasMonomials, CountsMonomials}
use Rattle.weight_points.specs.steps.Waits.{spent}
use Rattle.weight_points.specs.steps.Rows.{system_of, systems_of, IsRow, IsFresh, AreRows}
use Rattle.weight_points.specs.steps.Search.{Solves, exponent}
use Rattle.weight_points.specs.Listing.{solutions, given_of}
use Rattle.weight_points.proofs.Weighing.{all_unmap, spent_zeros, degrees_small}
use Rattle.weight_points.proofs.Integral.{solution_from_monomial, integral_entry}
use Rattle.weight_points.proofs.Solutions.{are_monomials}
use Rattle.weight_points.proofs.Collecting.{same_monomials}

-- each entry of a vector of zeros is 0
zero_entry : (n i : ℕ) → exponent (replicate n 0) i ≡ 0
zero_entry zero i = refl
zero_entry (suc n) zero = refl
zero_entry (suc n) (suc i) = zero_entry n i

module _ (rows : List Row) (a : List ℕ) (ready : AreRows rows a) where
  abbrev systems : List Weighted
  systems = systems_of rows

  abbrev here : List ℤ
  here = map pos a

  all_monomials : AreMonomials systems (solutions systems)
  all_monomials = are_monomials systems ready.formed (degrees_small rows a ready.each)

  columns : length here ≡ columns_of systems
  columns = length-map a pos ∙ ready.columns

  found : AreUpTo (IsMonomial systems) here (up_to here (solutions systems))
  found = up_to_lists (IsMonomial systems) (columns_of systems) (λ y m. m.columns) here (solutions systems) columns all_monomials

  -- with the next one, these are those up to it
  one_more_found : (new : List ℕ) → IsNext (IsMonomial systems) here (map pos new)
      → up_to (map pos new) (solutions systems) ≡ up_to here (solutions systems) ++ map pos new ∷ []
  one_more_found new next =
      up_to_unique (IsMonomial systems) (map pos new) (up_to (map pos new) (solutions systems)) (up_to here (solutions systems)
      ++ map pos new ∷ [])
      (up_to_lists (IsMonomial systems) (columns_of systems) (λ y m. m.columns) (map pos new) (solutions systems) next.holds.columns
      all_monomials)
      (next_found (IsMonomial systems) (columns_of systems) (λ y m. m.columns) here (map pos new) (up_to here (solutions systems)) columns
      found next)

  -- one more is given
  pub more_given : (new : List ℕ) → IsNext (IsMonomial systems) here (map pos new)
      → given_of systems (map pos new) false ≡ given_of systems here false + 1
  unfolding given_of
  more_given new next = ap length (one_more_found new next) ∙ length-append (up_to here (solutions systems)) (map pos new ∷ [])

  -- and that is the next one
  pub next_given : (new : List ℕ) → IsNext (IsMonomial systems) here (map pos new)
      → IsMonomialAt systems (given_of systems here false) (map pos new)
  unfolding given_of
  next_given new next =
      let front = up_to here (solutions systems) in
      let rest = behind (map pos new) (solutions systems) in
      let split = found_first (IsMonomial systems) (columns_of systems) (λ y m. m.columns) (map pos new) (front ++ map pos new ∷ [])
      (solutions systems)
      next.holds.columns (next_found (IsMonomial systems) (columns_of systems) (λ y m. m.columns) here (map pos new) front columns found
      next) all_monomials in
      record {
        before = front;
        after = rest;
        are_monomials = subst (AreMonomials systems) (split ∙ append_assoc front (map pos new ∷ []) rest) all_monomials;
        count = refl;
      }

  -- all are given, where nothing comes later
  pub all_given : ((z : List ℤ) → IsMonomial systems z → LexLess here z → ⊥) → given_of systems here false ≡ length (solutions systems)
  unfolding given_of
  all_given none =
      ap length (same_monomials systems (up_to here (solutions systems)) (solutions systems)
      (all_found (IsMonomial systems) (columns_of systems) (λ y m. m.columns) here (up_to here (solutions systems)) columns found none)
      all_monomials)

  pub has_all : (count : ℕ) → count ≡ length (solutions systems) → HasMonomials systems count
  has_all count e = record { members = solutions systems; are_monomials = all_monomials; count_is = sym e }

  -- no more are given than there are
  pub given_within : given_of systems here false ≤ length (solutions systems)
  unfolding given_of
  given_within =
      let front = up_to here (solutions systems) in
      let split = found_first (IsMonomial systems) (columns_of systems) (λ y m. m.columns) here front (solutions systems) columns found
      all_monomials in
      let l = ap length split ∙ length-append front (behind here (solutions systems)) in
      omega arith

  pub counts : (limit counted : ℕ) → counted ≡ min (length (solutions systems)) (limit + 1) → CountsMonomials systems limit counted
  counts limit counted e = record { members = solutions systems; are_monomials = all_monomials; counted_is = e }

  -- the first system takes more than zeros give
  zeros_unsolved : (n : ℕ) → Solves systems (replicate n 0) → ⊥
  zeros_unsolved n s = by systems ready.formed s
    where
      by : (ss : List Weighted) → AreWellFormed ss → Solves ss (replicate n 0) → ⊥
      by [] formed t = let some = formed.some in omega arith
      by (system ∷ ss) formed t =
          let summed : IsSummed (columns_of (system ∷ ss)) system = formed.summed 0 system (omega arith) in
          let positive = summed.positive in
          let all : spent system.weights (replicate n 0) ≡ system.degree = t.degrees 0 system (omega arith) in
          let none = spent_zeros system.weights (replicate n 0) (λ i h. zero_entry n i) in
          omega arith

  -- at first none is given
  pub none_given : a ≡ replicate (length a) 0 → given_of systems here false ≡ 0
  unfolding given_of
  none_given e =
      ap length (up_to_unique (IsMonomial systems) here (up_to here (solutions systems)) [] found
      (none_up_to (IsMonomial systems) here none))
    where
      none : (y : List ℤ) → IsMonomial systems y → LexAtMost y here → ⊥
      none y m (inr same) =
          zeros_unsolved (length a) (subst (Solves systems) e (solution_from_monomial systems a (subst (IsMonomial systems) same m)))
      none y m (inl less) =
          let d = first_difference y here less in
          let within = d.1.within in
          let nonnegative = m.nonnegative d.0 (pos 0) within in
          let zero_there : exponent a d.0 ≡ 0 = ap (λ (x : List ℕ). exponent x d.0) e ∙ zero_entry (length a) d.0 in
          let there = integral_entry a d.0 in
          let below = d.1.less in
          omega (arith, ints, nonnegative)

-- a walk whose systems and number are the same is the same
pub same_walk : (s t : List Weighted) (m n : ℕ) → s ≡ t → m ≡ n
    → ◌≡◌ {A = Walked} (record { systems = s; given = m }) (record { systems = t; given = n })
same_walk s t m n e f = λ i. record { systems = e i; given = f i }

-- where the walk is finished, all are given
pub finished_given : (ss : List Weighted) (a : List ℕ) → given_of ss (map pos a) true ≡ length (solutions ss)
unfolding given_of
finished_given ss a = refl

pub finished_has : (rows : List Row) (a : List ℕ) (finished : Bool) → AreRows rows a → finished ≡ true
    → HasMonomials (systems_of rows) (given_of (systems_of rows) (map pos a) finished)
finished_has rows a true ready e = has_all rows a ready (given_of (systems_of rows) (map pos a) true) (finished_given (systems_of rows) a)
finished_has rows a false ready e = absurd cc

-- fresh rows stand beside zeros
fresh_row : (row : Row) (n : ℕ) → length row.system.weights.items ≡ n → row.system.degree ≤ MOST_DEGREE → IsFresh row
    → IsRow (replicate n 0) row
fresh_row row n columns small f = record {
  columns = columns ∙ sym (length-replicate n 0);
  spent_is = let none = spent_zeros row.system.weights.items (replicate n 0) (λ i h. zero_entry n i) in let e = f.left_is in omega arith;
  small = small;
  tables = f.tables;
}

pub fresh_rows : (rows : List Row) → AreWellFormed (systems_of rows) → All (λ s. s.degree ≤ MOST_DEGREE) (systems_of rows)
    → All IsFresh rows → AreRows rows (replicate (columns_of (systems_of rows)) 0)
fresh_rows rows formed small fresh =
    let n = columns_of (systems_of rows) in
    let summed = all_unmap (IsSummed n) system_of rows formed.summed in
    let degrees = all_unmap (λ s. s.degree ≤ MOST_DEGREE) system_of rows small in
    record {
      formed = formed;
      columns = length-replicate n 0;
      each = λ k d h. fresh_row (get_or rows k d) n (summed k d h).columns (degrees k d h) (fresh k d h);
    }

-- a walk that begins
pub record Begins (rows : List Row) (a : List ℕ) : Type 0 where
  pub ready : AreRows rows a
  pub given : given_of (systems_of rows) (map pos a) false ≡ 0

pub begins : (systems : List Weighted) (rows : List Row) (a : List ℕ) → AreWellFormed systems → AreWithinLimits systems
    → systems_of rows ≡ systems → All IsFresh rows
    → a ≡ replicate (columns_of systems) 0 → Begins rows a
begins systems rows a formed limits same fresh zeros =
    let formed' = rw (sym same) at formed in
    let limits' = rw (sym same) at limits in
    let zeros' : a ≡ replicate (columns_of (systems_of rows)) 0 = rw same zeros in
    let ready : AreRows rows a = rw zeros' (fresh_rows rows formed' limits'.degrees fresh) in
    record { ready = ready; given = none_given rows a ready (rw ready.columns zeros') }

-- the count of all, where nothing comes later
pub counted_all : (systems : List Weighted) (rows : List Row) (a : List ℕ) (count limit : ℕ) → systems_of rows ≡ systems → AreRows rows a
    → given_of (systems_of rows) (map pos a) false ≡ count → count ≤ limit
    → ((z : List ℤ) → IsMonomial (systems_of rows) z → LexLess (map pos a) z → ⊥) → CountsMonomials systems limit count
counted_all systems rows a count limit same ready given within none =
    let all = all_given rows a ready none in
    subst (λ s. CountsMonomials s limit count) same (counts rows a ready limit count (omega arith))

-- or more than the limit
pub counted_more : (systems : List Weighted) (rows : List Row) (a : List ℕ) (limit : ℕ) → systems_of rows ≡ systems → AreRows rows a
    → given_of (systems_of rows) (map pos a) false ≡ limit + 1
    → CountsMonomials systems limit (limit + 1)
counted_more systems rows a limit same ready given =
    let within = given_within rows a ready in
    subst (λ s. CountsMonomials s limit (limit + 1)) same (counts rows a ready limit (limit + 1) (omega arith))
