-- The recursion over all systems: it can be carried out, it is determined, and it ends with an integer basis of the weight lattice.
use Rattle.std.proofs.Common.{◌≡◌, ◌≢◌, ℕ, ◌<◌, ◌≤◌, List, [], ◌∷◌, ◌++◌, length, map, ℤ, pos, ◌+ℤ◌, ◌*ℤ◌, refl, sym, ap, ◌∙◌, arith, ⊎_elim}
use Rattle.lattice_theory.specs.Vector.{entry, dot}
use Rattle.lattice_theory.proofs.Integers.{products_out, linear, zero_or_not, factor_zero, *ℤ_comm}
use Rattle.lattice_core.specs.Weights.{Weighted, weighted_degree, columns_of, IsInLattice}
use Rattle.lattice_theory.proofs.Members.{Each, empty, more, each_head, each_tail, each_left, each_right, each_append, each_weaker, each_from_all, all_from_each}
use Rattle.lattice_core.specs.declared.limits.TheConstants.{MOST_FRAME_ENTRY}
use Rattle.weight_frame.specs.Frame.{IsSumOfMultiples, Exchanges, none, more as one_more, AreExchanged, done, next, IsRecursion, IsIntegerCombination, AreCoordinates, largest, AreWithinEntryLimit, IsFirstAboveLimit}
use Rattle.weight_frame.specs.steps.Reached.{AreSmallVectors}
use Rattle.weight_frame.specs.Answers.{IsFrameWithinLimit, ExceedsEntryLimit, HasOtherDimension}
use Rattle.weight_frame.specs.Laws.{FrameExists, FrameIsUnique, FrameIsBasis}
use Rattle.weight_frame.specs.Bases.{HasOneCombination}
use Rattle.weight_frame.proofs.Sums.{sum_pairs}
use Rattle.weight_frame.proofs.Steps.{AreSized}
use Rattle.weight_frame.proofs.Recursion.{recursion_lengths, recursion_values, recursion_keeps, recursion_zero, recursion_exists, recursion_unique, same_append}
use Rattle.weight_frame.specs.steps.Echelon.{Leads}
use Rattle.weight_frame.proofs.Leads.{column, recursion_leads, coefficients_unique}
use Rattle.weight_frame.proofs.Spans.{Splits, recursion_splits, combination_exists, combination_pairs, zero_values}
use Rattle.weight_frame.proofs.Units.{unit_vectors_sized, unit_vectors_lead, unit_vectors_small, unit_vectors_span, unit_vectors_unique, unit_vectors_exist}

-- each vector has the value 0 under the system
abbrev pub Vanish : Weighted → List (List ℤ) → Type 0
Vanish system vectors = Each (λ x. weighted_degree system x ≡ pos 0) vectors

pub exchanged_sizes : (n : ℕ) (systems : List Weighted) (us vectors made : List (List ℤ)) → AreSized n us
    → AreExchanged n systems us vectors made → AreSized n vectors
exchanged_sizes n _ us _ _ s done = s
exchanged_sizes n _ us vectors _ s (next {system = w} {systems = ws} {ks = ks} {h = h} {g = g} {made = made} {later = later} e f) =
    exchanged_sizes n ws ks vectors later (recursion_lengths n w us ks h g made s e).kept f

pub exchanged_leads : (n : ℕ) (systems : List Weighted) (us vectors made : List (List ℤ)) → Leads 0 us
    → AreExchanged n systems us vectors made → Leads 0 vectors
exchanged_leads n _ us _ _ l done = l
exchanged_leads n _ us vectors _ l (next {system = w} {systems = ws} {ks = ks} {h = h} {g = g} {made = made} {later = later} e f) =
    exchanged_leads n ws ks vectors later (recursion_leads n w us ks h g made 0 l e).kept f

-- what one system has made 0 stays so
exchanged_keeps : (n : ℕ) (v : Weighted) (systems : List Weighted) (us vectors made : List (List ℤ)) → AreSized n us → Vanish v us
    → AreExchanged n systems us vectors made → Vanish v vectors
exchanged_keeps n v _ us _ _ s z done = z
exchanged_keeps n v _ us vectors _ s z (next {system = w} {systems = ws} {ks = ks} {h = h} {g = g} {made = made} {later = later} e f) =
    exchanged_keeps n v ws ks vectors later (recursion_lengths n w us ks h g made s e).kept
    (recursion_keeps n (map pos v.weights) w us ks h g made s z e).kept f

exchanged_vanish : (n : ℕ) (systems : List Weighted) (us vectors made : List (List ℤ)) → AreSized n us
    → AreExchanged n systems us vectors made → Each (λ w. Vanish w vectors) systems
exchanged_vanish n _ us _ _ s done = empty
exchanged_vanish n _ us vectors _ s (next {system = w} {systems = ws} {ks = ks} {h = h} {g = g} {made = made} {later = later} e f) =
    let sizes = (recursion_lengths n w us ks h g made s e).kept in
    more (exchanged_keeps n w ws ks vectors later sizes (recursion_values n w us ks h g made s e).kept f)
    (exchanged_vanish n ws ks vectors later sizes f)

-- a combination of value 0 has no part of h
plain_part : (m h d x : ℤ) → x ≡ d +ℤ m *ℤ h → m ≡ pos 0 → x ≡ d
plain_part m h d x e f = e ∙ rw f (simp products_out (omega (arith, linear)))

zero_part : (m h d x : ℤ) → x ≡ d +ℤ m *ℤ h → h ≡ pos 0 → x ≡ d
zero_part m h d x e f = e ∙ rw f (simp products_out (omega (arith, linear)))

as_sum : (m h d y x : ℤ) → x ≡ d +ℤ m *ℤ h → y ≡ d → x ≡ pos 1 *ℤ y +ℤ m *ℤ h
as_sum m h d y x e f = simp products_out (omega (arith, linear))

value_of_sum : (m g y x : ℤ) → x ≡ pos 1 *ℤ y +ℤ m *ℤ g → x ≡ pos 0 → y ≡ pos 0 → m *ℤ g ≡ pos 0
value_of_sum m g y x e f h = let e' = simp products_out at e in omega (arith, linear)

zero_divisor : (g : ℕ) → pos g ≡ pos 0 → g ≡ 0
zero_divisor g e = omega (arith, linear)

-- the part of h
split_value : (n : ℕ) (system : Weighted) (us ks : List (List ℤ)) (h : List ℤ) (g : ℕ) (made : List (List ℤ)) (x c : List ℤ) → AreSized n us
    → Exchanges n system us ks h g made → AreCoordinates n us x c
    → weighted_degree system x ≡ pos 0 → (s : Splits us c ks h) → s.multiple *ℤ pos g ≡ pos 0
split_value n system us ks h g made x c l e a z s =
    let sizes = recursion_lengths n system us ks h g made l e in
    let values = recursion_values n system us ks h g made l e in
    let y = combination_exists n s.coefficients ks sizes.kept in
    let sum : IsSumOfMultiples n (pos 1) y.0 s.multiple h x = record {
      dimension = a.combination.dimension;
      entries = λ j. as_sum s.multiple (entry h j) (dot s.coefficients (column j ks)) (entry y.0 j) (entry x j)
          (a.combination.entries j ∙ s.entries j) (y.1.entries j);
    } in
    let w = map pos system.weights in
    value_of_sum s.multiple (pos g) (dot w y.0) (dot w x) (sum_pairs n (pos 1) y.0 s.multiple h x w y.1.dimension sizes.last sum
    ∙ rw values.last refl) z
    (combination_pairs n w s.coefficients ks y.0 sizes.kept y.1 ∙ zero_values w s.coefficients ks values.kept)

system_spans : (n : ℕ) (system : Weighted) (us ks : List (List ℤ)) (h : List ℤ) (g : ℕ) (made : List (List ℤ)) (x c : List ℤ)
    → AreSized n us → Exchanges n system us ks h g made → AreCoordinates n us x c
    → weighted_degree system x ≡ pos 0 → (d : List ℤ) × AreCoordinates n ks x d
system_spans n system us ks h g made x c l e a z =
    let s = recursion_splits n system us ks h g made c a.count e in
    let product = split_value n system us ks h g made x c l e a z s in
    let entries : (j : ℕ) → entry x j ≡ dot s.coefficients (column j ks) = ⊎_elim
    (λ (f : pos g ≡ pos 0). λ j. zero_part s.multiple (entry h j) (dot s.coefficients (column j ks)) (entry x j)
    (a.combination.entries j ∙ s.entries j) ((recursion_zero n system us ks h g made (zero_divisor g f) e).zeros j))
    (λ (f : pos g ≢ pos 0). λ j. plain_part s.multiple (entry h j) (dot s.coefficients (column j ks)) (entry x j)
    (a.combination.entries j ∙ s.entries j) (factor_zero (pos g) s.multiple f (*ℤ_comm (pos g) s.multiple ∙ product)))
    (zero_or_not (pos g)) in
    (s.coefficients, record { count = s.count; combination = record { dimension = a.combination.dimension; entries = entries } })

exchanged_spans : (n : ℕ) (systems : List Weighted) (us vectors made : List (List ℤ)) (x c : List ℤ) → AreSized n us
    → AreExchanged n systems us vectors made → AreCoordinates n us x c
    → Each (λ w. weighted_degree w x ≡ pos 0) systems → (d : List ℤ) × AreCoordinates n vectors x d
exchanged_spans n _ us _ _ x c s done a z = (c, a)
exchanged_spans n _ us vectors _ x c s (next {system = w} {systems = ws} {ks = ks} {h = h} {g = g} {made = made} {later = later} e f) a z =
    let d = system_spans n w us ks h g made x c s e a (each_head z) in
    exchanged_spans n ws ks vectors later x d.0 (recursion_lengths n w us ks h g made s e).kept f d.1 (each_tail z)

-- the frame
pub frame_sized : (systems : List Weighted) (vectors made : List (List ℤ)) → IsRecursion systems vectors made
    → AreSized (columns_of systems) vectors
frame_sized systems vectors made r = exchanged_sizes (columns_of systems) systems r.units vectors made
    (unit_vectors_sized (columns_of systems) r.units r.are_units) r.exchanged

pub frame_leads : (systems : List Weighted) (vectors made : List (List ℤ)) → IsRecursion systems vectors made → Leads 0 vectors
frame_leads systems vectors made r = exchanged_leads (columns_of systems) systems r.units vectors made
    (unit_vectors_lead (columns_of systems) r.units r.are_units) r.exchanged

frame_spans : (systems : List Weighted) (vectors made : List (List ℤ)) (x : List ℤ) → IsRecursion systems vectors made
    → IsInLattice systems x → HasOneCombination (columns_of systems) vectors x
frame_spans systems vectors made x r i =
    let n = columns_of systems in
    let d = exchanged_spans n systems r.units vectors made x x (unit_vectors_sized n r.units r.are_units) r.exchanged
    (unit_vectors_span n r.units x r.are_units i.columns)
    (each_from_all (λ w. weighted_degree w x ≡ pos 0) systems i.vanish) in
    record {
      coefficients = d.0;
      are_coordinates = d.1;
      only = λ o a. coefficients_unique 0 vectors o d.0 (frame_leads systems vectors made r) a.count d.1.count
          (λ j. sym (a.combination.entries j) ∙ d.1.combination.entries j);
    }

frame_inside : (systems : List Weighted) (vectors made : List (List ℤ)) (x c : List ℤ) → IsRecursion systems vectors made
    → IsIntegerCombination (columns_of systems) c vectors x → IsInLattice systems x
frame_inside systems vectors made x c r e =
    let n = columns_of systems in
    let sizes = frame_sized systems vectors made r in
    record {
      columns = e.dimension;
      vanish = all_from_each (each_weaker (λ w z. combination_pairs n (map pos w.weights) c vectors x sizes e
          ∙ zero_values (map pos w.weights) c vectors z)
          (exchanged_vanish n systems r.units vectors made (unit_vectors_sized n r.units r.are_units) r.exchanged));
    }

pub frame_is_basis : FrameIsBasis
frame_is_basis systems vectors f = record {
  spans = λ x i. frame_spans systems vectors f.made x f.recursion i;
  inside = λ x c e. frame_inside systems vectors f.made x c f.recursion e;
}

-- it exists
pub record HasExchanged (n : ℕ) (systems : List Weighted) (us : List (List ℤ)) : Type 0 where
  pub vectors : List (List ℤ)
  pub made : List (List ℤ)
  pub exchanged : AreExchanged n systems us vectors made

pub exchanged_exists : (n : ℕ) (systems : List Weighted) (us : List (List ℤ)) → AreSized n us → HasExchanged n systems us
exchanged_exists n [] us s = record { vectors = us; made = []; exchanged = done }
exchanged_exists n (system ∷ systems) us s =
    let r = recursion_exists n system us s in
    let f = exchanged_exists n systems r.kept (recursion_lengths n system us r.kept r.last r.divisor r.made s r.exchanged).kept in
    record { vectors = f.vectors; made = r.made ++ f.made; exchanged = next r.exchanged f.exchanged }

pub frame_exists : FrameExists
frame_exists systems =
    let u = unit_vectors_exist (columns_of systems) in
    let f = exchanged_exists (columns_of systems) systems u.0 (unit_vectors_sized (columns_of systems) u.0 u.1) in
    (f.vectors, record { made = f.made; recursion = record { units = u.0; are_units = u.1; exchanged = f.exchanged } })

-- and there is only one
pub record AreSameFrame (vectors others made others_made : List (List ℤ)) : Type 0 where
  pub vectors_same : vectors ≡ others
  pub made_same : made ≡ others_made

exchanged_unique : (n : ℕ) (systems : List Weighted) (us us' vectors made others others_made : List (List ℤ)) → us ≡ us'
    → AreExchanged n systems us vectors made → AreExchanged n systems us' others others_made
    → AreSameFrame vectors others made others_made
exchanged_unique n _ us us' _ _ _ _ e done done = record { vectors_same = e; made_same = refl }
exchanged_unique n _ us us' vectors _ others _ e (next {system = w} {systems = ws} {ks = ks} {h = h} {g = g} {made = made}
    {later = later} x f) (next {ks = ks'} {h = h'} {g = g'} {made = made'} {later = later'} x' f') =
    let y : Exchanges n w us' ks h g made = rw e at x in
    let first = recursion_unique n w us' ks h g made ks' h' g' made' y x' in
    let same = exchanged_unique n ws ks ks' vectors later others later' first.kept f f' in
    record { vectors_same = same.vectors_same; made_same = same_append made made' later later' first.all same.made_same }

pub recursion_is_unique : (systems : List Weighted) (vectors made others others_made : List (List ℤ)) → IsRecursion systems vectors made
    → IsRecursion systems others others_made → AreSameFrame vectors others made others_made
recursion_is_unique systems vectors made others others_made r s =
    exchanged_unique (columns_of systems) systems r.units s.units vectors made others others_made
    (unit_vectors_unique (columns_of systems) r.units s.units r.are_units s.are_units) r.exchanged s.exchanged

pub frame_is_unique : FrameIsUnique
frame_is_unique systems vectors made others others_made r s = let e = recursion_is_unique systems vectors made others others_made r s in
    (e.vectors_same, e.made_same)

-- a frame within the limit isn't refused
first_above : (made others : List (List ℤ)) (told : ℕ) → made ≡ others → AreWithinEntryLimit made → IsFirstAboveLimit others told → ⊥
first_above made others told e within first =
    let h : AreWithinEntryLimit (first.before ++ (first.vector ∷ first.behind)) = rw (e, first.split) at within in
    let small = each_head (each_right first.before (first.vector ∷ first.behind)
    (each_from_all (λ x. largest x ≤ MOST_FRAME_ENTRY) (first.before ++ (first.vector ∷ first.behind)) h)) in
    above_twice (largest first.vector) MOST_FRAME_ENTRY told first.value small first.above
  where
    above_twice : (a m t : ℕ) → t ≡ a → a ≤ m → m < t → ⊥
    above_twice a m t e h k = omega arith

pub not_exceeding : (systems : List Weighted) (vectors : List (List ℤ)) (told : ℕ) → IsFrameWithinLimit systems vectors
    → ExceedsEntryLimit systems told → ⊥
not_exceeding systems vectors told f x =
    first_above f.made x.made told (recursion_is_unique systems vectors f.made x.vectors x.made f.recursion x.recursion).made_same f.within
    x.first

pub not_other_dimension : (systems : List Weighted) (vectors : List (List ℤ)) (n : ℕ) → IsFrameWithinLimit systems vectors
    → 1 ≤ length vectors → length vectors ≤ 6 → HasOtherDimension systems n → ⊥
not_other_dimension systems vectors n f least most x =
    let e = ap length (recursion_is_unique systems vectors f.made x.vectors x.frame.made f.recursion x.frame.recursion).vectors_same in
    let count = x.count in
    ⊎_elim (λ (h : n ≡ 0). omega arith) (λ (h : 6 < n). omega arith) x.outside

-- what holds of all vectors that are made, and of the first ones, holds of those that are kept
recursion_within : (P : List ℤ → Type 0) (n : ℕ) (system : Weighted) (us ks : List (List ℤ)) (h : List ℤ) (g : ℕ) (made : List (List ℤ))
    → Each P made → Exchanges n system us ks h g made → Each P ks
recursion_within P n system _ _ h _ _ e (none z) = empty
recursion_within P n system _ _ x g _ e (one_more {us = us} {ks = ks} {h = h} {after = after} {made = made} {k = k} i d y) =
    each_append (each_left k (x ∷ []) (each_right made (k ++ (x ∷ [])) e))
    (recursion_within P n system us ks h after made (each_left made (k ++ (x ∷ [])) e) i)

exchanged_within : (P : List ℤ → Type 0) (n : ℕ) (systems : List Weighted) (us vectors made : List (List ℤ)) → Each P us → Each P made
    → AreExchanged n systems us vectors made → Each P vectors
exchanged_within P n _ us _ _ e m done = e
exchanged_within P n _ us vectors _ e m (next {system = w} {systems = ws} {ks = ks} {h = h} {g = g} {made = made} {later = later} x f) =
    exchanged_within P n ws ks vectors later (recursion_within P n w us ks h g made (each_left made later m) x) (each_right made later m) f

-- the vectors of a frame within the limit
pub frame_small : (systems : List Weighted) (vectors : List (List ℤ)) → IsFrameWithinLimit systems vectors
    → AreSmallVectors (columns_of systems) vectors
frame_small systems vectors f =
    let n = columns_of systems in
    let r = f.recursion in
    record {
      dimension = all_from_each {P = λ x. length x ≡ n} (frame_sized systems vectors f.made r);
      within = all_from_each {P = λ x. largest x ≤ MOST_FRAME_ENTRY}
          (exchanged_within (λ x. largest x ≤ MOST_FRAME_ENTRY) n systems r.units vectors f.made (unit_vectors_small n r.units r.are_units)
          (each_from_all (λ x. largest x ≤ MOST_FRAME_ENTRY) f.made f.within) r.exchanged);
    }

pub frame_coordinates : (systems : List Weighted) (vectors : List (List ℤ)) (x : List ℤ) → IsFrameWithinLimit systems vectors
    → IsInLattice systems x → HasOneCombination (columns_of systems) vectors x
frame_coordinates systems vectors x f i = frame_spans systems vectors f.made x f.recursion i
