-- The criterion of interior points: the tails are around the origin.
use Rattle.std.proofs.Common.{◌≡◌, ◌≢◌, ℕ, suc, ◌<◌, ◌≤◌, List, [], ◌∷◌, length, map, ℤ, pos, ◌+ℤ◌, ◌-ℤ◌, ◌*ℤ◌, neg_ℤ, ◌≤ℤ◌, refl, sym, ap, ap₂, ◌∙◌, arith}
use Rattle.std.specs.List.{Contains}
use Rattle.lattice_theory.specs.Vector.{entry, dot, scaled, HaveDimension, IsVectorMultiple}
use Rattle.lattice_theory.proofs.Integers.{products_out, linear, product_nonnegative, positive_nonzero, factor_zero, positive_pos, *ℤ_comm}
use Rattle.lattice_theory.proofs.Members.{each_head, each_from_all, all_from_each, each_from_in, each_in, in_from_contains, contains_from_in}
use Rattle.lattice_theory.proofs.Vectors.{combined, length-combined, length-scaled, entry-combined, entry-scaled, dot-combined_left, same_from_entries}
use Rattle.lattice_core.specs.Weights.{Weighted, IsMonomial, monomial_point, total}
use Rattle.interior_point_theory.specs.Interior.{HasInteriorPoint, IsNonnegativeOnMonomials, system_of}
use Rattle.interior_point_theory.specs.Around.{OnlyZeroIsNonnegative, HasTails}
use Rattle.interior_point_theory.specs.Laws.{InteriorByTails, RefutersRefute, SurroundedTailsConfirm}
use Rattle.interior_point_theory.proofs.WeightVectors.{length-weights, length-point, point_value, multiple_at, degree_is, right_zero}
use Rattle.interior_point_theory.proofs.Around.{around_by_functions_lem}
use Rattle.interior_point_theory.proofs.Surrounded.{surrounded_points_lem}

module _ (degree w n : ℕ) (weights : List ℕ) (tails : List (List ℤ)) (has : HasTails n (system_of degree (w ∷ weights)) tails) where
  abbrev system : Weighted
  system = system_of degree (w ∷ weights)

  abbrev ws : List ℤ
  ws = map pos weights

  count : length weights ≡ n
  count = let e = has.summed.columns in omega arith

  first_positive : 0 < w
  first_positive = each_head (each_from_all (λ w. 1 ≤ w) (w ∷ weights) has.positive)

  dimensions : HaveDimension n tails
  dimensions = all_from_each (each_from_in tails (λ y i. let t = (has.members y).0 (contains_from_in i) in
      ap length t.same ∙ length-point t.later ∙ by (length t.later) (length weights) t.monomial.columns ∙ count))
    where
      by : (j k : ℕ) → suc j ≡ suc k → j ≡ k
      by j k e = omega arith

  -- a tail with its first coordinate has the value 0
  vanishes : (e : ℤ) (a : List ℤ) → IsMonomial (system ∷ []) (e ∷ a) → pos w *ℤ (e -ℤ pos 1) +ℤ dot ws (monomial_point a) ≡ pos 0
  vanishes e a m = point_value (w ∷ weights) (e ∷ a) (sym m.columns) ∙ equal (dot (map pos (w ∷ weights)) (e ∷ a)) (total (w ∷ weights)) degree
      (degree_is system (e ∷ a) m) has.summed.sum
    where
      equal : (a : ℤ) (t d : ℕ) → a ≡ pos d → t ≡ d → a -ℤ pos t ≡ pos 0
      equal a t d e f = omega (arith, linear)

  inside_zero : HasInteriorPoint system → OnlyZeroIsNonnegative n tails
  inside_zero interior f l h i = zero m.left m.right (entry f i) (pos w) (entry ws i) m.nonzero (positive_nonzero (pos w) (positive_pos w first_positive))
      (multiple_at (pos 0 ∷ f) (pos w ∷ ws) m 0) (multiple_at (pos 0 ∷ f) (pos w ∷ ws) m (suc i))
    where
      nonnegative : IsNonnegativeOnMonomials system (pos 0 ∷ f)
      nonnegative [] m = absurd (let k = m.columns in omega arith)
      nonnegative (e ∷ a) m = less (e -ℤ pos 1) (dot f (monomial_point a))
          (h (monomial_point a) ((has.members (monomial_point a)).1 (record { first = e; later = a; monomial = m; same = refl })))
        where
          less : (t d : ℤ) → pos 0 ≤ℤ d → pos 0 ≤ℤ (pos 0 *ℤ t +ℤ d)
          less t d h = simp products_out (omega (arith, linear))

      m : IsVectorMultiple (pos 0 ∷ f) (pos w ∷ ws)
      m = interior (pos 0 ∷ f) (ap suc (l ∙ sym count)) nonnegative

      zero : (q p f w v : ℤ) → q ≢ pos 0 → w ≢ pos 0 → q *ℤ pos 0 ≡ p *ℤ w → q *ℤ f ≡ p *ℤ v → f ≡ pos 0
      zero q p f w v nq nw e k = factor_zero q f nq (k ∙ rw (right_zero q p (pos 0) w e refl nw) (simp products_out refl))

  zero_inside : OnlyZeroIsNonnegative n tails → HasInteriorPoint system
  zero_inside only [] l h = absurd (omega arith)
  zero_inside only (c ∷ cs) l h = record {
    left = pos w;
    right = c;
    nonzero = positive_nonzero (pos w) (positive_pos w first_positive);
    same = ap₂ (λ (b : ℤ) (y : List ℤ). b ∷ y) (*ℤ_comm (pos w) c) (same_from_entries (scaled (pos w) cs) (scaled c ws)
        (length-scaled (pos w) cs ∙ length_cs (length cs) (length weights) l ∙ sym (length-weights weights) ∙ sym (length-scaled c ws))
        (λ i. entry-scaled (pos w) cs i ∙ moved (pos w *ℤ entry cs i) c (entry ws i) (sym (entry-combined (pos w) cs (neg_ℤ c) ws i)
        ∙ only without_first (length-combined n (pos w) cs (neg_ℤ c) ws (length_cs (length cs) (length weights) l ∙ count)
        (length-weights weights ∙ count)) nonnegative i)
        ∙ sym (entry-scaled c ws i)));
  }
    where
      length_cs : (j k : ℕ) → suc j ≡ suc k → j ≡ k
      length_cs j k e = omega arith

      -- w times the function, less c times the weights: it is 0 at the first place
      without_first : List ℤ
      without_first = combined (pos w) cs (neg_ℤ c) ws

      moved : (a c v : ℤ) → a +ℤ neg_ℤ c *ℤ v ≡ pos 0 → a ≡ c *ℤ v
      moved a c v e = let s = simp products_out at e in omega (arith, linear)

      pulled : (w c t d s : ℤ) → pos 0 ≤ℤ w → w *ℤ t +ℤ s ≡ pos 0 → pos 0 ≤ℤ (c *ℤ t +ℤ d) → pos 0 ≤ℤ (w *ℤ d +ℤ neg_ℤ c *ℤ s)
      pulled w c t d s p e k =
          let r = simp products_out at (product_nonnegative w (c *ℤ t +ℤ d) p k) in
          let z = simp products_out at (ap (λ (x : ℤ). c *ℤ x) e) in
          simp products_out (omega (arith, linear))

      at : (y : List ℤ) (e : ℤ) (a : List ℤ) → IsMonomial (system ∷ []) (e ∷ a) → y ≡ monomial_point a → pos 0 ≤ℤ dot (combined (pos w) cs (neg_ℤ c) ws) y
      at y e a m is = rw (is, dot-combined_left (pos w) cs (neg_ℤ c) ws (monomial_point a))
          (pulled (pos w) c (e -ℤ pos 1) (dot cs (monomial_point a)) (dot ws (monomial_point a)) (omega (arith, linear)) (vanishes e a m) (h (e ∷ a) m))

      nonnegative : (y : List ℤ) → Contains tails y → pos 0 ≤ℤ dot (combined (pos w) cs (neg_ℤ c) ws) y
      nonnegative y i = let t = (has.members y).0 i in at y t.first t.later t.monomial t.same

-- the same for any list of weights, which isn't empty
tails_zero : (n degree : ℕ) (weights : List ℕ) (tails : List (List ℤ)) → HasTails n (system_of degree weights) tails
    → HaveDimension n tails × (HasInteriorPoint (system_of degree weights) → OnlyZeroIsNonnegative n tails)
    × (OnlyZeroIsNonnegative n tails → HasInteriorPoint (system_of degree weights))
tails_zero n degree [] tails has = absurd (let e = has.summed.columns in omega arith)
tails_zero n degree (w ∷ weights) tails has = (
  dimensions degree w n weights tails has,
  inside_zero degree w n weights tails has,
  zero_inside degree w n weights tails has,
)

pub interior_by_tails_lem : InteriorByTails
interior_by_tails_lem n system tails has =
    let both = tails_zero n system.degree system.weights tails has in
    let around = around_by_functions_lem n tails has.some both.0 in
    ((λ interior. around.1 (both.1 interior)), (λ a. both.2 (around.0 a)))

pub refuters_refute_lem : RefutersRefute
refuters_refute_lem n system tails f has refuter interior = refuter.nonzero ((tails_zero n system.degree system.weights tails has).1 interior f
    refuter.dimension (λ y i. each_in (each_from_all (λ y. pos 0 ≤ℤ dot f y) tails refuter.nonnegative) (in_from_contains tails i)) refuter.place)

pub surrounded_tails_confirm_lem : SurroundedTailsConfirm
surrounded_tails_confirm_lem n system tails has surrounded = (tails_zero n system.degree system.weights tails has).2
    (surrounded_points_lem n tails surrounded)
