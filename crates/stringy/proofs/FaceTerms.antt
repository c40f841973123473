-- What another face adds to the sum of a face: how large it is, and of which degree.
use Rattle.std.proofs.Common.{◌≡◌, ℕ, ◌+◌, ◌-◌, ◌*◌, ◌^◌, ◌<◌, ◌≤◌, ◌⊎◌, inl, inr, nat_lt, Bool, true, false, List, length, ℤ, pos}
use Rattle.std.proofs.Common.{◌*ℤ◌, nat_abs, refl, sym, ap, ◌∙◌, arith}
use Rattle.std.proofs.Math.Bool.{cond}
use Rattle.std.proofs.lemmas.Bool.{cond-true, cond-false, cases_Bool}
use Rattle.std.proofs.lemmas.List.Elements.{All-get_or}
use Rattle.std.specs.List.{range_with_len}
use Rattle.lattice_theory.specs.Vector.{entry}
use Rattle.lattice_theory.proofs.Integers.{*ℤ-zero}
use Rattle.lattice_theory.proofs.Members.{contains_from_in}
use Rattle.face_poset.specs.Faces.{FaceState, TableState, no_face}
use Rattle.dual_pair.specs.declared.side.Side.{Side}
use Rattle.dual_pair.specs.declared.side.Side.TheVariants as sides
use Rattle.polynomial_theory.specs.Sums.{sum_over, sign}
use Rattle.polynomial_theory.specs.Series.{Series, HasDegreeAtMost, product, one}
use Rattle.polynomial_theory.proofs.Sums.{sum_filter, sum_same_in, sum_zero, splits_same}
use Rattle.polynomial_theory.proofs.ProductDegrees.{product_degree_lem}
use Rattle.stringy_theory.specs.Eulerian.{IsGraded, g}
use Rattle.stringy_theory.specs.FaceSeries.{IsRanked}
use Rattle.stringy_theory.specs.CountedFaces.{series_of}
use Rattle.stringy_theory.proofs.RankedTables.{number_within}
use Rattle.stringy_theory.proofs.UniqueIntervals.{g_degree, g_dual_degree}
use Rattle.stringy_theory.proofs.RisingRanks.{ranks_suffice_lem}
use Rattle.stringy_theory.proofs.SmallNumbers.{product_bound}
use Rattle.small_poly.specs.Tables.{unit_of}
use Rattle.poset_g.specs.Numbered.{counted, numbered, IsInterval, HasAllFaces, HasSmallRanks}
use Rattle.poset_g.specs.Stored.{GState, has_interval}
use Rattle.poset_g.specs.Values.{HoldsG, AreSmall}
use Rattle.poset_g.proofs.Ranges.{contains_number}
use Rattle.poset_g.proofs.NumberedFaces.{not_behind, ranks_rise_lem}
use Rattle.stringy.proofs.Signs.{signed_bound}
use Rattle.stringy.specs.RowSteps.{row_at, rank_at, tilde_of, low_of, high_of, first_of, end_of, interval_of, signed_term, term_of, degree_of}

-- the same factors
pub product_same : (A B C D : Series) → ((k : ℕ) → A k ≡ C k) → ((k : ℕ) → B k ≡ D k) → (k : ℕ) → product A B k ≡ product C D k
product_same A B C D e f k = splits_same k (λ a b. A a *ℤ B b) (λ a b. C a *ℤ D b) (λ a b. ap (λ (z : ℤ). z *ℤ B b) (e a) ∙ ap (λ (z : ℤ). C a *ℤ z) (f b))

-- the numbers of a row are small
pub row_small : (rows : List ℤ) (f : ℕ) → ((j : ℕ) → nat_abs (entry rows j) ≤ 2 ^ 28) → (k : ℕ) → nat_abs (row_at rows f k) ≤ 2 ^ 28
row_small rows f h k = chosen (nat_lt k 8)
  where
    chosen : (b : Bool) → nat_abs (cond b (entry rows (8 * f + k)) (pos 0)) ≤ 2 ^ 28
    chosen true = h (8 * f + k)
    chosen false = omega arith

module _ (table : TableState) (all : HasAllFaces table) (ranks : HasSmallRanks table) where
  pub graded : IsGraded (numbered table)
  graded = (ranks_suffice_lem (counted table 0 (λ x. one) (λ x. one)) (ranks_rise_lem table all 0 (λ x. one) (λ x. one))).1

  pub ranked : IsRanked (series_of (counted table 0 (λ x. one) (λ x. one)))
  ranked = (ranks_suffice_lem (counted table 0 (λ x. one) (λ x. one)) (ranks_rise_lem table all 0 (λ x. one) (λ x. one))).0

  pub rank_small : (x : ℕ) → x < length table.faces → rank_at table x ≤ 8
  rank_small x l = All-get_or (λ (face : FaceState). face.rank ≤ 8) table.faces x no_face l ranks

  pub rises : (x y : ℕ) → IsInterval table x y → rank_at table x ≤ rank_at table y
  rises x y i = ranked.rises x y (contains_number (length table.faces) x i.from) (contains_number (length table.faces) y i.to) i.below

  -- the polynomials of intervals
  pub interval_degree : (side : Side) (x y : ℕ) → IsInterval table x y → HasDegreeAtMost (rank_at table y - rank_at table x) (interval_of table side x y)
  interval_degree sides.M x y i k h = g_degree (numbered table) graded x y (contains_number (length table.faces) x i.from) (contains_number
      (length table.faces) y i.to) i.below k
      (omega arith) (omega arith)
  interval_degree sides.N x y i k h = g_dual_degree (numbered table) graded x y (contains_number (length table.faces) x i.from) (contains_number
      (length table.faces) y i.to) i.below k
      (omega arith) (omega arith)

  pub interval_short : (side : Side) (x y : ℕ) → IsInterval table x y → HasDegreeAtMost 3 (interval_of table side x y)
  interval_short sides.M x y i k h = let r = rank_small y i.to in
      g_degree (numbered table) graded x y (contains_number (length table.faces) x i.from) (contains_number (length table.faces) y i.to) i.below k
      (omega arith) (omega arith)
  interval_short sides.N x y i k h = let r = rank_small y i.to in
      g_dual_degree (numbered table) graded x y (contains_number (length table.faces) x i.from) (contains_number (length table.faces) y i.to) i.below k
      (omega arith) (omega arith)

  pub interval_small : AreSmall table → (side : Side) (x y : ℕ) → IsInterval table x y → (k : ℕ) → nat_abs (interval_of table side x y k) ≤ 2 ^ 12
  interval_small small sides.M x y i k = small (record { from = x; to = y; dual = false; degree = k }) i
  interval_small small sides.N x y i k = small (record { from = x; to = y; dual = true; degree = k }) i

  pub within : (side : Side) (f x : ℕ) → f < length table.faces → x < length table.faces → (numbered table).below (low_of side f x) (high_of side f x) ≡ true
      → IsInterval table (low_of side f x) (high_of side f x)
  within sides.M f x l m b = record { from = m; to = l; below = b }
  within sides.N f x l m b = record { from = l; to = m; below = b }

  -- one term
  degrees_meet : (side : Side) (f x : ℕ) → f < length table.faces → x < length table.faces → rank_at table (low_of side f x) ≤ rank_at table (high_of side f x)
      → degree_of table side x + (rank_at table (high_of side f x) - rank_at table (low_of side f x)) ≡ degree_of table side f
  degrees_meet sides.M f x l m h = omega arith
  degrees_meet sides.N f x l m h = let a = rank_small x m in omega arith

  more_zero : (n d k : ℕ) (A : Series) → HasDegreeAtMost n A → n ≡ d → d < k → A k ≡ pos 0
  more_zero n d k A h e l = h k (omega arith)

  term_degree : (side : Side) (h : ℕ → Series) (f x : ℕ) → f < length table.faces → x < length table.faces → HasDegreeAtMost (degree_of table side x) (h x)
      → (k : ℕ) → degree_of table side f < k → term_of table side h f k x ≡ pos 0
  term_degree side h f x l m d k j = by (cases_Bool ((numbered table).below (low_of side f x) (high_of side f x)))
    where
      by : ((numbered table).below (low_of side f x) (high_of side f x) ≡ true) ⊎ ((numbered table).below (low_of side f x) (high_of side f x) ≡ false)
          → term_of table side h f k x ≡ pos 0
      by (inl t) = let i = within side f x l m t in
          ap (λ (b : Bool). cond b (signed_term table side h f x k) (pos 0)) t
          ∙ ap (λ (z : ℤ). sign (rank_at table (high_of side f x) - rank_at table (low_of side f x)) *ℤ z)
          (more_zero (degree_of table side x + (rank_at table (high_of side f x) - rank_at table (low_of side f x))) (degree_of table side f) k
          (product (h x) (interval_of table side (low_of side f x) (high_of side f x)))
          (product_degree_lem (degree_of table side x) (rank_at table (high_of side f x) - rank_at table (low_of side f x)) (h x)
          (interval_of table side (low_of side f x) (high_of side f x)) d (interval_degree side (low_of side f x) (high_of side f x) i))
          (degrees_meet side f x l m (rises (low_of side f x) (high_of side f x) i)) j)
          ∙ *ℤ-zero (sign (rank_at table (high_of side f x) - rank_at table (low_of side f x)))
      by (inr t) = cond-false ((numbered table).below (low_of side f x) (high_of side f x)) (signed_term table side h f x k) (pos 0) t

  pub term_bound : AreSmall table → (side : Side) (h : ℕ → Series) (f x : ℕ) → f < length table.faces → x < length table.faces
      → ((k : ℕ) → nat_abs (h x k) ≤ 2 ^ 28) → (k : ℕ) → nat_abs (term_of table side h f k x) ≤ 2 ^ 42
  term_bound small side h f x l m d k = by ((numbered table).below (low_of side f x) (high_of side f x)) (λ t. within side f x l m t)
    where
      by : (b : Bool) → (b ≡ true → IsInterval table (low_of side f x) (high_of side f x)) → nat_abs (cond b (signed_term table side h f x k) (pos 0)) ≤ 2 ^ 42
      by true w = let i = w refl in
          signed_bound (rank_at table (high_of side f x) - rank_at table (low_of side f x)) (product (h x) (interval_of table side (low_of side f x)
          (high_of side f x)) k) (2 ^ 42)
          (product_bound (h x) (interval_of table side (low_of side f x) (high_of side f x)) d (interval_small small side (low_of side f x) (high_of side f x) i)
          (λ j n. interval_short side (low_of side f x) (high_of side f x) i j (omega arith)) k)
      by false w = omega arith

  -- the sum over all faces
  pub tilde_sum : (side : Side) (h : ℕ → Series) (f k : ℕ) → sum_over (range_with_len 0 (length table.faces)) (term_of table side h f k) ≡ tilde_of table side h f k
  tilde_sum sides.M h f k = sym (sum_filter (λ x. (numbered table).below x f) (range_with_len 0 (length table.faces)) (λ x. signed_term table sides.M h f x k))
  tilde_sum sides.N h f k = sym (sum_filter (λ x. (numbered table).below f x) (range_with_len 0 (length table.faces)) (λ x. signed_term table sides.N h f x k))

  -- the sum has the degree that its terms have
  pub tilde_degree : (side : Side) (h : ℕ → Series) → ((x : ℕ) → x < length table.faces → HasDegreeAtMost (degree_of table side x) (h x)) → (f : ℕ)
      → f < length table.faces → HasDegreeAtMost (degree_of table side f) (tilde_of table side h f)
  tilde_degree side h d f l k j = sym (tilde_sum side h f k)
      ∙ sum_same_in (range_with_len 0 (length table.faces)) (term_of table side h f k) (λ x. pos 0)
      (λ x i. let m = number_within (length table.faces) x (contains_from_in i) in term_degree side h f x l m (d x m) k j)
      ∙ sum_zero (range_with_len 0 (length table.faces)) (λ x. pos 0) (λ x. refl)

  -- the ends of an interval, as they are found
  lower_within : (side : Side) (f x lo : ℕ) → lo ≡ low_of side f x → f < length table.faces → x < length table.faces → lo < length table.faces
  lower_within sides.M f x lo e l m = rw e m
  lower_within sides.N f x lo e l m = rw e l

  upper_within : (side : Side) (f x hi : ℕ) → hi ≡ high_of side f x → f < length table.faces → x < length table.faces → hi < length table.faces
  upper_within sides.M f x hi e l m = rw e l
  upper_within sides.N f x hi e l m = rw e m

  pub found_interval : (side : Side) (f x lo hi : ℕ) → lo ≡ low_of side f x → hi ≡ high_of side f x → f < length table.faces → x < length table.faces
      → (numbered table).below lo hi ≡ true → IsInterval table lo hi
  found_interval side f x lo hi e g l m b = record { from = lower_within side f x lo e l m; to = upper_within side f x hi g l m; below = b }

  -- a table of G and G' tells them
  pub told_interval : (s : GState) → HoldsG table s → (side : Side) (f x lo hi : ℕ) → lo ≡ low_of side f x → hi ≡ high_of side f x → f < length table.faces
      → x < length table.faces → (b : Bool) → has_interval s lo hi ≡ b → (numbered table).below lo hi ≡ b
  told_interval s holds side f x lo hi e g l m b h = sym (holds.told lo hi (lower_within side f x lo e l m) (upper_within side f x hi g l m)) ∙ h

  -- a face that isn't on the side adds nothing
  pub term_none : (side : Side) (h : ℕ → Series) (f x lo hi : ℕ) → lo ≡ low_of side f x → hi ≡ high_of side f x → (numbered table).below lo hi ≡ false → (k : ℕ)
      → term_of table side h f k x ≡ pos 0
  term_none side h f x lo hi e g b k = cond-false ((numbered table).below (low_of side f x) (high_of side f x)) (signed_term table side h f x k) (pos 0)
      (sym (ap (λ (a : ℕ). (numbered table).below a hi) e ∙ ap (λ (a : ℕ). (numbered table).below (low_of side f x) a) g) ∙ b)

  -- so do those whose numbers are outside
  not_below : (x y : ℕ) → x < length table.faces → y < length table.faces → y < x → (numbered table).below x y ≡ false
  not_below x y l m n = by (cases_Bool ((numbered table).below x y))
    where
      by : ((numbered table).below x y ≡ true) ⊎ ((numbered table).below x y ≡ false) → (numbered table).below x y ≡ false
      by (inl t) = let a = not_behind all.0 table all.1 x y l m t in absurd (omega arith)
      by (inr f) = f

  pub end_within : (side : Side) (f : ℕ) → f < length table.faces → end_of side f (length table.faces) ≤ length table.faces
  end_within sides.M f l = omega arith
  end_within sides.N f l = omega arith

  pub first_within : (side : Side) (f : ℕ) → f < length table.faces → first_of side f ≤ length table.faces
  first_within sides.M f l = omega arith
  first_within sides.N f l = omega arith

  pub none_before : (side : Side) (h : ℕ → Series) (f k : ℕ) → f < length table.faces → (x : ℕ) → x < first_of side f → term_of table side h f k x ≡ pos 0
  none_before sides.M h f k l x m = absurd (omega arith)
  none_before sides.N h f k l x m = term_none sides.N h f x f x refl refl (not_below f x l (omega arith) m) k

  pub none_behind : (side : Side) (h : ℕ → Series) (f k : ℕ) → f < length table.faces → (x : ℕ) → end_of side f (length table.faces) ≤ x → x < length table.faces
      → term_of table side h f k x ≡ pos 0
  none_behind sides.M h f k l x m n = term_none sides.M h f x x f refl refl (not_below x f n l (omega arith)) k
  none_behind sides.N h f k l x m n = absurd (omega arith)

  -- what is added is the term
  pub term_added : (side : Side) (h : ℕ → Series) (f x lo hi : ℕ) (row interval : Series) (negative : Bool) → lo ≡ low_of side f x → hi ≡ high_of side f x
      → (numbered table).below lo hi ≡ true → unit_of negative ≡ sign (rank_at table hi - rank_at table lo) → ((k : ℕ) → row k ≡ h x k)
      → ((k : ℕ) → interval k ≡ interval_of table side lo hi k) → (k : ℕ) → unit_of negative *ℤ product row interval k ≡ term_of table side h f k x
  term_added side h f x lo hi row interval negative e g b s r i k =
      ap (λ (z : ℤ). z *ℤ product row interval k) s
      ∙ ap (λ (z : ℤ). sign (rank_at table hi - rank_at table lo) *ℤ z) (product_same row interval (h x) (interval_of table side lo hi) r i k)
      ∙ ap (λ (a : ℕ). sign (rank_at table hi - rank_at table a) *ℤ product (h x) (interval_of table side a hi) k) e
      ∙ ap (λ (a : ℕ). sign (rank_at table a - rank_at table (low_of side f x)) *ℤ product (h x) (interval_of table side (low_of side f x) a) k) g
      ∙ sym (cond-true ((numbered table).below (low_of side f x) (high_of side f x)) (signed_term table side h f x k) (pos 0)
      (sym (ap (λ (a : ℕ). (numbered table).below a hi) e ∙ ap (λ (a : ℕ). (numbered table).below (low_of side f x) a) g) ∙ b))

  pub degree_few : (side : Side) (f : ℕ) → f < length table.faces → degree_of table side f ≤ 8
  degree_few sides.M f l = rank_small f l
  degree_few sides.N f l = omega arith
