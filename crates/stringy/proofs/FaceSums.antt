-- What a face adds to the numerator, and the sum over all faces.
use Rattle.std.proofs.Common.{◌≡◌, ℕ, ◌+◌, ◌-◌, ◌*◌, ◌^◌, ◌<◌, ◌≤◌, Bool, length, ℤ, pos, negsuc, ◌+ℤ◌, ◌*ℤ◌, nat_abs}
use Rattle.std.proofs.Common.{sym, ap, ◌∙◌, arith}
use Rattle.std.proofs.lemmas.Int.{ints, unsigned_abs-mul}
use Rattle.std.proofs.Math.Nat.{mul-le-mul}
use Rattle.std.specs.List.{range_with_len}
use Rattle.face_poset.specs.Faces.{TableState}
use Rattle.dual_pair.specs.declared.side.Side.TheVariants as sides
use Rattle.polynomial_theory.specs.Sums.{sum_over, sign}
use Rattle.polynomial_theory.specs.Series.{Series, HasDegreeAtMost, HasNoPowerBelow, HasNoPowerAbove, times_at_product}
use Rattle.polynomial_theory.specs.Series.{monomial, power_of_minus_u}
use Rattle.polynomial_theory.proofs.Times.{times_same, times_same_left, times_none, times_none_left}
use Rattle.stringy_theory.specs.Stringy.{numerator}
use Rattle.stringy_theory.proofs.Numerator.{numerator_by_faces_lem}
use Rattle.stringy_theory.proofs.SmallNumbers.{coefficient_bound}
use Rattle.small_poly.specs.Tables.{unit_of, term}
use Rattle.small_poly.proofs.FittingTerms.{terms_fit_lem}
use Rattle.poset_g.specs.Numbered.{HasAllFaces, HasSmallRanks}
use Rattle.stringy.specs.RowSteps.{rank_at, with_series, tilde_of, degree_of, face_term}
use Rattle.stringy.proofs.FaceTerms.{ranked, rank_small, tilde_degree}
use Rattle.stringy.proofs.KeptRows.{same_size}

-- products of coefficients are small
pub products_small : (A B : Series) → ((k : ℕ) → nat_abs (A k) ≤ 2 ^ 54) → ((k : ℕ) → nat_abs (B k) ≤ 2 ^ 54) → (a b : ℕ) → nat_abs (A a *ℤ B b) ≤ 2 ^ 126
products_small A B h k a b = rw unsigned_abs-mul (let e = mul-le-mul (h a) (k b) in omega arith)

-- the sums are small
pub sums_small : (s t z : ℤ) → t ≡ z → nat_abs z ≤ 2 ^ 108 → nat_abs s ≤ 2 ^ 124 → nat_abs (s +ℤ t) < 2 ^ 126
sums_small s t z e h k = rw e (omega (arith, ints))

-- one term more
pub term_size : (s p : ℤ) (i : ℕ) → nat_abs p ≤ 2 ^ 108 → nat_abs s ≤ 2 ^ 108 * i → nat_abs (s +ℤ p) ≤ 2 ^ 108 * (i + 1)
term_size s p i h k = omega (arith, ints)

module _ (table : TableState) (all : HasAllFaces table) (ranks : HasSmallRanks table) (h h_dual : ℕ → Series) (f : ℕ) (l : f < length table.faces)
    (A B : Series) (e : (k : ℕ) → A k ≡ tilde_of table sides.M h f k) (d : (k : ℕ) → B k ≡ tilde_of table sides.N h_dual f k) where
  -- what is added is the term
  pub is_face_term : (negative : Bool) (r : ℕ) → r ≡ rank_at table f → unit_of negative ≡ sign r → (p : ℤ) (q : ℕ)
      → term (unit_of negative) r A B p q ≡ face_term table h h_dual p q f
  is_face_term negative r i s p q =
      times_same_left (negsuc 0) A (tilde_of table sides.M h f) (times_at_product B (monomial (unit_of negative) r)) e p q
      ∙ times_same (negsuc 0) (tilde_of table sides.M h f) (times_at_product B (monomial (unit_of negative) r))
      (times_at_product (tilde_of table sides.N h_dual f) (power_of_minus_u (rank_at table f)))
      (λ p q. times_same_left (pos 1) B (tilde_of table sides.N h_dual f) (monomial (unit_of negative) r) d p q
      ∙ times_same (pos 1) (tilde_of table sides.N h_dual f) (monomial (unit_of negative) r) (power_of_minus_u (rank_at table f))
      (λ p q. ap (λ (c : ℤ). monomial c r p q) s ∙ ap (λ (n : ℕ). power_of_minus_u n p q) i) p q) p q

  -- it is small
  pub face_term_small : ((k : ℕ) → nat_abs (A k) ≤ 2 ^ 54) → ((k : ℕ) → nat_abs (B k) ≤ 2 ^ 54) → (p q : ℕ) → nat_abs (face_term table h h_dual (pos p) q f) ≤ 2 ^ 108
  face_term_small a b p q = coefficient_bound (rank_at table f) p q (tilde_of table sides.M h f) (tilde_of table sides.N h_dual f)
      (λ k. same_size (tilde_of table sides.M h f k) (A k) (2 ^ 54) (sym (e k)) (a k)) (λ k. same_size (tilde_of table sides.N h_dual f k) (B k) (2 ^ 54) (sym (d k)) (b k))

  -- and fits
  pub face_term_fits : ((x : ℕ) → x < length table.faces → HasDegreeAtMost (degree_of table sides.M x) (h x))
      → ((x : ℕ) → x < length table.faces → HasDegreeAtMost (degree_of table sides.N x) (h_dual x)) → (c : ℤ) (r : ℕ) → r ≡ rank_at table f
      → HasNoPowerBelow (pos 0) (term c r A B) × HasNoPowerAbove 16 16 (term c r A B)
  face_term_fits m n c r i = let s = rank_small table all ranks f l in
      terms_fit_lem c r (rank_at table f) (8 - rank_at table f) A B
      (λ k j. e k ∙ tilde_degree table all ranks sides.M h m f l k j) (λ k j. d k ∙ tilde_degree table all ranks sides.N h_dual n f l k j)
      (omega arith) (omega arith) (omega arith)

-- a face adds nothing where S~ is 0 on side M, or on side N
pub nothing_on_m : (table : TableState) (h h_dual : ℕ → Series) (f : ℕ) (A : Series) → ((k : ℕ) → A k ≡ tilde_of table sides.M h f k)
    → ((k : ℕ) → A k ≡ pos 0) → (p : ℤ) (q : ℕ) → face_term table h h_dual p q f ≡ pos 0
nothing_on_m table h h_dual f A e z p q =
    let rest = times_at_product (tilde_of table sides.N h_dual f) (power_of_minus_u (rank_at table f)) in
    times_same_left (negsuc 0) (tilde_of table sides.M h f) (λ k. pos 0) rest (λ k. sym (e k) ∙ z k) p q ∙ times_none_left (negsuc 0) rest p q

pub nothing_on_n : (table : TableState) (h h_dual : ℕ → Series) (f : ℕ) (B : Series) → ((k : ℕ) → B k ≡ tilde_of table sides.N h_dual f k)
    → ((k : ℕ) → B k ≡ pos 0) → (p : ℤ) (q : ℕ) → face_term table h h_dual p q f ≡ pos 0
nothing_on_n table h h_dual f B d z p q =
    let unit = power_of_minus_u (rank_at table f) in
    times_same (negsuc 0) (tilde_of table sides.M h f) (times_at_product (tilde_of table sides.N h_dual f) unit) (λ p q. pos 0)
    (λ p q. times_same_left (pos 1) (tilde_of table sides.N h_dual f) (λ k. pos 0) unit (λ k. sym (d k) ∙ z k) p q ∙ times_none_left (pos 1) unit p q) p q
    ∙ times_none (negsuc 0) (tilde_of table sides.M h f) p q

-- nothing is small, and adds nothing
pub nothing_small : (t : ℤ) → t ≡ pos 0 → nat_abs t ≤ 2 ^ 108
nothing_small t e = rw e (omega arith)

pub nothing_more : (s t : ℤ) → t ≡ pos 0 → s ≡ s +ℤ t
nothing_more s t e = omega (arith, ints, e)

-- all faces together are the numerator
pub faces_are_numerator : (table : TableState) → HasAllFaces table → HasSmallRanks table → (h h_dual : ℕ → Series) (p : ℤ) (q : ℕ)
    → sum_over (range_with_len 0 (length table.faces)) (face_term table h h_dual p q) ≡ numerator (with_series table h h_dual) p q
faces_are_numerator table all ranks h h_dual p q = numerator_by_faces_lem (with_series table h h_dual)
    (record { transitive = (ranked table all ranks).transitive; rises = (ranked table all ranks).rises }) p q
