-- Rows of h* of the faces of a cone.
use Rattle.std.proofs.Common.{◌≡◌, ℕ, ◌+◌, ◌-◌, ◌*◌, ◌<◌, ◌≤◌, ◌⊎◌, inl, inr, nat_lt, max, min, List, length, ℤ, pos, negsuc, ◌*ℤ◌, nat_abs, ◌^◌}
use Rattle.std.proofs.Common.{refl, sym, ap, subst, ◌∙◌, arith}
use Rattle.std.proofs.Math.Bool.{cond}
use Rattle.std.proofs.Math.Nat.{max-le, le-min}
use Rattle.std.proofs.lemmas.Bool.{cond-true, cond-false, le-ltb, lt-ltb}
use Rattle.std.proofs.lemmas.List.Elements.{All-get_or}
use Rattle.std.specs.List.{All, range_with_len}
use Rattle.lattice_theory.specs.Vector.{entry}
use Rattle.lattice_theory.proofs.Members.{contains_from_in}
use Rattle.face_poset.specs.Faces.{FaceState, TableState, no_face, IsTopRank}
use Rattle.dual_pair.specs.declared.side.Side.{Side}
use Rattle.dual_pair.specs.declared.side.Side.TheVariants as sides
use Rattle.polynomial_theory.specs.Sums.{sign}
use Rattle.polynomial_theory.specs.Series.{Series, HasDegreeAtMost, times_at_product, power_of_minus_u}
use Rattle.polynomial_theory.proofs.Sums.{sum_same_in}
use Rattle.polynomial_theory.proofs.LowPowers.{large_or_not}
use Rattle.polynomial_theory.proofs.Times.{times_same, times_same_left}
use Rattle.stringy_theory.specs.Stringy.{numerator}
use Rattle.stringy_theory.specs.CountedFaces.{series_of}
use Rattle.stringy_theory.proofs.RankedTables.{number_within}
use Rattle.poset_g.specs.Numbered.{numbered, HasAllFaces, HasSmallRanks}
use Rattle.stringy.specs.ConeNumbers.{PointNumbers, counted_faces, star_rank, star_of, s_tilde_of}
use Rattle.stringy.specs.RowSteps.{row_at, rank_at, with_series, tilde_of, low_of, high_of, interval_of, term_of, degree_of, face_term}
use Rattle.stringy.specs.StarSteps.{IsStarRank}
use Rattle.stringy.proofs.KeptRows.{same_size}
use Rattle.stringy.proofs.FaceTerms.{tilde_sum, product_same}
use Rattle.stringy.proofs.FaceSums.{faces_are_numerator}

-- there is one highest rank, and no rank is above what none is above
pub rank_most : (faces : List FaceState) (most top : ℕ) → All (λ face. face.rank ≤ most) faces → IsTopRank faces top → top ≤ most
rank_most faces most top a t = let m = All-get_or (λ (face : FaceState). face.rank ≤ most) faces t.place no_face t.within a in let e = t.reached in omega arith

pub top_single : (faces : List FaceState) (a b : ℕ) → IsTopRank faces a → IsTopRank faces b → a ≡ b
top_single faces a b s t = let l = rank_most faces b a t.most s in let m = rank_most faces a b s.most t in omega arith

pub star_rank_is : (table : TableState) (side : Side) (f rank top : ℕ) → IsStarRank table side f rank → IsTopRank table.faces top → rank ≡ star_rank table top side f
star_rank_is table side f rank top s t = s.is ∙ ap (λ (n : ℕ). star_rank table n side f) (top_single table.faces s.top top s.is_top t)

pub star_rank_most : (table : TableState) (side : Side) (f rank : ℕ) → f < length table.faces → IsStarRank table side f rank → (most : ℕ)
    → All (λ face. face.rank ≤ most) table.faces → rank ≤ most
star_rank_most table side f rank l s most a = bounded (star_rank table s.top side f) s.is (by side)
  where
    bounded : (n : ℕ) → rank ≡ n → n ≤ most → rank ≤ most
    bounded n e h = omega arith

    by : (side : Side) → star_rank table s.top side f ≤ most
    by sides.M = All-get_or (λ (face : FaceState). face.rank ≤ most) table.faces f no_face l a
    by sides.N = let m = rank_most table.faces most s.top a s.is_top in omega arith

-- how high the degree of h* is
pub star_rank_degree : (table : TableState) (side : Side) (f rank dim : ℕ) → IsStarRank table side f rank → dim ≤ 8 → All (λ face. face.rank ≤ dim) table.faces
    → rank ≤ degree_of table side f
star_rank_degree table side f rank dim s d a = bounded (star_rank table s.top side f) s.is (by side)
  where
    bounded : (n : ℕ) → rank ≡ n → n ≤ degree_of table side f → rank ≤ degree_of table side f
    bounded n e h = omega arith

    by : (side : Side) → star_rank table s.top side f ≤ degree_of table side f
    by sides.M = omega arith
    by sides.N = let m = rank_most table.faces dim s.top a s.is_top in omega arith

pub small_ranks : (table : TableState) (dim n : ℕ) → n ≡ dim → n ≤ 8 → All (λ face. face.rank ≤ dim) table.faces → HasSmallRanks table
small_ranks table dim n e d a = λ i z l. let m = a i z l in omega arith

-- the degrees that are counted
pub used_all : (rank dim s : ℕ) → rank ≤ dim → 1 ≤ dim → s < max rank 1 → s < min (max rank 1) dim
used_all rank dim s h k l = let m : max rank 1 ≤ dim = max-le h k in let n : s + 1 ≤ min (max rank 1) dim = le-min (omega arith) (omega arith) in omega arith

-- a row among rows
pub row_kept : (old new : List ℤ) (face f : ℕ) → ((j : ℕ) → (j < 8 * face) ⊎ (8 * face + 8 ≤ j) → entry new j ≡ entry old j) → f < face → (k : ℕ)
    → row_at new f k ≡ row_at old f k
row_kept old new face f h l k = by (large_or_not k 8)
  where
    by : (k < 8) ⊎ (8 ≤ k) → row_at new f k ≡ row_at old f k
    by (inl m) = ap (λ (z : ℤ). cond (nat_lt k 8) z (pos 0)) (h (8 * f + k) (inl (omega arith)))
    by (inr m) = cond-false (nat_lt k 8) (entry new (8 * f + k)) (pos 0) (le-ltb k 8 m) ∙ sym (cond-false (nat_lt k 8) (entry old (8 * f + k)) (pos 0) (le-ltb k 8 m))

pub row_put : (new row : List ℤ) (face : ℕ) → ((k : ℕ) → k < 8 → entry new (8 * face + k) ≡ entry row k) → HasDegreeAtMost 7 (entry row) → (k : ℕ)
    → row_at new face k ≡ entry row k
row_put new row face h d k = by (large_or_not k 8)
  where
    by : (k < 8) ⊎ (8 ≤ k) → row_at new face k ≡ entry row k
    by (inl m) = cond-true (nat_lt k 8) (entry new (8 * face + k)) (pos 0) (lt-ltb k 8 m) ∙ h k m
    by (inr m) = cond-false (nat_lt k 8) (entry new (8 * face + k)) (pos 0) (le-ltb k 8 m) ∙ sym (d k (omega arith))

pub put_small : (old new row : List ℤ) (face : ℕ) → ((k : ℕ) → k < 8 → entry new (8 * face + k) ≡ entry row k)
    → ((j : ℕ) → (j < 8 * face) ⊎ (8 * face + 8 ≤ j) → entry new j ≡ entry old j) → ((k : ℕ) → nat_abs (entry row k) ≤ 2 ^ 28)
    → ((j : ℕ) → nat_abs (entry old j) ≤ 2 ^ 28) → (j : ℕ) → nat_abs (entry new j) ≤ 2 ^ 28
put_small old new row face at others r o j = by (large_or_not j (8 * face)) (large_or_not j (8 * face + 8))
  where
    place : 8 * face ≤ j → 8 * face + (j - 8 * face) ≡ j
    place h = omega arith

    by : (j < 8 * face) ⊎ (8 * face ≤ j) → (j < 8 * face + 8) ⊎ (8 * face + 8 ≤ j) → nat_abs (entry new j) ≤ 2 ^ 28
    by (inl l) d = same_size (entry new j) (entry old j) (2 ^ 28) (others j (inl l)) (o j)
    by (inr l) (inl m) = same_size (entry new j) (entry row (j - 8 * face)) (2 ^ 28)
        (ap (entry new) (sym (place l)) ∙ at (j - 8 * face) (omega arith)) (r (j - 8 * face))
    by (inr l) (inr m) = same_size (entry new j) (entry old j) (2 ^ 28) (others j (inr m)) (o j)

-- the rows so far, with that of one face more
pub rows_so_far : (P : ℕ → Series → Type 0) → ((f : ℕ) (A B : Series) → ((k : ℕ) → A k ≡ B k) → P f B → P f A) → (old new row : List ℤ) (face : ℕ)
    → ((k : ℕ) → k < 8 → entry new (8 * face + k) ≡ entry row k) → ((j : ℕ) → (j < 8 * face) ⊎ (8 * face + 8 ≤ j) → entry new j ≡ entry old j)
    → HasDegreeAtMost 7 (entry row) → ((f : ℕ) → f < face → P f (row_at old f)) → P face (entry row) → (f : ℕ) → f < face + 1 → P f (row_at new f)
rows_so_far P same old new row face at others d before here f l = by (large_or_not f face)
  where
    now : P face (row_at new face)
    now = same face (row_at new face) (entry row) (row_put new row face at d) here

    equal : f ≡ face → P f (row_at new f)
    equal e = subst (λ (n : ℕ). P n (row_at new n)) (sym e) now

    by : (f < face) ⊎ (face ≤ f) → P f (row_at new f)
    by (inl m) = same f (row_at new f) (row_at old f) (row_kept old new face f others m) (before f m)
    by (inr m) = equal (omega arith)

-- the same polynomials of faces give the same sums
module _ (table : TableState) (all : HasAllFaces table) (ranks : HasSmallRanks table) where
  pub tilde_same : (side : Side) (h m : ℕ → Series) (f : ℕ) → ((x : ℕ) → x < length table.faces → (k : ℕ) → h x k ≡ m x k) → (k : ℕ)
      → tilde_of table side h f k ≡ tilde_of table side m f k
  tilde_same side h m f e k = sym (tilde_sum table all ranks side h f k)
      ∙ sum_same_in (range_with_len 0 (length table.faces)) (term_of table side h f k) (term_of table side m f k)
      (λ x i. ap (λ (z : ℤ). cond ((numbered table).below (low_of side f x) (high_of side f x)) (sign (rank_at table
      (high_of side f x) - rank_at table (low_of side f x)) *ℤ z) (pos 0))
      (product_same (h x) (interval_of table side (low_of side f x) (high_of side f x)) (m x) (interval_of table side (low_of side f x) (high_of side f x))
      (e x (number_within (length table.faces) x (contains_from_in i))) (λ j. refl) k))
      ∙ tilde_sum table all ranks side m f k

  pub numerator_same : (h m : ℕ → Series) (h_dual m_dual : ℕ → Series) → ((x : ℕ) → x < length table.faces → (k : ℕ) → h x k ≡ m x k)
      → ((x : ℕ) → x < length table.faces → (k : ℕ) → h_dual x k ≡ m_dual x k) → (p : ℤ) (q : ℕ)
      → numerator (with_series table h h_dual) p q ≡ numerator (with_series table m m_dual) p q
  numerator_same h m h_dual m_dual e d p q = sym (faces_are_numerator table all ranks h h_dual p q)
      ∙ sum_same_in (range_with_len 0 (length table.faces)) (face_term table h h_dual p q) (face_term table m m_dual p q) (λ f i. same f)
      ∙ faces_are_numerator table all ranks m m_dual p q
    where
      same : (f : ℕ) → face_term table h h_dual p q f ≡ face_term table m m_dual p q f
      same f = times_same_left (negsuc 0) (tilde_of table sides.M h f) (tilde_of table sides.M m f)
          (times_at_product (tilde_of table sides.N h_dual f) (power_of_minus_u (rank_at table f))) (tilde_same sides.M h m f e) p q
          ∙ times_same (negsuc 0) (tilde_of table sides.M m f) (times_at_product (tilde_of table sides.N h_dual f) (power_of_minus_u (rank_at table f)))
          (times_at_product (tilde_of table sides.N m_dual f) (power_of_minus_u (rank_at table f)))
          (times_same_left (pos 1) (tilde_of table sides.N h_dual f) (tilde_of table sides.N m_dual f) (power_of_minus_u (rank_at table f))
          (tilde_same sides.N h_dual m_dual f d)) p q

-- and h* gives S~ and the numerator of the definitions
pub tilde_of_stars : (table : TableState) (top : ℕ) (counts : PointNumbers) (side : Side) (f k : ℕ)
    → tilde_of table side (star_of table top counts side) f k ≡ s_tilde_of table top counts side f k
tilde_of_stars table top counts sides.M f k = refl
tilde_of_stars table top counts sides.N f k = refl

pub numerator_of_stars : (table : TableState) (top : ℕ) (counts : PointNumbers) (p : ℤ) (q : ℕ)
    → numerator (with_series table (star_of table top counts sides.M) (star_of table top counts sides.N)) p q ≡ numerator (series_of (counted_faces table top counts)) p q
numerator_of_stars table top counts p q = refl
