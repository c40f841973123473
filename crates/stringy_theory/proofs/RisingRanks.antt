-- What follows from an order along which ranks rise.
use Rattle.std.proofs.Common.{◌≡◌, ℕ, ◌-◌, ◌≤◌, max, nat_lt, true, false, pos, ap, ◌⊎◌, inl, inr, arith}
use Rattle.std.proofs.lemmas.Bool.{cases_Bool, le-ltb, cond-false}
use Rattle.std.specs.List.{Contains}
use Rattle.polynomial_theory.specs.Series.{Series, HasDegreeAtMost}
use Rattle.stringy_theory.specs.Eulerian.{IsGraded, strictly}
use Rattle.stringy_theory.specs.HStar.{h_star, alternating}
use Rattle.stringy_theory.specs.FaceSeries.{IsRanked, HaveSmallDegrees, HaveSmallDualDegrees}
use Rattle.stringy_theory.specs.CountedFaces.{CountedFaces, order_of, series_of, HasRisingRanks}
use Rattle.stringy_theory.proofs.UniqueIntervals.{equal_or_strict, g_degree, g_dual_degree}

module _ {X : Type 0} (c : CountedFaces X) (r : HasRisingRanks c) where
  rises : (x y : X) → Contains c.faces x → Contains c.faces y → c.below x y ≡ true → c.rank x ≤ c.rank y
  rises x y i j b = by (cases_Bool (strictly (order_of c) x y))
    where
      by : (strictly (order_of c) x y ≡ true) ⊎ (strictly (order_of c) x y ≡ false) → c.rank x ≤ c.rank y
      by (inl t) = let l = r.rises x y i j t in omega arith
      by (inr f) = let l = ap c.rank (equal_or_strict (order_of c) x y (r.antisymmetric x y i j) b f) in omega arith

  ranked : IsRanked (series_of c)
  ranked = record { transitive = r.transitive; rises = rises }

  graded : IsGraded (order_of c)
  graded = record {
    reflexive = r.reflexive;
    antisymmetric = r.antisymmetric;
    falls = λ x z y i l j s b. let n = r.rises x z i l s in let m = rises z y l j b in omega arith;
    falls_down = λ x z y i l j b s. let n = r.rises z y l j s in let m = rises x z i l b in omega arith;
  }

  h_degree : (n : ℕ) (l : Series) → HasDegreeAtMost n (h_star n l)
  h_degree n l k h = cond-false (nat_lt k (max n 1)) (alternating n l k) (pos 0) (le-ltb k (max n 1) (omega arith))

  small : HaveSmallDegrees (series_of c)
  small = record {
    counts = λ x i. h_degree (c.rank x) (c.l x);
    intervals = λ x f i j b k l. g_degree (order_of c) graded x f i j b k (omega arith) (omega arith);
  }

  small_dual : ((y : X) → Contains c.faces y → c.rank y ≤ c.top) → HaveSmallDualDegrees c.top (series_of c)
  small_dual most = record {
    highest = most;
    counts = λ y i. h_degree (c.top - c.rank y) (c.l_dual y);
    intervals = λ f y i j b k l. g_dual_degree (order_of c) graded f y i j b k (omega arith) (omega arith);
  }

  pub ranks_suffice_lem :
      IsRanked (series_of c) × IsGraded (order_of c) × HaveSmallDegrees (series_of c) ×
      (((y : X) → Contains c.faces y → c.rank y ≤ c.top) → HaveSmallDualDegrees c.top (series_of c))
  ranks_suffice_lem = (ranked, graded, small, small_dual)
