-- So many parts are within the limits, or refused once.
use Rattle.std.proofs.Common.{◌≡◌, ℕ, ◌+◌, Bool, true, false, List, length, ℤ, sym, ◌∙◌, ap, subst, arith}
use Rattle.lattice_theory.specs.Order.{LexLess}
use Rattle.lattice_theory.specs.Points.{IsDilatePoint}
use Rattle.lattice_theory.proofs.Orders.{lex_asymmetric}
use Rattle.lattice_theory.proofs.Unique.{lists_unique}
use Rattle.lattice_core.specs.Dimensions.{dimension_of}
use Rattle.lattice_core.specs.declared.faults.Refusal.{Refusal}
use Rattle.lattice_core.specs.declared.faults.Refusal.TheVariants.{Flat, Limit}
use Rattle.lattice_core.specs.declared.faults.LimitName.TheVariants.{Codim, Rank, ScanM, ScanN}
use Rattle.dual_pair.specs.Pairs.{PairState}
use Rattle.cayley.specs.Limits.{IsWithinRank, IsRankRefusal, IsLargeDilate, IsSmallDilate, IsWithinScans, IsScanRefusal}
use Rattle.nef_report.specs.Items.{AreFewParts, ArePartsRefused}

-- the limits on the number of parts
one_rank_refusal : (n r : ℕ) (cause other : Refusal) → IsRankRefusal n r cause → IsRankRefusal n r other → cause ≡ other
one_rank_refusal n r (Flat f) other a b = absurd a
one_rank_refusal n r (Limit Codim told) (Flat f) a b = absurd b
one_rank_refusal n r (Limit Codim told) (Limit Codim other) a b = ap (Limit Codim) (a.0 ∙ sym b.0)
one_rank_refusal n r (Limit Codim told) (Limit Rank other) a b = let x = a.1 in let y = b.1 in absurd (omega (arith, x, y))
one_rank_refusal n r (Limit Codim told) (Limit name other) a b = absurd b
one_rank_refusal n r (Limit Rank told) (Flat f) a b = absurd b
one_rank_refusal n r (Limit Rank told) (Limit Codim other) a b = let x = a.1 in let y = b.1 in absurd (omega (arith, x, y))
one_rank_refusal n r (Limit Rank told) (Limit Rank other) a b = ap (Limit Rank) (a.0 ∙ sym b.0)
one_rank_refusal n r (Limit Rank told) (Limit name other) a b = absurd b
one_rank_refusal n r (Limit name told) other a b = absurd a

within_or_refused : (n r : ℕ) (cause : Refusal) → IsWithinRank n r → IsRankRefusal n r cause → ⊥
within_or_refused n r (Flat f) w b = b
within_or_refused n r (Limit Codim told) w b = let x = w.0 in let y = b.1 in omega (arith, x, y)
within_or_refused n r (Limit Rank told) w b = let x = w.1 in let y = b.2 in omega (arith, x, y)
within_or_refused n r (Limit name told) w b = b

-- a dilate has more lattice points than the limit, or it hasn't
same_dilate : (n r a b : ℕ) → a + 1 ≡ n + r → b + 1 ≡ n + r → a ≡ b
same_dilate n r a b e f = omega (arith, e, f)

large_or_small : (points : List (List ℤ)) (a b : ℕ) → a ≡ b → IsLargeDilate points a → IsSmallDilate points b → ⊥
large_or_small points a b e x y =
    let z : IsSmallDilate points a = subst (λ (d : ℕ). IsSmallDilate points d) (sym e) y in
    let same = ap length (lists_unique LexLess lex_asymmetric (IsDilatePoint (dimension_of points) points a) x.lattice z.lattice
    x.are_dilate_points z.are_dilate_points) in
    let many = x.many in let few = z.few in omega (arith, same, many, few)

module _ (pair : PairState) (r : ℕ) where
  abbrev n : ℕ
  n = dimension_of pair.m.vertices

  -- the limits on both dilates
  one_scan_refusal : (cause other : Refusal) → IsScanRefusal pair r cause → IsScanRefusal pair r other → cause ≡ other
  one_scan_refusal (Flat f) other a b = absurd a
  one_scan_refusal (Limit ScanM told) (Flat f) a b = absurd b
  one_scan_refusal (Limit ScanM told) (Limit ScanM other) a b = ap (Limit ScanM) (a.told_is ∙ sym b.told_is)
  one_scan_refusal (Limit ScanM told) (Limit ScanN other) a b =
      absurd (large_or_small pair.m.vertices a.dilate b.dilate (same_dilate n r a.dilate b.dilate a.dilate_is b.dilate_is) a.large b.small)
  one_scan_refusal (Limit ScanM told) (Limit name other) a b = absurd (within_or_refused n r (Limit name other) a.within b)
  one_scan_refusal (Limit ScanN told) (Flat f) a b = absurd b
  one_scan_refusal (Limit ScanN told) (Limit ScanM other) a b =
      absurd (large_or_small pair.m.vertices b.dilate a.dilate (same_dilate n r b.dilate a.dilate b.dilate_is a.dilate_is) b.large a.small)
  one_scan_refusal (Limit ScanN told) (Limit ScanN other) a b = ap (Limit ScanN) (a.told_is ∙ sym b.told_is)
  one_scan_refusal (Limit ScanN told) (Limit name other) a b = absurd (within_or_refused n r (Limit name other) a.within b)
  one_scan_refusal (Limit name told) (Flat f) a b = absurd b
  one_scan_refusal (Limit name told) (Limit ScanM other) a b = absurd (within_or_refused n r (Limit name told) b.within a)
  one_scan_refusal (Limit name told) (Limit ScanN other) a b = absurd (within_or_refused n r (Limit name told) b.within a)
  one_scan_refusal (Limit name told) (Limit another other) a b = one_rank_refusal n r (Limit name told) (Limit another other) a b

  scans_or_refused : (cause : Refusal) → IsWithinScans pair r → IsScanRefusal pair r cause → ⊥
  scans_or_refused (Flat f) w b = b
  scans_or_refused (Limit ScanM told) w b =
      large_or_small pair.m.vertices b.dilate w.dilate (same_dilate n r b.dilate w.dilate b.dilate_is w.dilate_is) b.large w.small
  scans_or_refused (Limit ScanN told) w b =
      large_or_small pair.n.vertices b.dilate w.dilate (same_dilate n r b.dilate w.dilate b.dilate_is w.dilate_is) b.large w.dual_small
  scans_or_refused (Limit name told) w b = within_or_refused n r (Limit name told) w.within b

-- the limits that stand for what is asked
pub one_parts_refusal : (only : Bool) (pair : PairState) (r : ℕ) (cause other : Refusal) → ArePartsRefused only pair r cause
    → ArePartsRefused only pair r other → cause ≡ other
one_parts_refusal true pair r cause other a b = one_rank_refusal (dimension_of pair.m.vertices) r cause other a b
one_parts_refusal false pair r cause other a b = one_scan_refusal pair r cause other a b

pub few_or_refused : (only : Bool) (pair : PairState) (r : ℕ) (cause : Refusal) → AreFewParts only pair r → ArePartsRefused only pair r cause → ⊥
few_or_refused true pair r cause w b = within_or_refused (dimension_of pair.m.vertices) r cause w b
few_or_refused false pair r cause w b = scans_or_refused pair r cause w b

pub few_are_within : (only : Bool) (pair : PairState) (r : ℕ) → AreFewParts only pair r → IsWithinRank (dimension_of pair.m.vertices) r
few_are_within true pair r w = w
few_are_within false pair r w = w.within
