-- All of G and G' is there when all is filled in.
use Rattle.std.proofs.Common.{◌≡◌, ◌⊎◌, inl, inr, ℕ, ◌+◌, ◌*◌, ◌<◌, ◌≤◌, nat_lt, Bool, true, false, cond, List, length, ℤ, pos, nat_abs, sym, ap, ◌∙◌, arith}
use Rattle.std.proofs.lemmas.Bool.{cases_lt, le-ltb, cond-false}
use Rattle.lattice_theory.specs.Vector.{entry}
use Rattle.face_poset.specs.Faces.{TableState}
use Rattle.poset_g.specs.Numbered.{numbered, IsInterval, HasAllFaces, HasSmallRanks}
use Rattle.poset_g.specs.Stored.{PlacesState, read_at, stored}
use Rattle.poset_g.specs.Values.{coefficient, polynomial, AreSmall, HoldsG}
use Rattle.poset_g.specs.PlaceSteps.{ArePlaces}
use Rattle.poset_g.specs.FillSteps.{AreFilled}
use Rattle.poset_g.proofs.IntervalNumbers.{found_at, test_is}
use Rattle.poset_g.proofs.FilledPlaces.{none_higher}
use Rattle.poset_g.proofs.FilledRows.{all_filled}

module _ (table : TableState) (h : HasAllFaces table) (small : HasSmallRanks table) (s : PlacesState)
    (places : ArePlaces (numbered table) (length table.faces) s) (values : List ℤ) (filled : AreFilled table s values 9 0 0 0) where
  -- nothing is kept of degree 4 and more
  none_kept : (first x y k : ℕ) → IsInterval table x y → 4 ≤ k → stored s values first x y k ≡ pos 0
  none_kept first x y k i l = let n = found_at table s places x y i in
      ap (λ (m : ℕ). read_at values first m k) n.1 ∙ cond-false (nat_lt k 4) (entry values (8 * n.0 + first + k)) (pos 0) (le-ltb k 4 l)

  held : (d : Bool) (x y : ℕ) → IsInterval table x y → (k : ℕ) → stored s values (cond d 4 0) x y k ≡ polynomial table d x y k
  held d x y i k = by (cases_lt k 4)
    where
      by : (k < 4) ⊎ (4 ≤ k) → stored s values (cond d 4 0) x y k ≡ polynomial table d x y k
      by (inl l) = (all_filled table h s values small filled (record { from = x; to = y; dual = d; degree = k }) i l).0
      by (inr l) = none_kept (cond d 4 0) x y k i l ∙ sym (none_higher table h small (record { from = x; to = y; dual = d; degree = k }) i l)

  small_at : AreSmall table
  small_at p i = by (cases_lt p.degree 4)
    where
      by : (p.degree < 4) ⊎ (4 ≤ p.degree) → nat_abs (coefficient table p) ≤ 4096
      by (inl l) = (all_filled table h s values small filled p i l).1
      by (inr l) = let z = ap nat_abs (none_higher table h small p i l) in omega arith

  pub made : HoldsG table (record { places = s; values = values }) × AreSmall table
  made = (record { told = test_is table s places; g = λ x y i k. held false x y i k; g_dual = λ x y i k. held true x y i k }, small_at)
