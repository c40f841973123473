-- What a walk through the region of a dilate has found so far.
use Rattle.std.specs.Prelude.{ℤ, pos, ◌≤ℤ◌}
use Rattle.std.specs.List.{All, Contains, filter}
use Rattle.std.proofs.lemmas.List.Elements.{All-contains}
use Rattle.std.proofs.Common.{◌≡◌, ℕ, ◌<◌, ◌≤◌, true, false, List, [], ◌++◌, length, sym, ap, subst, ◌∙◌, arith, length-append, ◌∷◌, ◌+◌}
use Rattle.lattice_theory.specs.Affine.{Affine, value_over}
use Rattle.lattice_theory.specs.Facet.{AreFacetsInAnyOrder}
use Rattle.lattice_theory.specs.Order.{Lists, LexLess}
use Rattle.lattice_theory.specs.Points.{IsDilatePoint}
use Rattle.lattice_theory.specs.Grid.{Follows, grid, behind}
use Rattle.lattice_theory.proofs.LexWalks.{AreBefore, AreUpTo, found_first}
use Rattle.lattice_theory.proofs.Unique.{no_member}
use Rattle.region_walk.specs.Regions.{IsInRegion, levels_of}
use Rattle.region_walk.specs.Walks.{IsAtRun, IsAtFirst, first_point, last_point, run_points}
use Rattle.region_walk.specs.declared.region.Region.{Region}
use Rattle.region_walk.specs.declared.walk.RegionWalk.{RegionWalk}
use Rattle.region_walk.proofs.Runs.{run_found, fewer_behind, next_before, none_left, first_before}
use Rattle.point_scan.specs.Dilates.{AreDilatePoints}
use Rattle.point_scan.specs.ScanSteps.{HoldsDilate, is_inside}
use Rattle.point_scan.proofs.DilatePoints.{inside_are_dilate_points}

-- the walk stands at a run of the dilate's points, and those before it are found
pub record IsScanned (n : ℕ) (points : List (List ℤ)) (j : ℕ) (facets : List Affine) (w : RegionWalk) (found : List (List ℤ)) : Type 0 where
  pub at : IsAtRun w
  pub holds : HoldsDilate n points j facets w.region
  pub before : AreBefore (IsInRegion w.region) (first_point w) found

-- so much of the box is left
abbrev pub left : RegionWalk → ℕ
left w = length (behind (first_point w) (grid w.region.low w.region.high))

module _ (n : ℕ) (points : List (List ℤ)) (j : ℕ) (facets : List Affine) (are : AreFacetsInAnyOrder n points facets) where
  -- a point of the region is one of the dilate
  in_dilate : (r : Region) → HoldsDilate n points j facets r → (x : List ℤ) → IsInRegion r x → IsDilatePoint n points j x
  in_dilate r holds x h = record {
    dimension = sym h.inside.low_dimension ∙ holds.dimension;
    inside = λ f facet. inside_at f ((are f).1 facet) (holds.inside x h);
  }
    where
      inside_at : (f : Affine) → Contains facets f → All (λ g. pos 0 ≤ℤ value_over g x (pos j)) facets → pos 0 ≤ℤ value_over f x (pos j)
      inside_at f c all = All-contains (λ g. pos 0 ≤ℤ value_over g x (pos j)) facets f all c

  -- so the lists are the same
  dilate_lists : (r : Region) → HoldsDilate n points j facets r → (xs : List (List ℤ)) → Lists LexLess (IsInRegion r) xs → AreDilatePoints n points j xs
  dilate_lists r holds xs lists = record {
    ascends = lists.ascends;
    members = λ x. (λ c. in_dilate r holds x ((lists.members x).0 c), λ d. (lists.members x).1 (holds.all x d));
  }

  region_lists : (r : Region) → HoldsDilate n points j facets r → (xs : List (List ℤ)) → AreDilatePoints n points j xs → Lists LexLess (IsInRegion r) xs
  region_lists r holds xs lists = record {
    ascends = lists.ascends;
    members = λ x. (λ c. holds.all x ((lists.members x).0 c), λ h. (lists.members x).1 (in_dilate r holds x h));
  }

  -- an empty region has no points
  pub none_found : (r : Region) → HoldsDilate n points j facets r → ((x : List ℤ) → IsInRegion r x → ⊥) → AreDilatePoints n points j []
  none_found r holds none = record { ascends = tt; members = λ x. (λ c. absurd (no_member x c), λ d. absurd (none x (holds.all x d))) }

  -- at the first run
  pub started : (r : Region) → HoldsDilate n points j facets r → (w : RegionWalk) → w.region ≡ r → IsAtRun w → IsAtFirst w
      → IsScanned n points j facets w []
  started r holds w e at first = record {
    at = at;
    holds = subst (HoldsDilate n points j facets) (sym e) holds;
    before = first_before (IsInRegion w.region) (first_point w) first;
  }

  module _ (w : RegionWalk) (found : List (List ℤ)) (scanned : IsScanned n points j facets w found) where
    -- with its run
    up_to : AreUpTo (IsInRegion w.region) (last_point w) (found ++ run_points w)
    up_to = run_found w.region.low w.region.high (levels_of w.region) scanned.at.sound w.beginning.entries.items w.run.low w.run.high scanned.at.run
        n scanned.holds.dimension found scanned.before

    -- at the next run
    pub advanced : (v : RegionWalk) → IsAtRun v → v.region ≡ w.region → Follows (IsInRegion w.region) (last_point w) (first_point v) true
        → IsScanned n points j facets v (found ++ run_points w)
    advanced v at e next = record {
      at = at;
      holds = subst (HoldsDilate n points j facets) (sym e) scanned.holds;
      before = subst (λ r. AreBefore (IsInRegion r) (first_point v) (found ++ run_points w)) (sym e)
          (next_before w.region.low w.region.high (levels_of w.region) scanned.at.sound w.beginning.entries.items w.run.low w.run.high
          scanned.at.run n scanned.holds.dimension (first_point v) (found ++ run_points w) up_to next);
    }

    pub fewer_left : (v : RegionWalk) → v.region ≡ w.region → Follows (IsInRegion w.region) (last_point w) (first_point v) true → left v < left w
    fewer_left v e next =
        let less = fewer_behind w.region.low w.region.high (levels_of w.region) scanned.at.sound w.beginning.entries.items w.run.low w.run.high
        scanned.at.run n scanned.holds.dimension (first_point v) next in
        let same = ap (λ (r : Region). length (behind (first_point v) (grid r.low r.high))) e in
        omega (arith, less, same)

    -- at the end
    pub finished : (x : List ℤ) → Follows (IsInRegion w.region) (last_point w) x false → AreDilatePoints n points j (found ++ run_points w)
    finished x none = dilate_lists w.region scanned.holds (found ++ run_points w)
        (none_left w.region.low w.region.high (levels_of w.region) scanned.at.sound w.beginning.entries.items w.run.low w.run.high scanned.at.run n
        scanned.holds.dimension (found ++ run_points w) up_to none)

    -- there is a list of all, with these points at least
    pub record HasAll : Type 0 where
      pub lattice : List (List ℤ)
      pub are_dilate_points : AreDilatePoints n points j lattice
      pub rest : List (List ℤ)
      pub whole : lattice ≡ (found ++ run_points w) ++ rest

    pub has_all : HasAll
    has_all =
        let r = w.region in
        let all = filter (is_inside facets j) (grid r.low r.high) in
        let are_all = inside_are_dilate_points n points j r.low r.high scanned.holds.dimension scanned.at.sound.high_dimension
        (λ x d. (scanned.holds.all x d).inside) facets are in
        record {
          lattice = all;
          are_dilate_points = are_all;
          rest = behind (last_point w) all;
          whole = found_first (IsInRegion r) n (λ y h. sym h.inside.low_dimension ∙ scanned.holds.dimension) (last_point w) (found ++ run_points w)
              all (let e = scanned.at.run.coordinates in let d = scanned.holds.dimension in
              let l = length-append w.beginning.entries.items (w.run.high ∷ []) in omega arith) up_to (region_lists r scanned.holds all are_all);
        }

    -- so these are at least so many
    pub at_least : (all : HasAll) → length found + length (run_points w) ≤ length all.lattice
    at_least all =
        let l = ap length all.whole ∙ length-append (found ++ run_points w) all.rest in
        let k = length-append found (run_points w) in
        omega arith
