-- Regions that hold a dilate, with one function more.
use Rattle.std.specs.Prelude.{◌↔◌, ℤ, pos, ◌+ℤ◌, ◌*ℤ◌, ◌≤ℤ◌}
use Rattle.std.proofs.Common.{◌≡◌, ℕ, ◌+◌, ◌<◌, List, length, take, get_or, sym, ap₂, subst, ◌∙◌}
use Rattle.std.proofs.lemmas.List.Elements.{All-more}
use Rattle.lattice_theory.specs.Affine.{Affine, value, value_over}
use Rattle.lattice_theory.specs.Vector.{dot}
use Rattle.lattice_theory.specs.Points.{IsDilatePoint}
use Rattle.region_walk.specs.Regions.{IsInRegion, IsSoundRegion}
use Rattle.region_walk.specs.declared.region.Region.{Region}
use Rattle.point_scan.specs.ScanSteps.{HoldsDilate}

-- the value of a dilated function
pub dilated_value : (f g : Affine) (j : ℕ) (x : List ℤ) → g.normal ≡ f.normal → g.constant ≡ pos j *ℤ f.constant → value g x ≡ value_over f x (pos j)
dilated_value f g j x e h = ap₂ (λ (a : List ℤ) (c : ℤ). dot a x +ℤ c) e h

module _ (n : ℕ) (points : List (List ℤ)) (j : ℕ) (functions : List Affine) (i : ℕ) (f g : Affine) (old new : Region)
    (within : i < length functions) (is : f ≡ get_or functions i f) (normals : g.normal ≡ f.normal)
    (constants : g.constant ≡ pos j *ℤ f.constant) where
  pub holds_more : HoldsDilate n points j (take i functions) old → IsSoundRegion new → length new.low ≡ length old.low
      → ((x : List ℤ) → IsInRegion new x ↔ IsInRegion old x × (pos 0 ≤ℤ value g x))
      → ((x : List ℤ) → IsDilatePoint n points j x → pos 0 ≤ℤ value_over f x (pos j)) → HoldsDilate n points j (take (i + 1) functions) new
  holds_more holds sound same members facet = record {
    sound = sound;
    dimension = same ∙ holds.dimension;
    small = λ x h. holds.small x ((members x).0 h).0;
    inside = λ x h.
        let m = (members x).0 h in
        let this : pos 0 ≤ℤ value_over f x (pos j) = subst (λ (z : ℤ). pos 0 ≤ℤ z) (dilated_value f g j x normals constants) m.1 in
        All-more (λ k. pos 0 ≤ℤ value_over k x (pos j)) functions i f within (holds.inside x m.0)
        (subst (λ k. pos 0 ≤ℤ value_over k x (pos j)) is this);
    all = λ x d. (members x).1 (holds.all x d, subst (λ (z : ℤ). pos 0 ≤ℤ z) (sym (dilated_value f g j x normals constants)) (facet x d));
  }
