-- Points with one more.
use Rattle.std.proofs.Common.{◌≡◌, ℕ, ◌<◌, List, [], ◌∷◌, ◌++◌, length, ℤ, pos, refl, sym, ap, subst, Contains, arith, length-append}
use Rattle.std.proofs.lemmas.List.Elements.{All-contains, All-weaker, All-contains_itself, All-push, Contains-append_left}
use Rattle.lattice_theory.specs.Vector.{HaveDimension}
use Rattle.lattice_theory.specs.Affine.{value}
use Rattle.lattice_theory.specs.Facet.{IsFlat}
use Rattle.lattice_core.specs.Dimensions.{dimension_of}
use Rattle.lattice_core.specs.PointLists.{ArePoints, AreSizedPoints, AreSolidPoints}

-- one more point leaves the dimension
pub dimension_more : (points : List (List ℤ)) (p : List ℤ) → 0 < length points → dimension_of (points ++ (p ∷ [])) ≡ dimension_of points
dimension_more [] p h = absurd (omega arith)
dimension_more (q ∷ points) p h = refl

-- points that are flat with one more are flat
flat_without : (n : ℕ) (points : List (List ℤ)) (p : List ℤ) → IsFlat n (points ++ (p ∷ [])) → IsFlat n points
flat_without n points p h = record {
  function = h.function;
  dimension = h.dimension;
  nonconstant = h.nonconstant;
  vanishes = All-weaker (Contains points) (λ q. value h.function q ≡ pos 0)
      (λ q c. All-contains (λ q. value h.function q ≡ pos 0) (points ++ (p ∷ [])) q h.vanishes (Contains-append_left points (p ∷ []) q c))
      points (All-contains_itself points);
}

-- what holds of a builder's points with one more, at their dimension
pub more_dimension : (points new : List (List ℤ)) (p : List ℤ) → new ≡ points ++ (p ∷ []) → 0 < length points
    → HaveDimension (dimension_of points) points → length p ≡ dimension_of points → HaveDimension (dimension_of new) new
more_dimension points new p e l d h =
    subst (λ (ps : List (List ℤ)). HaveDimension (dimension_of ps) ps) (sym e)
    (subst (λ (n : ℕ). HaveDimension n (points ++ (p ∷ []))) (sym (dimension_more points p l))
    (All-push (λ q. length q ≡ dimension_of points) points p d h))

-- they aren't flat
pub more_solid : (points new : List (List ℤ)) (p : List ℤ) → new ≡ points ++ (p ∷ []) → 0 < length points
    → (IsFlat (dimension_of points) points → ⊥) → IsFlat (dimension_of new) new → ⊥
more_solid points new p e l s f =
    s (flat_without (dimension_of points) points p
    (subst (λ (n : ℕ). IsFlat n (points ++ (p ∷ []))) (dimension_more points p l)
    (subst (λ (ps : List (List ℤ)). IsFlat (dimension_of ps) ps) e f)))

-- there are some
pub more_some : (points new : List (List ℤ)) (p : List ℤ) → new ≡ points ++ (p ∷ []) → 0 < length new
more_some points new p e = let l = ap length e in let m = length-append points (p ∷ []) in omega arith

-- at the old points' dimension
pub more_at : (points new : List (List ℤ)) (p : List ℤ) (P : ℕ → List (List ℤ) → Type 0) → new ≡ points ++ (p ∷ []) → 0 < length points
    → P (dimension_of new) new → P (dimension_of points) (points ++ (p ∷ []))
more_at points new p P e l h = subst (λ (n : ℕ). P n (points ++ (p ∷ []))) (dimension_more points p l)
    (subst (λ (ps : List (List ℤ)). P (dimension_of ps) ps) e h)

-- points with one more are points
pub more_are_points : (points new : List (List ℤ)) (p : List ℤ) → new ≡ points ++ (p ∷ []) → length p ≡ dimension_of points
    → ArePoints points → ArePoints new
more_are_points points new p e l h =
    record { some = more_some points new p e; one_dimension = more_dimension points new p e h.some h.one_dimension l }

-- and solid ones, where they are within the size limit
pub more_are_solid : (points new : List (List ℤ)) (p : List ℤ) → new ≡ points ++ (p ∷ []) → AreSolidPoints points → AreSizedPoints new
    → AreSolidPoints new
more_are_solid points new p e h s = record { sized = s; solid = more_solid points new p e h.sized.are_points.some h.solid }
