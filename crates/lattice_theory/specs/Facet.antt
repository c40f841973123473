-- The facets of points (math/0204356, section 2: a polytope is an intersection of half
-- spaces). Flat lists of points, their functions, and lists of facets are this project's own.
use Rattle.std.specs.Prelude.{◌≡◌, ◌↔◌, ℕ, ◌≤◌, List, length, ℤ, pos, ◌<ℤ◌}
use Rattle.std.specs.List.{Contains}
use Rattle.lattice_theory.specs.Vector.{entry, IsPrimitive, EndsAt}
use Rattle.lattice_theory.specs.Affine.{Affine, IsNonconstant, IsNonnegative, Vanishes, VanishesWith, IsMultiple}
use Rattle.lattice_theory.specs.Order.{Lists, FunctionLess}

-- points of dimension n are flat: some nonconstant affine function vanishes on them
pub record IsFlat (n : ℕ) (points : List (List ℤ)) : Type 0 where
  pub function : Affine
  pub dimension : length function.normal ≡ n
  pub nonconstant : IsNonconstant function
  pub vanishes : Vanishes points function

-- f is the flat function: it vanishes on the points, its normal has gcd 1, the normal's last entry that isn't 0 is positive,
-- and no nonconstant function that vanishes on the points has a normal whose last such entry stands earlier
pub record IsFlatFunction (n : ℕ) (points : List (List ℤ)) (f : Affine) : Type 0 where
  pub dimension : length f.normal ≡ n
  pub primitive : IsPrimitive f.normal
  pub vanishes : Vanishes points f
  pub place : ℕ
  pub ends : EndsAt f.normal place
  pub positive : pos 0 <ℤ entry f.normal place
  pub earliest : (g : Affine) (k : ℕ) → length g.normal ≡ n → Vanishes points g → EndsAt g.normal k → place ≤ k

-- f is a facet of points that aren't flat: nonnegative on them, with a normal of gcd 1 (so not constant), and each affine function
-- that vanishes wherever f vanishes on the points is a rational multiple of f
pub record IsFacet (n : ℕ) (points : List (List ℤ)) (f : Affine) : Type 0 where
  pub dimension : length f.normal ≡ n
  pub primitive : IsPrimitive f.normal
  pub nonnegative : IsNonnegative points f
  pub determined : (g : Affine) → length g.normal ≡ n → VanishesWith points f g → IsMultiple g f

-- all facets, each once, in order
abbrev pub AreFacets : ℕ → List (List ℤ) → List Affine → Type 0
AreFacets n points fs = Lists FunctionLess (IsFacet n points) fs

-- all facets and nothing else, in any order
abbrev pub AreFacetsInAnyOrder : ℕ → List (List ℤ) → List Affine → Type 0
AreFacetsInAnyOrder n points fs = (f : Affine) → Contains fs f ↔ IsFacet n points f
