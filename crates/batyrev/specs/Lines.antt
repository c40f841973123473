-- Which of Batyrev's numbers a polytope has (h11 and h21 in dimension 4 after alg-geom/9310003; the others are this project's own).
use Rattle.std.specs.Prelude.{◌≡◌}
use Rattle.lattice_core.specs.Dimensions.{dimension_of}
use Rattle.batyrev_theory.specs.Numbers.{AreSurfaceNumbers, AreThreefoldNumbers, AreFourfoldNumbers}
use Rattle.dual_pair.specs.Polytopes.{PolytopeState}
use Rattle.batyrev.specs.declared.line.HodgeLine.{HodgeLine}
use Rattle.batyrev.specs.declared.line.HodgeLine.TheVariants as lines

-- the numbers by dimension, and none in another one
abbrev pub IsHodgeLine : PolytopeState → HodgeLine → Type 0
IsHodgeLine p lines.None = (dimension_of p.vertices ≡ 3 → ⊥) × (dimension_of p.vertices ≡ 4 → ⊥) × (dimension_of p.vertices ≡ 5 → ⊥)
IsHodgeLine p (lines.Pic pic cor) = (dimension_of p.vertices ≡ 3) × AreSurfaceNumbers p.vertices p.facets pic cor
IsHodgeLine p (lines.Three h11 h21 euler) = (dimension_of p.vertices ≡ 4) × AreThreefoldNumbers p.vertices p.facets h11 h21 euler
IsHodgeLine p (lines.Four h11 h21 h31 euler) = (dimension_of p.vertices ≡ 5) × AreFourfoldNumbers p.vertices p.facets h11 h21 h31 euler
