-- The laws of Batyrev's numbers of a pair with its sides exchanged: mirror symmetry of the formulas (alg-geom/9310003, for h11 and h21 in dimension
-- 4; the form for the other numbers is this project's own).
use Rattle.std.specs.Prelude.{◌≡◌, ℤ, neg_ℤ}
use Rattle.lattice_core.specs.Dimensions.{dimension_of}
use Rattle.batyrev_theory.specs.Numbers.{IsDivisorNumber, IsDeformationNumber}
use Rattle.dual_pair.specs.Pairs.{PairState, IsPair}
use Rattle.batyrev.specs.Lines.{IsHodgeLine}
use Rattle.batyrev.specs.declared.line.HodgeLine.{HodgeLine}
use Rattle.batyrev.specs.declared.line.HodgeLine.TheVariants as lines

-- the number of divisors of a polytope, in any dimension, is the number of deformations of its dual
abbrev pub DivisorsAreDeformationsOfTheDual : Type 0
DivisorsAreDeformationsOfTheDual = (pair : PairState) → IsPair pair → (a : ℤ)
    → IsDivisorNumber (dimension_of pair.m.vertices) pair.m.vertices pair.m.facets a
    → IsDeformationNumber (dimension_of pair.n.vertices) pair.n.vertices pair.n.facets a

-- what the numbers of the exchanged pair are, by those of the pair: numbers of the same dimension, in dimension 4 with h11 and h21 exchanged and the
-- Euler number's sign changed, in dimension 5 with h11 and h31 exchanged; nothing is said of the others
abbrev pub AreExchanged : HodgeLine → HodgeLine → Type 0
AreExchanged lines.None lines.None = Unit {0}
AreExchanged (lines.Pic pic cor) (lines.Pic pic' cor') = Unit {0}
AreExchanged (lines.Three h11 h21 euler) (lines.Three h11' h21' euler') = (h11' ≡ h21) × (h21' ≡ h11) × (euler' ≡ neg_ℤ euler)
AreExchanged (lines.Four h11 h21 h31 euler) (lines.Four h11' h21' h31' euler') = (h11' ≡ h31) × (h31' ≡ h11)
AreExchanged line other = ⊥

-- the numbers of a polytope and of its dual are so
abbrev pub ExchangedLines : Type 0
ExchangedLines = (pair : PairState) → IsPair pair → (line other : HodgeLine) → IsHodgeLine pair.m line → IsHodgeLine pair.n other
    → AreExchanged line other
