-- What a builder of hulls keeps, for its first points and with one more.
use Rattle.std.proofs.Common.{◌≢◌, ℕ, List, [], ◌∷◌, ℤ, sym, subst, arith}
use Rattle.std.specs.List.{AllPairs}
use Rattle.std.proofs.lemmas.List.Kept.{AllPairs-cons}
use Rattle.std.proofs.lemmas.List.Elements.{All-weaker}
use Rattle.lattice_theory.specs.Affine.{Affine}
use Rattle.lattice_theory.specs.Order.{Ascends, FunctionLess}
use Rattle.lattice_theory.specs.Facet.{AreFacets}
use Rattle.lattice_theory.proofs.Orders.{function_irreflexive}
use Rattle.hull_growth.specs.Grown.{HasFacets}

-- functions in order are each there once
each_once : (facets : List Affine) → Ascends FunctionLess facets → AllPairs (λ f g. f ≢ g) facets
each_once [] a = λ i j d h l. absurd (omega arith)
each_once (f ∷ facets) a = AllPairs-cons (λ f g. f ≢ g) f facets
    (All-weaker (FunctionLess f) (λ g. f ≢ g) (λ g h e. function_irreflexive f (subst (FunctionLess f) (sym e) h)) facets a.0)
    (each_once facets a.1)

-- facets in order are facets in some order
pub has_facets : (n : ℕ) (points : List (List ℤ)) (facets : List Affine) → AreFacets n points facets → HasFacets n points facets
has_facets n points facets h = record { once = each_once facets h.ascends; members = h.members }
