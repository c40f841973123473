-- What is known of an item's polytope.
use Rattle.std.proofs.Common.{◌≡◌, ℕ, ◌<◌, ◌≤◌, List, length, Result, Ok, Err, MatchResult, inr, ℤ, sym, ap, subst, arith}
use Rattle.lattice_theory.specs.Order.{LexLess}
use Rattle.lattice_theory.proofs.Orders.{lex_asymmetric}
use Rattle.lattice_theory.proofs.Unique.{lists_unique}
use Rattle.lattice_core.specs.Stops.{Stops}
use Rattle.lattice_core.specs.declared.faults.Fault.{Fault}
use Rattle.lattice_core.specs.declared.faults.Fault.TheVariants as faults
use Rattle.palp_input.specs.Grammar.{Listed}
use Rattle.item_points.proofs.WeightPoints.{weight_points_are_few}
use Rattle.item_points.proofs.WeightLattice.{weight_points_are_all}
use Rattle.dual_pair.specs.Polytopes.{PolytopeState}
use Rattle.dual_pair.specs.Pairs.{HasNoDual}
use Rattle.dual_pair.specs.Kinds.{IsKindOf}
use Rattle.dual_pair.specs.declared.pair.Kind.{Kind}
use Rattle.dual_pair.specs.declared.pair.Kind.TheVariants as kinds
use Rattle.item_polytopes.specs.Kinds.{HasPolytope, IsKind, IsKindRefusal}
use Rattle.item_polytopes.specs.Laws.{WeightLinesHaveFewPoints}

module _ (item : Listed) (p : PolytopeState) (has : HasPolytope item p) where
  kind_is : (kind : Kind) → IsKindOf p kind → IsKind item kind
  kind_is (kinds.Reflexive pair) k =
      record { has_polytope = subst (λ (q : PolytopeState). HasPolytope item q) (sym k.2) has; is_pair = k.1 }
  kind_is (kinds.Other q) k = subst (λ (x : PolytopeState). IsKind item (kinds.Other x)) (sym k.1) (record { has_polytope = has; other = k.0 })

  kind_stop : (fault : Fault) → Stops (HasNoDual p) fault → Stops (IsKindRefusal item) fault
  kind_stop (faults.Refused cause) s = inr (record { polytope = p; has_polytope = has; refused = s })
  kind_stop faults.NoMemory s = s

  pub kind_of_polytope : (result : Result Kind Fault) → MatchResult result (IsKindOf p) (Stops (HasNoDual p))
      → MatchResult result (IsKind item) (Stops (IsKindRefusal item))
  kind_of_polytope (Ok kind) k = kind_is kind k
  kind_of_polytope (Err fault) s = kind_stop fault s

-- the lattice points of a weight line's polytope are its points
few_or_many : (some all most : ℕ) → some ≡ all → most < some → all ≤ most → ⊥
few_or_many some all most e h k = omega (arith, e, h, k)

pub few_line_points : WeightLinesHaveFewPoints
few_line_points systems told formed bare = few_or_many (length bare.refused.more.lattice) (length bare.points) 16384
    (ap (λ (xs : List (List ℤ)). length xs) (lists_unique LexLess lex_asymmetric _ _ _ bare.refused.more.are_lattice_points
    (weight_points_are_all systems bare.points formed bare.has_points.are_points)))
    bare.refused.more.more (weight_points_are_few systems bare.points bare.has_points.are_points)
