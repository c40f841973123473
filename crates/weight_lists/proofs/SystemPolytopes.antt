-- The weight line of a system, and whether the system is listed.
use Rattle.std.proofs.Common.{◌≡◌, ℕ, ◌<◌, ◌≤◌, true, false, Bool, List, [], ◌∷◌, length, map, pos, All, refl, sym, subst, arith, rules}
use Rattle.std.specs.Prelude.{◌↔◌, IsTrue}
use Rattle.lattice_core.specs.Weights.{Weighted, AreWellFormed, total}
use Rattle.lattice_theory.specs.Vector.{DividesInteger}
use Rattle.lattice_theory.proofs.Members.{Each, empty, more, each_from_all, all_from_each}
use Rattle.dual_pair.specs.Polytopes.{PolytopeState}
use Rattle.dual_pair.specs.Pairs.{IsReflexivePolytope}
use Rattle.interior_point_theory.specs.Interior.{IsInteriorPointSystem}
use Rattle.item_polytopes.specs.Kinds.{HasPolytope}
use Rattle.weight_lists.specs.Systems.{line_of}
use Rattle.weight_lists.specs.Steps.{IsChosen}
use Rattle.weight_lists.proofs.Deciding.{well_formed}

-- no weights have the greatest common divisor 0
some_degree : (weights : List ℕ) → Each (λ w. 1 ≤ w) weights → 0 < length weights → 1 ≤ total weights
some_degree [] h l = absurd (omega (arith, l))
some_degree (w ∷ weights) (more p ps) l = omega (arith, p)

no_weights : (system : Weighted) → IsInteriorPointSystem system → 0 < length system.weights
no_weights system h = by system.weights refl
  where
    by : (ws : List ℕ) → ws ≡ system.weights → 0 < length system.weights
    by [] e =
        let two = h.primitive 2 (subst (λ (xs : List ℕ). All (DividesInteger 2) (map pos xs)) e (all_from_each {P = DividesInteger 2} empty)) in
        absurd (omega (arith, two))
    by (w ∷ ws) e = subst (λ (xs : List ℕ). 0 < length xs) e (omega arith)

-- the line of a system
pub formed_line : (system : Weighted) → IsInteriorPointSystem system → AreWellFormed (system ∷ [])
formed_line system h =
    let sum = h.sum in
    let some = some_degree system.weights (each_from_all (λ w. 1 ≤ w) system.weights h.positive) (no_weights system h) in
    well_formed system h.positive (record { columns = refl; sum = sum; positive = omega (arith, sum, some) })

-- whether a system is listed
pub chosen : (only : Bool) (system : Weighted) (p : PolytopeState) (b : Bool) → only ≡ true → HasPolytope (line_of system) p
    → IsTrue b ↔ IsReflexivePolytope p → IsChosen only system b
chosen only system p b e has test = subst (λ (o : Bool). IsChosen o system b) (sym e) (by b test)
  where
    not_true : IsTrue false → ⊥
    not_true t = search rules

    by : (b : Bool) → IsTrue b ↔ IsReflexivePolytope p → IsChosen true system b
    by true test = record { polytope = p; has_polytope = has; reflexive = test.0 (search rules) }
    by false test = record { polytope = p; is_other = record { has_polytope = has; other = λ r. not_true (test.1 r) } }
