-- Interior points by the facets of the tails.
use Rattle.std.proofs.Common.{◌≡◌, ◌↔◌, ℕ, zero, suc, ◌<◌, List, [], ◌∷◌, length, map, ℤ, pos, ◌<ℤ◌, All, refl, ap, ◌∙◌, subst, arith}
use Rattle.std.specs.List.{Contains}
use Rattle.lattice_theory.specs.Affine.{Affine}
use Rattle.lattice_theory.specs.Facet.{IsFlat, IsFlatFunction, AreFacets}
use Rattle.lattice_theory.proofs.Members.{empty, more, each_from_in, each_in, each_from_all, all_from_each, contains_from_in, in_from_contains}
use Rattle.lattice_core.specs.Weights.{Weighted, total, monomial_point}
use Rattle.lattice_core.specs.Limits.{IsSized}
use Rattle.lattice_core.specs.declared.faults.Refusal.{Refusal}
use Rattle.lattice_core.specs.declared.faults.Refusal.TheVariants.{Flat, Limit}
use Rattle.lattice_core.specs.declared.faults.LimitName.TheVariants.{Size}
use Rattle.hull.specs.Faults.{IsStartRefusal}
use Rattle.interior_point_theory.specs.Interior.{HasInteriorPoint, system_of, ones}
use Rattle.interior_point_theory.specs.Around.{HasTails, IsTail}
use Rattle.interior_point_theory.proofs.Tails.{interior_by_tails_lem}
use Rattle.weight_points.specs.steps.Waits.{spent}
use Rattle.weight_tails.proofs.LastWeights.{takes_ones}
use Rattle.weight_points.proofs.Integral.{monomial_from_solution}

-- facets with positive constants
pub interior_by_facets : (n : ℕ) (system : Weighted) (tails : List (List ℤ)) (fs : List Affine) → HasTails n system tails → (IsFlat n tails → ⊥)
    → AreFacets n tails fs → All (λ f. pos 0 <ℤ f.constant) fs ↔ HasInteriorPoint system
interior_by_facets n system tails fs has solid facets = (
  λ positive. (interior_by_tails_lem n system tails has).1 (record {
    solid = solid;
    constants = λ f is. each_in (each_from_all (λ (g : Affine). pos 0 <ℤ g.constant) fs positive) (in_from_contains fs ((facets.members f).1 is));
  }),
  λ interior. let around = (interior_by_tails_lem n system tails has).0 interior in
      all_from_each {P = λ (f : Affine). pos 0 <ℤ f.constant} (each_from_in fs (λ f i. around.constants f ((facets.members f).0 (contains_from_in i)))),
)

-- flat tails
pub none_where_flat : (n : ℕ) (system : Weighted) (tails : List (List ℤ)) (f : Affine) → HasTails n system tails → IsFlatFunction n tails f
    → HasInteriorPoint system → ⊥
none_where_flat n system tails f has flat interior =
    ((interior_by_tails_lem n system tails has).0 interior).solid (record {
      function = f;
      dimension = flat.dimension;
      nonconstant = (flat.place, flat.ends.nonzero);
      vanishes = flat.vanishes;
    })

-- the exponent vector of ones
length_ones : (n : ℕ) → length (ones n) ≡ n
length_ones zero = refl
length_ones (suc n) = ap (λ (m : ℕ). suc m) (length_ones n)

pub some_tail : (n degree : ℕ) (weights : List ℕ) (tails : List (List ℤ)) → HasTails n (system_of degree weights) tails → 0 < length tails
some_tail n degree weights tails has = by weights refl
  where
    within : {y : List ℤ} → Contains tails y → 0 < length tails
    within (k, h, e) = omega (arith, h)

    by : (ws : List ℕ) → ws ≡ weights → 0 < length tails
    by [] e = let columns = has.summed.columns in let none = ap length e in absurd (omega (arith, columns, none))
    by (w ∷ ws) e =
        let sum = has.summed.sum in
        within ((has.members (monomial_point (map pos (ones (length ws))))).1
        (subst (λ (v : List ℕ). IsTail (system_of degree v) (monomial_point (map pos (ones (length ws))))) e (record {
          first = pos 1;
          later = map pos (ones (length ws));
          monomial = monomial_from_solution (system_of degree (w ∷ ws) ∷ []) (1 ∷ ones (length ws)) (record {
            columns = length_ones (suc (length ws));
            degrees = all_from_each {P = λ (s : Weighted). spent s.weights (1 ∷ ones (length ws)) ≡ s.degree}
                (more (takes_ones (w ∷ ws) ∙ (ap total e ∙ sum)) empty);
          });
          same = refl;
        })))

-- no refusal of the tails comes where there is an interior point
pub refused_none : (n : ℕ) (system : Weighted) (tails : List (List ℤ)) (cause : Refusal) → HasTails n system tails → IsSized n tails
    → IsStartRefusal n tails cause → HasInteriorPoint system → ⊥
refused_none n system tails (Flat f) has sized h interior = none_where_flat n system tails f has h.1 interior
refused_none n system tails (Limit Size told) has sized h interior = let above = h.1 in omega (arith, sized, above)
refused_none n system tails (Limit other told) has sized h interior = h
