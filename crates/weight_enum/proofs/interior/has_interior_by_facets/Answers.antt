use Rattle.std.proofs.Common.{◌≡◌, ℕ, ◌+◌, ◌-◌, List, ℤ, length, sym, subst, arith}
use Rattle.std.proofs.lemmas.Bool.{false≢true}
use Rattle.lattice_theory.specs.Facet.{IsFlat, AreFacets}
use Rattle.hull.specs.Faults.{IsStartRefusal}
use Rattle.interior_point_theory.specs.Around.{HasTails}
use Rattle.lattice_core.specs.Stops.{Stops}
use Rattle.lattice_core.specs.declared.faults.Fault.{Fault}
use Rattle.lattice_core.specs.Dimensions.{dimension_of}
use Rattle.lattice_core.proofs.Dimension.{dimension_is, own_dimension}
use Rattle.interior_point_theory.specs.Interior.{system_of}
use Rattle.weight_enum.specs.Taken.{AreSearched}
use Rattle.weight_enum.proofs.Sizes.{tails_sized, tails_dimension}
use Rattle.weight_enum.proofs.InteriorPoints.{interior_by_facets, refused_none, some_tail}
use Rattle.weight_enum.proofs.interior.has_interior_by_facets.Goals as goal

-- the dimension of the tails
dimension : (n degree : ℕ) (weights : List ℕ) (tails : List (List ℤ)) → HasTails n (system_of degree weights) tails → dimension_of tails ≡ n
dimension n degree weights tails has = dimension_is n tails (some_tail n degree weights tails has) (tails_dimension degree n weights tails has)

pub all_facets-requires : goal.all_facets-requires
all_facets-requires c =
    let has = c.requires.tails in
    record {
      points = record {
        some = some_tail (length c.args.weights.now - 1) c.args.degree c.args.weights.now c.args.tails.now has;
        one_dimension = own_dimension (length c.args.weights.now - 1) c.args.tails.now
            (tails_dimension c.args.degree (length c.args.weights.now - 1) c.args.weights.now c.args.tails.now has);
      };
    }

pub returns-in_ok-keep-in-Ok : goal.returns-in_ok-keep-in-Ok
returns-in_ok-keep-in-Ok c =
    let n = length c.args.weights.now - 1 in
    let system = system_of c.args.degree c.args.weights.now in
    let has = c.requires.tails in
    let tails = c.args.tails.now in
    let same = dimension n c.args.degree c.args.weights.now tails has in
    let facets = subst (λ (m : ℕ). AreFacets m tails c.in-Ok.facets.items) same c.in-Ok.ensures.facets in
    let solid = c.in-Ok.ensures.solid in
    let both = interior_by_facets n system tails c.in-Ok.facets.items has
    (λ flat. solid.solid (subst (λ (m : ℕ). IsFlat m tails) (sym same) flat)) facets in
    (λ e. both.0 (rw c.deref-in-Ok.ensures.value at (c.are_positive.ensures.0 e)), λ h. c.are_positive.ensures.1 (rw c.deref-in-Ok.ensures.value (both.1 h)))

pub returns-in-Err-Refused : goal.returns-in-Err-Refused
returns-in-Err-Refused c =
    let n = length c.args.weights.now - 1 in
    let has = c.requires.tails in
    let searched = c.requires.taken.searched in
    let some = searched.some in
    let next : length c.args.weights.now ≡ n + 1 = omega (arith, some) in
    let sized = tails_sized c.args.degree n c.args.weights.now c.args.tails.now has (omega (arith, some))
    (subst (AreSearched c.args.degree) next searched) in
    let tails = c.args.tails.now in
    let same = dimension n c.args.degree c.args.weights.now tails has in
    let stops = subst (λ (m : ℕ). Stops (IsStartRefusal m tails) c.in-Err-Refused.field-0) same
    c.in-Err-Refused.ensures.refused in
    let refused : IsStartRefusal n tails c.in-Err-Refused.field-0-0 =
    subst (λ (fault : Fault). Stops (IsStartRefusal n tails) fault) c.in-Err-Refused.field-0-is stops in
    (λ e. absurd (false≢true e), λ h. absurd (refused_none n (system_of c.args.degree c.args.weights.now) c.args.tails.now _ has sized refused h))
