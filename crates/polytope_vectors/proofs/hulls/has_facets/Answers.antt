use Rattle.std.proofs.Common.{◌≡◌, length, List, sym, subst, All, Contains}
use Rattle.std.proofs.lemmas.List.Elements.{All-weaker, All-contains_itself}
use Rattle.lattice_theory.specs.Affine.{Affine}
use Rattle.lattice_core.specs.Dimensions.{dimension_of}
use Rattle.polytope_vectors.proofs.hulls.has_facets.Goals as goal

pub ascending_functions-requires : goal.ascending_functions-requires
ascending_functions-requires c =
    let n = dimension_of c.args.builder.now.points in
    let facets = c.facets.result.now in (
      n,
      subst (λ (fs : List Affine). All (λ f. length f.normal ≡ n) fs) (sym c.in_ok-found.ensures)
          (All-weaker (Contains facets) (λ f. length f.normal ≡ n) (λ f k. ((c.facets.ensures.facets.members f).0 k).dimension) facets
          (All-contains_itself facets)),
    )
