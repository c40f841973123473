-- The facets are finitely many: those of all choices of zeros among the points, put in order.
use Rattle.std.proofs.Common.{◌≡◌, ◌≢◌, ℕ, List, [], ◌∷◌, ◌++◌, length, ℤ, pos, ◌⊎◌, inl, inr, sym, ◌∙◌}
use Rattle.lattice_theory.specs.Vector.{dot}
use Rattle.lattice_theory.specs.Affine.{Affine}
use Rattle.lattice_theory.specs.Order.{FunctionLess}
use Rattle.lattice_theory.specs.Facet.{IsFacet, AreFacets}
use Rattle.lattice_theory.proofs.Integers.{zero_or_not}
use Rattle.lattice_theory.proofs.Members.{In, here, there, Each, each_in, each_weaker, each_append, in_append_left, in_append_right, in_from_contains, contains_from_in}
use Rattle.facet_theory.specs.Laws.{FacetsAreListed}
use Rattle.facet_theory.specs.Solid.{AreSolid}
use Rattle.facet_theory.proofs.Lifted.{vector_of, lifted}
use Rattle.facet_theory.proofs.Candidates.{Candidates, candidates}
use Rattle.facet_theory.proofs.Order.{compare_functions, Sorted, sort}
use Rattle.lattice_theory.proofs.Orders.{function_transitive}

-- the zeros of f among the points are the chosen vectors and some of the rest
record WithZerosFrom (points chosen rest : List (List ℤ)) (f : Affine) : Type 0 where
  on : (v : List ℤ) → In v chosen → dot (vector_of f) v ≡ pos 0
  all : (v : List ℤ) → In v (lifted points) → dot (vector_of f) v ≡ pos 0 → In v chosen ⊎ In v rest

-- a list of facets with all of those
record Collected (n : ℕ) (points chosen rest : List (List ℤ)) : Type 0 where
  functions : List Affine
  facets : Each (IsFacet n points) functions
  all : (f : Affine) → IsFacet n points f → WithZerosFrom points chosen rest f → In f functions

-- no vector is left to choose
collect_end : (n : ℕ) (points chosen : List (List ℤ)) → Candidates n points chosen → Collected n points chosen []
collect_end n points chosen c = record {
  functions = c.functions;
  facets = c.facets;
  all = λ f facet w. c.all f facet (record { on = w.on; all = λ v i z. only v (w.all v i z) });
}
  where
    only : (v : List ℤ) → In v chosen ⊎ In v [] → In v chosen
    only v (inl i) = i
    only v (inr i) = elim i [ ]

-- the first of the rest is chosen, or it isn't
collect_both : (n : ℕ) (points chosen : List (List ℤ)) (v : List ℤ) (rest : List (List ℤ)) → Collected n points (v ∷ chosen) rest
    → Collected n points chosen rest → Collected n points chosen (v ∷ rest)
collect_both n points chosen v rest a b = record {
  functions = a.functions ++ b.functions;
  facets = each_append a.facets b.facets;
  all = λ f facet w. by f facet w (zero_or_not (dot (vector_of f) v));
}
  where
    on : (f : Affine) → WithZerosFrom points chosen (v ∷ rest) f → dot (vector_of f) v ≡ pos 0 → (w : List ℤ) → In w (v ∷ chosen)
        → dot (vector_of f) w ≡ pos 0
    on f h z w here = z
    on f h z w (there i) = h.on w i

    with : (w : List ℤ) → In w chosen ⊎ In w (v ∷ rest) → In w (v ∷ chosen) ⊎ In w rest
    with w (inl i) = inl (there i)
    with w (inr here) = inl here
    with w (inr (there i)) = inr i

    without : (f : Affine) (w : List ℤ) → dot (vector_of f) v ≢ pos 0 → dot (vector_of f) w ≡ pos 0 → In w chosen ⊎ In w (v ∷ rest)
        → In w chosen ⊎ In w rest
    without f w n' z (inl i) = inl i
    without f w n' z (inr here) = absurd (n' z)
    without f w n' z (inr (there i)) = inr i

    by : (f : Affine) → IsFacet n points f → WithZerosFrom points chosen (v ∷ rest) f → (dot (vector_of f) v ≡ pos 0)
        ⊎ (dot (vector_of f) v ≢ pos 0)
        → In f (a.functions ++ b.functions)
    by f facet w (inl z) = in_append_left b.functions (a.all f facet (record { on = on f w z; all = λ u i e. with u (w.all u i e) }))
    by f facet w (inr n') = in_append_right a.functions
        (b.all f facet (record { on = w.on; all = λ u i e. without f u n' e (w.all u i e) }))

-- by all choices from the rest
collect : (n : ℕ) (points chosen rest : List (List ℤ)) → AreSolid n points → ((v : List ℤ) → In v chosen → In v (lifted points))
    → ((v : List ℤ) → In v rest → In v (lifted points)) → Collected n points chosen rest
collect n points chosen [] solid among left = collect_end n points chosen (candidates n points chosen solid among)
collect n points chosen (v ∷ rest) solid among left = collect_both n points chosen v rest
    (collect n points (v ∷ chosen) rest solid more_chosen (λ w i. left w (there i)))
    (collect n points chosen rest solid among (λ w i. left w (there i)))
  where
    more_chosen : (w : List ℤ) → In w (v ∷ chosen) → In w (lifted points)
    more_chosen w here = left w here
    more_chosen w (there i) = among w i

-- all facets, in a list
pub record AllFacets (n : ℕ) (points : List (List ℤ)) : Type 0 where
  pub functions : List Affine
  pub facets : Each (IsFacet n points) functions
  pub all : (f : Affine) → IsFacet n points f → In f functions

-- by all choices from all of the points
pub all_facets : (n : ℕ) (points : List (List ℤ)) → AreSolid n points → AllFacets n points
all_facets n points solid = by (collect n points [] (lifted points) solid (λ v i. elim i [ ]) (λ v i. i))
  where
    by : Collected n points [] (lifted points) → AllFacets n points
    by c = record {
      functions = c.functions;
      facets = c.facets;
      all = λ f facet. c.all f facet (record { on = λ v i. elim i [ ]; all = λ v i z. inr i });
    }

-- the law on the list of facets
pub facets_are_listed_lem : FacetsAreListed
facets_are_listed_lem n points solid = by (all_facets n points solid)
  where
    by : AllFacets n points → (fs : List Affine) × AreFacets n points fs
    by a = done (sort FunctionLess (λ f. length f.normal ≡ n) function_transitive (λ f g e e'. compare_functions f g (e ∙ sym e'))
        a.functions
        (each_weaker (λ f facet. facet.dimension) a.facets))
      where
        done : Sorted FunctionLess a.functions → (fs : List Affine) × AreFacets n points fs
        done s = (
          s.list,
          record {
            ascends = s.ascends;
            members =
                λ f. ((λ c. each_in a.facets (s.from f (in_from_contains s.list c))), (λ facet. contains_from_in (s.to f (a.all f facet))));
          },
        )
