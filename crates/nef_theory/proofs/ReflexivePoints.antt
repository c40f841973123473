-- The lattice points of a reflexive polytope, by the normals of its facets.
use Rattle.std.proofs.Common.{◌≡◌, ℕ, zero, suc, ◌<◌, List, [], ◌∷◌, length, ℤ, pos, negsuc, ◌+ℤ◌, ◌≤ℤ◌, refl, sym, ap, ◌∙◌, arith, subst, get_or}
use Rattle.lattice_theory.specs.Vector.{dot}
use Rattle.lattice_theory.specs.Affine.{Affine, value}
use Rattle.lattice_theory.specs.Facet.{IsFacet}
use Rattle.lattice_theory.proofs.Integers.{linear}
use Rattle.lattice_theory.proofs.Members.{In, here, there, in_from_contains, contains_from_in}
use Rattle.lattice_theory.proofs.Vectors.{dot_comm}
use Rattle.facet_theory.proofs.Hull.{hull_by_facets_lem}
use Rattle.nef_theory.specs.Nef.{pairing_at}
use Rattle.duality_theory.specs.Reflexive.{normals_of}
use Rattle.nef_theory.specs.Laws.{PointsByNormals}

-- the normal at a place is that of a member, and each member's stands at some place
record StandsAt (fs : List Affine) (e : ℕ) (v : List ℤ) : Type 0 where
  function : Affine
  member : In function fs
  is : v ≡ function.normal

at_place : (fs : List Affine) (e : ℕ) → e < length (normals_of fs) → StandsAt fs e (get_or (normals_of fs) e [])
at_place [] e h = absurd (omega arith)
at_place (f ∷ fs) zero h = record { function = f; member = here; is = refl }
at_place (f ∷ fs) (suc e) h = let r = at_place fs e (omega arith) in record { function = r.function; member = there r.member; is = r.is }

place_of : (fs : List Affine) (f : Affine) → In f fs → (e : ℕ) × (e < length (normals_of fs)) × (get_or (normals_of fs) e [] ≡ f.normal)
place_of [] f i = elim i [ ]
place_of (g ∷ fs) f here = (0, omega arith, refl)
place_of (g ∷ fs) f (there i) = let r = place_of fs f i in (suc r.0, omega (arith, r.1), r.2)

pub points_by_normals_lem : PointsByNormals
points_by_normals_lem n points normals lattice_points solid reflexive has are x = (
  (λ c. let p = (are.members x).0 c in (p.dimension, λ e h. below x e h ((hull_by_facets_lem n points solid x p.dimension).0 p.inside))),
  (λ q. (are.members x).1 (record { dimension = q.0; inside = (hull_by_facets_lem n points solid x q.0).1 (λ f facet. above x q.1 f facet) })),
)
  where
    at_one : (d c : ℤ) → c ≡ pos 1 → pos 0 ≤ℤ (d +ℤ c) → negsuc 0 ≤ℤ d
    at_one d c e h = omega (arith, linear)

    from_one : (d c : ℤ) → c ≡ pos 1 → negsuc 0 ≤ℤ d → pos 0 ≤ℤ (d +ℤ c)
    from_one d c e h = omega (arith, linear)

    below_all : (x : List ℤ) (e : ℕ) (vs : List (List ℤ)) → vs ≡ normals_of has.facets → e < length vs
        → ((f : Affine) → IsFacet n points f → pos 0 ≤ℤ value f x) → negsuc 0 ≤ℤ pairing_at vs x e
    below_all x e vs same h values =
        let s = at_place has.facets e (subst (λ (ws : List (List ℤ)). e < length ws) same h) in
        let facet = (has.are_facets s.function).0 (contains_from_in s.member) in
        subst (λ (v : ℤ). negsuc 0 ≤ℤ v)
        (dot_comm s.function.normal x ∙ ap (λ (v : List ℤ). dot x v) (sym s.is) ∙ ap (λ (ws : List (List ℤ)). pairing_at ws x e) (sym same))
        (at_one (dot s.function.normal x) s.function.constant (reflexive s.function facet) (values s.function facet))

    below : (x : List ℤ) (e : ℕ) → e < length normals → ((f : Affine) → IsFacet n points f → pos 0 ≤ℤ value f x) → negsuc 0 ≤ℤ pairing_at normals x e
    below x e h values = below_all x e normals has.same h values

    above_all : (x : List ℤ) (vs : List (List ℤ)) → vs ≡ normals_of has.facets → ((e : ℕ) → e < length vs → negsuc 0 ≤ℤ pairing_at vs x e)
        → (f : Affine) → IsFacet n points f → pos 0 ≤ℤ value f x
    above_all x vs same low f facet =
        let p = place_of has.facets f (in_from_contains has.facets ((has.are_facets f).1 facet)) in
        from_one (dot f.normal x) f.constant (reflexive f facet)
        (subst (λ (v : ℤ). negsuc 0 ≤ℤ v) (ap (λ (ws : List (List ℤ)). pairing_at ws x p.0) same ∙ ap (λ (v : List ℤ). dot x v) p.2 ∙ dot_comm x f.normal)
        (low p.0 (subst (λ (ws : List (List ℤ)). p.0 < length ws) (sym same) p.1)))

    above : (x : List ℤ) → ((e : ℕ) → e < length normals → negsuc 0 ≤ℤ pairing_at normals x e) → (f : Affine) → IsFacet n points f → pos 0 ≤ℤ value f x
    above x low f facet = above_all x normals has.same low f facet
