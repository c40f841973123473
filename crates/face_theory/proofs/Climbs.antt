-- A chain of faces gives one vector for each step, each told from those of the steps below it.
use Rattle.std.proofs.Common.{◌≡◌, ℕ, zero, suc, ◌+◌, ◌<◌, Bool, true, List, [], ◌∷◌, length, ℤ, pos, negsuc, refl, sym, ap, ◌∙◌, subst, arith, slice_index_or, le_of_suc-le-suc, not-suc-le-zero}
use Rattle.lattice_theory.specs.Vector.{dot}
use Rattle.lattice_theory.specs.Affine.{Affine, value}
use Rattle.lattice_theory.proofs.Integers.{linear, *ℤ-one}
use Rattle.lattice_theory.proofs.Members.{Each, empty, more, each_weaker, each_from_all, all_from_each}
use Rattle.face_theory.specs.Sets.{in_set, IsPart, IsProperPart}
use Rattle.face_theory.specs.Chains.{IsChainFrom}
use Rattle.face_theory.specs.Faces.{TightRelation, IsFace}
use Rattle.face_theory.specs.Pairings.{IsPairedBy, vector_at, function_at, is_zero, paired, valued}
use Rattle.face_theory.specs.Laws.{ChainBound, RankBound, RankBoundOfPoints}
use Rattle.face_theory.proofs.Sets.{true_false, in_set_width, IsMissing, missing}
use Rattle.face_theory.proofs.Separations.{Separates, separated}
use Rattle.elimination.specs.Elimination.{AreSeparated}
use Rattle.elimination.proofs.Separated.{separated_are_few_lem}

-- the vector of a member of the set
record IsOf (R : TightRelation) (member : ℕ → List ℤ) (set : List Bool) (v : List ℤ) : Type 0 where
  place : ℕ
  within : place < R.members
  belongs : in_set set place ≡ true
  is : member place ≡ v

larger : {R : TightRelation} {member : ℕ → List ℤ} {a b : List Bool} → IsPart a b → (v : List ℤ) → IsOf R member a v → IsOf R member b v
larger f v h = record { place = h.place; within = h.within; belongs = f h.place h.belongs; is = h.is }

-- the vectors of a chain
record Climbed (n : ℕ) (R : TightRelation) (member : ℕ → List ℤ) (top : List Bool) (chain : List (List Bool)) : Type 0 where
  vectors : List (List ℤ)
  as_many : length vectors ≡ length chain
  told : AreSeparated n vectors
  inside : Each (IsOf R member top) vectors

module _ (n : ℕ) (R : TightRelation) (p : IsPairedBy n R) where
  -- a function that is tight on the set is 0 at its vectors
  annihilates : (set : List Bool) (m f : ℕ) → Separates R set m f → (v : List ℤ) → IsOf R p.member set v → dot (p.function f) v ≡ pos 0
  annihilates set m f s v h = ap (dot (p.function f)) (sym h.is) ∙ (p.tight h.place f h.within s.within).0 (s.tight h.place h.belongs)

  -- one step
  climb_by : (top x : List Bool) (xs : List (List Bool)) → IsPart x top → Climbed n R p.member x xs
      → (m : ℕ) → m < R.members → IsMissing x top m → (f : ℕ) → Separates R x m f → Climbed n R p.member top (x ∷ xs)
  climb_by top x xs within c m l miss f s = record {
    vectors = p.member m ∷ c.vectors;
    as_many = ap suc c.as_many;
    told = (
      record {
        separator = p.function f;
        dimension = p.lengths f s.within;
        annihilates = all_from_each (each_weaker (annihilates x m f s) c.inside);
        nonzero = λ e. true_false ((p.tight m f l s.within).1 e) s.apart;
      },
      c.told,
    );
    inside = more (record { place = m; within = l; belongs = miss.in_large; is = refl }) (each_weaker (larger within) c.inside);
  }

  climb : (top : List Bool) (chain : List (List Bool)) → IsFace R top → IsChainFrom (IsFace R) IsProperPart top chain
      → Climbed n R p.member top chain
  climb top [] face h = record { vectors = []; as_many = refl; told = tt; inside = empty }
  climb top (x ∷ xs) face h =
      let c = climb x xs h.0 h.2 in
      let i = missing x top (h.0.width ∙ sym face.width) h.1 in
      let l : i.0 < R.members = subst (λ (k : ℕ). i.0 < k) face.width (in_set_width top i.0 i.1.in_large) in
      let s = separated R x h.0 i.0 l i.1.not_in_small in
      climb_by top x xs h.1.0 c i.0 l i.1 s.0 s.1

-- the law
pub chain_bound_lem : ChainBound
chain_bound_lem n R p top chain face h = let c = climb n R p top chain face h in let t = separated_are_few_lem n c.vectors c.told in
    let e = c.as_many in omega arith

-- at a place
each_at : {X : Type 0} {P : X → Type 0} {xs : List X} (d : X) → Each P xs → (i : ℕ) → i < length xs → P (slice_index_or xs i d)
each_at d empty i h = absurd (not-suc-le-zero h)
each_at d (more p ps) zero h = p
each_at d (more p ps) (suc i) h = each_at d ps i (le_of_suc-le-suc h)

-- the test of 0
pub is_zero-true : (a : ℤ) → is_zero a ≡ true → a ≡ pos 0
is_zero-true (pos zero) e = refl
is_zero-true (pos (suc n)) e = absurd (true_false e refl)
is_zero-true (negsuc n) e = absurd (true_false e refl)

-- vectors
paired_pairing : (n : ℕ) (members functions : List (List ℤ)) → Each (λ f. length f ≡ n) functions → IsPairedBy n
    (paired members functions)
paired_pairing n members functions df = record {
  member = vector_at members;
  function = vector_at functions;
  lengths = each_at [] df;
  tight = λ m f l k. (is_zero-true (dot (vector_at functions f) (vector_at members m)), λ e. ap is_zero e);
}

-- points, with 1 put before, and affine functions, with the constant put before
homogenised : (f : Affine) (x : List ℤ) → dot (f.constant ∷ f.normal) (pos 1 ∷ x) ≡ value f x
homogenised f x = let e = *ℤ-one f.constant in omega (arith, linear)

valued_pairing : (n : ℕ) (points : List (List ℤ)) (functions : List Affine) → Each (λ f. length f.normal ≡ n) functions → IsPairedBy
    (n + 1) (valued points functions)
valued_pairing n points functions df = record {
  member = λ m. pos 1 ∷ vector_at points m;
  function = λ f. (function_at functions f).constant ∷ (function_at functions f).normal;
  lengths = λ f l. let e = each_at (record { normal = []; constant = pos 0 }) df f l in omega arith;
  tight = λ m f l k. let h = homogenised (function_at functions f) (vector_at points m) in
      (λ e. h ∙ is_zero-true (value (function_at functions f) (vector_at points m)) e, λ e. ap is_zero (sym h ∙ e));
}

pub rank_bound_lem : RankBound
rank_bound_lem n members functions df face k f h =
    let b = chain_bound_lem n (paired members functions)
    (paired_pairing n members functions (each_from_all (λ g. length g ≡ n) functions df)) face h.longest f h.is_chain in
    let e = h.length_is in omega arith

pub rank_bound_of_points_lem : RankBoundOfPoints
rank_bound_of_points_lem n points functions df face k f h =
    let b = chain_bound_lem (n + 1) (valued points functions)
    (valued_pairing n points functions (each_from_all (λ g. length g.normal ≡ n) functions df)) face h.longest f h.is_chain in
    let e = h.length_is in omega arith
