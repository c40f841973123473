-- The cone of a partition, made of the lists that are kept.
use Rattle.std.proofs.Common.{◌≡◌, ◌⊎◌, ◌↔◌, ℕ, zero, suc, ◌/◌, ◌^◌, ◌<◌, ◌≤◌, Bool, List, [], length, ℤ, pos, refl, sym, ap, ap₂, ◌∙◌, subst, inl, inr, arith, slice_index_or}
use Rattle.std.specs.List.{All, Contains}
use Rattle.std.proofs.lemmas.List.{get_or_default}
use Rattle.std.proofs.lemmas.List.Elements.{All-contains, Contains-get_or}
use Rattle.std.proofs.Math.Nat.{mul-div_cancel_left}
use Rattle.lattice_theory.specs.Affine.{Affine}
use Rattle.lattice_theory.specs.Size.{absolute_sum}
use Rattle.lattice_theory.specs.Order.{Ascends, FunctionLess}
use Rattle.lattice_theory.proofs.Members.{Each, all_from_each, each_from_in, each_in, each_weaker, In, in_from_contains, contains_from_in}
use Rattle.lattice_core.specs.Dimensions.{dimension_of}
use Rattle.cayley_theory.specs.Cones.{zero_vector}
use Rattle.cayley_theory.specs.Bases.{part_in}
use Rattle.cayley_theory.proofs.ConeVectors.{length-zero_vector, length_at}
use Rattle.dual_pair.specs.Pairs.{PairState, IsPair}
use Rattle.cayley.specs.PairCones.{IsPartition, IsConeOf}
use Rattle.nef_theory.specs.Nef.{part_at}
use Rattle.cayley.specs.ConeSteps.{lifted_all, kept_point, kept_normal, kept_unit, IsAmong, AddsFirst, HoldFunctions, table_of, AreSmall, IsTableOf, HaveParts, IsKeptCone}
use Rattle.cayley.proofs.KeptVectors.{KeepsPart, part_kept, from_none, keep_points, keep_functions, are_members, are_functions}
use Rattle.cayley.proofs.Tables.{is_table}
use Rattle.cayley.proofs.PairFacts.{same_dimension, normals_dimension, small_normals, points_dimension, facet_of, below_parts, some_part, places_within}

-- no entry of a vector of zeros counts
sum-zero_vector : (n : ℕ) → absolute_sum (zero_vector n) ≡ 0
sum-zero_vector zero = refl
sum-zero_vector (suc n) = let e = sum-zero_vector n in omega arith

-- vectors that keep parts have them
have_parts : (n r : ℕ) (vs : List Affine) → Each (λ f. length f.normal ≡ n) vs → Each (KeepsPart r) vs → HaveParts n r vs
have_parts n r vs d k = record {
  dimension = λ i l. each_in d (in_from_contains vs (Contains-get_or vs i none l));
  part = λ i l. kept (each_in k (in_from_contains vs (Contains-get_or vs i none l)));
}
  where
    none : Affine
    none = record { normal = []; constant = pos 0 }

    kept : {f : Affine} → KeepsPart r f → part_in f < r
    kept {f} h = subst (λ (j : ℕ). j < r) (sym (part_kept f.constant h.part h.constant_is)) h.within

module _ (pair : PairState) (is : IsPair pair) (part_of places : List ℕ) (h : IsPartition pair part_of places) where
  abbrev n : ℕ
  n = dimension_of pair.m.vertices

  some_normals : 0 < length pair.n.vertices
  some_normals = is.dual.polytope.solid.sized.are_points.some

  pub some_parts : 0 < h.parts
  some_parts = some_part h.parts part_of h.nef.growth (let c = h.nef.count in let s = some_normals in omega arith)

  pub parts_are : length places / length pair.m.vertices ≡ h.parts
  parts_are = ap (λ (k : ℕ). k / length pair.m.vertices) h.places_are.count
      ∙ mul-div_cancel_left h.parts is.polytope.solid.sized.are_points.some

  pub all_within : All (λ place. place < length pair.m.points) places
  all_within = all_from_each {P = λ place. place < length pair.m.points} (each_from_in places (λ p i. at p (in_contains p i)))
    where
      in_contains : (p : ℕ) → In p places → Contains places p
      in_contains p i = contains_from_in i

      at : (p : ℕ) → Contains places p → p < length pair.m.points
      at p c = subst (λ (q : ℕ). q < length pair.m.points) (get_or_default places c.0 0 p c.1 ∙ c.2)
          (places_within n pair.m.vertices pair.n.vertices pair.m.points h.parts part_of places some_parts h.places_are c.0 c.1)

module _ (pair : PairState) (is : IsPair pair) (part_of places : List ℕ) (h : IsPartition pair part_of places) (ms fs : List Affine)
    (km : AddsFirst (kept_point pair.m.points places h.parts) [] (length places) ms)
    (kf : HoldFunctions (dimension_of pair.n.vertices) pair.n.vertices part_of h.parts fs) where
  abbrev dim : ℕ
  dim = dimension_of pair.m.vertices

  members : (f : Affine) → Contains ms f ↔ IsAmong (kept_point pair.m.points places h.parts) (length places) f
  members = from_none (kept_point pair.m.points places h.parts) (length places) ms km

  functions : HoldFunctions dim pair.n.vertices part_of h.parts fs
  functions = subst (λ (k : ℕ). HoldFunctions k pair.n.vertices part_of h.parts fs) (same_dimension pair is) kf

  member_dimension : Each (λ m. length m.normal ≡ dim) ms
  member_dimension = each_from_in ms (λ f i. at f ((members f).0 (contains_from_in i)))
    where
      at : (f : Affine) → IsAmong (kept_point pair.m.points places h.parts) (length places) f → length f.normal ≡ dim
      at f a = ap (λ (g : Affine). length g.normal) a.is ∙ length_at dim pair.m.points (points_dimension pair is) (slice_index_or places a.place 0)
          (places_within dim pair.m.vertices pair.n.vertices pair.m.points h.parts part_of places (some_parts pair is part_of places h) h.places_are a.place a.within)

  small_functions : Each (λ f. (length f.normal ≡ dim) × (absolute_sum f.normal ≤ 2 ^ 60)) fs
  small_functions = each_from_in fs (λ f i. at f ((functions f).0 (contains_from_in i)))
    where
      at : (f : Affine) → IsAmong (kept_normal pair.n.vertices part_of) (length pair.n.vertices) f ⊎ IsAmong (kept_unit dim) h.parts f
          → (length f.normal ≡ dim) × (absolute_sum f.normal ≤ 2 ^ 60)
      at f (inl a) = (
        ap (λ (g : Affine). length g.normal) a.is ∙ length_at dim pair.n.vertices (normals_dimension pair is) a.place a.within,
        subst (λ (g : Affine). absolute_sum g.normal ≤ 2 ^ 60) (sym a.is)
            (All-contains (λ v. absolute_sum v ≤ 2 ^ 60) pair.n.vertices (slice_index_or pair.n.vertices a.place []) (small_normals pair is)
            (Contains-get_or pair.n.vertices a.place [] a.within)),
      )
      at f (inr a) = (
        ap (λ (g : Affine). length g.normal) a.is ∙ length-zero_vector dim,
        subst (λ (g : Affine). absolute_sum g.normal ≤ 2 ^ 60) (sym a.is) (let e = sum-zero_vector dim in omega arith),
      )

  pub members_small : All (λ m. AreSmall (length m.normal) fs) ms
  members_small = all_from_each {P = λ m. AreSmall (length m.normal) fs} (each_weaker (λ m e. subst (λ (k : ℕ). AreSmall k fs) (sym e)
      (all_from_each {P = λ f. (length f.normal ≡ dim) × (absolute_sum f.normal ≤ 2 ^ 60)} small_functions)) member_dimension)

  keep_ms : Each (KeepsPart h.parts) ms
  keep_ms = keep_points dim pair.m.vertices pair.n.vertices pair.m.points h.parts part_of places (some_parts pair is part_of places h) h.places_are (facet_of pair is) ms members

  below : (e : ℕ) → e < length pair.n.vertices → part_at part_of e < h.parts
  below e l = below_parts h.parts part_of h.nef.growth e (let c = h.nef.count in omega arith)

  keep_fs : Each (KeepsPart h.parts) fs
  keep_fs = keep_functions dim pair.n.vertices h.parts part_of below fs functions

  function_dimension : Each (λ f. length f.normal ≡ dim) fs
  function_dimension = each_weaker (λ f s. s.0) small_functions

  pub lists_are : (t : List Bool) → t ≡ table_of fs ms → IsKeptCone dim h.parts ms fs t
  lists_are t e = record {
    member_parts = have_parts dim h.parts ms member_dimension keep_ms;
    function_parts = have_parts dim h.parts fs function_dimension keep_fs;
    table = subst (IsTableOf (lifted_all h.parts ms) (lifted_all h.parts fs)) (sym e)
        (is_table dim h.parts ms fs keep_ms keep_fs member_dimension function_dimension);
  }

  pub cone_is : Ascends FunctionLess ms → Ascends FunctionLess fs
      → IsConeOf pair part_of (record { dim = dim; parts = h.parts; members = lifted_all h.parts ms; functions = lifted_all h.parts fs })
  cone_is am af = record {
    dim_is = refl;
    nef = h.nef;
    members_are = are_members dim pair.m.vertices pair.n.vertices pair.m.points h.parts part_of places (some_parts pair is part_of places h) h.places_are (facet_of pair is) ms
        members am;
    functions_are = are_functions dim pair.n.vertices h.parts part_of below fs functions af;
  }

-- what the lists of a cone are made of
pub record AreMade (pair : PairState) (part_of places : List ℕ) (parts : ℕ) (ms fs : List Affine) : Type 0 where
  pub is : IsPair pair
  pub partition : IsPartition pair part_of places
  pub parts_is : parts ≡ partition.parts
  pub members_are : AddsFirst (kept_point pair.m.points places partition.parts) [] (length places) ms
  pub functions_are : HoldFunctions (dimension_of pair.n.vertices) pair.n.vertices part_of partition.parts fs

pub parts_from : (pair : PairState) (part_of places : List ℕ) → IsPair pair → (h : IsPartition pair part_of places) → (count : ℕ)
    (vertices : List (List ℤ)) → count ≡ length places → vertices ≡ pair.m.vertices → count / length vertices ≡ h.parts
parts_from pair part_of places is h count vertices e v = ap₂ (λ (a b : ℕ). a / b) e (ap length v) ∙ parts_are pair is part_of places h

pub made_from : (pair : PairState) (part_of places : List ℕ) → IsPair pair → (h : IsPartition pair part_of places) → (parts : ℕ)
    (points normals : List (List ℤ)) (numbers at : List ℕ) (ms fs : List Affine) → parts ≡ h.parts → points ≡ pair.m.points → normals ≡ pair.n.vertices
    → numbers ≡ part_of → at ≡ places → AddsFirst (kept_point points at parts) [] (length at) ms
    → HoldFunctions (dimension_of normals) normals numbers parts fs → AreMade pair part_of places parts ms fs
made_from pair part_of places is h parts points normals numbers at ms fs e p q u v km kf = record {
  is = is;
  partition = h;
  parts_is = e;
  members_are = subst (λ (xs : List (List ℤ)). AddsFirst (kept_point xs places h.parts) [] (length places) ms) p
      (subst (λ (ks : List ℕ). AddsFirst (kept_point points ks h.parts) [] (length ks) ms) v
      (subst (λ (r : ℕ). AddsFirst (kept_point points at r) [] (length at) ms) e km));
  functions_are = subst (λ (xs : List (List ℤ)). HoldFunctions (dimension_of xs) xs part_of h.parts fs) q
      (subst (λ (ks : List ℕ). HoldFunctions (dimension_of normals) normals ks h.parts fs) u
      (subst (λ (r : ℕ). HoldFunctions (dimension_of normals) normals numbers r fs) e kf));
}

module _ (pair : PairState) (part_of places : List ℕ) (parts : ℕ) (ms fs : List Affine) (m : AreMade pair part_of places parts ms fs) where
  pub made_small : All (λ f. AreSmall (length f.normal) fs) ms
  made_small = members_small pair m.is part_of places m.partition ms fs m.members_are m.functions_are

  pub made_lists : (n : ℕ) → n ≡ dimension_of pair.m.vertices → (t : List Bool) → t ≡ table_of fs ms → IsKeptCone n parts ms fs t
  made_lists n e t is = subst (λ (k : ℕ). IsKeptCone k parts ms fs t) (sym e)
      (subst (λ (r : ℕ). IsKeptCone (dimension_of pair.m.vertices) r ms fs t) (sym m.parts_is)
      (lists_are pair m.is part_of places m.partition ms fs m.members_are m.functions_are t is))

  pub made_cone : (n : ℕ) → n ≡ dimension_of pair.m.vertices → Ascends FunctionLess ms → Ascends FunctionLess fs
      → IsConeOf pair part_of (record { dim = n; parts = parts; members = lifted_all parts ms; functions = lifted_all parts fs })
  made_cone n e am af = subst (λ (k : ℕ). IsConeOf pair part_of (record { dim = k; parts = parts; members = lifted_all parts ms; functions = lifted_all parts fs }))
      (sym e) (subst (λ (r : ℕ). IsConeOf pair part_of
      (record { dim = dimension_of pair.m.vertices; parts = r; members = lifted_all r ms; functions = lifted_all r fs })) (sym m.parts_is)
      (cone_is pair m.is part_of places m.partition ms fs m.members_are m.functions_are am af))
