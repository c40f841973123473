-- Vectors that are kept as functions: their order and their members.
use Rattle.std.proofs.Common.{◌≡◌, ◌⊎◌, ◌↔◌, ℕ, zero, suc, ◌+◌, ◌*◌, ◌/◌, ◌%◌, ◌<◌, ◌≤◌, List, [], ◌∷◌, ◌++◌, length, ℤ, pos, neg_ℤ, nat_abs, ◌<ℤ◌, refl, sym, ap, ◌∙◌, subst, inl, inr, arith, slice_index_or}
use Rattle.std.specs.List.{Contains}
use Rattle.std.proofs.lemmas.Int.{ints}
use Rattle.std.proofs.lemmas.List.{get_or_default}
use Rattle.std.proofs.lemmas.List.Elements.{Contains-get_or, Contains-push, Contains-push_cases}
use Rattle.std.proofs.lemmas.Bool.{cases_lt}
use Rattle.lattice_theory.proofs.Unique.{no_member}
use Rattle.std.proofs.lemmas.Nat.{div-add-mod', mod-mul-add}
use Rattle.std.proofs.Math.Nat.{mod-lt, div-lt_iff_lt-mul, suc-mul, mul-le-mul_right}
use Rattle.lattice_theory.specs.Affine.{Affine}
use Rattle.lattice_theory.specs.Facet.{IsFacet}
use Rattle.lattice_theory.specs.Order.{LexLess, FunctionLess, Ascends}
use Rattle.lattice_theory.proofs.Integers.{linear}
use Rattle.lattice_theory.proofs.Members.{Each, empty, more, all_from_each, each_from_all, each_map, each_from_in, In, in_append_left, in_from_contains, contains_from_in}
use Rattle.lattice_theory.proofs.Sublists.{in_map, from_map, IsImage}
use Rattle.duality_theory.specs.Reflexive.{with_one}
use Rattle.nef_theory.specs.Nef.{part_at, IsPartPoint}
use Rattle.nef_theory.specs.Places.{ArePartPlaces}
use Rattle.cayley_theory.specs.Cones.{zero_vector, unit_vector, lifted, IsConeMember, IsConeFunction, AreConeMembers, AreConeFunctions}
use Rattle.cayley_theory.proofs.ConeVectors.{lex_append, lex_behind}
use Rattle.cayley_theory.proofs.PartPoints.{part_points_are_single_lem}
use Rattle.cayley.specs.ConeSteps.{with_part, lifted_one, lifted_all, kept_point, kept_normal, kept_unit, IsAmong, AddsFirst, HoldFunctions}

-- the part that is kept
pub part_kept : (c : ℤ) (i : ℕ) → c ≡ neg_ℤ (pos i) → nat_abs c ≡ i
part_kept c zero e = ap nat_abs e
part_kept c (suc i) e = ap nat_abs e

pub lifted_kept : (r : ℕ) (x : List ℤ) (i : ℕ) → lifted_one r (with_part x i) ≡ lifted r x i
lifted_kept r x i = ap (lifted r x) (part_kept (neg_ℤ (pos i)) i refl)

-- f keeps a part below r
pub record KeepsPart (r : ℕ) (f : Affine) : Type 0 where
  pub part : ℕ
  pub within : part < r
  pub constant_is : f.constant ≡ neg_ℤ (pos part)

-- unit vectors descend
later_unit : (r i j : ℕ) → j < i → j < r → LexLess (unit_vector r i) (unit_vector r j)
later_unit zero i j l h = absurd (omega arith)
later_unit (suc r) zero j l h = absurd (omega arith)
later_unit (suc r) (suc i) zero l h = inl (omega (arith, ints))
later_unit (suc r) (suc i) (suc j) l h = inr (refl, later_unit r i j (omega arith) (omega arith))

smaller_part : (c d : ℤ) (i j : ℕ) → c ≡ neg_ℤ (pos i) → d ≡ neg_ℤ (pos j) → c <ℤ d → j < i
smaller_part c d i j e f l = omega (arith, linear)

keeps_order : (r : ℕ) (f g : Affine) → KeepsPart r f → KeepsPart r g → FunctionLess f g → LexLess (lifted_one r f) (lifted_one r g)
keeps_order r f g hf hg (inl l) = lex_append f.normal g.normal (unit_vector r (nat_abs f.constant)) (unit_vector r (nat_abs g.constant)) l
keeps_order r f g hf hg (inr h) =
    let i : nat_abs f.constant ≡ hf.part = part_kept f.constant hf.part hf.constant_is in
    let j : nat_abs g.constant ≡ hg.part = part_kept g.constant hg.part hg.constant_is in
    let l = smaller_part f.constant g.constant hf.part hg.part hf.constant_is hg.constant_is h.1 in
    let u = later_unit r (nat_abs f.constant) (nat_abs g.constant) (rw (i, j) l) (rw j hg.within) in
    subst (λ (x : List ℤ). LexLess (lifted_one r f) (x ++ unit_vector r (nat_abs g.constant))) h.0
    (lex_behind f.normal (unit_vector r (nat_abs f.constant)) (unit_vector r (nat_abs g.constant)) u)

-- what follows from two things of each
both : {X : Type 0} {P Q S : X → Type 0} {xs : List X} → ((x : X) → P x → Q x → S x) → Each P xs → Each Q xs → Each S xs
both f empty empty = empty
both f (more {x = x} p ps) (more q qs) = more (f x p q) (both f ps qs)

pub ascends_lifted : (r : ℕ) (fs : List Affine) → Each (KeepsPart r) fs → Ascends FunctionLess fs → Ascends LexLess (lifted_all r fs)
ascends_lifted r [] k a = tt
ascends_lifted r (f ∷ fs) (more k ks) a = (
  all_from_each (each_map (LexLess (lifted_one r f)) (lifted_one r) (both (λ g kg l. keeps_order r f g k kg l) ks (each_from_all (FunctionLess f) fs a.0))),
  ascends_lifted r fs ks a.1,
)

-- a place of V rows of r
place_below : (v i V r : ℕ) → v < V → i < r → v * r + i < V * r
place_below v i V r l h = let s = mul-le-mul_right {m = suc v} {n = V} r l in let e = suc-mul v r in omega arith

module _ (n : ℕ) (vertices normals points : List (List ℤ)) (r : ℕ) (part_of places : List ℕ) (some : 0 < r)
    (are : ArePartPlaces n vertices normals points r part_of places)
    (facet : (m : List ℤ) → Contains vertices m → IsFacet n normals (with_one m)) (fs : List Affine)
    (kept : (f : Affine) → Contains fs f ↔ IsAmong (kept_point points places r) (length places) f) where
  at : ℕ → List ℤ
  at k = slice_index_or points (slice_index_or places k 0) []

  from_member : (x : List ℤ) → In x (lifted_all r fs) → IsConeMember n vertices normals r part_of x
  from_member x i = by (from_map (lifted_one r) fs i)
    where
      at_place : (f : Affine) → IsAmong (kept_point points places r) (length places) f → x ≡ lifted_one r f → IsConeMember n vertices normals r part_of x
      at_place f k e =
          let split = div-add-mod' k.place r in
          let row : k.place / r < length vertices = (div-lt_iff_lt-mul {k = r} {x = k.place} {y = length vertices} some).1 (let c = are.count in let w = k.within in omega arith) in
          let place = are.are (k.place / r) (k.place % r) row (mod-lt k.place some) in
          record {
            vertex = slice_index_or vertices (k.place / r) [];
            of_vertices = Contains-get_or vertices (k.place / r) [] row;
            part = k.place % r;
            within = mod-lt k.place some;
            point = slice_index_or points (slice_index_or places k.place 0) [];
            is_point = subst (λ (q : ℕ). IsPartPoint n normals part_of (slice_index_or vertices (k.place / r) []) (k.place % r)
                (slice_index_or points (slice_index_or places q 0) [])) split place.is_point;
            is = e ∙ ap (lifted_one r) k.is ∙ lifted_kept r (slice_index_or points (slice_index_or places k.place 0) []) (k.place % r);
          }

      by : IsImage (lifted_one r) fs x → IsConeMember n vertices normals r part_of x
      by h = at_place h.source ((kept h.source).0 (contains_from_in h.member)) h.is

  to_member : (x : List ℤ) → IsConeMember n vertices normals r part_of x → In x (lifted_all r fs)
  to_member x h =
      let c = h.of_vertices in
      let k = c.0 * r + h.part in
      let within : k < length places = let b = place_below c.0 h.part (length vertices) r c.1 h.within in let e = are.count in omega arith in
      let vertex : slice_index_or vertices c.0 [] ≡ h.vertex = get_or_default vertices c.0 [] h.vertex c.1 ∙ c.2 in
      let there_is = (are.are c.0 h.part c.1 h.within).is_point in
      let same : h.point ≡ slice_index_or points (slice_index_or places k 0) [] = part_points_are_single_lem n normals part_of h.vertex h.part h.point
      (slice_index_or points (slice_index_or places k 0) []) (facet h.vertex c) h.is_point
      (subst (λ (m : List ℤ). IsPartPoint n normals part_of m h.part (slice_index_or points (slice_index_or places k 0) [])) vertex there_is) in
      let part : k % r ≡ h.part = mod-mul-add c.0 r h.part h.within in
      let f : Affine = with_part (slice_index_or points (slice_index_or places k 0) []) (k % r) in
      let in_fs : In f fs = in_from_contains fs ((kept f).1 (record { place = k; within = within; is = refl })) in
      let e : lifted_one r f ≡ x = lifted_kept r (slice_index_or points (slice_index_or places k 0) []) (k % r)
      ∙ ap (lifted r (slice_index_or points (slice_index_or places k 0) [])) part ∙ ap (λ (y : List ℤ). lifted r y h.part) (sym same) ∙ sym h.is in
      subst (λ (y : List ℤ). In y (lifted_all r fs)) e (in_map (lifted_one r) in_fs)

  pub keep_points : Each (KeepsPart r) fs
  keep_points = each_from_in fs (λ f i. at_place f ((kept f).0 (contains_from_in i)))
    where
      at_place : (f : Affine) → IsAmong (kept_point points places r) (length places) f → KeepsPart r f
      at_place f k = record { part = k.place % r; within = mod-lt k.place some; constant_is = ap (λ (g : Affine). g.constant) k.is }

  pub are_members : Ascends FunctionLess fs → AreConeMembers n vertices normals r part_of (lifted_all r fs)
  are_members a = record {
    ascends = ascends_lifted r fs keep_points a;
    members = λ x. ((λ c. from_member x (in_from_contains (lifted_all r fs) c)), (λ h. contains_from_in (to_member x h)));
  }

module _ (n : ℕ) (normals : List (List ℤ)) (r : ℕ) (part_of : List ℕ) (below : (e : ℕ) → e < length normals → part_at part_of e < r) (fs : List Affine)
    (kept : (f : Affine) → Contains fs f ↔ (IsAmong (kept_normal normals part_of) (length normals) f ⊎ IsAmong (kept_unit n) r f)) where
  from_function : (x : List ℤ) → In x (lifted_all r fs) → IsConeFunction n normals r part_of x
  from_function x i = by (from_map (lifted_one r) fs i)
    where
      at_kept : (f : Affine) → IsAmong (kept_normal normals part_of) (length normals) f ⊎ IsAmong (kept_unit n) r f → x ≡ lifted_one r f → IsConeFunction n normals r part_of x
      at_kept f (inl k) e = inl (record {
        place = k.place;
        within = k.within;
        is = e ∙ ap (lifted_one r) k.is ∙ lifted_kept r (slice_index_or normals k.place []) (slice_index_or part_of k.place 0);
      })
      at_kept f (inr k) e = inr (record {
        part = k.place;
        within = k.within;
        is = e ∙ ap (lifted_one r) k.is ∙ lifted_kept r (zero_vector n) k.place;
      })

      by : IsImage (lifted_one r) fs x → IsConeFunction n normals r part_of x
      by h = at_kept h.source ((kept h.source).0 (contains_from_in h.member)) h.is

  is_in : (x y : List ℤ) (i : ℕ) → x ≡ lifted r y i → Contains fs (with_part y i) → In x (lifted_all r fs)
  is_in x y i e c = subst (λ (z : List ℤ). In z (lifted_all r fs)) (lifted_kept r y i ∙ sym e) (in_map (lifted_one r) (in_from_contains fs c))

  to_function : (x : List ℤ) → IsConeFunction n normals r part_of x → In x (lifted_all r fs)
  to_function x (inl h) = is_in x (slice_index_or normals h.place []) (part_at part_of h.place) h.is
      ((kept (with_part (slice_index_or normals h.place []) (part_at part_of h.place))).1 (inl (record { place = h.place; within = h.within; is = refl })))
  to_function x (inr h) = is_in x (zero_vector n) h.part h.is
      ((kept (with_part (zero_vector n) h.part)).1 (inr (record { place = h.part; within = h.within; is = refl })))

  pub keep_functions : Each (KeepsPart r) fs
  keep_functions = each_from_in fs (λ f i. at_kept f ((kept f).0 (contains_from_in i)))
    where
      at_kept : (f : Affine) → IsAmong (kept_normal normals part_of) (length normals) f ⊎ IsAmong (kept_unit n) r f → KeepsPart r f
      at_kept f (inl k) = record { part = part_at part_of k.place; within = below k.place k.within; constant_is = ap (λ (g : Affine). g.constant) k.is }
      at_kept f (inr k) = record { part = k.place; within = k.within; constant_is = ap (λ (g : Affine). g.constant) k.is }

  pub are_functions : Ascends FunctionLess fs → AreConeFunctions n normals r part_of (lifted_all r fs)
  are_functions a = record {
    ascends = ascends_lifted r fs keep_functions a;
    members = λ x. ((λ c. from_function x (in_from_contains (lifted_all r fs) c)), (λ h. contains_from_in (to_function x h)));
  }

-- one more is added
module _ (these : ℕ → Affine) where
  pub none_more : (before : List Affine) → AddsFirst these before 0 before
  none_more before f = (λ c. inl c, back)
    where
      back : Contains before f ⊎ IsAmong these 0 f → Contains before f
      back (inl c) = c
      back (inr a) = let w = a.within in absurd (omega arith)

  further : (k : ℕ) (f : Affine) → IsAmong these k f → IsAmong these (k + 1) f
  further k f a = record { place = a.place; within = let w = a.within in omega arith; is = a.is }

  pub one_more : (before fs : List Affine) (k : ℕ) (g : Affine) → AddsFirst these before k fs → g ≡ these k → AddsFirst these before (k + 1) (fs ++ (g ∷ []))
  one_more before fs k g h e f = (λ c. there_is (Contains-push_cases fs g f c), back)
    where
      old : Contains before f ⊎ IsAmong these k f → Contains before f ⊎ IsAmong these (k + 1) f
      old (inl c) = inl c
      old (inr a) = inr (further k f a)

      there_is : Contains fs f ⊎ (g ≡ f) → Contains before f ⊎ IsAmong these (k + 1) f
      there_is (inl c) = old ((h f).0 c)
      there_is (inr s) = inr (record { place = k; within = omega arith; is = sym s ∙ e })

      last : (j : ℕ) → f ≡ these j → (j < k) ⊎ (k ≤ j) → j < k + 1 → Contains (fs ++ (g ∷ [])) f
      last j s (inl l) w = contains_from_in (in_append_left (g ∷ []) (in_from_contains fs ((h f).1 (inr (record { place = j; within = l; is = s })))))
      last j s (inr l) w = let m : j ≡ k = omega arith in
          subst (λ (x : Affine). Contains (fs ++ (g ∷ [])) x) (e ∙ ap these (sym m) ∙ sym s) (Contains-push fs g)

      back : Contains before f ⊎ IsAmong these (k + 1) f → Contains (fs ++ (g ∷ [])) f
      back (inl c) = contains_from_in (in_append_left (g ∷ []) (in_from_contains fs ((h f).1 (inl c))))
      back (inr a) = last a.place a.is (cases_lt a.place k) a.within

-- nothing was there before
pub from_none : (these : ℕ → Affine) (k : ℕ) (fs : List Affine) → AddsFirst these [] k fs → (f : Affine) → Contains fs f ↔ IsAmong these k f
from_none these k fs h f = (λ c. by ((h f).0 c), λ a. (h f).1 (inr a))
  where
    by : Contains [] f ⊎ IsAmong these k f → IsAmong these k f
    by (inl c) = absurd (no_member f c)
    by (inr a) = a

-- those of both
pub both_kinds : (n : ℕ) (normals : List (List ℤ)) (part_of : List ℕ) (parts : ℕ) (first fs : List Affine)
    → AddsFirst (kept_normal normals part_of) [] (length normals) first → AddsFirst (kept_unit n) first parts fs → HoldFunctions n normals part_of parts fs
both_kinds n normals part_of parts first fs h k f = (λ c. to ((k f).0 c), back)
  where
    to : Contains first f ⊎ IsAmong (kept_unit n) parts f → IsAmong (kept_normal normals part_of) (length normals) f ⊎ IsAmong (kept_unit n) parts f
    to (inl c) = inl ((from_none (kept_normal normals part_of) (length normals) first h f).0 c)
    to (inr a) = inr a

    back : IsAmong (kept_normal normals part_of) (length normals) f ⊎ IsAmong (kept_unit n) parts f → Contains fs f
    back (inl a) = (k f).1 (inl ((h f).1 (inr a)))
    back (inr a) = (k f).1 (inr a)
