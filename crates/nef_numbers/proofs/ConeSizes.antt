-- How many rays and functions the cone of a nef partition has.
use Rattle.std.specs.List.{range_with_len}
use Rattle.std.proofs.Common.{◌≡◌, inl, inr, ⊎_elim, ℕ, zero, suc, ◌+◌, ◌*◌, ◌<◌, ◌≤◌, List, [], ◌∷◌, ◌++◌, length, map, ℤ, Contains, slice_index_or, refl, sym, ap, ◌∙◌, subst, arith, length-append}
use Rattle.std.proofs.Math.Nat.{mul-le-mul}
use Rattle.std.proofs.lemmas.Bool.{cases_lt}
use Rattle.std.proofs.lemmas.List.FromFn.{length-map-range_with_len}
use Rattle.lattice_theory.specs.Order.{Ascends, LexLess}
use Rattle.lattice_theory.proofs.Orders.{lex_irreflexive}
use Rattle.lattice_theory.proofs.Members.{In, here, there, each_from_all, each_in, in_append_left, in_append_right, in_from_contains, contains_from_in}
use Rattle.lattice_theory.proofs.Sublists.{in_map}
use Rattle.lattice_core.specs.Dimensions.{dimension_of}
use Rattle.nef_theory.specs.Nef.{part_at, IsPartPoint, IsNefPartition}
use Rattle.dual_pair.specs.Pairs.{PairState, IsPair}
use Rattle.cayley_theory.specs.Cones.{zero_vector, lifted, IsConeFunction, AreConeMembers, AreConeFunctions}
use Rattle.cayley_theory.proofs.PartPoints.{part_points_are_single_lem}
use Rattle.cayley.specs.Limits.{IsWithinRank}
use Rattle.cayley.specs.PairCones.{ConeState, IsConeOf}
use Rattle.cayley.proofs.PairFacts.{facet_of}
use Rattle.nef_numbers.specs.RoomSteps.{HasRoomFor}
use Rattle.nef_numbers.proofs.SameFaces.{in_numbers}

-- a list without one of its members
record Without (x : List ℤ) (xs : List (List ℤ)) : Type 0 where
  rest : List (List ℤ)
  one_less : length xs ≡ suc (length rest)
  others : (y : List ℤ) → In y xs → (y ≡ x → ⊥) → In y rest

without : {x : List ℤ} {xs : List (List ℤ)} → In x xs → Without x xs
without (here {xs = xs}) = record { rest = xs; one_less = refl; others = other }
  where
    other : {x : List ℤ} {zs : List (List ℤ)} (y : List ℤ) → In y (x ∷ zs) → (y ≡ x → ⊥) → In y zs
    other y here n = absurd (n refl)
    other y (there i) n = i
without {x = x} (there {y = z} {xs = xs} i) = let w = without i in record { rest = z ∷ w.rest; one_less = ap suc w.one_less; others = deeper w }
  where
    deeper : (w : Without x xs) (y : List ℤ) → In y (z ∷ xs) → (y ≡ x → ⊥) → In y (z ∷ w.rest)
    deeper w y here n = here
    deeper w y (there i) n = there (w.others y i n)

-- vectors in order are no more than those of a list that has them
no_more : (xs all : List (List ℤ)) → Ascends LexLess xs → ((y : List ℤ) → In y xs → In y all) → length xs ≤ length all
no_more [] all a f = omega arith
no_more (x ∷ xs) all a f =
    let w = without (f x here) in
    let r = no_more xs w.rest a.1 (λ y i. w.others y (f y (there i))
    (λ e. lex_irreflexive x (subst (LexLess x) e (each_in (each_from_all (LexLess x) xs a.0) i)))) in
    let e = w.one_less in omega arith

-- a list of so many vectors has all of these
record HasAll (P : List ℤ → Type 0) (n : ℕ) : Type 0 where
  vectors : List (List ℤ)
  many : length vectors ≡ n
  all : (y : List ℤ) → P y → In y vectors

few_of_all : (P : List ℤ → Type 0) (n : ℕ) (xs : List (List ℤ)) → HasAll P n → Ascends LexLess xs → ((y : List ℤ) → Contains xs y → P y) → length xs ≤ n
few_of_all P n xs h a f = let l = no_more xs h.vectors a (λ y i. h.all y (f y (contains_from_in i))) in let e = h.many in omega arith

module _ (n : ℕ) (vertices normals : List (List ℤ)) (r : ℕ) (part_of : List ℕ)
    (single : (m : List ℤ) → Contains vertices m → (i : ℕ) (x y : List ℤ) → IsPartPoint n normals part_of m i x → IsPartPoint n normals part_of m i y → x ≡ y)
    (nef : IsNefPartition n vertices normals r part_of) where
  -- the points of the first k parts at a vertex, each with its unit vector
  record IsAt (m : List ℤ) (k : ℕ) (y : List ℤ) : Type 0 where
    part : ℕ
    within : part < k
    point : List ℤ
    is_point : IsPartPoint n normals part_of m part point
    is : y ≡ lifted r point part

  one_more : (m : List ℤ) → Contains vertices m → (k : ℕ) → k < r → HasAll (IsAt m k) k → HasAll (IsAt m (suc k)) (suc k)
  one_more m c k l before = record { vectors = lifted r first k ∷ before.vectors; many = ap suc before.many; all = every }
    where
      first : List ℤ
      first = (nef.points m c k l).0

      is_first : IsPartPoint n normals part_of m k first
      is_first = (nef.points m c k l).1

      same : (point : List ℤ) (part : ℕ) (y : List ℤ) → part ≡ k → IsPartPoint n normals part_of m part point → y ≡ lifted r point part
          → In y (lifted r first k ∷ before.vectors)
      same point part y e p i = subst (λ (z : List ℤ). In z (lifted r first k ∷ before.vectors))
          (ap (λ (x : List ℤ). lifted r x k) (single m c k first point is_first (subst (λ (j : ℕ). IsPartPoint n normals part_of m j point) e p))
          ∙ ap (lifted r point) (sym e) ∙ sym i) here

      every : (y : List ℤ) → IsAt m (suc k) y → In y (lifted r first k ∷ before.vectors)
      every y h = ⊎_elim
          (λ (j : h.part < k). there (before.all y (record { part = h.part; within = j; point = h.point; is_point = h.is_point; is = h.is })))
          (λ (j : k ≤ h.part). same h.point h.part y (let w = h.within in omega arith) h.is_point h.is)
          (cases_lt h.part k)

  at_vertex : (m : List ℤ) → Contains vertices m → (k : ℕ) → k ≤ r → HasAll (IsAt m k) k
  at_vertex m c zero l = record { vectors = []; many = refl; all = λ y h. absurd (let w = h.within in omega arith) }
  at_vertex m c (suc k) l = one_more m c k (omega arith) (at_vertex m c k (omega arith))

  -- those of all parts at some vertices
  record IsAtOne (ms : List (List ℤ)) (y : List ℤ) : Type 0 where
    vertex : List ℤ
    of_list : In vertex ms
    is_at : IsAt vertex r y

  at_vertices : (ms : List (List ℤ)) → ((m : List ℤ) → In m ms → Contains vertices m) → HasAll (IsAtOne ms) (length ms * r)
  at_vertices [] f = record { vectors = []; many = omega arith; all = λ y h. none h.of_list }
    where
      none : {m y : List ℤ} → In m [] → In y []
      none i = elim i [ ]
  at_vertices (m ∷ ms) f =
      let now = at_vertex m (f m here) r (omega arith) in
      let later = at_vertices ms (λ v i. f v (there i)) in
      record {
        vectors = now.vectors ++ later.vectors;
        many = length-append now.vectors later.vectors ∙ (let a = now.many in let b = later.many in counted (length now.vectors) (length later.vectors) (length ms) a b);
        all = λ y h. by now later y h.vertex h.of_list h.is_at;
      }
    where
      counted : (a b k : ℕ) → a ≡ r → b ≡ k * r → a + b ≡ suc k * r
      counted a b k e f = omega arith

      by : (now : HasAll (IsAt m r) r) (later : HasAll (IsAtOne ms) (length ms * r)) (y v : List ℤ) → In v (m ∷ ms) → IsAt v r y
          → In y (now.vectors ++ later.vectors)
      by now later y v here h = in_append_left later.vectors (now.all y h)
      by now later y v (there i) h = in_append_right now.vectors (later.all y (record { vertex = v; of_list = i; is_at = h }))

  few_members : (members : List (List ℤ)) → AreConeMembers n vertices normals r part_of members → length members ≤ length vertices * r
  few_members members h = few_of_all (IsAtOne vertices) (length vertices * r) members (at_vertices vertices (λ m i. contains_from_in i)) h.ascends
      (λ y c. let x = (h.members y).0 c in record {
        vertex = x.vertex;
        of_list = in_from_contains vertices x.of_vertices;
        is_at = record { part = x.part; within = x.within; point = x.point; is_point = x.is_point; is = x.is };
      })

  abbrev with_normal : ℕ → List ℤ
  with_normal e = lifted r (slice_index_or normals e []) (part_at part_of e)

  abbrev alone : ℕ → List ℤ
  alone i = lifted r (zero_vector n) i

  all_functions : HasAll (IsConeFunction n normals r part_of) (length normals + r)
  all_functions = record {
    vectors = map (λ e. with_normal e) (range_with_len 0 (length normals)) ++ map (λ i. alone i) (range_with_len 0 r);
    many = length-append (map (λ e. with_normal e) (range_with_len 0 (length normals))) (map (λ i. alone i) (range_with_len 0 r))
        ∙ (let a = length-map-range_with_len (λ e. with_normal e) 0 (length normals) in let b = length-map-range_with_len (λ i. alone i) 0 r in omega arith);
    all = every;
  }
    where
      every : (y : List ℤ) → IsConeFunction n normals r part_of y
          → In y (map (λ e. with_normal e) (range_with_len 0 (length normals)) ++ map (λ i. alone i) (range_with_len 0 r))
      every y (inl h) = subst (λ (z : List ℤ). In z (map (λ e. with_normal e) (range_with_len 0 (length normals)) ++ map (λ i. alone i) (range_with_len 0 r)))
          (sym h.is) (in_append_left (map (λ i. alone i) (range_with_len 0 r)) (in_map (λ e. with_normal e) (in_numbers (length normals) h.place h.within)))
      every y (inr h) = subst (λ (z : List ℤ). In z (map (λ e. with_normal e) (range_with_len 0 (length normals)) ++ map (λ i. alone i) (range_with_len 0 r)))
          (sym h.is) (in_append_right (map (λ e. with_normal e) (range_with_len 0 (length normals))) (in_map (λ i. alone i) (in_numbers r h.part h.within)))

  few_functions : (functions : List (List ℤ)) → AreConeFunctions n normals r part_of functions → length functions ≤ length normals + r
  few_functions functions h = few_of_all (IsConeFunction n normals r part_of) (length normals + r) functions all_functions h.ascends
      (λ y c. (h.members y).0 c)

few_parts : (n r : ℕ) → IsWithinRank n r → r ≤ 3
few_parts n r h = let a = h.0 in let b = h.1 in omega arith

-- within the limits there is room for them
pub room_for_cone : (pair : PairState) (part_of : List ℕ) (cone : ConeState) → IsPair pair → IsConeOf pair part_of cone
    → IsWithinRank (dimension_of pair.m.vertices) cone.parts → HasRoomFor cone
room_for_cone pair part_of cone is h w = record {
  few_rays =
      let a = few_members cone.dim pair.m.vertices pair.n.vertices cone.parts part_of single h.nef cone.members h.members_are in
      let b = few_parts (dimension_of pair.m.vertices) cone.parts w in
      let c : length pair.m.vertices * cone.parts ≤ 128 * 3 = mul-le-mul is.polytope.few_vertices b in
      omega arith;
  few_functions =
      let a = few_functions cone.dim pair.m.vertices pair.n.vertices cone.parts part_of single h.nef cone.functions h.functions_are in
      let b = few_parts (dimension_of pair.m.vertices) cone.parts w in
      let c = is.dual.polytope.few_vertices in
      omega arith;
}
  where
    single : (m : List ℤ) → Contains pair.m.vertices m → (i : ℕ) (x y : List ℤ) → IsPartPoint cone.dim pair.n.vertices part_of m i x
        → IsPartPoint cone.dim pair.n.vertices part_of m i y → x ≡ y
    single m c i x y p q = part_points_are_single_lem (dimension_of pair.m.vertices) pair.n.vertices part_of m i x y (facet_of pair is m c)
        (subst (λ (n : ℕ). IsPartPoint n pair.n.vertices part_of m i x) h.dim_is p) (subst (λ (n : ℕ). IsPartPoint n pair.n.vertices part_of m i y) h.dim_is q)
