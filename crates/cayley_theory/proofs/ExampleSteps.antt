-- The worked example.
use Rattle.std.proofs.Common.{◌≡◌, ◌↔◌, ℕ, zero, suc, ◌<◌, Bool, true, false, List, [], ◌∷◌, ◌++◌, length, ℤ, pos, negsuc, ◌≤ℤ◌, refl, sym, ap, ◌∙◌, subst, inl, inr, arith, IsTrue}
use Rattle.std.proofs.lemmas.Int.{ints}
use Rattle.std.specs.List.{Contains}
use Rattle.lattice_theory.specs.Vector.{dot}
use Rattle.lattice_theory.specs.Order.{LexLess, Ascends}
use Rattle.lattice_theory.specs.Examples.{on_line, in_plane, minus1}
use Rattle.lattice_theory.proofs.Members.{Each, empty, more, all_from_each, each_from_all, In, here, there, in_from_contains, contains_from_in}
use Rattle.face_theory.specs.Sets.{in_set}
use Rattle.face_theory.specs.Pairings.{vector_at, paired}
use Rattle.face_theory.proofs.Sets.{true_false}
use Rattle.nef_theory.specs.Nef.{part_at, pairing_at, IsPartPoint}
use Rattle.nef_theory.specs.Examples.{short_segment, short_normals}
use Rattle.cayley_theory.specs.Cones.{lifted, IsConeMember, IsConeFunction, AreConeMembers, AreConeFunctions}
use Rattle.cayley_theory.specs.Counts.{sum_of, IsConePair, CountsOnFace, CountsOnDualFace}
use Rattle.cayley_theory.specs.Examples.{segment_members, segment_functions}

abbrev one_part : List ℕ
one_part = 0 ∷ 0 ∷ []

-- all places have the part 0
part_zero : (e : ℕ) → e < 2 → part_at one_part e ≡ 0
part_zero zero h = refl
part_zero (suc zero) h = refl
part_zero (suc (suc e)) h = absurd (omega arith)

-- what holds at both places
two_places : (P : ℕ → Type 0) → P 0 → P 1 → (e : ℕ) → e < 2 → P e
two_places P p q zero h = p
two_places P p q (suc zero) h = q
two_places P p q (suc (suc e)) h = absurd (omega arith)

-- the point of the part at an end is the end
own_end : (m : List ℤ) → length m ≡ 1 → ((e : ℕ) → e < 2 → negsuc 0 ≤ℤ pairing_at short_normals m e) → IsPartPoint 1 short_normals one_part m 0 m
own_end m l h = record {
  dimension = l;
  own = λ e b t s. t;
  others = λ e b t d. absurd (d (part_zero e b));
  least = λ e b s. h e b;
  apart = λ e b d. absurd (d (part_zero e b));
}

-- and no other point is
is_low : (x : List ℤ) → IsPartPoint 1 short_normals one_part (on_line minus1) 0 x → x ≡ on_line minus1
is_low x p = by x p.dimension (p.own 0 (omega arith) refl refl)
  where
    by : (y : List ℤ) → length y ≡ 1 → pairing_at short_normals y 0 ≡ negsuc 0 → y ≡ on_line minus1
    by [] l e = absurd (omega arith)
    by (a ∷ []) l e = ap on_line (omega (arith, ints))
    by (a ∷ b ∷ y) l e = absurd (omega arith)

is_high : (x : List ℤ) → IsPartPoint 1 short_normals one_part (on_line (pos 1)) 0 x → x ≡ on_line (pos 1)
is_high x p = by x p.dimension (p.own 1 (omega arith) refl refl)
  where
    by : (y : List ℤ) → length y ≡ 1 → pairing_at short_normals y 1 ≡ negsuc 0 → y ≡ on_line (pos 1)
    by [] l e = absurd (omega arith)
    by (a ∷ []) l e = ap on_line (omega (arith, ints))
    by (a ∷ b ∷ y) l e = absurd (omega arith)

-- one before all others, which are in order
in_order : (x : List ℤ) {xs : List (List ℤ)} → Each (LexLess x) xs → Ascends LexLess xs → Ascends LexLess (x ∷ xs)
in_order x e a = (all_from_each e, a)

at_end : (m : List ℤ) → Contains short_segment m → length m ≡ 1 → ((e : ℕ) → e < 2 → negsuc 0 ≤ℤ pairing_at short_normals m e)
    → IsConeMember 1 short_segment short_normals 1 one_part (lifted 1 m 0)
at_end m c l h = record { vertex = m; of_vertices = c; part = 0; within = omega arith; point = m; is_point = own_end m l h; is = refl }

from_members : (x : List ℤ) → In x segment_members → IsConeMember 1 short_segment short_normals 1 one_part x
from_members x here = at_end (on_line minus1) (contains_from_in {xs = short_segment} here) refl
    (two_places (λ e. negsuc 0 ≤ℤ pairing_at short_normals (on_line minus1) e) (omega (arith, ints)) (omega (arith, ints)))
from_members x (there here) = at_end (on_line (pos 1)) (contains_from_in {xs = short_segment} (there here)) refl
    (two_places (λ e. negsuc 0 ≤ℤ pairing_at short_normals (on_line (pos 1)) e) (omega (arith, ints)) (omega (arith, ints)))
from_members x (there (there i)) = elim i [ ]

to_members : (x : List ℤ) → IsConeMember 1 short_segment short_normals 1 one_part x → In x segment_members
to_members x h = subst (λ (y : List ℤ). In y segment_members) (sym h.is)
    (by h.vertex (in_from_contains short_segment h.of_vertices) h.part h.within h.point h.is_point)
  where
    by : (m : List ℤ) → In m short_segment → (i : ℕ) → i < 1 → (p : List ℤ) → IsPartPoint 1 short_normals one_part m i p → In (lifted 1 p i) segment_members
    by m here zero b p q = subst (λ (y : List ℤ). In (lifted 1 y 0) segment_members) (sym (is_low p q)) here
    by m (there here) zero b p q = subst (λ (y : List ℤ). In (lifted 1 y 0) segment_members) (sym (is_high p q)) (there here)
    by m (there (there c)) i b p q = elim c [ ]
    by m c (suc i) b p q = absurd (omega arith)

pub segment_members_are : AreConeMembers 1 short_segment short_normals 1 one_part segment_members
segment_members_are = record {
  ascends = in_order (in_plane minus1 (pos 1)) (more (inl (omega (arith, ints))) empty) (in_order (in_plane (pos 1) (pos 1)) empty tt);
  members = λ x. ((λ c. from_members x (in_from_contains segment_members c)), (λ h. contains_from_in (to_members x h)));
}

from_functions : (f : List ℤ) → In f segment_functions → IsConeFunction 1 short_normals 1 one_part f
from_functions f here = inl (record { place = 1; within = omega arith; is = refl })
from_functions f (there here) = inr (record { part = 0; within = omega arith; is = refl })
from_functions f (there (there here)) = inl (record { place = 0; within = omega arith; is = refl })
from_functions f (there (there (there i))) = elim i [ ]

to_functions : (f : List ℤ) → IsConeFunction 1 short_normals 1 one_part f → In f segment_functions
to_functions f (inl h) = subst (λ (g : List ℤ). In g segment_functions) (sym h.is)
    (two_places (λ k. In (lifted 1 (vector_at short_normals k) (part_at one_part k)) segment_functions) (there (there here)) here h.place h.within)
to_functions f (inr h) = subst (λ (g : List ℤ). In g segment_functions) (sym h.is) (by h.part h.within)
  where
    by : (i : ℕ) → i < 1 → In (lifted 1 (on_line (pos 0)) i) segment_functions
    by zero b = there here
    by (suc i) b = absurd (omega arith)

pub segment_functions_are : AreConeFunctions 1 short_normals 1 one_part segment_functions
segment_functions_are = record {
  ascends = in_order (in_plane minus1 (pos 1)) (more (inl (omega (arith, ints))) (more (inl (omega (arith, ints))) empty))
      (in_order (in_plane (pos 0) (pos 1)) (more (inl (omega (arith, ints))) empty) (in_order (in_plane (pos 1) (pos 1)) empty tt));
  members = λ f. ((λ c. from_functions f (in_from_contains segment_functions c)), (λ h. contains_from_in (to_functions f h)));
}

-- the vectors of degree 1
abbrev three_pairs : List (List ℤ)
three_pairs = in_plane minus1 (pos 1) ∷ in_plane (pos 0) (pos 1) ∷ in_plane (pos 1) (pos 1) ∷ []

three_ascend : Ascends LexLess three_pairs
three_ascend = segment_functions_are.ascends

-- a pair of degree 1 is a number between -1 and 1
record IsBetween (x : List ℤ) : Type 0 where
  number : ℤ
  is : x ≡ in_plane number (pos 1)
  least : negsuc 0 ≤ℤ number
  most : number ≤ℤ pos 1

between : (point heights : List ℤ) → length point ≡ 1 → length heights ≡ 1 → sum_of heights ≡ pos 1
    → pos 0 ≤ℤ dot (in_plane minus1 (pos 1)) (point ++ heights) → pos 0 ≤ℤ dot (in_plane (pos 1) (pos 1)) (point ++ heights)
    → IsBetween (point ++ heights)
between [] heights l k d u v = absurd (omega arith)
between (a ∷ b ∷ point) heights l k d u v = absurd (omega arith)
between (a ∷ []) [] l k d u v = absurd (omega arith)
between (a ∷ []) (h ∷ g ∷ heights) l k d u v = absurd (omega arith)
between (a ∷ []) (h ∷ []) l k d u v = record {
  number = a;
  is = ap (λ (z : ℤ). a ∷ z ∷ []) (omega (arith, ints));
  least = omega (arith, ints);
  most = omega (arith, ints);
}

one_of_three : (a : ℤ) → negsuc 0 ≤ℤ a → a ≤ℤ pos 1 → In (in_plane a (pos 1)) three_pairs
one_of_three (pos zero) u v = there here
one_of_three (pos (suc zero)) u v = there (there here)
one_of_three (pos (suc (suc a))) u v = absurd (omega (arith, ints))
one_of_three (negsuc zero) u v = here
one_of_three (negsuc (suc a)) u v = absurd (omega (arith, ints))

to_three : (x : List ℤ) → IsBetween x → In x three_pairs
to_three x b = subst (λ (y : List ℤ). In y three_pairs) (sym b.is) (one_of_three b.number b.least b.most)

-- a set of no numbers
none_in : (f : ℕ) → IsTrue (in_set (false ∷ false ∷ false ∷ []) f) → ⊥
none_in zero h = true_false h refl
none_in (suc zero) h = true_false h refl
none_in (suc (suc zero)) h = true_false h refl
none_in (suc (suc (suc f))) h = true_false h refl

last_in : (P : ℕ → Type 0) → P 2 → (f : ℕ) → IsTrue (in_set (false ∷ false ∷ true ∷ []) f) → P f
last_in P p zero h = absurd (true_false h refl)
last_in P p (suc zero) h = absurd (true_false h refl)
last_in P p (suc (suc zero)) h = p
last_in P p (suc (suc (suc f))) h = absurd (true_false h refl)

in_cone : (set : List Bool) (x : List ℤ) → IsConePair 1 1 segment_functions set 1 x → IsBetween x
in_cone set x p = by (each_from_all (λ f. pos 0 ≤ℤ dot f x) segment_functions p.nonnegative)
  where
    by : Each (λ f. pos 0 ≤ℤ dot f x) segment_functions → IsBetween x
    by (more u (more v (more w empty))) = subst IsBetween (sym p.is) (between p.point p.heights p.dimension p.parts p.degree
        (subst (λ (y : List ℤ). pos 0 ≤ℤ dot (in_plane minus1 (pos 1)) y) p.is u) (subst (λ (y : List ℤ). pos 0 ≤ℤ dot (in_plane (pos 1) (pos 1)) y) p.is w))

in_dual : (set : List Bool) (x : List ℤ) → IsConePair 1 1 segment_members set 1 x → IsBetween x
in_dual set x p = by (each_from_all (λ f. pos 0 ≤ℤ dot f x) segment_members p.nonnegative)
  where
    by : Each (λ f. pos 0 ≤ℤ dot f x) segment_members → IsBetween x
    by (more u (more w empty)) = subst IsBetween (sym p.is) (between p.point p.heights p.dimension p.parts p.degree
        (subst (λ (y : List ℤ). pos 0 ≤ℤ dot (in_plane minus1 (pos 1)) y) p.is u) (subst (λ (y : List ℤ). pos 0 ≤ℤ dot (in_plane (pos 1) (pos 1)) y) p.is w))

-- a pair of the cone
cone_pair : (set : List Bool) (a : ℤ) → Each (λ f. pos 0 ≤ℤ dot f (in_plane a (pos 1))) segment_functions
    → ((f : ℕ) → IsTrue (in_set set f) → dot (vector_at segment_functions f) (in_plane a (pos 1)) ≡ pos 0)
    → IsConePair 1 1 segment_functions set 1 (in_plane a (pos 1))
cone_pair set a e z = record {
  point = on_line a;
  heights = on_line (pos 1);
  is = refl;
  dimension = refl;
  parts = refl;
  degree = refl;
  nonnegative = all_from_each e;
  zero_on = z;
}

from_three : (x : List ℤ) → In x three_pairs → IsConePair 1 1 segment_functions (false ∷ false ∷ false ∷ []) 1 x
from_three x here = cone_pair (false ∷ false ∷ false ∷ []) minus1
    (more (omega (arith, ints)) (more (omega (arith, ints)) (more (omega (arith, ints)) empty))) (λ f h. absurd (none_in f h))
from_three x (there here) = cone_pair (false ∷ false ∷ false ∷ []) (pos 0)
    (more (omega (arith, ints)) (more (omega (arith, ints)) (more (omega (arith, ints)) empty))) (λ f h. absurd (none_in f h))
from_three x (there (there here)) = cone_pair (false ∷ false ∷ false ∷ []) (pos 1)
    (more (omega (arith, ints)) (more (omega (arith, ints)) (more (omega (arith, ints)) empty))) (λ f h. absurd (none_in f h))
from_three x (there (there (there i))) = elim i [ ]

three_places : (P : ℕ → Type 0) → P 0 → P 1 → P 2 → (f : ℕ) → f < 3 → P f
three_places P p q r zero h = p
three_places P p q r (suc zero) h = q
three_places P p q r (suc (suc zero)) h = r
three_places P p q r (suc (suc (suc f))) h = absurd (omega arith)

pub segment_count : CountsOnFace 1 1 segment_members segment_functions (true ∷ true ∷ []) 1 3
segment_count = record {
  dual = false ∷ false ∷ false ∷ [];
  is_dual = record {
    width = refl;
    tight = three_places (λ f. IsTrue (in_set (false ∷ false ∷ false ∷ []) f) ↔ ((m : ℕ) → IsTrue (in_set (true ∷ true ∷ []) m)
        → IsTrue ((paired segment_members segment_functions).tight m f)))
        ((λ h. absurd (true_false h refl)), (λ t. t 0 refl)) ((λ h. absurd (true_false h refl)), (λ t. t 0 refl))
        ((λ h. absurd (true_false h refl)), (λ t. t 1 refl));
  };
  pairs = three_pairs;
  are_pairs = record {
    ascends = three_ascend;
    members = λ x. (
      (λ c. from_three x (in_from_contains three_pairs c)),
      (λ p. contains_from_in (to_three x (in_cone (false ∷ false ∷ false ∷ []) x p))),
    );
  };
  count_is = refl;
}

-- the face of the first end
first_end : (m : ℕ) → IsTrue (in_set (true ∷ false ∷ []) m) → m ≡ 0
first_end zero h = refl
first_end (suc zero) h = absurd (true_false h refl)
first_end (suc (suc m)) h = absurd (true_false h refl)

on_first : (x : List ℤ) → IsConePair 1 1 segment_functions (false ∷ false ∷ true ∷ []) 1 x → In x (in_plane minus1 (pos 1) ∷ [])
on_first x p = by (in_cone (false ∷ false ∷ true ∷ []) x p) (p.zero_on 2 refl)
  where
    by : IsBetween x → dot (in_plane (pos 1) (pos 1)) x ≡ pos 0 → In x (in_plane minus1 (pos 1) ∷ [])
    by b z =
        let w = subst (λ (y : List ℤ). dot (in_plane (pos 1) (pos 1)) y ≡ pos 0) b.is z in
        let e : b.number ≡ negsuc 0 = at b.number w in
        subst (λ (y : List ℤ). In y (in_plane minus1 (pos 1) ∷ [])) (sym (b.is ∙ ap (λ (a : ℤ). in_plane a (pos 1)) e)) here
      where
        at : (a : ℤ) → dot (in_plane (pos 1) (pos 1)) (in_plane a (pos 1)) ≡ pos 0 → a ≡ negsuc 0
        at a h = omega (arith, ints)

from_first : (x : List ℤ) → In x (in_plane minus1 (pos 1) ∷ []) → IsConePair 1 1 segment_functions (false ∷ false ∷ true ∷ []) 1 x
from_first x here = cone_pair (false ∷ false ∷ true ∷ []) minus1
    (more (omega (arith, ints)) (more (omega (arith, ints)) (more (omega (arith, ints)) empty)))
    (last_in (λ f. dot (vector_at segment_functions f) (in_plane minus1 (pos 1)) ≡ pos 0) refl)
from_first x (there i) = elim i [ ]

pub end_count : CountsOnFace 1 1 segment_members segment_functions (true ∷ false ∷ []) 1 1
end_count = record {
  dual = false ∷ false ∷ true ∷ [];
  is_dual = record {
    width = refl;
    tight = three_places (λ f. IsTrue (in_set (false ∷ false ∷ true ∷ []) f) ↔ ((m : ℕ) → IsTrue (in_set (true ∷ false ∷ []) m)
        → IsTrue ((paired segment_members segment_functions).tight m f)))
        ((λ h. absurd (true_false h refl)), (λ t. t 0 refl)) ((λ h. absurd (true_false h refl)), (λ t. t 0 refl))
        ((λ h m g. subst (λ (k : ℕ). IsTrue ((paired segment_members segment_functions).tight k 2)) (sym (first_end m g)) refl), (λ t. refl));
  };
  pairs = in_plane minus1 (pos 1) ∷ [];
  are_pairs = record {
    ascends = in_order (in_plane minus1 (pos 1)) empty tt;
    members = λ x. ((λ c. from_first x (in_from_contains (in_plane minus1 (pos 1) ∷ []) c)), (λ p. contains_from_in (on_first x p)));
  };
  count_is = refl;
}

-- the dual cone
no_member : (m : ℕ) → IsTrue (in_set (false ∷ false ∷ []) m) → ⊥
no_member zero h = true_false h refl
no_member (suc zero) h = true_false h refl
no_member (suc (suc m)) h = true_false h refl

dual_pair : (a : ℤ) → Each (λ f. pos 0 ≤ℤ dot f (in_plane a (pos 1))) segment_members
    → IsConePair 1 1 segment_members (false ∷ false ∷ []) 1 (in_plane a (pos 1))
dual_pair a e = record {
  point = on_line a;
  heights = on_line (pos 1);
  is = refl;
  dimension = refl;
  parts = refl;
  degree = refl;
  nonnegative = all_from_each e;
  zero_on = λ m h. absurd (no_member m h);
}

from_dual : (x : List ℤ) → In x three_pairs → IsConePair 1 1 segment_members (false ∷ false ∷ []) 1 x
from_dual x here = dual_pair minus1 (more (omega (arith, ints)) (more (omega (arith, ints)) empty))
from_dual x (there here) = dual_pair (pos 0) (more (omega (arith, ints)) (more (omega (arith, ints)) empty))
from_dual x (there (there here)) = dual_pair (pos 1) (more (omega (arith, ints)) (more (omega (arith, ints)) empty))
from_dual x (there (there (there i))) = elim i [ ]

pub dual_count : CountsOnDualFace 1 1 segment_members (false ∷ false ∷ []) 1 3
dual_count = record {
  pairs = three_pairs;
  are_pairs = record {
    ascends = three_ascend;
    members = λ x. ((λ c. from_dual x (in_from_contains three_pairs c)), (λ p. contains_from_in (to_three x (in_dual (false ∷ false ∷ []) x p))));
  };
  count_is = refl;
}
