-- The vectors of a degree over one point, by the point's base.
use Rattle.std.specs.Prelude.{ℤ, pos, ◌+ℤ◌, ◌*ℤ◌, ◌≤ℤ◌}
use Rattle.std.proofs.Common.{◌≡◌, ◌↔◌, ℕ, zero, suc, ◌+◌, ◌<◌, ◌≤◌, ◌⊎◌, inl, inr, Bool, true, false, List, [], ◌∷◌, ◌++◌, length, IsTrue, refl, sym, ap, ap₂, subst, ◌∙◌, arith}
use Rattle.std.proofs.Common.{zero-lt-suc, suc-le-suc}
use Rattle.std.specs.List.{Contains}
use mathlib.Core.List.{head-eq_of_cons-eq, tail-eq_of_cons-eq}
use Rattle.std.proofs.lemmas.Bool.{cases_lt}
use Rattle.std.proofs.lemmas.List.{length-map}
use Rattle.std.proofs.lemmas.List.Elements.{All-contains, Contains-get_or}
use Rattle.lattice_theory.specs.Vector.{entry, dot}
use Rattle.lattice_theory.specs.Affine.{Affine}
use Rattle.lattice_theory.specs.Order.{LexLess, Ascends}
use Rattle.lattice_theory.proofs.Integers.{linear, one-*ℤ, zero-*ℤ}
use Rattle.lattice_theory.proofs.Vectors.{same_from_entries, entry_past}
use Rattle.face_theory.proofs.Sets.{in_set_width}
use Rattle.lattice_theory.proofs.Members.{Each, empty, more, all_from_each}
use Rattle.face_theory.specs.Sets.{in_set, set_size}
use Rattle.face_theory.specs.Pairings.{vector_at, function_at}
use Rattle.cayley_theory.specs.Cones.{zero_vector, unit_vector}
use Rattle.cayley_theory.specs.Counts.{sum_of, IsConePair}
use Rattle.cayley_theory.specs.Bases.{part_in, lifted_one, lifted_all, HaveParts, pairing_with, IsBase, IsZeroOn, AreFreeParts, summed}
use Rattle.cayley_theory.proofs.ConeVectors.{dot_append, dot-zero_vector}
use Rattle.cayley_theory.proofs.Raised.{IsRaised, raised, raised_lists, length-raised, sum_above, first_one}

-- steps over plain numbers
first_entry : (p c d : ℤ) → p ≡ c → d ≡ pos 0 → p +ℤ d ≡ c
first_entry p c d e f = omega (arith, linear, e, f)

later_entry : (p d e : ℤ) → p ≡ pos 0 → d ≡ e → p +ℤ d ≡ e
later_entry p d e f g = omega (arith, linear, f, g)

-- lists of which the fronts are as long, and the wholes the same
pub split_same : (x y a b : List ℤ) → length x ≡ length y → x ++ a ≡ y ++ b → (x ≡ y) × (a ≡ b)
split_same [] [] a b e h = (refl, h)
split_same [] (d ∷ y) a b e h = absurd (omega arith)
split_same (c ∷ x) [] a b e h = absurd (omega arith)
split_same (c ∷ x) (d ∷ y) a b e h =
    let f = split_same x y a b (omega arith) (tail-eq_of_cons-eq h) in
    (ap₂ (λ (z : ℤ) (zs : List ℤ). z ∷ zs) (head-eq_of_cons-eq h) f.0, f.1)

-- a unit vector pairs to an entry
pub dot-unit_vector : (r i : ℕ) (a : List ℤ) → i < r → length a ≡ r → dot (unit_vector r i) a ≡ entry a i
dot-unit_vector zero i a h l = absurd (omega arith)
dot-unit_vector (suc r) i [] h l = absurd (omega arith)
dot-unit_vector (suc r) zero (c ∷ a) h l = first_entry (pos 1 *ℤ c) c (dot (zero_vector r) a) (one-*ℤ c) (dot-zero_vector r a)
dot-unit_vector (suc r) (suc i) (c ∷ a) h l =
    later_entry (pos 0 *ℤ c) (dot (unit_vector r i) a) (entry a i) (zero-*ℤ c) (dot-unit_vector r i a (omega arith) (omega arith))

-- a number in a list, and one past its end
pub function_in : (r : ℕ) (vs : List Affine) (i : ℕ) → i < length vs → vector_at (lifted_all r vs) i ≡ lifted_one r (function_at vs i)
function_in r [] i h = absurd (omega arith)
function_in r (v ∷ vs) zero h = refl
function_in r (v ∷ vs) (suc i) h = function_in r vs i (omega arith)

-- each vector at its place
each_at : {P : List ℤ → Type 0} (xs : List (List ℤ)) → ((i : ℕ) → i < length xs → P (vector_at xs i)) → Each P xs
each_at [] h = empty
each_at (x ∷ xs) h = more (h zero (zero-lt-suc _)) (each_at xs (λ i l. h (suc i) (suc-le-suc l)))

-- what it takes that a point with these heights is a vector of the degree
pub record IsOver (r : ℕ) (vs : List Affine) (x : List ℤ) (set : List Bool) (s : ℕ) (a : List ℤ) : Type 0 where
  pub parts : length a ≡ r
  pub degree : sum_of a ≡ pos s
  pub nonnegative : (i : ℕ) → i < length vs → pos 0 ≤ℤ pairing_with vs x a i
  pub zero_on : (i : ℕ) → IsTrue (in_set set i) → pairing_with vs x a i ≡ pos 0

-- so many heights make vectors of the degree of the point
pub record HasHeights (n r : ℕ) (vs : List Affine) (set : List Bool) (s : ℕ) (x : List ℤ) (k : ℕ) : Type 0 where
  pub heights : List (List ℤ)
  pub ascends : Ascends LexLess heights
  pub members : (a : List ℤ) → Contains heights a ↔ IsConePair n r (lifted_all r vs) set s (x ++ a)
  pub many : k ≡ length heights

module _ (n r : ℕ) (vs : List Affine) (haves : HaveParts n r vs) (x : List ℤ) (dimension : length x ≡ n) where
  -- what a vector of the cone pairs to with the point and heights
  pub pairing_is : (a : List ℤ) (i : ℕ) → length a ≡ r → i < length vs → dot (vector_at (lifted_all r vs) i) (x ++ a) ≡ pairing_with vs x a i
  pairing_is a i l k =
      ap (λ (v : List ℤ). dot v (x ++ a)) (function_in r vs i k)
      ∙ dot_append (function_at vs i).normal x (unit_vector r (part_in (function_at vs i))) a (haves.dimension i k ∙ sym dimension)
      ∙ ap (λ (z : ℤ). dot (function_at vs i).normal x +ℤ z) (dot-unit_vector r (part_in (function_at vs i)) a (haves.part i k) l)

  -- heights above a base
  over_base : (b a : List ℤ) → IsBase r vs x b → ((j : ℕ) → j < r → entry b j ≤ℤ entry a j) → (i : ℕ) → i < length vs → pos 0 ≤ℤ pairing_with vs x a i
  over_base b a base up i k =
      let low = base.above i k in
      let more = up (part_in (function_at vs i)) (haves.part i k) in
      omega (arith, linear, low, more)

  -- and heights of the cone are above it
  above_base : (b a : List ℤ) → IsBase r vs x b → ((i : ℕ) → i < length vs → pos 0 ≤ℤ pairing_with vs x a i) → (j : ℕ) → j < r → entry b j ≤ℤ entry a j
  above_base b a base up j k =
      let reached = base.reached j k in
      let zero : dot (function_at vs reached.0).normal x +ℤ entry b j ≡ pos 0 =
      subst (λ (p : ℕ). dot (function_at vs reached.0).normal x +ℤ entry b p ≡ pos 0) reached.2 reached.3 in
      let more : pos 0 ≤ℤ (dot (function_at vs reached.0).normal x +ℤ entry a j) =
      subst (λ (p : ℕ). pos 0 ≤ℤ (dot (function_at vs reached.0).normal x +ℤ entry a p)) reached.2 (up reached.0 reached.1) in
      omega (arith, linear, zero, more)

  -- a point has one base
  pub same_base : (b c : List ℤ) → IsBase r vs x b → IsBase r vs x c → b ≡ c
  same_base b c hb hc = same_from_entries b c (hb.parts ∙ sym hc.parts) at
    where
      within : (j : ℕ) → j < r → entry b j ≡ entry c j
      within j l =
          let up = above_base b c hb hc.above j l in
          let down = above_base c b hc hb.above j l in
          omega (arith, linear, up, down)

      at : (j : ℕ) → entry b j ≡ entry c j
      at j = by (cases_lt j r)
        where
          by : (j < r) ⊎ (r ≤ j) → entry b j ≡ entry c j
          by (inl l) = within j l
          by (inr l) = entry_past b j (subst (λ (k : ℕ). k ≤ j) (sym hb.parts) l) ∙ sym (entry_past c j (subst (λ (k : ℕ). k ≤ j) (sym hc.parts) l))

  module _ (set : List Bool) (wide : length set ≡ length vs) (s : ℕ) where
    in_vectors : (i : ℕ) → IsTrue (in_set set i) → i < length vs
    in_vectors i t = subst (λ (k : ℕ). i < k) wide (in_set_width set i t)

    -- what a vector of the degree is over the point
    pub from_pair : (a : List ℤ) → IsConePair n r (lifted_all r vs) set s (x ++ a) → IsOver r vs x set s a
    from_pair a q =
        let same = split_same x q.point a q.heights (dimension ∙ sym q.dimension) q.is in
        let long : length a ≡ r = ap length same.1 ∙ q.parts in
        record {
          parts = long;
          degree = ap sum_of same.1 ∙ q.degree;
          nonnegative = λ i l. subst (λ (z : ℤ). pos 0 ≤ℤ z) (pairing_is a i long l)
              (All-contains (λ f. pos 0 ≤ℤ dot f (x ++ a)) (lifted_all r vs) (vector_at (lifted_all r vs) i) q.nonnegative
              (Contains-get_or (lifted_all r vs) i [] (subst (λ (k : ℕ). i < k) (sym (length-map vs (lifted_one r))) l)));
          zero_on = λ i t. sym (pairing_is a i long (in_vectors i t)) ∙ q.zero_on i t;
        }

    pub to_pair : (a : List ℤ) → IsOver r vs x set s a → IsConePair n r (lifted_all r vs) set s (x ++ a)
    to_pair a h = record {
      point = x;
      heights = a;
      is = refl;
      dimension = dimension;
      parts = h.parts;
      degree = h.degree;
      nonnegative = all_from_each {P = λ f. pos 0 ≤ℤ dot f (x ++ a)} (each_at (lifted_all r vs) (λ i l.
          subst (λ (z : ℤ). pos 0 ≤ℤ z) (sym (pairing_is a i h.parts (subst (λ (k : ℕ). i < k) (length-map vs (lifted_one r)) l)))
          (h.nonnegative i (subst (λ (k : ℕ). i < k) (length-map vs (lifted_one r)) l))));
      zero_on = λ i t. pairing_is a i h.parts (in_vectors i t) ∙ h.zero_on i t;
    }

    -- where the set pairs to 0 with heights, it does with the base
    pub zero_on_base : (b a : List ℤ) → IsBase r vs x b → IsOver r vs x set s a → IsZeroOn vs set x b
    zero_on_base b a base h i t =
        let l = in_vectors i t in
        let low = base.above i l in
        let up = above_base b a base h.nonnegative (part_in (function_at vs i)) (haves.part i l) in
        let zero = h.zero_on i t in
        omega (arith, linear, low, up, zero)

    module _ (b : List ℤ) (base : IsBase r vs x b) where
      -- no vector has a lower degree
      pub none_lower : (l : ℕ) → sum_of b ≡ pos l → s < l → (a : List ℤ) → IsOver r vs x set s a → ⊥
      none_lower l e k a h =
          let up = sum_above b a (h.parts ∙ sym base.parts)
          (λ j m. above_base b a base h.nonnegative j (subst (λ (k : ℕ). j < k) base.parts m)) in
          let d = h.degree in
          absurd (omega (arith, linear, up, d, e, k))

      module _ (free : List Bool) (are : AreFreeParts r vs set free) (zero : IsZeroOn vs set x b) (l d : ℕ) (degree : sum_of b ≡ pos l)
          (whole : l + d ≡ s) where
        raised_over : (a : List ℤ) → IsOver r vs x set s a → IsRaised b free d a
        raised_over a h = record {
          long = h.parts ∙ sym base.parts;
          above = λ j m. above_base b a base h.nonnegative j (subst (λ (k : ℕ). j < k) base.parts m);
          fixed = λ j m f. stays j (subst (λ (k : ℕ). j < k) base.parts m) f;
          degree = let e = h.degree in omega (arith, linear, e, degree, whole);
        }
          where
            stays : (j : ℕ) → j < r → in_set free j ≡ false → entry a j ≡ entry b j
            stays j m f =
                let taken = are.is_taken j m f in
                let one : dot (function_at vs taken.0).normal x +ℤ entry a j ≡ pos 0 =
                subst (λ (p : ℕ). dot (function_at vs taken.0).normal x +ℤ entry a p ≡ pos 0) taken.2 (h.zero_on taken.0 taken.1) in
                let other : dot (function_at vs taken.0).normal x +ℤ entry b j ≡ pos 0 =
                subst (λ (p : ℕ). dot (function_at vs taken.0).normal x +ℤ entry b p ≡ pos 0) taken.2 (zero taken.0 taken.1) in
                omega (arith, linear, one, other)

        over_raised : (a : List ℤ) → IsRaised b free d a → IsOver r vs x set s a
        over_raised a h = record {
          parts = h.long ∙ base.parts;
          degree = let e = h.degree in omega (arith, linear, e, degree, whole);
          nonnegative = λ i m. over_base b a base (λ j k. h.above j (subst (λ (p : ℕ). j < p) (sym base.parts) k)) i m;
          zero_on = λ i t. stays i t (in_set free (part_in (function_at vs i))) refl;
        }
          where
            stays : (i : ℕ) → IsTrue (in_set set i) → (f : Bool) → in_set free (part_in (function_at vs i)) ≡ f → pairing_with vs x a i ≡ pos 0
            stays i t true e = absurd (are.is_free (part_in (function_at vs i)) (haves.part i (in_vectors i t)) e i t refl)
            stays i t false e =
                let same = h.fixed (part_in (function_at vs i)) (subst (λ (p : ℕ). part_in (function_at vs i) < p) (sym base.parts)
                (haves.part i (in_vectors i t))) e in
                let z = zero i t in
                omega (arith, linear, same, z)

        pub heights_over : HasHeights n r vs set s x (summed (set_size free) first_one d)
        heights_over =
            let width : length free ≡ length b = are.width ∙ sym base.parts in
            let lists = raised_lists b free d width in
            record {
              heights = raised b free d;
              ascends = lists.ascends;
              members = λ a. (λ c. to_pair a (over_raised a ((lists.members a).0 c)), λ q. (lists.members a).1 (raised_over a (from_pair a q)));
              many = sym (length-raised b free d width);
            }
