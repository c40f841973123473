-- The order of functions is strict and total for normals of one length, and finite lists can be put in order without repetition.
use Rattle.std.proofs.Common.{◌≡◌, List, [], ◌∷◌, length, ℤ, pos, ◌-ℤ◌, ◌≤ℤ◌, ◌<ℤ◌, ◌⊎◌, inl, inr, refl, sym, ap₂, subst, arith}
use Rattle.lattice_theory.specs.Affine.{Affine}
use Rattle.lattice_theory.specs.Order.{LexLess, FunctionLess, Ascends}
use Rattle.lattice_theory.proofs.Integers.{linear, positive_or_not}
use Rattle.lattice_theory.proofs.Members.{In, here, there, Each, empty, all_from_each, each_from_all, each_in, each_from_in, each_head, each_tail}

-- how two members stand to each other
pub data Compared {X : Type 0} (less : X → X → Type 0) (x y : X) : Type 0 where
  before : less x y → Compared less x y
  same : x ≡ y → Compared less x y
  after : less y x → Compared less x y

-- integers
pub compare_integers : (a b : ℤ) → Compared ◌<ℤ◌ a b
compare_integers a b = by (positive_or_not (b -ℤ a)) (positive_or_not (a -ℤ b))
  where
    by : (pos 0 <ℤ (b -ℤ a)) ⊎ ((b -ℤ a) ≤ℤ pos 0) → (pos 0 <ℤ (a -ℤ b)) ⊎ ((a -ℤ b) ≤ℤ pos 0) → Compared ◌<ℤ◌ a b
    by (inl p) q = before (omega (arith, linear))
    by (inr p) (inl q) = after (omega (arith, linear))
    by (inr p) (inr q) = same (omega (arith, linear))

-- vectors of one length
pub compare_vectors : (x y : List ℤ) → length x ≡ length y → Compared LexLess x y
compare_vectors [] [] e = same refl
compare_vectors [] (b ∷ y) e = absurd (omega arith)
compare_vectors (a ∷ x) [] e = absurd (omega arith)
compare_vectors (a ∷ x) (b ∷ y) e = by (compare_integers a b) (compare_vectors x y (omega arith))
  where
    by : Compared ◌<ℤ◌ a b → Compared LexLess x y → Compared LexLess (a ∷ x) (b ∷ y)
    by (before h) r = before (inl h)
    by (after h) r = after (inl h)
    by (same h) (before k) = before (inr (h, k))
    by (same h) (after k) = after (inr (sym h, k))
    by (same h) (same k) = same (ap₂ (λ (c : ℤ) (z : List ℤ). c ∷ z) h k)

-- functions with normals of one length
pub compare_functions : (f g : Affine) → length f.normal ≡ length g.normal → Compared FunctionLess f g
compare_functions f g e = by (compare_vectors f.normal g.normal e) (compare_integers f.constant g.constant)
  where
    by : Compared LexLess f.normal g.normal → Compared ◌<ℤ◌ f.constant g.constant → Compared FunctionLess f g
    by (before h) r = before (inl h)
    by (after h) r = after (inl h)
    by (same h) (before k) = before (inr (h, k))
    by (same h) (after k) = after (inr (sym h, k))
    by (same h) (same k) = same (ap₂ (λ (a : List ℤ) (c : ℤ). record { normal = a; constant = c }) h k)

-- the same members in order
pub record Sorted {X : Type 0} (less : X → X → Type 0) (xs : List X) : Type 0 where
  pub list : List X
  pub ascends : Ascends less list
  pub from : (x : X) → In x list → In x xs
  pub to : (x : X) → In x xs → In x list

-- x among the members of a list, in order
record Inserted {X : Type 0} (less : X → X → Type 0) (x : X) (ys : List X) : Type 0 where
  list : List X
  ascends : Ascends less list
  from : (y : X) → In y list → (y ≡ x) ⊎ In y ys
  new : In x list
  to : (y : X) → In y ys → In y list

-- x put into its place in a list in order
insert : {X : Type 0} (less : X → X → Type 0) (P : X → Type 0) → ((x y z : X) → less x y → less y z → less x z)
    → ((x y : X) → P x → P y → Compared less x y) → (x : X) → P x → (ys : List X) → Each P ys → Ascends less ys → Inserted less x ys
insert {X = X} less P trans compare x p [] h a = record {
  list = x ∷ [];
  ascends = (all_from_each empty, tt);
  from = only;
  new = here;
  to = λ y i. elim i [ ];
}
  where
    only : (y : X) → In y (x ∷ []) → (y ≡ x) ⊎ In y []
    only y here = inl refl
    only y (there i) = inr i
insert {X = X} less P trans compare x p (y ∷ ys) h a =
    by (compare x y p (each_head h)) (insert less P trans compare x p ys (each_tail h) a.1)
  where
    behind : Each (less y) ys
    behind = each_from_all (less y) ys a.0

    all_behind : less x y → (z : X) → In z (y ∷ ys) → less x z
    all_behind l z here = l
    all_behind l z (there i) = trans x y z l (each_in behind i)

    first : (z : X) → In z (x ∷ (y ∷ ys)) → (z ≡ x) ⊎ In z (y ∷ ys)
    first z here = inl refl
    first z (there i) = inr i

    by : Compared less x y → Inserted less x ys → Inserted less x (y ∷ ys)
    by (before l) r = record {
      list = x ∷ (y ∷ ys);
      ascends = (all_from_each (each_from_in (y ∷ ys) (all_behind l)), a);
      from = first;
      new = here;
      to = λ z i. there i;
    }
    by (same e) r = record {
      list = y ∷ ys;
      ascends = a;
      from = λ z i. inr i;
      new = subst (λ (z : X). In z (y ∷ ys)) (sym e) here;
      to = λ z i. i;
    }
    by (after l) r = record {
      list = y ∷ r.list;
      ascends = (all_from_each (each_from_in r.list (λ z i. later z (r.from z i))), r.ascends);
      from = from;
      new = there r.new;
      to = to;
    }
      where
        later : (z : X) → (z ≡ x) ⊎ In z ys → less y z
        later z (inl e) = subst (less y) (sym e) l
        later z (inr i) = each_in behind i

        deeper : (z : X) → (z ≡ x) ⊎ In z ys → (z ≡ x) ⊎ In z (y ∷ ys)
        deeper z (inl e) = inl e
        deeper z (inr i) = inr (there i)

        from : (z : X) → In z (y ∷ r.list) → (z ≡ x) ⊎ In z (y ∷ ys)
        from z here = inr here
        from z (there i) = deeper z (r.from z i)

        to : (z : X) → In z (y ∷ ys) → In z (y ∷ r.list)
        to z here = here
        to z (there i) = there (r.to z i)

-- a list in order, each member once
pub sort : {X : Type 0} (less : X → X → Type 0) (P : X → Type 0) → ((x y z : X) → less x y → less y z → less x z)
    → ((x y : X) → P x → P y → Compared less x y) → (xs : List X) → Each P xs → Sorted less xs
sort less P trans compare [] h = record { list = []; ascends = tt; from = λ x i. i; to = λ x i. i }
sort {X = X} less P trans compare (x ∷ xs) h = by (sort less P trans compare xs (each_tail h))
  where
    by : Sorted less xs → Sorted less (x ∷ xs)
    by s = done (insert less P trans compare x (each_head h) s.list (each_from_in s.list (λ y i. each_in (each_tail h) (s.from y i)))
        s.ascends)
      where
        done : Inserted less x s.list → Sorted less (x ∷ xs)
        done r = record { list = r.list; ascends = r.ascends; from = λ y i. back y (r.from y i); to = to }
          where
            back : (y : X) → (y ≡ x) ⊎ In y s.list → In y (x ∷ xs)
            back y (inl e) = subst (λ (z : X). In z (x ∷ xs)) (sym e) here
            back y (inr i) = there (s.from y i)

            to : (y : X) → In y (x ∷ xs) → In y r.list
            to y here = r.new
            to y (there i) = r.to y (s.to y i)
