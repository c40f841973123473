-- Fronts of an ordered collection are told by their lengths.
use Rattle.std.proofs.Common.{◌≡◌, ◌⊎◌, inl, inr, List, [], ◌∷◌, length, refl, sym, subst, arith}
use Rattle.lattice_theory.specs.Order.{Ascends}
use Rattle.lattice_theory.proofs.Members.{Each, each_head, each_in, each_from_all, each_from_in, In, here, there}

-- members in order, with all that come before one of them
pub record IsFront {X : Type 0} (less : X → X → Type 0) (P : X → Type 0) (xs : List X) : Type 0 where
  pub ascends : Ascends less xs
  pub hold : Each P xs
  pub closed : (s t : X) → In s xs → P t → less t s → In t xs

-- a member of a list is its first one or a later one
first_or_later : {X : Type 0} {z : X} (y : X) (ys : List X) → In z (y ∷ ys) → (z ≡ y) ⊎ In z ys
first_or_later y ys here = inl refl
first_or_later y ys (there i) = inr i

module _ {X : Type 0} (less : X → X → Type 0) (asymmetric : (x y : X) → less x y → less y x → ⊥) where
  -- what stands behind the first member is a front of what comes after it
  front_tail : (P : X → Type 0) (x : X) (xs : List X) → IsFront less P (x ∷ xs) → IsFront less (λ t. P t × less x t) xs
  front_tail P x xs f = record {
    ascends = f.ascends.1;
    hold = each_from_in xs (λ t i. (each_in f.hold (there i), each_in (each_from_all (less x) xs f.ascends.0) i));
    closed = λ s t i h l. by t h.1 (f.closed s t (there i) h.0 l);
  }
    where
      by : (t : X) → less x t → In t (x ∷ xs) → In t xs
      by t h here = absurd (asymmetric x x h h)
      by t h (there i) = i

  -- the first members of two fronts are the same
  front_heads : (P : X → Type 0) (x y : X) (xs ys : List X) → IsFront less P (x ∷ xs) → IsFront less P (y ∷ ys)
      → less x y ⊎ (less y x ⊎ (x ≡ y)) → x ≡ y
  front_heads P x y xs ys f g (inl l) = by (first_or_later y ys (g.closed y x here (each_head f.hold) l))
    where
      by : (x ≡ y) ⊎ In x ys → x ≡ y
      by (inl e) = e
      by (inr i) = absurd (asymmetric x y l (each_in (each_from_all (less y) ys g.ascends.0) i))
  front_heads P x y xs ys f g (inr (inl l)) = by (first_or_later x xs (f.closed x y here (each_head g.hold) l))
    where
      by : (y ≡ x) ⊎ In y xs → x ≡ y
      by (inl e) = sym e
      by (inr i) = absurd (asymmetric y x l (each_in (each_from_all (less x) xs f.ascends.0) i))
  front_heads P x y xs ys f g (inr (inr e)) = e

  pub same_front : (P : X → Type 0) (xs ys : List X) → ((x y : X) → P x → P y → less x y ⊎ (less y x ⊎ (x ≡ y))) → IsFront less P xs
      → IsFront less P ys → length xs ≡ length ys → xs ≡ ys
  same_front P [] [] total f g e = refl
  same_front P [] (y ∷ ys) total f g e = absurd (omega (arith, e))
  same_front P (x ∷ xs) [] total f g e = absurd (omega (arith, e))
  same_front P (x ∷ xs) (y ∷ ys) total f g e =
      let first = front_heads P x y xs ys f g (total x y (each_head f.hold) (each_head g.hold)) in
      let rest = same_front (λ t. P t × less x t) xs ys (λ s t p q. total s t p.0 q.0) (front_tail P x xs f)
      (subst (λ (z : X). IsFront less (λ t. P t × less z t) ys) (sym first) (front_tail P y ys g)) (omega (arith, e)) in
      λ i. first i ∷ rest i
