-- The derived comparisons of points and functions answer by lexicographic order.
use Rattle.std.proofs.Common.{◌≡◌, List, [], ◌∷◌, length, ℤ, ◌<ℤ◌, sym, ap, inl, inr, refl, arith}
use Rattle.std.specs.declared.cmp.Ordering.{Ordering}
use Rattle.std.specs.declared.cmp.Ordering.TheVariants.{Less, Equal, Greater}
use Rattle.std.specs.Prelude.{◌&&◌}
use Rattle.std.specs.Bool.{Decides}
use Rattle.std.specs.Cmp.{signed_Decides, first_so, second_so}
use Rattle.std.specs.Ordering.{MatchOrdering, int_eq, int_cmp, ordering_then}
use Rattle.std.specs.Cmp.Lexicographic.{slice_cmp, pointwise, pointwise_decides}
use Rattle.std.proofs.lemmas.Cmp.{int_ranked}
use Rattle.lattice_theory.specs.Affine.{Affine}
use Rattle.lattice_theory.specs.Order.{LexLess, FunctionLess}
use Rattle.lattice_core.specs.Compare.{Compares}

-- a first number and then the rest
compares_lex-then : (a b : ℤ) (x y : List ℤ) (r s : Ordering) → MatchOrdering r (a <ℤ b) (a ≡ b) (b <ℤ a) → Compares LexLess x y s
    → Compares LexLess (a ∷ x) (b ∷ y) (ordering_then r s)
compares_lex-then a b x y Less s h k = inl h
compares_lex-then a b x y Equal Less h k = inr (h, k)
compares_lex-then a b x y Equal Equal h k = cc
compares_lex-then a b x y Equal Greater h k = inr (sym h, k)
compares_lex-then a b x y Greater s h k = inl h

-- std's order on lists of one length is lexicographic order
pub compares_lex : (x y : List ℤ) → length x ≡ length y → Compares LexLess x y (slice_cmp int_cmp x y)
compares_lex [] [] e = refl
compares_lex [] (b ∷ y) e = absurd (omega (arith, e))
compares_lex (a ∷ x) [] e = absurd (omega (arith, e))
compares_lex (a ∷ x) (b ∷ y) e = compares_lex-then a b x y (int_cmp a b) (slice_cmp int_cmp x y) (int_ranked a b (int_cmp a b) refl)
    (compares_lex x y (omega (arith, e)))

-- normals first, and then the constants
compares_functions-then : (f g : Affine) (r s : Ordering) → Compares LexLess f.normal g.normal r
    → MatchOrdering s (f.constant <ℤ g.constant) (f.constant ≡ g.constant) (g.constant <ℤ f.constant)
    → Compares FunctionLess f g (ordering_then r s)
compares_functions-then f g Less s h k = inl h
compares_functions-then f g Equal Less h k = inr (h, k)
compares_functions-then f g Equal Equal h k = λ i. record { normal = h i; constant = k i }
compares_functions-then f g Equal Greater h k = inr (sym h, k)
compares_functions-then f g Greater s h k = inl h

-- std's order on functions of one dimension is that of functions
pub compares_functions : (f g : Affine) → length f.normal ≡ length g.normal
    → Compares FunctionLess f g (ordering_then (slice_cmp int_cmp f.normal g.normal) (int_cmp f.constant g.constant))
compares_functions f g e = compares_functions-then f g (slice_cmp int_cmp f.normal g.normal) (int_cmp f.constant g.constant)
    (compares_lex f.normal g.normal e) (int_ranked f.constant g.constant (int_cmp f.constant g.constant) refl)

-- functions are equal where their parts are
pub same_functions : (f g : Affine) → Decides (pointwise int_eq f.normal g.normal && int_eq f.constant g.constant) (f ≡ g)
same_functions f g =
    let normals = pointwise_decides signed_Decides f.normal g.normal in
    let constants = signed_Decides f.constant g.constant in (
      λ h.
          let first = normals.0 (first_so _ _ h) in
          let second = constants.0 (second_so (pointwise int_eq f.normal g.normal) _ h) in
          λ i. record { normal = first i; constant = second i },
      λ e.
          let first = normals.1 (ap (λ (h : Affine). h.normal) e) in
          let second = constants.1 (ap (λ (h : Affine). h.constant) e) in
          λ i. first i && second i,
    )

-- under a strict order the answer is the only one that is true
module _ {X : Type 0} (less : X → X → Type 0) (irreflexive : (x : X) → less x x → ⊥) (asymmetric : (x y : X) → less x y → less y x
    → ⊥) where
  pub is_less : (x y : X) (r : Ordering) → Compares less x y r → less x y → r ≡ Less
  is_less x y Less c h = refl
  is_less x y Equal c h = absurd (irreflexive x (rw (← c) at h))
  is_less x y Greater c h = absurd (asymmetric x y h c)

  pub is_equal : (x y : X) (r : Ordering) → Compares less x y r → x ≡ y → r ≡ Equal
  is_equal x y Less c e = absurd (irreflexive x (rw (← e) at c))
  is_equal x y Equal c e = refl
  is_equal x y Greater c e = absurd (irreflexive x (rw (← e) at c))

  pub is_greater : (x y : X) (r : Ordering) → Compares less x y r → less y x → r ≡ Greater
  is_greater x y Less c h = absurd (asymmetric x y c h)
  is_greater x y Equal c h = absurd (irreflexive x (rw (← c) at h))
  is_greater x y Greater c h = refl
