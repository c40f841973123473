-- Two facets meet in a ridge exactly where no third one stands in the list that vanishes with both.
use Rattle.std.proofs.Common.{◌≡◌, ◌≢◌, ◌⊎◌, ◌↔◌, inl, inr, ⊎_elim, ℕ, ◌+◌, ◌<◌, ◌≤◌, List, length, get_or, slice_index_or, ℤ, pos, sym, ap, ◌∙◌, subst, Contains, arith}
use Rattle.bit_rows.specs.declared.row.TheConstants.{MOST_INDICES}
use Rattle.std.specs.List.{All, AllPairs}
use Rattle.std.proofs.lemmas.Bool.{cases_lt}
use Rattle.std.proofs.lemmas.List.{get_or_default}
use Rattle.std.proofs.lemmas.List.Elements.{All-weaker, All-contains_itself}
use Rattle.lattice_theory.specs.Affine.{Affine, value}
use Rattle.lattice_theory.specs.Facet.{IsFacet}
use Rattle.ridge_theory.specs.Ridges.{VanishesWithBoth, IsRidge}
use Rattle.ridge_theory.proofs.ThirdFacets.{ridges_by_facets_lem}
use Rattle.hull_growth.specs.steps.Rows.{HasCommon, NoThirdRow, NoThirdFunction, NoThirdFunctionBelow}
use Rattle.hull_growth.specs.steps.Growing.{IsHeld}
use Rattle.hull_growth.proofs.RowBits.{meet_tells}
use Rattle.hull_growth.proofs.Appending.{same_at}

-- where each function stands once, equal ones stand at one place
pub same_place : (fs : List Affine) (i j : ℕ) (f g : Affine) → AllPairs (λ f g. f ≢ g) fs → i < length fs → j < length fs
    → f ≡ slice_index_or fs i f → g ≡ slice_index_or fs j g → f ≡ g → i ≡ j
same_place fs i j f g once l k a b e = ⊎_elim
    (λ (s : i < j). absurd (once i j f s k (sym a ∙ e ∙ b ∙ get_or_default fs j g f k)))
    (λ (s : j ≤ i). ⊎_elim
    (λ (t : j < i). absurd (once j i g t l (sym b ∙ sym e ∙ a ∙ get_or_default fs i f g l)))
    (λ (t : i ≤ j). omega arith) (cases_lt j i)) (cases_lt i j)

-- the member at a place
pub at_place : (fs : List Affine) (i : ℕ) (f : Affine) → i < length fs → f ≡ slice_index_or fs i f → Contains fs f
at_place fs i f l e = (i, l, sym e)

-- one function more
pub no_third_more : (corners : List (List ℤ)) (fs : List Affine) (i j k : ℕ) → NoThirdFunctionBelow k corners fs i j
    → ((f g h : Affine) → f ≡ slice_index_or fs i f → g ≡ slice_index_or fs j g → h ≡ slice_index_or fs k h
    → VanishesWithBoth corners f g h → (k ≡ i) ⊎ (k ≡ j)) → NoThirdFunctionBelow (k + 1) corners fs i j
no_third_more corners fs i j k so_far step m f g h l a b c v = ⊎_elim
    (λ (s : m < k). so_far m f g h s a b c v)
    (λ (s : k ≤ m). let e : k ≡ m = omega arith in
    subst (λ (q : ℕ). (q ≡ i) ⊎ (q ≡ j)) e (step f g h a b (subst (λ (q : ℕ). h ≡ slice_index_or fs q h) (sym e) c) v)) (cases_lt m k)

-- the functions tell ridges
pub ridge_by_functions : (n : ℕ) (corners : List (List ℤ)) (fs : List Affine) (rows : List ℕ) (i j : ℕ) (f g : Affine)
    → IsHeld n corners fs rows → i < length fs → j < length fs → f ≡ slice_index_or fs i f → g ≡ slice_index_or fs j g
    → NoThirdFunction corners fs i j ↔ IsRidge n corners f g
ridge_by_functions n corners fs rows i j f g h l k a b = (there, back)
  where
    facet : (u : Affine) → Contains fs u → IsFacet n corners u
    facet u c = (h.hull.members u).0 c

    law : IsRidge n corners f g ↔ ((u : Affine) → IsFacet n corners u → VanishesWithBoth corners f g u → (u ≡ f) ⊎ (u ≡ g))
    law = ridges_by_facets_lem n corners h.solid f g (facet f (at_place fs i f l a)) (facet g (at_place fs j g k b))

    there : NoThirdFunction corners fs i j → IsRidge n corners f g
    there none = law.1 (λ u is v. by u v ((h.hull.members u).1 is))
      where
        by : (u : Affine) → VanishesWithBoth corners f g u → Contains fs u → (u ≡ f) ⊎ (u ≡ g)
        by u v (m, s, e) = ⊎_elim
            (λ (t : m ≡ i). inl (sym e ∙ ap (λ (q : ℕ). get_or fs q u) t ∙ get_or_default fs i u f l ∙ sym a))
            (λ (t : m ≡ j). inr (sym e ∙ ap (λ (q : ℕ). get_or fs q u) t ∙ get_or_default fs j u g k ∙ sym b))
            (none m f g u s a b (sym e) v)

    back : IsRidge n corners f g → NoThirdFunction corners fs i j
    back ridge m f' g' u s a' b' e v = ⊎_elim
        (λ (t : u ≡ f). inl (same_place fs m i u f h.hull.once s l e a t))
        (λ (t : u ≡ g). inr (same_place fs m j u g h.hull.once s k e b t))
        (law.0 ridge u (facet u (at_place fs m u s e)) (subst (λ (w : Affine). VanishesWithBoth corners f w u) (same g' g j k b' b)
        (subst (λ (w : Affine). VanishesWithBoth corners w g' u) (same f' f i l a' a) v)))
      where
        same : (x y : Affine) (q : ℕ) → q < length fs → x ≡ slice_index_or fs q x → y ≡ slice_index_or fs q y → x ≡ y
        same x y q w c d = c ∙ get_or_default fs q x y w ∙ sym d

-- so do the rows, with at most 128 corners
pub ridge_by_rows : (n : ℕ) (corners : List (List ℤ)) (fs : List Affine) (rows : List ℕ) (i j : ℕ) (f g : Affine) → length corners ≤ MOST_INDICES
    → IsHeld n corners fs rows → i < length fs → j < length fs → f ≡ slice_index_or fs i f → g ≡ slice_index_or fs j g
    → NoThirdRow rows i j ↔ IsRidge n corners f g
ridge_by_rows n corners fs rows i j f g few h l k a b = (
  λ none. (ridge_by_functions n corners fs rows i j f g h l k a b).0 (λ m f' g' u s a' b' e v. none m (let c = h.rows.same in omega arith)
      ((tells m f' g' u s a' b' e).1 v)),
  λ ridge m s e. third m ((ridge_by_functions n corners fs rows i j f g h l k a b).1 ridge) (let c = h.rows.same in omega arith) e,
)
  where
    row : (q : ℕ) → q < length fs → slice_index_or rows q 0 ≡ slice_index_or rows q (slice_index_or rows q 0)
    row q w = let c = h.rows.same in get_or_default rows q 0 (slice_index_or rows q 0) (omega arith)

    tells : (m : ℕ) (f' g' u : Affine) → m < length fs → f' ≡ slice_index_or fs i f' → g' ≡ slice_index_or fs j g'
        → u ≡ slice_index_or fs m u
        → HasCommon (slice_index_or rows i 0) (slice_index_or rows j 0) (slice_index_or rows m 0) ↔ VanishesWithBoth corners f' g' u
    tells m f' g' u s a' b' e = meet_tells corners f' g' u (slice_index_or rows i 0) (slice_index_or rows j 0) (slice_index_or rows m 0) few
        (h.rows.each i f' (slice_index_or rows i 0) l a' (row i l))
        (h.rows.each j g' (slice_index_or rows j 0) k b' (row j k))
        (h.rows.each m u (slice_index_or rows m 0) s e (row m s))

    third : (m : ℕ) → NoThirdFunction corners fs i j → m < length fs
        → HasCommon (slice_index_or rows i 0) (slice_index_or rows j 0) (slice_index_or rows m 0) → (m ≡ i) ⊎ (m ≡ j)
    third m none s e = none m f g (get_or fs m f) s a b (get_or_default fs m f (get_or fs m f) s)
        ((tells m f g (get_or fs m f) s a b (get_or_default fs m f (get_or fs m f) s)).0 e)

-- what decides P decides what is equivalent to it
pub decided : (P Q T : Type 0) → P ↔ Q → T ↔ P → T ↔ Q
decided P Q T law told = (λ t. law.0 (told.0 t), λ q. told.1 (law.1 q))

-- a function that doesn't vanish at each of some corners at which two others do isn't a third one
pub not_third : (corners part : List (List ℤ)) (fs : List Affine) (i j k : ℕ) (f g h f' g' h' : Affine) → i < length fs → j < length fs
    → k < length fs → f ≡ get_or fs i f → g ≡ get_or fs j g → h ≡ get_or fs k h → f' ≡ get_or fs i f' → g' ≡ get_or fs j g'
    → h' ≡ get_or fs k h'
    → ((c : List ℤ) → Contains part c → Contains corners c)
    → (All (λ c. value f c ≡ pos 0 → value g c ≡ pos 0 → value h c ≡ pos 0) part → ⊥) → VanishesWithBoth corners f' g' h' → ⊥
not_third corners part fs i j k f g h f' g' h' l m o a b c a' b' c' inside none v =
    none (All-weaker (Contains part) (λ q. value f q ≡ pos 0 → value g q ≡ pos 0 → value h q ≡ pos 0)
    (λ q n x y. ap (λ (u : Affine). value u q) (sym eh) ∙ v q (inside q n) (ap (λ (u : Affine). value u q) ef ∙ x)
    (ap (λ (u : Affine). value u q) eg ∙ y)) part (All-contains_itself part))
  where
    ef : f' ≡ f
    ef = same_at fs i f' f l a' a

    eg : g' ≡ g
    eg = same_at fs j g' g m b' b

    eh : h' ≡ h
    eh = same_at fs k h' h o c' c
