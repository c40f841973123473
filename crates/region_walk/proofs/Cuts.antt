-- Spans that are cut by one function more.
use Rattle.std.specs.Prelude.{ℤ, pos, ◌+ℤ◌, ◌*ℤ◌, ◌≤ℤ◌, ◌↔◌}
use Rattle.std.proofs.Common.{◌≡◌, ℕ, zero, suc, ◌+◌, ◌<◌, List, [], ◌∷◌, ◌++◌, length, take, get_or, sym, subst, arith}
use Rattle.std.proofs.lemmas.List.Elements.{All-more, All-take}
use Rattle.lattice_theory.specs.Affine.{Affine, value}
use Rattle.lattice_theory.specs.Vector.{entry}
use Rattle.lattice_theory.proofs.Members.{Each, empty, more, each_from_all, all_from_each, each_head, each_tail}
use Rattle.region_walk.specs.steps.Spans.{IsBetween, AreNonnegativeAt}
use Rattle.region_walk.proofs.Values.{value-push}

-- what holds of the first so many holds of fewer, and of the last of them
each_shorter : {X : Type 0} (P : X → Type 0) (j : ℕ) (xs : List X) → Each P (take (suc j) xs) → Each P (take j xs)
each_shorter P zero [] e = empty
each_shorter P zero (x ∷ xs) e = empty
each_shorter P (suc j) [] e = empty
each_shorter P (suc j) (x ∷ xs) e = more (each_head e) (each_shorter P j xs (each_tail e))

each_last : {X : Type 0} (P : X → Type 0) (j : ℕ) (xs : List X) (d : X) → j < length xs → Each P (take (suc j) xs) → P (get_or xs j d)
each_last P j [] d l e = absurd (omega arith)
each_last P zero (x ∷ xs) d l e = each_head e
each_last P (suc j) (x ∷ xs) d l e = each_last P j xs d (omega arith) (each_tail e)

module _ (functions : List Affine) (j : ℕ) (f : Affine) (p : List ℤ) (low high left right slope rest : ℤ) (within : j < length functions)
    (is : f ≡ get_or functions j f) (slope_is : slope ≡ entry f.normal (length p)) (rest_is : rest ≡ value f p)
    (kept : (v : ℤ) → (IsBetween left right v → IsBetween low high v × AreNonnegativeAt (take j functions) (p ++ v ∷ []))
    × (IsBetween low high v × AreNonnegativeAt (take j functions) (p ++ v ∷ []) → IsBetween left right v)) where
  -- the function's value behind p
  is_value : (v : ℤ) → value f (p ++ v ∷ []) ≡ slope *ℤ v +ℤ rest
  is_value v = rw (slope_is, rest_is) (value-push f p v)

  -- with one function more
  pub cut_more : (least most : ℤ) → ((v : ℤ) → IsBetween least most v ↔ IsBetween left right v × (pos 0 ≤ℤ (slope *ℤ v +ℤ rest)))
      → (v : ℤ) → (IsBetween least most v → IsBetween low high v × AreNonnegativeAt (take (j + 1) functions) (p ++ v ∷ []))
      × (IsBetween low high v × AreNonnegativeAt (take (j + 1) functions) (p ++ v ∷ []) → IsBetween least most v)
  cut_more least most cut v = (
    λ b.
        let m = (cut v).0 b in
        let k = (kept v).0 m.0 in
        let this : pos 0 ≤ℤ value f (p ++ v ∷ []) = rw (is_value v) m.1 in (
          k.0,
          All-more (λ g. pos 0 ≤ℤ value g (p ++ v ∷ [])) functions j f within k.1
              (subst (λ g. pos 0 ≤ℤ value g (p ++ v ∷ [])) is this),
        ),
    λ h.
        let one_more : j + 1 ≡ suc j = omega arith in
        let all = subst (λ (m : ℕ). AreNonnegativeAt (take m functions) (p ++ v ∷ [])) one_more h.1 in
        let each = each_from_all (λ g. pos 0 ≤ℤ value g (p ++ v ∷ [])) (take (suc j) functions) all in
        let before = all_from_each (each_shorter (λ g. pos 0 ≤ℤ value g (p ++ v ∷ [])) j functions each) in
        let last = each_last (λ g. pos 0 ≤ℤ value g (p ++ v ∷ [])) j functions f within each in
        let this : pos 0 ≤ℤ value f (p ++ v ∷ []) = subst (λ g. pos 0 ≤ℤ value g (p ++ v ∷ [])) (sym is) last in
        (cut v).1 ((kept v).1 (h.0, before), rw (is_value v) at this),
  )

  -- where it leaves nothing
  pub cut_none : ((v : ℤ) → IsBetween left right v → pos 0 ≤ℤ (slope *ℤ v +ℤ rest) → ⊥)
      → (v : ℤ) → IsBetween low high v → AreNonnegativeAt functions (p ++ v ∷ []) → ⊥
  cut_none none v b h =
      let this : pos 0 ≤ℤ value f (p ++ v ∷ []) = subst (λ g. pos 0 ≤ℤ value g (p ++ v ∷ [])) (sym is) (h j f within) in
      none v ((kept v).1 (b, All-take (λ g. pos 0 ≤ℤ value g (p ++ v ∷ [])) j functions h)) (rw (is_value v) at this)
