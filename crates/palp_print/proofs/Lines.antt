-- One line more.
use Rattle.std.proofs.Common.{◌≡◌, ℕ, ◌+◌, ◌<◌, List, [], ◌++◌, length, get_or, zero, suc, ℤ, sym, ◌∙◌, ap, subst, append_assoc, append-nil, arith}
use Rattle.std.proofs.lemmas.List.Concat.{flat_map-cons}
use Rattle.std.specs.List.{All, flat_map, range_with_len}
use Rattle.lattice_theory.specs.Affine.{Affine}
use Rattle.palp_print.specs.Blocks.{AreInReach}

range_more : (f : ℕ → List ℕ) (a n j : ℕ) → a + n ≡ j
    → flat_map f (range_with_len a (suc n)) ≡ flat_map f (range_with_len a n) ++ f j
range_more f a zero j e =
    let same : a ≡ j = omega (arith, e) in
    flat_map-cons f a [] ∙ (append-nil (f a) ∙ ap f same)
range_more f a (suc n) j e =
    flat_map-cons f a (range_with_len (a + 1) (suc n))
    ∙ (ap (λ (xs : List ℕ). f a ++ xs) (range_more f (a + 1) n j (omega (arith, e)))
    ∙ (sym (append_assoc (f a) (flat_map f (range_with_len (a + 1) n)) (f j))
    ∙ ap (λ (xs : List ℕ). xs ++ f j) (sym (flat_map-cons f a (range_with_len (a + 1) n)))))

lines_more : (f : ℕ → List ℕ) (n : ℕ) → flat_map f (range_with_len 0 (n + 1)) ≡ flat_map f (range_with_len 0 n) ++ f n
lines_more f n =
    let next : suc n ≡ n + 1 = omega arith in
    subst (λ (m : ℕ). flat_map f (range_with_len 0 m) ≡ flat_map f (range_with_len 0 n) ++ f n) next (range_more f 0 n n (omega arith))

-- the lines of the first numbers were written, and then the next one
pub line_written : (f : ℕ → List ℕ) (n : ℕ) (before middle now : List ℕ)
    → middle ≡ before ++ flat_map f (range_with_len 0 n) → now ≡ middle ++ f n → now ≡ before ++ flat_map f (range_with_len 0 (n + 1))
line_written f n before middle now e next =
    next ∙ (ap (λ (xs : List ℕ). xs ++ f n) e
    ∙ (append_assoc before (flat_map f (range_with_len 0 n)) (f n) ∙ ap (λ (xs : List ℕ). before ++ xs) (sym (lines_more f n))))

-- each facet of a list is in reach
pub reach_at : (facets : List Affine) (points : List (List ℤ)) (k : ℕ) (f : Affine)
    → All (λ (g : Affine). All (AreInReach g) points) facets → k < length facets → f ≡ get_or facets k f → All (AreInReach f) points
reach_at facets points k f h within e = subst (λ (g : Affine). All (AreInReach g) points) (sym e) (h k f within)

-- texts that were appended one after another
appended : (o t a u b r : List ℕ) → (o ++ (t ++ (a ++ (u ++ b)))) ++ r ≡ o ++ (t ++ (a ++ (u ++ (b ++ r))))
appended o t a u b r = append_assoc o (t ++ (a ++ (u ++ b))) r ∙ ap (λ (z : List ℕ). o ++ z) (append_assoc t (a ++ (u ++ b)) r
    ∙ ap (λ (z : List ℕ). t ++ z) (append_assoc a (u ++ b) r ∙ ap (λ (z : List ℕ). a ++ z) (append_assoc u b r)))

pub three_appended : (o t a u b v e w : List ℕ) {x y z s : List ℕ} → x ≡ o ++ (t ++ (a ++ (u ++ b))) → y ≡ x ++ v → z ≡ y ++ e → s ≡ z ++ w
    → s ≡ o ++ (t ++ (a ++ (u ++ (b ++ (v ++ (e ++ w))))))
three_appended o t a u b v e w {x = x} {y = y} first next then last =
    last ∙ (ap (λ (p : List ℕ). p ++ w) then ∙ (append_assoc y e w ∙ (ap (λ (p : List ℕ). p ++ (e ++ w)) next
    ∙ (append_assoc x v (e ++ w) ∙ (ap (λ (p : List ℕ). p ++ (v ++ (e ++ w))) first ∙ appended o t a u b (v ++ (e ++ w)))))))

pub four_appended : (o t a u b t' a' u' b' w : List ℕ) {x y s : List ℕ} → x ≡ o ++ (t ++ (a ++ (u ++ b)))
    → y ≡ x ++ (t' ++ (a' ++ (u' ++ b'))) → s ≡ y ++ w → s ≡ o ++ (t ++ (a ++ (u ++ (b ++ (t' ++ (a' ++ (u' ++ (b' ++ w))))))))
four_appended o t a u b t' a' u' b' w {x = x} first next last =
    last ∙ (ap (λ (p : List ℕ). p ++ w) next ∙ (appended x t' a' u' b' w
    ∙ (ap (λ (p : List ℕ). p ++ (t' ++ (a' ++ (u' ++ (b' ++ w))))) first ∙ appended o t a u b (t' ++ (a' ++ (u' ++ (b' ++ w)))))))
