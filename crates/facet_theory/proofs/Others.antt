-- The points of a list other than one: who is among them.
use Rattle.std.proofs.Common.{◌≡◌, ◌≢◌, Bool, true, false, not, cond, List, [], ◌∷◌, ℤ, pos, negsuc, ◌⊎◌, inl, inr, refl, sym, ap, ap₂, ◌∙◌, subst}
use Rattle.std.proofs.lemmas.Bool.{eqb-true, eq-eqb, and_parts}
use Rattle.lattice_theory.specs.Vector.{int_eq, vector_eq, others}
use Rattle.lattice_theory.proofs.Members.{In, here, there}

-- the tests of equality
false_true : false ≡ true → ⊥
false_true e = cc

-- integers that pass the test are equal
int_eq-true : (a b : ℤ) → int_eq a b ≡ true → a ≡ b
int_eq-true (pos a) (pos b) e = ap pos (eqb-true a b e)
int_eq-true (pos a) (negsuc b) e = absurd (false_true e)
int_eq-true (negsuc a) (pos b) e = absurd (false_true e)
int_eq-true (negsuc a) (negsuc b) e = ap negsuc (eqb-true a b e)

-- an integer passes it with itself
int_eq_refl : (a : ℤ) → int_eq a a ≡ true
int_eq_refl (pos a) = eq-eqb a a refl
int_eq_refl (negsuc a) = eq-eqb a a refl

-- vectors that pass the test are equal
pub vector_eq-true : (x y : List ℤ) → vector_eq x y ≡ true → x ≡ y
vector_eq-true [] [] e = refl
vector_eq-true [] (b ∷ y) e = absurd (false_true e)
vector_eq-true (a ∷ x) [] e = absurd (false_true e)
vector_eq-true (a ∷ x) (b ∷ y) e = let s = and_parts (int_eq a b) (vector_eq x y) e in
    ap₂ (λ (c : ℤ) (z : List ℤ). c ∷ z) (int_eq-true a b s.0) (vector_eq-true x y s.1)

-- a vector passes it with itself
pub vector_eq_refl : (x : List ℤ) → vector_eq x x ≡ true
vector_eq_refl [] = refl
vector_eq_refl (a ∷ x) = let e = int_eq_refl a in let f = vector_eq_refl x in rw (e, f) refl

-- equal or not
pub same_or_not : (x y : List ℤ) → (x ≡ y) ⊎ (x ≢ y)
same_or_not x y = by (vector_eq x y) refl
  where
    by : (b : Bool) → vector_eq x y ≡ b → (x ≡ y) ⊎ (x ≢ y)
    by true e = inl (vector_eq-true x y e)
    by false e = inr (λ s. false_true (sym e ∙ ap (vector_eq x) (sym s) ∙ vector_eq_refl x))

-- a member of the others is a member, and not that one
kept_or_later : (b : Bool) (q p : List ℤ) (rest : List (List ℤ)) → In q (cond (not b) (p ∷ rest) rest) → ((b ≡ false) × (q ≡ p)) ⊎ In q rest
kept_or_later true q p rest i = inr i
kept_or_later false q p rest here = inl (refl, refl)
kept_or_later false q p rest (there i) = inr i

-- the others are members, and not v
pub in_others : (points : List (List ℤ)) (v q : List ℤ) → In q (others points v) → In q points × (q ≢ v)
in_others [] v q i = elim i [ ]
in_others (p ∷ points) v q i = by (kept_or_later (vector_eq p v) q p (others points v) i) (λ j. in_others points v q j)
  where
    by : ((vector_eq p v ≡ false) × (q ≡ p)) ⊎ In q (others points v) → (In q (others points v) → In q points × (q ≢ v))
        → In q (p ∷ points) × (q ≢ v)
    by (inl (e, s)) later = (
      subst (λ (x : List ℤ). In x (p ∷ points)) (sym s) here,
      λ t. false_true (sym e ∙ ap (vector_eq p) (sym t ∙ s) ∙ vector_eq_refl p),
    )
    by (inr j) later = let r = later j in (there r.0, r.1)

-- what is among the rest is kept
later_kept : (b : Bool) (q p : List ℤ) (rest : List (List ℤ)) → In q rest → In q (cond (not b) (p ∷ rest) rest)
later_kept true q p rest i = i
later_kept false q p rest i = there i

-- the first is kept where the test fails
first_kept : (b : Bool) (p : List ℤ) (rest : List (List ℤ)) → b ≢ true → In p (cond (not b) (p ∷ rest) rest)
first_kept true p rest n = absurd (n refl)
first_kept false p rest n = here

-- a member that is not v is among the others
pub to_others : (points : List (List ℤ)) (v q : List ℤ) → In q points → q ≢ v → In q (others points v)
to_others [] v q i n = elim i [ ]
to_others (p ∷ points) v q here n = first_kept (vector_eq q v) q (others points v) (λ e. n (vector_eq-true q v e))
to_others (p ∷ points) v q (there i) n = later_kept (vector_eq p v) q p (others points v) (to_others points v q i n)
