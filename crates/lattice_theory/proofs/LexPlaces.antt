-- Lexicographic order by the first place at which vectors differ.
use Rattle.std.proofs.Common.{◌≡◌, ◌⊎◌, inl, inr, ℕ, zero, suc, ◌<◌, ◌≤◌, List, [], ◌∷◌, length, ℤ, pos, ◌<ℤ◌}
use Rattle.std.proofs.Common.{refl, sym, ap, subst, ◌∙◌, arith, suc-le-suc, zero-lt-suc, le_of_suc-le-suc}
use Rattle.std.proofs.lemmas.Bool.{cases_lt}
use Rattle.std.proofs.lemmas.List.{ext_get_or}
use Rattle.std.proofs.lemmas.Int.{ints}
use Rattle.lattice_theory.specs.Vector.{entry}
use Rattle.lattice_theory.specs.Order.{LexLess}
use Rattle.lattice_theory.specs.Grid.{AgreesTo, LexAtMost}
use Rattle.lattice_theory.proofs.Orders.{lex_irreflexive, lex_transitive}

-- x and y first differ at the place, where y has more
pub record DiffersAt (x y : List ℤ) (place : ℕ) : Type 0 where
  pub within : place < length x
  pub agrees : AgreesTo place x y
  pub less : entry x place <ℤ entry y place

-- vectors with one entry more agree in one place more
agree_more : (a b : ℤ) (x y : List ℤ) (k : ℕ) → a ≡ b → AgreesTo k x y → AgreesTo (suc k) (a ∷ x) (b ∷ y)
agree_more a b x y k e h zero l = sym e
agree_more a b x y k e h (suc i) l = h i (le_of_suc-le-suc l)

-- vectors in order differ at some place
pub first_difference : (x y : List ℤ) → LexLess x y → (place : ℕ) × DiffersAt x y place
first_difference [] y h = absurd h
first_difference (a ∷ x) [] h = absurd h
first_difference (a ∷ x) (b ∷ y) (inl h) =
    (0, record { within = zero-lt-suc (length x); agrees = λ i k. absurd (omega arith); less = h })
first_difference (a ∷ x) (b ∷ y) (inr h) =
    let d = first_difference x y h.1 in
    (suc d.0, record { within = suc-le-suc d.1.within; agrees = agree_more a b x y d.0 h.0 d.1.agrees; less = d.1.less })

-- and back
pub lex_at : (x y : List ℤ) (place : ℕ) → length x ≡ length y → DiffersAt x y place → LexLess x y
lex_at [] y place e d = absurd (let h = d.within in omega arith)
lex_at (a ∷ x) [] place e d = absurd (omega arith)
lex_at (a ∷ x) (b ∷ y) zero e d = inl d.less
lex_at (a ∷ x) (b ∷ y) (suc place) e d =
    let within = d.within in
    let rest : DiffersAt x y place = record { within = omega arith; agrees = λ i k. d.agrees (suc i) (suc-le-suc k); less = d.less } in
    inr (sym (d.agrees 0 (zero-lt-suc place)), lex_at x y place (omega arith) rest)

-- vectors that agree everywhere are the same
pub same_agreeing : (x y : List ℤ) → length x ≡ length y → AgreesTo (length x) x y → x ≡ y
same_agreeing x y e h = ext_get_or (pos 0) x y e (λ i k. sym (h i k))

-- of two vectors of one length one comes before the other, or they are the same
pub lex_total : (x y : List ℤ) → length x ≡ length y → LexLess x y ⊎ LexAtMost y x
lex_total [] [] e = inr (inr refl)
lex_total [] (b ∷ y) e = absurd (omega arith)
lex_total (a ∷ x) [] e = absurd (omega arith)
lex_total (a ∷ x) (b ∷ y) e = by (order a b) (lex_total x y (omega arith))
  where
    order : (a b : ℤ) → ((a <ℤ b) ⊎ (b <ℤ a)) ⊎ (a ≡ b)
    order a b = grind (arith, ints)

    by : ((a <ℤ b) ⊎ (b <ℤ a)) ⊎ (a ≡ b) → LexLess x y ⊎ LexAtMost y x → LexLess (a ∷ x) (b ∷ y) ⊎ LexAtMost (b ∷ y) (a ∷ x)
    by (inl (inl h)) r = inl (inl h)
    by (inl (inr h)) r = inr (inl (inl h))
    by (inr same) (inl h) = inl (inr (same, h))
    by (inr same) (inr (inl h)) = inr (inl (inr (sym same, h)))
    by (inr same) (inr (inr e)) = inr (inr (λ i. sym same i ∷ e i))

-- orders end to end
pub less_at_most : (x y z : List ℤ) → LexLess x y → LexAtMost y z → LexLess x z
less_at_most x y z h (inl k) = lex_transitive x y z h k
less_at_most x y z h (inr e) = subst (LexLess x) e h

pub at_most_less : (x y z : List ℤ) → LexAtMost x y → LexLess y z → LexLess x z
at_most_less x y z (inl h) k = lex_transitive x y z h k
at_most_less x y z (inr e) k = subst (λ w. LexLess w z) (sym e) k

-- what comes before y isn't behind it
pub not_at_most : (x y : List ℤ) → LexLess x y → LexAtMost y x → ⊥
not_at_most x y h k = lex_irreflexive x (less_at_most x y x h k)

-- what stands between two vectors that begin alike begins like them
pub agrees_between : (k : ℕ) (x y z : List ℤ) → length x ≡ length y → length z ≡ length y → AgreesTo k x z → LexAtMost x y → LexAtMost y z
    → AgreesTo k x y
agrees_between k x y z e f agrees (inr same) above = λ i l. ap (λ (v : List ℤ). entry v i) (sym same)
agrees_between k x y z e f agrees (inl h) (inr same) = λ i l. ap (λ (v : List ℤ). entry v i) same ∙ agrees i l
agrees_between k x y z e f agrees (inl h) (inl m) =
    let d = first_difference x y h in
    let g = first_difference y z m in
    λ i l. by d.0 d.1 g.0 g.1 i l (cases_lt i d.0)
  where
    -- y and z can't differ first at p, where x and y differ first at a place that x and z share
    apart : (j : ℕ) → DiffersAt x y j → (p : ℕ) → DiffersAt y z p → j < k → (p < j) ⊎ (j ≤ p) → (j < p) ⊎ (p ≤ j) → ⊥
    apart j d p g l (inl b) t =
        let a = d.agrees p b in let same = agrees p (omega arith) in let less = g.less in omega (arith, ints)
    apart j d p g l (inr b) (inl c) = let a = g.agrees j c in let same = agrees j l in let less = d.less in omega (arith, ints)
    apart j d p g l (inr b) (inr c) =
        let here : p ≡ j = omega arith in
        let more = rw here at g.less in
        let same = agrees j l in
        let less = d.less in
        omega (arith, ints)

    by : (j : ℕ) → DiffersAt x y j → (p : ℕ) → DiffersAt y z p → (i : ℕ) → i < k → (i < j) ⊎ (j ≤ i) → entry y i ≡ entry x i
    by j d p g i l (inl b) = d.agrees i b
    by j d p g i l (inr b) = absurd (apart j d p g (omega arith) (cases_lt p j) (cases_lt j p))
