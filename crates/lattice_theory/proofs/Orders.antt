-- The orders of vectors and of functions are strict and total orders.
use Rattle.std.proofs.Common.{List, [], ◌∷◌, ℤ, ◌<ℤ◌, ◌∙◌, subst, inl, inr, arith}
use Rattle.std.proofs.lemmas.Int.{ints}
use Rattle.lattice_theory.specs.Affine.{Affine}
use Rattle.lattice_theory.specs.Order.{LexLess, FunctionLess}

-- no number is below itself
below_itself : (a : ℤ) → a <ℤ a → ⊥
below_itself a h = omega (arith, ints)

-- numbers in order
below_next : (a b c : ℤ) → a <ℤ b → b <ℤ c → a <ℤ c
below_next a b c h k = omega (arith, ints)

-- no vector comes before itself
pub lex_irreflexive : (x : List ℤ) → LexLess x x → ⊥
lex_irreflexive [] h = h
lex_irreflexive (a ∷ x) (inl h) = below_itself a h
lex_irreflexive (a ∷ x) (inr h) = lex_irreflexive x h.1

-- what comes before y comes before all that comes after y
pub lex_transitive : (x y z : List ℤ) → LexLess x y → LexLess y z → LexLess x z
lex_transitive [] y z h k = absurd h
lex_transitive (a ∷ x) [] z h k = absurd h
lex_transitive (a ∷ x) (b ∷ y) [] h k = absurd k
lex_transitive (a ∷ x) (b ∷ y) (c ∷ z) (inl h) (inl k) = inl (below_next a b c h k)
lex_transitive (a ∷ x) (b ∷ y) (c ∷ z) (inl h) (inr k) = inl (let e = k.0 in rw e at h)
lex_transitive (a ∷ x) (b ∷ y) (c ∷ z) (inr h) (inl k) = inl (rw h.0 k)
lex_transitive (a ∷ x) (b ∷ y) (c ∷ z) (inr h) (inr k) = inr (h.0 ∙ k.0, lex_transitive x y z h.1 k.1)

-- two vectors don't come before each other
pub lex_asymmetric : (x y : List ℤ) → LexLess x y → LexLess y x → ⊥
lex_asymmetric x y h k = lex_irreflexive x (lex_transitive x y x h k)

-- no function comes before itself
pub function_irreflexive : (f : Affine) → FunctionLess f f → ⊥
function_irreflexive f (inl h) = lex_irreflexive f.normal h
function_irreflexive f (inr h) = below_itself f.constant h.1

-- what comes before g comes before all that comes after g
pub function_transitive : (f g h : Affine) → FunctionLess f g → FunctionLess g h → FunctionLess f h
function_transitive f g h (inl p) (inl q) = inl (lex_transitive f.normal g.normal h.normal p q)
function_transitive f g h (inl p) (inr q) = inl (subst (LexLess f.normal) q.0 p)
function_transitive f g h (inr p) (inl q) = inl (rw p.0 q)
function_transitive f g h (inr p) (inr q) = inr (p.0 ∙ q.0, below_next f.constant g.constant h.constant p.1 q.1)

-- two functions don't come before each other
pub function_asymmetric : (f g : Affine) → FunctionLess f g → FunctionLess g f → ⊥
function_asymmetric f g h k = function_irreflexive f (function_transitive f g f h k)
