-- Combinations of affine functions, and functions less a number.
use Rattle.std.proofs.Common.{◌≡◌, ℕ, List, length, ℤ, ◌+ℤ◌, ◌-ℤ◌, ◌*ℤ◌, arith, pos, refl, ◌∙◌}
use Rattle.lattice_theory.specs.Vector.{entry, dot}
use Rattle.lattice_theory.specs.Affine.{Affine, value, value_over}
use Rattle.lattice_theory.proofs.Integers.{products_out, linear}
use Rattle.lattice_theory.proofs.Vectors.{combined, dot-combined_left, entry-combined, length-combined}

-- p f + q g
pub mixed : ℤ → Affine → ℤ → Affine → Affine
mixed p f q g = record { normal = combined p f.normal q g.normal; constant = p *ℤ f.constant +ℤ q *ℤ g.constant }

-- it has as many coordinates
pub length-mixed : (n : ℕ) (p : ℤ) (f : Affine) (q : ℤ) (g : Affine) → length f.normal ≡ n → length g.normal ≡ n
    → length (mixed p f q g).normal ≡ n
unfolding mixed
length-mixed n p f q g e e' = length-combined n p f.normal q g.normal e e'

-- its entries
pub entry-mixed : (p : ℤ) (f : Affine) (q : ℤ) (g : Affine) (i : ℕ)
    → entry (mixed p f q g).normal i ≡ p *ℤ entry f.normal i +ℤ q *ℤ entry g.normal i
unfolding mixed
entry-mixed p f q g i = entry-combined p f.normal q g.normal i

-- its constant
pub constant-mixed : (p : ℤ) (f : Affine) (q : ℤ) (g : Affine) → (mixed p f q g).constant ≡ p *ℤ f.constant +ℤ q *ℤ g.constant
unfolding mixed
constant-mixed p f q g = refl

-- its value over d
pub value_over-mixed : (p : ℤ) (f : Affine) (q : ℤ) (g : Affine) (x : List ℤ) (d : ℤ)
    → value_over (mixed p f q g) x d ≡ p *ℤ value_over f x d +ℤ q *ℤ value_over g x d
unfolding mixed
value_over-mixed p f q g x d = sum (dot (combined p f.normal q g.normal) x) (dot f.normal x) (dot g.normal x) f.constant g.constant
    (dot-combined_left p f.normal q g.normal x)
  where
    sum : (s a b c e : ℤ) → s ≡ p *ℤ a +ℤ q *ℤ b → s +ℤ d *ℤ (p *ℤ c +ℤ q *ℤ e) ≡ p *ℤ (a +ℤ d *ℤ c) +ℤ q *ℤ (b +ℤ d *ℤ e)
    sum s a b c e h = rw h (simp products_out (omega (arith, linear)))

-- its value
pub value-mixed : (p : ℤ) (f : Affine) (q : ℤ) (g : Affine) (x : List ℤ) → value (mixed p f q g) x ≡ p *ℤ value f x +ℤ q *ℤ value g x
unfolding mixed
value-mixed p f q g x = sum (dot (combined p f.normal q g.normal) x) p q (dot f.normal x) (dot g.normal x) f.constant g.constant
    (dot-combined_left p f.normal q g.normal x)
  where
    sum : (s p q a b c d : ℤ) → s ≡ p *ℤ a +ℤ q *ℤ b → s +ℤ (p *ℤ c +ℤ q *ℤ d) ≡ p *ℤ (a +ℤ c) +ℤ q *ℤ (b +ℤ d)
    sum s p q a b c d e = rw e (simp products_out (omega (arith, linear)))

-- f - c
pub lowered : Affine → ℤ → Affine
lowered f c = record { normal = f.normal; constant = f.constant -ℤ c }

-- as many coordinates
pub length-lowered : (n : ℕ) (f : Affine) (c : ℤ) → length f.normal ≡ n → length (lowered f c).normal ≡ n
unfolding lowered
length-lowered n f c e = e

-- its value
pub value-lowered : (f : Affine) (c : ℤ) (x : List ℤ) → value (lowered f c) x ≡ value f x -ℤ c
unfolding lowered
value-lowered f c x = omega (arith, linear)

-- less its own value at x it is 0 at x
pub value-lowered_self : (f : Affine) (x : List ℤ) → value (lowered f (value f x)) x ≡ pos 0
value-lowered_self f x = value-lowered f (value f x) x ∙ itself (value f x)
  where
    itself : (a : ℤ) → a -ℤ a ≡ pos 0
    itself a = omega (arith, linear)
