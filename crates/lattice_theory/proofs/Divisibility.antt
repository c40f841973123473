-- Divisors of integers and of all entries of a vector: the greatest one is an integer combination of the entries, so a vector that isn't 0
-- is a positive multiple of a primitive one, and a vector on the line of a primitive one is an integer multiple of it.
use Rattle.std.proofs.Common.{◌≡◌, ◌≢◌, ℕ, zero, suc, ◌/◌, ◌%◌, ◌<◌, ◌≤◌, List, [], ◌∷◌, ℤ, pos, negsuc, ◌+ℤ◌, ◌-ℤ◌, ◌*ℤ◌, neg_ℤ, ◌⊎◌, inl, inr, ⊎_elim, refl, sym, ap, ap₂, subst, ◌∙◌, All, arith}
use Rattle.std.proofs.lemmas.Int.{ints}
use Rattle.lattice_theory.specs.Vector.{dot, scaled, DividesInteger, IsPrimitive}
use Rattle.lattice_theory.proofs.Integers.{products_out, linear, cancel_left, one-*ℤ, *ℤ-one, neg-*ℤ, *ℤ-neg, *ℤ_assoc, *ℤ_comm, positive_nonzero}
use Rattle.lattice_theory.proofs.Members.{Each, empty, more, each_from_all, all_from_each, each_head, each_tail}
use Rattle.lattice_theory.proofs.Vectors.{dot-scaled_left, dot-scaled_right, scaled-one}

-- what d divides is closed under sums, multiples and negation
pub divides_zero : (d : ℕ) → DividesInteger d (pos 0)
divides_zero d = (pos 0, simp products_out)

-- a number divides itself
pub divides_itself : (d : ℕ) → DividesInteger d (pos d)
divides_itself d = (pos 1, one-*ℤ (pos d))

-- and sums
pub divides_sum : (d : ℕ) (a b : ℤ) → DividesInteger d a → DividesInteger d b → DividesInteger d (a +ℤ b)
divides_sum d a b (k, e) (l, f) = (k +ℤ l, simp products_out (omega (arith, linear)))

-- and multiples
pub divides_multiple : (d : ℕ) (c a : ℤ) → DividesInteger d a → DividesInteger d (c *ℤ a)
divides_multiple d c a (k, e) = (c *ℤ k, *ℤ_assoc c k (pos d) ∙ ap (λ (z : ℤ). c *ℤ z) e)

-- and negatives
pub divides_neg : (d : ℕ) (a : ℤ) → DividesInteger d a → DividesInteger d (neg_ℤ a)
divides_neg d a (k, e) = (neg_ℤ k, simp products_out (omega (arith, linear)))

-- and pairings with a vector that it divides
pub divides_dot : (d : ℕ) (c x : List ℤ) → Each (DividesInteger d) x → DividesInteger d (dot c x)
divides_dot d [] x h = divides_zero d
divides_dot d (a ∷ c) [] h = divides_zero d
divides_dot d (a ∷ c) (b ∷ x) h = divides_sum d (a *ℤ b) (dot c x) (divides_multiple d a b (each_head h)) (divides_dot d c x (each_tail h))

-- 0 divides only 0
pub zero_divides : (a : ℤ) → DividesInteger 0 a → a ≡ pos 0
zero_divides a (k, e) = sym e ∙ simp products_out

-- a number that divides 1 is 1
pub divides_one : (d : ℕ) → DividesInteger d (pos 1) → d ≡ 1
divides_one zero (k, e) = absurd (omega (arith, ints))
divides_one (suc zero) (k, e) = refl
divides_one (suc (suc d)) (pos zero, e) = absurd (omega (arith, ints))
divides_one (suc (suc d)) (pos (suc k), e) = absurd (omega (arith, ints))
divides_one (suc (suc d)) (negsuc k, e) = absurd (omega (arith, ints))

-- so is one that divides -1, or two numbers next to each other
pub divides_minus_one : (d : ℕ) → DividesInteger d (negsuc 0) → d ≡ 1
divides_minus_one d (k, e) = divides_one d (neg_ℤ k, simp products_out (omega (arith, linear)))

-- the second of these
pub divides_neighbors : (d : ℕ) (a b : ℤ) → a ≡ b +ℤ pos 1 → DividesInteger d a → DividesInteger d b → d ≡ 1
divides_neighbors d a b next (k, e) (l, f) = divides_one d (k -ℤ l, simp products_out (omega (arith, linear)))

-- the greatest common divisor of two naturals as a combination of both
pub record HasBezout (a b : ℤ) : Type 0 where
  pub divisor : ℕ
  pub left : ℤ
  pub right : ℤ
  pub combination : left *ℤ a +ℤ right *ℤ b ≡ pos divisor
  pub divides_left : DividesInteger divisor a
  pub divides_right : DividesInteger divisor b

-- Euclid's end: the second number is 0
bezout_base : (a : ℕ) → HasBezout (pos a) (pos 0)
bezout_base a = record {
  divisor = a;
  left = pos 1;
  right = pos 0;
  combination = omega (arith, ints);
  divides_left = divides_itself a;
  divides_right = divides_zero a;
}

-- one step of Euclid's algorithm: a = q b + r
bezout_step : (a b q r : ℤ) → a ≡ q *ℤ b +ℤ r → HasBezout b r → HasBezout a b
bezout_step a b q r e h = record {
  divisor = h.divisor;
  left = h.right;
  right = h.left -ℤ h.right *ℤ q;
  combination = let f = simp products_out at h.combination in let g = simp products_out at (ap (λ (z : ℤ). h.right *ℤ z) e) in
      simp products_out (omega (arith, linear));
  divides_left = subst (DividesInteger h.divisor) (sym e)
      (divides_sum h.divisor (q *ℤ b) r (divides_multiple h.divisor q b h.divides_left) h.divides_right);
  divides_right = h.divides_left;
}

-- the quotient and the rest
quotient_rest : (a b : ℕ) → 0 < b → pos a ≡ pos (a / b) *ℤ pos b +ℤ pos (a % b)
quotient_rest a b h = omega (arith, ints)

-- Euclid's algorithm, with a bound on the second number
bezout_within : (n a b : ℕ) → b ≤ n → HasBezout (pos a) (pos b)
bezout_within n a zero h = bezout_base a
bezout_within zero a (suc b) h = absurd (omega arith)
bezout_within (suc n) a (suc b) h = bezout_step (pos a) (pos (suc b)) (pos (a / suc b)) (pos (a % suc b))
    (quotient_rest a (suc b) (omega arith)) (bezout_within n (suc b) (a % suc b) (omega arith))

-- with the other sign of the first number
bezout_negated : (a b : ℤ) → HasBezout (neg_ℤ a) b → HasBezout a b
bezout_negated a b h = record {
  divisor = h.divisor;
  left = neg_ℤ h.left;
  right = h.right;
  combination = let f = simp products_out at h.combination in simp products_out (omega (arith, linear));
  divides_left = (neg_ℤ h.divides_left.0, let f = simp products_out at h.divides_left.1 in simp products_out (omega (arith, linear)));
  divides_right = h.divides_right;
}

-- for an integer and a natural
bezout : (a : ℤ) (b : ℕ) → HasBezout a (pos b)
bezout (pos a) b = bezout_within b a b (omega arith)
bezout (negsuc a) b = bezout_negated (negsuc a) (pos b) (bezout_within b (suc a) b (omega arith))

-- the greatest common divisor of the entries of a vector, as a combination of them
pub record HasGcd (x : List ℤ) (g : ℕ) : Type 0 where
  pub coefficients : List ℤ
  pub combination : dot coefficients x ≡ pos g
  pub divides : Each (DividesInteger g) x

-- a divisor of a divisor divides
pub divides_through : (d e : ℕ) (a : ℤ) → DividesInteger d (pos e) → DividesInteger e a → DividesInteger d a
divides_through d e a h (k, f) = subst (DividesInteger d) f (divides_multiple d k (pos e) h)

-- the same for each entry of a vector
each_divides_through : (d e : ℕ) {x : List ℤ} → DividesInteger d (pos e) → Each (DividesInteger e) x → Each (DividesInteger d) x
each_divides_through d e h empty = empty
each_divides_through d e h (more {x = a} p ps) = more (divides_through d e a h p) (each_divides_through d e h ps)

-- one more entry
gcd_more : (a : ℤ) (x : List ℤ) (g : ℕ) → HasGcd x g → (h : HasBezout a (pos g)) → HasGcd (a ∷ x) h.divisor
gcd_more a x g s h = record {
  coefficients = h.left ∷ scaled h.right s.coefficients;
  combination = let e = dot-scaled_left h.right s.coefficients x in let f = s.combination in rw (e, f) h.combination;
  divides = more h.divides_left (each_divides_through h.divisor g h.divides_right s.divides);
}

-- every vector has one
pub gcd_exists : (x : List ℤ) → (g : ℕ) × HasGcd x g
gcd_exists [] = (0, record { coefficients = []; combination = refl; divides = empty })
gcd_exists (a ∷ x) = let s = gcd_exists x in let h = bezout a s.0 in (h.divisor, gcd_more a x s.0 s.1 h)

-- a vector is primitive exactly where 1 is a combination of its entries
pub primitive_combination : (x : List ℤ) → IsPrimitive x → (c : List ℤ) × (dot c x ≡ pos 1)
primitive_combination x p = let s = gcd_exists x in (s.1.coefficients, s.1.combination ∙ ap pos (p s.0 (all_from_each s.1.divides)))

-- and conversely
pub primitive_from_combination : (c x : List ℤ) → dot c x ≡ pos 1 → IsPrimitive x
primitive_from_combination c x e d h = divides_one d (subst (DividesInteger d) e (divides_dot d c x (each_from_all (DividesInteger d) x h)))

-- d divides k where it divides k times each entry of a primitive vector
pub divides_factor : (d : ℕ) (k : ℤ) (x : List ℤ) → IsPrimitive x → Each (DividesInteger d) (scaled k x) → DividesInteger d k
divides_factor d k x p h = let c = primitive_combination x p in
    subst (DividesInteger d) (dot-scaled_right k c.0 x ∙ ap (λ (z : ℤ). k *ℤ z) c.1 ∙ simp products_out) (divides_dot d c.0 (scaled k x) h)

-- a primitive vector isn't 0
pub primitive_nonzero : (x : List ℤ) → IsPrimitive x → All (λ a. a ≡ pos 0) x → ⊥
primitive_nonzero x p h = let c = primitive_combination x p in absurd_one (sym c.1 ∙ dot_zero c.0 x (each_from_all (λ a. a ≡ pos 0) x h))
  where
    absurd_one : pos 1 ≡ pos 0 → ⊥
    absurd_one e = absurd (omega (arith, linear))

    dot_zero : (c y : List ℤ) → Each (λ a. a ≡ pos 0) y → dot c y ≡ pos 0
    dot_zero [] y z = refl
    dot_zero (a ∷ c) [] z = refl
    dot_zero (a ∷ c) (b ∷ y) (more e z) = let f = dot_zero c y z in rw (e, f) (simp products_out)

-- the quotients of a vector by a common divisor
pub quotients : (g : ℕ) (x : List ℤ) → Each (DividesInteger g) x → (w : List ℤ) × (scaled (pos g) w ≡ x)
quotients g [] h = ([], refl)
quotients g (a ∷ x) (more (k, e) ps) = let r = quotients g x ps in
    (k ∷ r.0, ap₂ (λ (b : ℤ) (y : List ℤ). b ∷ y) (*ℤ_comm (pos g) k ∙ e) r.1)

-- each vector that isn't 0 is a positive multiple of a primitive one
pub record HasPrimitivePart (v : List ℤ) : Type 0 where
  pub factor : ℕ
  pub part : List ℤ
  pub positive : 0 < factor
  pub primitive : IsPrimitive part
  pub same : scaled (pos factor) part ≡ v

-- the quotients by the greatest common divisor are primitive
primitive_quotients : (v : List ℤ) (g : ℕ) → 0 < g → HasGcd v g → HasPrimitivePart v
primitive_quotients v g h s = let r = quotients g v s.divides in record {
  factor = g;
  part = r.0;
  positive = h;
  primitive = primitive_from_combination s.coefficients r.0
      (cancel_left (pos g) (dot s.coefficients r.0) (pos 1) (positive_nonzero (pos g) (omega (arith, linear)))
      (sym (dot-scaled_right (pos g) s.coefficients r.0) ∙ ap (dot s.coefficients) r.1 ∙ s.combination ∙ simp products_out));
  same = r.1;
}

-- where 0 is a common divisor all entries are 0
zero_gcd : (v : List ℤ) → Each (DividesInteger 0) v → Each (λ a. a ≡ pos 0) v
zero_gcd [] h = empty
zero_gcd (a ∷ v) (more p ps) = more (zero_divides a p) (zero_gcd v ps)

-- by the greatest common divisor, which is 0 only for the vector 0
part_by : (v : List ℤ) (g : ℕ) → (All (λ a. a ≡ pos 0) v → ⊥) → HasGcd v g → HasPrimitivePart v
part_by v zero n s = absurd (n (all_from_each (zero_gcd v s.divides)))
part_by v (suc g) n s = primitive_quotients v (suc g) (omega arith) s

-- the primitive part of a vector that is not 0
pub primitive_part : (v : List ℤ) → (All (λ a. a ≡ pos 0) v → ⊥) → HasPrimitivePart v
primitive_part v n = let s = gcd_exists v in part_by v s.0 n s.1

-- an integer vector on the line of a primitive one is an integer multiple of it
scaled_cancel : (q k : ℤ) (x f : List ℤ) → q ≢ pos 0 → scaled q x ≡ scaled (q *ℤ k) f → x ≡ scaled k f
scaled_cancel q k [] [] n e = refl
scaled_cancel q k [] (b ∷ f) n e = absurd (empty_or_more e)
  where
    empty_or_more : [] ≡ scaled (q *ℤ k) (b ∷ f) → ⊥
    empty_or_more e = cc
scaled_cancel q k (a ∷ x) [] n e = absurd (more_or_empty e)
  where
    more_or_empty : scaled q (a ∷ x) ≡ [] → ⊥
    more_or_empty e = cc
scaled_cancel q k (a ∷ x) (b ∷ f) n e = ap₂ (λ (c : ℤ) (y : List ℤ). c ∷ y) (cancel_left q a (k *ℤ b) n (heads e ∙ *ℤ_assoc q k b))
    (scaled_cancel q k x f n (tails e))
  where
    heads : scaled q (a ∷ x) ≡ scaled (q *ℤ k) (b ∷ f) → q *ℤ a ≡ (q *ℤ k) *ℤ b
    heads e = cc

    tails : scaled q (a ∷ x) ≡ scaled (q *ℤ k) (b ∷ f) → scaled q x ≡ scaled (q *ℤ k) f
    tails e = cc

-- the multiple is the combination that gives 1, taken of x
pub multiple_of_primitive : (q p : ℤ) (x f : List ℤ) → q ≢ pos 0 → IsPrimitive f → scaled q x ≡ scaled p f
    → (k : ℤ) × (p ≡ q *ℤ k) × (x ≡ scaled k f)
multiple_of_primitive q p x f n h e = let c = primitive_combination f h in
    let s : p ≡ q *ℤ dot c.0 x = sym (*ℤ-one p) ∙ ap (λ (z : ℤ). p *ℤ z) (sym c.1) ∙ sym (dot-scaled_right p c.0 f) ∙ ap (dot c.0) (sym e)
    ∙ dot-scaled_right q c.0 x in
    (dot c.0 x, s, scaled_cancel q (dot c.0 x) x f n (e ∙ ap (λ (z : ℤ). scaled z f) s))

-- two primitive vectors on one line are equal or opposite
each_scaled_divides : (n : ℕ) (k : ℤ) (f : List ℤ) → ((b : ℤ) → DividesInteger n (k *ℤ b)) → Each (DividesInteger n) (scaled k f)
each_scaled_divides n k [] h = empty
each_scaled_divides n k (b ∷ f) h = more (h b) (each_scaled_divides n k f h)

-- a multiple of a vector that is primitive is one by 1 or -1
primitive_scale : (k : ℤ) (f : List ℤ) → IsPrimitive (scaled k f) → (k ≡ pos 1) ⊎ (k ≡ negsuc 0)
primitive_scale (pos n) f h = inl (ap pos (h n (all_from_each (each_scaled_divides n (pos n) f (λ b. (b, *ℤ_comm b (pos n)))))))
primitive_scale (negsuc n) f h =
    inr (negsuc_one (h (suc n) (all_from_each
    (each_scaled_divides (suc n) (negsuc n) f
    (λ b. (neg_ℤ b, neg-*ℤ b (pos (suc n)) ∙ sym (*ℤ-neg b (pos (suc n))) ∙ *ℤ_comm b (negsuc n)))))))
  where
    negsuc_one : suc n ≡ 1 → negsuc n ≡ negsuc 0
    negsuc_one e = omega (arith, linear)

-- two primitive vectors with a common multiple
pub primitive_same : (q p : ℤ) (x f : List ℤ) → q ≢ pos 0 → IsPrimitive x → IsPrimitive f → scaled q x ≡ scaled p f
    → (x ≡ f) ⊎ (x ≡ scaled (negsuc 0) f)
primitive_same q p x f n hx hf e = let s = multiple_of_primitive q p x f n hf e in
    ⊎_elim (λ (u : s.0 ≡ pos 1). inl (s.2 ∙ ap (λ (z : ℤ). scaled z f) u ∙ scaled-one f))
    (λ (u : s.0 ≡ negsuc 0). inr (s.2 ∙ ap (λ (z : ℤ). scaled z f) u)) (primitive_scale s.0 f (subst IsPrimitive s.2 hx))
