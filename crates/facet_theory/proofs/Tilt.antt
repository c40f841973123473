-- From a function f that is nonnegative on S and a function h that is 0 along
-- f: a function a f - b h that is nonnegative too, and 0 at more vectors.
use Rattle.std.proofs.Common.{◌≡◌, ◌≢◌, ℕ, ◌<◌, List, [], ◌∷◌, length, ℤ, pos, ◌+ℤ◌, ◌-ℤ◌, ◌*ℤ◌, neg_ℤ, ◌≤ℤ◌, ◌<ℤ◌, ◌⊎◌, inl, inr, sym, ap, ◌∙◌, arith}
use Rattle.lattice_theory.specs.Vector.{dot, scaled}
use Rattle.lattice_theory.proofs.Integers.{products_out, linear, positive_or_not, negative_or_not, product_nonnegative, product_positive, nonnegative_factor, positive_nonzero, zero_terms}
use Rattle.lattice_theory.proofs.Members.{In, here, there}
use Rattle.lattice_theory.proofs.Vectors.{combined, dot-combined_left, length-combined, dot-scaled_left, length-scaled}
use Rattle.facet_theory.proofs.Values.{IsAbove, VanishesAlong, nonzeros, nonzeros_lt}
use Rattle.facet_theory.proofs.Signs.{nonnegative_same, positive_from, positive_sum, cancelled}

-- a vector of S at which h is positive and the quotient f / h is least
pub record Least (S : List (List ℤ)) (f h : List ℤ) : Type 0 where
  pub place : List ℤ
  pub inside : In place S
  pub positive : pos 0 <ℤ dot h place
  pub least : (v : List ℤ) → In v S → pos 0 <ℤ dot h v → (dot f place *ℤ dot h v) ≤ℤ (dot f v *ℤ dot h place)

-- the order of quotients is transitive
quotients_trans : (fv hv fa ha fw hw : ℤ) → pos 0 <ℤ hv → pos 0 <ℤ ha → pos 0 <ℤ hw → (fv *ℤ ha) ≤ℤ (fa *ℤ hv) → (fa *ℤ hw) ≤ℤ (fw *ℤ ha)
    → (fv *ℤ hw) ≤ℤ (fw *ℤ hv)
quotients_trans fv hv fa ha fw hw p q r k l =
    let k' : pos 0 ≤ℤ (fa *ℤ hv -ℤ fv *ℤ ha) = omega (arith, linear) in
    let l' : pos 0 ≤ℤ (fw *ℤ ha -ℤ fa *ℤ hw) = omega (arith, linear) in
    let p' : pos 0 ≤ℤ hv = omega (arith, linear) in
    let r' : pos 0 ≤ℤ hw = omega (arith, linear) in
    let s = simp products_out at (product_nonnegative hw (fa *ℤ hv -ℤ fv *ℤ ha) r' k') in
    let t = simp products_out at (product_nonnegative hv (fw *ℤ ha -ℤ fa *ℤ hw) p' l') in
    let g : pos 0 ≤ℤ (ha *ℤ (fw *ℤ hv -ℤ fv *ℤ hw)) = simp products_out (omega (arith, linear)) in
    let e : pos 0 ≤ℤ (fw *ℤ hv -ℤ fv *ℤ hw) = nonnegative_factor ha (fw *ℤ hv -ℤ fv *ℤ hw) q g in
    omega (arith, linear)

-- one more vector: v is the new one where its quotient is smaller
least_more : (S : List (List ℤ)) (f h v : List ℤ) → pos 0 <ℤ dot h v → Least S f h → Least (v ∷ S) f h
least_more S f h v p l = by (negative_or_not (dot f v *ℤ dot h l.place -ℤ dot f l.place *ℤ dot h v))
  where
    kept : pos 0 ≤ℤ (dot f v *ℤ dot h l.place -ℤ dot f l.place *ℤ dot h v) → (w : List ℤ) → In w (v ∷ S) → pos 0 <ℤ dot h w
        → (dot f l.place *ℤ dot h w) ≤ℤ (dot f w *ℤ dot h l.place)
    kept c w here q = omega (arith, linear)
    kept c w (there i) q = l.least w i q

    new : (dot f v *ℤ dot h l.place -ℤ dot f l.place *ℤ dot h v) <ℤ pos 0 → (w : List ℤ) → In w (v ∷ S) → pos 0 <ℤ dot h w
        → (dot f v *ℤ dot h w) ≤ℤ (dot f w *ℤ dot h v)
    new c w here q = omega (arith, linear)
    new c w (there i) q = quotients_trans (dot f v) (dot h v) (dot f l.place) (dot h l.place) (dot f w) (dot h w) p l.positive q
        (omega (arith, linear)) (l.least w i q)

    by : ((dot f v *ℤ dot h l.place -ℤ dot f l.place *ℤ dot h v) <ℤ pos 0)
        ⊎ (pos 0 ≤ℤ (dot f v *ℤ dot h l.place -ℤ dot f l.place *ℤ dot h v)) → Least (v ∷ S) f h
    by (inl c) = record { place = v; inside = here; positive = p; least = new c }
    by (inr c) = record { place = l.place; inside = there l.inside; positive = l.positive; least = kept c }

-- the first vector: nothing to compare with
least_first : (S : List (List ℤ)) (f h v : List ℤ) → pos 0 <ℤ dot h v → ((w : List ℤ) → In w S → dot h w ≤ℤ pos 0) → Least (v ∷ S) f h
least_first S f h v p n = record { place = v; inside = here; positive = p; least = only }
  where
    only : (w : List ℤ) → In w (v ∷ S) → pos 0 <ℤ dot h w → (dot f v *ℤ dot h w) ≤ℤ (dot f w *ℤ dot h v)
    only w here q = omega (arith, linear)
    only w (there i) q = let c = n w i in absurd (omega (arith, linear))

-- a vector at which h isn't positive doesn't count
least_other : (S : List (List ℤ)) (f h v : List ℤ) → dot h v ≤ℤ pos 0 → Least S f h → Least (v ∷ S) f h
least_other S f h v n l = record { place = l.place; inside = there l.inside; positive = l.positive; least = same }
  where
    same : (w : List ℤ) → In w (v ∷ S) → pos 0 <ℤ dot h w → (dot f l.place *ℤ dot h w) ≤ℤ (dot f w *ℤ dot h l.place)
    same w here q = absurd (omega (arith, linear))
    same w (there i) q = l.least w i q

-- h is nowhere positive on S, or there is a least quotient
pub find_least : (S : List (List ℤ)) (f h : List ℤ) → ((v : List ℤ) → In v S → dot h v ≤ℤ pos 0) ⊎ Least S f h
find_least [] f h = inl (λ v i. elim i [ ])
find_least (v ∷ S) f h = by (positive_or_not (dot h v)) (find_least S f h)
  where
    all : dot h v ≤ℤ pos 0 → ((w : List ℤ) → In w S → dot h w ≤ℤ pos 0) → (w : List ℤ) → In w (v ∷ S) → dot h w ≤ℤ pos 0
    all c n w here = c
    all c n w (there i) = n w i

    by : (pos 0 <ℤ dot h v) ⊎ (dot h v ≤ℤ pos 0) → ((w : List ℤ) → In w S → dot h w ≤ℤ pos 0) ⊎ Least S f h
        → ((w : List ℤ) → In w (v ∷ S) → dot h w ≤ℤ pos 0) ⊎ Least (v ∷ S) f h
    by (inl p) (inl n) = inr (least_first S f h v p n)
    by (inl p) (inr l) = inr (least_more S f h v p l)
    by (inr c) (inl n) = inl (all c n)
    by (inr c) (inr l) = inr (least_other S f h v c l)

-- a f - b h, with positive a and b: nonnegative on S, and 0 at more vectors than f
pub record Tilted (m : ℕ) (S : List (List ℤ)) (f h : List ℤ) : Type 0 where
  pub vector : List ℤ
  pub long : length vector ≡ m
  pub above : IsAbove S vector
  pub fewer : nonzeros S vector < nonzeros S f
  pub a : ℤ
  pub a_positive : pos 0 <ℤ a
  pub b : ℤ
  pub b_positive : pos 0 <ℤ b
  pub same : (y : List ℤ) → dot vector y ≡ a *ℤ dot f y +ℤ neg_ℤ b *ℤ dot h y

-- the value at a vector is nonnegative
tilted_nonnegative : (fv hv fa ha : ℤ) → pos 0 ≤ℤ fv → pos 0 ≤ℤ fa → pos 0 <ℤ ha → (pos 0 <ℤ hv → (fa *ℤ hv) ≤ℤ (fv *ℤ ha))
    → pos 0 ≤ℤ (ha *ℤ fv +ℤ neg_ℤ fa *ℤ hv)
tilted_nonnegative fv hv fa ha k l p c = by (positive_or_not hv)
  where
    by : (pos 0 <ℤ hv) ⊎ (hv ≤ℤ pos 0) → pos 0 ≤ℤ (ha *ℤ fv +ℤ neg_ℤ fa *ℤ hv)
    by (inl q) = let e = simp products_out at (c q) in simp products_out (omega (arith, linear))
    by (inr n) =
        let p' : pos 0 ≤ℤ ha = omega (arith, linear) in
        let n' : pos 0 ≤ℤ neg_ℤ hv = omega (arith, linear) in
        let s = simp products_out at (product_nonnegative ha fv p' k) in
        let t = simp products_out at (product_nonnegative fa (neg_ℤ hv) l n') in
        simp products_out (omega (arith, linear))

-- the tilted function at the least quotient
pub tilt : (m : ℕ) (S : List (List ℤ)) (f h : List ℤ) → length f ≡ m → length h ≡ m → IsAbove S f → VanishesAlong S f h → Least S f h
    → Tilted m S f h
tilt m S f h e e' above along l = record {
  vector = u;
  long = length-combined m a f (neg_ℤ b) h e e';
  above = record {
    at = λ v i. nonnegative_same (sym (same v))
        (tilted_nonnegative (dot f v) (dot h v) b a (above.at v i) (above.at l.place l.inside) l.positive (l.least v i));
  };
  fewer = nonzeros_lt S f u (record { at = λ v i z. same v ∙ zero_terms a (neg_ℤ b) (dot f v) (dot h v) z (along.at v i z) }) l.place
      l.inside nonzero
      (same l.place ∙ cancelled a b);
  a = a;
  a_positive = l.positive;
  b = b;
  b_positive = positive_from b (above.at l.place l.inside) nonzero;
  same = same;
}
  where
    a : ℤ
    a = dot h l.place

    b : ℤ
    b = dot f l.place

    u : List ℤ
    u = combined a f (neg_ℤ b) h

    same : (y : List ℤ) → dot u y ≡ a *ℤ dot f y +ℤ neg_ℤ b *ℤ dot h y
    same y = dot-combined_left a f (neg_ℤ b) h y

    nonzero : dot f l.place ≢ pos 0
    nonzero z = positive_nonzero (dot h l.place) l.positive (along.at l.place l.inside z)

-- signs of a number and its negative
minus_one : (a : ℤ) → neg_ℤ (pos 1) *ℤ a ≡ neg_ℤ a
minus_one a = simp products_out

-- neither is positive
neither : (a b : ℤ) → b ≡ neg_ℤ a → a ≤ℤ pos 0 → b ≤ℤ pos 0 → a ≡ pos 0
neither a b e h k = omega (arith, linear)

-- where the number is not positive its negative is nonnegative
above_from : (a b : ℤ) → b ≡ neg_ℤ a → a ≤ℤ pos 0 → pos 0 ≤ℤ b
above_from a b e h = omega (arith, linear)

-- and the other way
above_from' : (a b : ℤ) → b ≡ neg_ℤ a → b ≤ℤ pos 0 → pos 0 ≤ℤ a
above_from' a b e h = omega (arith, linear)

-- where h isn't 0 on all of S, but at a vector at which f isn't: a positive multiple of f is a sum of two functions that are nonnegative
-- and 0 at more vectors
pub record Split (m : ℕ) (S : List (List ℤ)) (f : List ℤ) : Type 0 where
  pub left : List ℤ
  pub left_long : length left ≡ m
  pub left_above : IsAbove S left
  pub left_fewer : nonzeros S left < nonzeros S f
  pub right : List ℤ
  pub right_long : length right ≡ m
  pub right_above : IsAbove S right
  pub right_fewer : nonzeros S right < nonzeros S f
  pub a : ℤ
  pub a_positive : pos 0 <ℤ a
  pub b : ℤ
  pub b_positive : pos 0 <ℤ b
  pub c : ℤ
  pub c_positive : pos 0 <ℤ c
  pub same : (y : List ℤ) → c *ℤ dot f y ≡ a *ℤ dot left y +ℤ b *ℤ dot right y

-- h is nonnegative: f is a part of h and what is left
split_by_one : (m : ℕ) (S : List (List ℤ)) (f h : List ℤ) → length h ≡ m → IsAbove S h → nonzeros S h < nonzeros S f → Tilted m S f h
    → Split m S f
split_by_one m S f h e above fewer t = record {
  left = t.vector;
  left_long = t.long;
  left_above = t.above;
  left_fewer = t.fewer;
  right = h;
  right_long = e;
  right_above = above;
  right_fewer = fewer;
  a = pos 1;
  a_positive = omega (arith, linear);
  b = t.b;
  b_positive = t.b_positive;
  c = t.a;
  c_positive = t.a_positive;
  same = λ y. sum (dot f y) (dot h y) (dot t.vector y) t.a t.b (t.same y);
}
  where
    sum : (x y z a b : ℤ) → z ≡ a *ℤ x +ℤ neg_ℤ b *ℤ y → a *ℤ x ≡ pos 1 *ℤ z +ℤ b *ℤ y
    sum x y z a b e = rw e (simp products_out (omega (arith, linear)))

-- h has both signs
split_by_two : (m : ℕ) (S : List (List ℤ)) (f h k : List ℤ) → ((y : List ℤ) → dot k y ≡ neg_ℤ (dot h y)) → Tilted m S f h → Tilted m S f k
    → Split m S f
split_by_two m S f h k opposite t u = record {
  left = t.vector;
  left_long = t.long;
  left_above = t.above;
  left_fewer = t.fewer;
  right = u.vector;
  right_long = u.long;
  right_above = u.above;
  right_fewer = u.fewer;
  a = u.b;
  a_positive = u.b_positive;
  b = t.b;
  b_positive = t.b_positive;
  c = u.b *ℤ t.a +ℤ t.b *ℤ u.a;
  c_positive = positive_sum (product_positive u.b t.a u.b_positive t.a_positive) (product_positive t.b u.a t.b_positive u.a_positive);
  same = λ y. sum (dot f y) (dot h y) (dot k y) (dot t.vector y) (dot u.vector y) t.a t.b u.a u.b (opposite y) (t.same y) (u.same y);
}
  where
    sum : (x y y' z w a b c d : ℤ) → y' ≡ neg_ℤ y → z ≡ a *ℤ x +ℤ neg_ℤ b *ℤ y → w ≡ c *ℤ x +ℤ neg_ℤ d *ℤ y'
        → (d *ℤ a +ℤ b *ℤ c) *ℤ x ≡ d *ℤ z +ℤ b *ℤ w
    sum x y y' z w a b c d p q r = rw (q, r, p) (simp products_out (omega (arith, linear)))

-- f splits by each function that is 0 along f and somewhere that f is not, but not everywhere: by the signs that it has
pub split : (m : ℕ) (S : List (List ℤ)) (f h : List ℤ) → length f ≡ m → length h ≡ m → IsAbove S f → VanishesAlong S f h → (s : List ℤ)
    → In s S
    → dot f s ≢ pos 0 → dot h s ≡ pos 0 → (p : List ℤ) → In p S → dot h p ≢ pos 0 → Split m S f
split m S f h e e' above along s i n z p j n' = by (find_least S f h) (find_least S f k)
  where
    k : List ℤ
    k = scaled (neg_ℤ (pos 1)) h

    opposite : (y : List ℤ) → dot k y ≡ neg_ℤ (dot h y)
    opposite y = dot-scaled_left (neg_ℤ (pos 1)) h y ∙ minus_one (dot h y)

    long : length k ≡ m
    long = length-scaled (neg_ℤ (pos 1)) h ∙ e'

    along' : VanishesAlong S f k
    along' = record { at = λ v i z. opposite v ∙ ap neg_ℤ (along.at v i z) }

    by : ((v : List ℤ) → In v S → dot h v ≤ℤ pos 0) ⊎ Least S f h → ((v : List ℤ) → In v S → dot k v ≤ℤ pos 0) ⊎ Least S f k → Split m S f
    by (inl a) (inl b) = absurd (n' (neither (dot h p) (dot k p) (opposite p) (a p j) (b p j)))
    by (inl a) (inr l) = split_by_one m S f k long (record { at = λ v i. above_from (dot h v) (dot k v) (opposite v) (a v i) })
        (nonzeros_lt S f k along' s i n (opposite s ∙ ap neg_ℤ z)) (tilt m S f k e long above along' l)
    by (inr l) (inl b) = split_by_one m S f h e' (record { at = λ v i. above_from' (dot h v) (dot k v) (opposite v) (b v i) })
        (nonzeros_lt S f h along s i n z) (tilt m S f h e e' above along l)
    by (inr l) (inr l') = split_by_two m S f h k opposite (tilt m S f h e e' above along l) (tilt m S f k e long above along' l')
