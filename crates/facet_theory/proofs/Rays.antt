-- The theorem on rays: each function that is nonnegative on vectors that span is, up to a positive multiple, a sum of rays. A ray is a
-- nonnegative function of which all functions that are 0 along it are multiples.
use Rattle.std.proofs.Common.{◌≡◌, ◌≢◌, ℕ, zero, suc, ◌<◌, List, [], ◌∷◌, ◌++◌, length, map, ℤ, pos, ◌+ℤ◌, ◌*ℤ◌, neg_ℤ, ◌<ℤ◌, ◌⊎◌, inl, inr, sym, ap, ◌∙◌, arith}
use Rattle.lattice_theory.specs.Vector.{dot, scaled, IsVectorMultiple}
use Rattle.elimination.specs.Elimination.{Member, Annihilates, IsKernel, ArePivots}
use Rattle.lattice_theory.proofs.Integers.{products_out, linear, neg-*ℤ, product_nonnegative, product_positive, product_nonzero, positive_nonzero, factor_zero, *ℤ_assoc, zero_terms}
use Rattle.lattice_theory.proofs.Members.{In, here, there, Each, all_from_each, each_from_all, each_in, each_from_in, each_head, each_tail, in_append_cases}
use Rattle.lattice_theory.proofs.Vectors.{combined, dot-combined_left, length-combined, dot-scaled_left, length-scaled, same_from_pairings}
use Rattle.elimination.proofs.KernelLaws.{kernel_exists_lem}
use Rattle.elimination.proofs.KernelSize.{empty_kernel_lem, single_kernel_lem, large_kernel_lem}
use Rattle.facet_theory.proofs.Values.{IsAbove, VanishesAlong, IsSolid, nonzeros, Nonzero, find_nonzero, ZerosOf, zeros_of, dot-zero}
use Rattle.facet_theory.proofs.Tilt.{Split, split}
use Rattle.facet_theory.proofs.Signs.{nonnegative_same, nonnegative_weaker, cancelled}

-- g is a multiple of f, told by the values
pub record IsMultipleOf (g f : List ℤ) : Type 0 where
  pub left : ℤ
  pub right : ℤ
  pub nonzero : left ≢ pos 0
  pub same : (y : List ℤ) → left *ℤ dot g y ≡ right *ℤ dot f y

-- a ray of vectors of length m
pub record IsRay (m : ℕ) (S : List (List ℤ)) (r : List ℤ) : Type 0 where
  pub long : length r ≡ m
  pub above : IsAbove S r
  pub somewhere : Nonzero S r
  pub determined : (g : List ℤ) → length g ≡ m → VanishesAlong S r g → IsMultipleOf g r

-- the sum of the values
abbrev pub total : List (List ℤ) → List ℤ → ℤ
total [] y = pos 0
total (r ∷ rs) y = dot r y +ℤ total rs y

-- some positive multiple of f is a sum of rays
pub record IsSumOfRays (m : ℕ) (S : List (List ℤ)) (f : List ℤ) : Type 0 where
  pub multiplier : ℤ
  pub positive : pos 0 <ℤ multiplier
  pub summands : List (List ℤ)
  pub are_rays : (r : List ℤ) → In r summands → IsRay m S r
  pub sums : (y : List ℤ) → multiplier *ℤ dot f y ≡ total summands y

-- between multiples by values and by entries
pub multiple_of : (g f : List ℤ) → IsVectorMultiple g f → IsMultipleOf g f
multiple_of g f h = record {
  left = h.left;
  right = h.right;
  nonzero = h.nonzero;
  same = λ y. sym (dot-scaled_left h.left g y) ∙ ap (λ (x : List ℤ). dot x y) h.same ∙ dot-scaled_left h.right f y;
}

-- and back, for vectors of length m
pub vector_multiple : (m : ℕ) (g f : List ℤ) → length g ≡ m → length f ≡ m → IsMultipleOf g f → IsVectorMultiple g f
vector_multiple m g f e e' h = record {
  left = h.left;
  right = h.right;
  nonzero = h.nonzero;
  same = same_from_pairings m (scaled h.left g) (scaled h.right f) (length-scaled h.left g ∙ e) (length-scaled h.right f ∙ e')
      (λ y l. dot-scaled_left h.left g y ∙ h.same y ∙ sym (dot-scaled_left h.right f y));
}

-- a multiple of r is a multiple of f, where r is a multiple of f
pub multiple_through : (g r f : List ℤ) (d : ℤ) → IsMultipleOf g r → ((y : List ℤ) → dot r y ≡ d *ℤ dot f y) → IsMultipleOf g f
multiple_through g r f d m same = record {
  left = m.left;
  right = m.right *ℤ d;
  nonzero = m.nonzero;
  same = λ y. m.same y ∙ ap (λ (z : ℤ). m.right *ℤ z) (same y) ∙ sym (*ℤ_assoc m.right d (dot f y));
}

-- a positive multiple of a ray is a ray
pub ray_scaled : (m : ℕ) (S : List (List ℤ)) (k : ℤ) (r : List ℤ) → pos 0 <ℤ k → IsRay m S r → IsRay m S (scaled k r)
ray_scaled m S k r p h = record {
  long = length-scaled k r ∙ h.long;
  above = record { at = λ v i. nonnegative_same (sym (same v)) (product_nonnegative k (dot r v) (nonnegative_weaker p) (h.above.at v i)) };
  somewhere = record {
    place = h.somewhere.place;
    inside = h.somewhere.inside;
    nonzero = λ e. product_nonzero k (dot r h.somewhere.place)
        (positive_nonzero k p) h.somewhere.nonzero (sym (same h.somewhere.place) ∙ e);
  };
  determined = λ g l a. of_scaled g (h.determined g l (record { at = λ v i e. a.at v i (same v ∙ ap (λ (z : ℤ). k *ℤ z) e ∙ zero k) }));
}
  where
    same : (y : List ℤ) → dot (scaled k r) y ≡ k *ℤ dot r y
    same y = dot-scaled_left k r y

    zero : (a : ℤ) → a *ℤ pos 0 ≡ pos 0
    zero a = simp products_out

    sides : (q p k g r s : ℤ) → q *ℤ g ≡ p *ℤ r → s ≡ k *ℤ r → (k *ℤ q) *ℤ g ≡ p *ℤ s
    sides q p k g r s e f = rw f (let e' = simp products_out at (ap (λ (z : ℤ). k *ℤ z) e) in simp products_out (omega (arith, linear)))

    of_scaled : (g : List ℤ) → IsMultipleOf g r → IsMultipleOf g (scaled k r)
    of_scaled g q = record {
      left = k *ℤ q.left;
      right = q.right;
      nonzero = product_nonzero k q.left (positive_nonzero k p) q.nonzero;
      same = λ y. sides q.left q.right k (dot g y) (dot r y) (dot (scaled k r) y) (q.same y) (same y);
    }

-- a list of rays, each taken k times
pub total-scaled : (k : ℤ) (rs : List (List ℤ)) (y : List ℤ) → total (map (scaled k) rs) y ≡ k *ℤ total rs y
total-scaled k [] y = simp products_out
total-scaled k (r ∷ rs) y = let e = total-scaled k rs y in let e' = dot-scaled_left k r y in simp products_out (omega (arith, linear))

-- two lists of rays
pub total-append : (rs ss : List (List ℤ)) (y : List ℤ) → total (rs ++ ss) y ≡ total rs y +ℤ total ss y
total-append [] ss y = omega (arith, linear)
total-append (r ∷ rs) ss y = let e = total-append rs ss y in omega (arith, linear)

-- positive multiples of rays are rays
rays_scaled : (m : ℕ) (S : List (List ℤ)) (k : ℤ) → pos 0 <ℤ k → (rs : List (List ℤ)) → ((r : List ℤ) → In r rs → IsRay m S r)
    → (r : List ℤ)
    → In r (map (scaled k) rs) → IsRay m S r
rays_scaled m S k p [] h r i = elim i [ ]
rays_scaled m S k p (s ∷ rs) h r here = ray_scaled m S k s p (h s here)
rays_scaled m S k p (s ∷ rs) h r (there i) = rays_scaled m S k p rs (λ t j. h t (there j)) r i

-- where a positive multiple of f is made of two sums of rays, f is one
sum_of_split : (m : ℕ) (S : List (List ℤ)) (f : List ℤ) (s : Split m S f) → IsSumOfRays m S s.left → IsSumOfRays m S s.right
    → IsSumOfRays m S f
sum_of_split m S f s t u = record {
  multiplier = (t.multiplier *ℤ u.multiplier) *ℤ s.c;
  positive = product_positive (t.multiplier *ℤ u.multiplier) s.c
      (product_positive t.multiplier u.multiplier t.positive u.positive) s.c_positive;
  summands = map (scaled k) t.summands ++ map (scaled l) u.summands;
  are_rays = rays;
  sums = λ y. sum t.multiplier u.multiplier s.a s.b s.c (dot f y) (dot s.left y) (dot s.right y) (total t.summands y) (total u.summands y)
      (s.same y)
      (t.sums y) (u.sums y) ∙ sym (parts y);
}
  where
    k : ℤ
    k = u.multiplier *ℤ s.a

    l : ℤ
    l = t.multiplier *ℤ s.b

    rays : (r : List ℤ) → In r (map (scaled k) t.summands ++ map (scaled l) u.summands) → IsRay m S r
    rays r i = by (in_append_cases (map (scaled k) t.summands) (map (scaled l) u.summands) i)
      where
        by : In r (map (scaled k) t.summands) ⊎ In r (map (scaled l) u.summands) → IsRay m S r
        by (inl j) = rays_scaled m S k (product_positive u.multiplier s.a u.positive s.a_positive) t.summands t.are_rays r j
        by (inr j) = rays_scaled m S l (product_positive t.multiplier s.b t.positive s.b_positive) u.summands u.are_rays r j

    parts : (y : List ℤ) → total (map (scaled k) t.summands ++ map (scaled l) u.summands) y ≡ k *ℤ total t.summands y
        +ℤ l *ℤ total u.summands y
    parts y = let e = total-append (map (scaled k) t.summands)
        (map (scaled l) u.summands) y in let e' = total-scaled k t.summands y in let e'' = total-scaled l u.summands y in
        omega (arith, linear)

    sum : (p q a b c f g h x z : ℤ) → c *ℤ f ≡ a *ℤ g +ℤ b *ℤ h → p *ℤ g ≡ x → q *ℤ h ≡ z
        → ((p *ℤ q) *ℤ c) *ℤ f ≡ (q *ℤ a) *ℤ x +ℤ (p *ℤ b) *ℤ z
    sum p q a b c f g h x z e e' e'' = rw (← e', ← e'') (let w = simp products_out at (ap (λ (n : ℤ). (p *ℤ q) *ℤ n) e) in
        simp products_out (omega (arith, linear)))

-- between values at the zeros of f and what elimination says of them
pub annihilates : (S : List (List ℤ)) (f g : List ℤ) (z : ZerosOf S f) → VanishesAlong S f g → Annihilates z.list g
annihilates S f g z a = all_from_each (each_from_in z.list (λ v i. a.at v (z.among v i) (z.zero v i)))

-- and back
pub along_from : (S : List (List ℤ)) (f g : List ℤ) (z : ZerosOf S f) → Annihilates z.list g → VanishesAlong S f g
along_from S f g z a = record { at = λ v i e. each_in (each_from_all (λ w. dot g w ≡ pos 0) z.list a) (z.all v i e) }

-- two multiples of one vector: where the second isn't 0, the first is a multiple of it
multiple_of_same : (g f k : List ℤ) → IsMultipleOf g k → IsMultipleOf f k → (s : List ℤ) → dot f s ≢ pos 0 → IsMultipleOf g f
multiple_of_same g f k a b s n = record {
  left = b.right *ℤ a.left;
  right = a.right *ℤ b.left;
  nonzero = product_nonzero b.right a.left right_nonzero a.nonzero;
  same = λ y. sides (dot g y) (dot f y) (dot k y) a.left a.right b.left b.right (a.same y) (b.same y);
}
  where
    right_nonzero : b.right ≢ pos 0
    right_nonzero e = n (factor_zero b.left (dot f s) b.nonzero (b.same s ∙ ap (λ (z : ℤ). z *ℤ dot k s) e ∙ simp products_out))

    sides : (g f k p q r t : ℤ) → p *ℤ g ≡ q *ℤ k → r *ℤ f ≡ t *ℤ k → (t *ℤ p) *ℤ g ≡ (q *ℤ r) *ℤ f
    sides g f k p q r t e e' = let w = simp products_out at (ap (λ (z : ℤ). t *ℤ z) e) in let w' = simp products_out at
        (ap (λ (z : ℤ). q *ℤ z) e') in simp products_out (omega (arith, linear))

-- terms on two sides
balanced : (a b f g : ℤ) → a *ℤ g +ℤ neg_ℤ b *ℤ f ≡ pos 0 → a *ℤ g ≡ b *ℤ f
balanced a b f g e = let e' = simp neg-*ℤ at e in omega (arith, linear)

-- a function that is 0 along f is a multiple of f, or f splits
multiple_or_split : (m : ℕ) (S : List (List ℤ)) (f g : List ℤ) → IsSolid m S → length f ≡ m → length g ≡ m → IsAbove S f → (n : Nonzero S f)
    → VanishesAlong S f g → IsMultipleOf g f ⊎ Split m S f
multiple_or_split m S f g solid e e' above n a = by (find_nonzero S h)
  where
    x : ℤ
    x = dot f n.place

    y : ℤ
    y = dot g n.place

    h : List ℤ
    h = combined x g (neg_ℤ y) f

    same : (v : List ℤ) → dot h v ≡ x *ℤ dot g v +ℤ neg_ℤ y *ℤ dot f v
    same v = dot-combined_left x g (neg_ℤ y) f v

    long : length h ≡ m
    long = length-combined m x g (neg_ℤ y) f e' e

    along : VanishesAlong S f h
    along = record { at = λ v i z. same v ∙ zero_terms x (neg_ℤ y) (dot g v) (dot f v) (a.at v i z) z }

    by : ((v : List ℤ) → In v S → dot h v ≡ pos 0) ⊎ Nonzero S h → IsMultipleOf g f ⊎ Split m S f
    by (inl z) = inl (record {
      left = x;
      right = y;
      nonzero = n.nonzero;
      same = λ v. balanced x y (dot f v) (dot g v) (sym (same v) ∙ solid.only_zero h long z v);
    })
    by (inr k) = inr (split m S f h e long above along n.place n.inside n.nonzero (same n.place ∙ cancelled x y) k.place k.inside k.nonzero)

-- a nonnegative function that isn't 0 is a ray or splits
ray_or_split : (m : ℕ) (S : List (List ℤ)) (f : List ℤ) → IsSolid m S → ((v : List ℤ) → In v S → length v ≡ m) → length f ≡ m → IsAbove S f
    → Nonzero S f → IsRay m S f ⊎ Split m S f
ray_or_split m S f solid dims e above n = by kernel.0 kernel.2
  where
    z : ZerosOf S f
    z = zeros_of S f

    kernel : (ks : List Member) × (pivots : List (List ℤ)) × IsKernel m z.list ks × ArePivots m z.list pivots ks
    kernel = kernel_exists_lem m z.list (all_from_each (each_from_in z.list (λ v i. dims v (z.among v i))))

    f_annihilates : Annihilates z.list f
    f_annihilates = annihilates S f f z (record { at = λ v i e. e })

    single : (k : Member) → IsKernel m z.list (k ∷ []) → IsRay m S f
    single k h = record {
      long = e;
      above = above;
      somewhere = n;
      determined = λ g l a. multiple_of_same g f k.vector
          (multiple_of g k.vector (single_kernel_lem m z.list k h g l (annihilates S f g z a)))
          (multiple_of f k.vector (single_kernel_lem m z.list k h f e f_annihilates)) n.place n.nonzero;
    }

    many : (k l : Member) (ks : List Member) → IsKernel m z.list (k ∷ (l ∷ ks)) → length k.vector ≡ m → length l.vector ≡ m
        → IsMultipleOf k.vector f
        ⊎ Split m S f → IsMultipleOf l.vector f ⊎ Split m S f → Split m S f
    many k l ks h long long' (inr s) t = s
    many k l ks h long long' (inl a) (inr s) = s
    many k l ks h long long' (inl a) (inl b) = absurd (large_kernel_lem m z.list k l ks h f (vector_multiple m k.vector f long e a)
        (vector_multiple m l.vector f long' e b))

    by : (ks : List Member) → IsKernel m z.list ks → IsRay m S f ⊎ Split m S f
    by [] h = absurd (n.nonzero (dot-zero f n.place (each_from_all (λ a. a ≡ pos 0) f (empty_kernel_lem m z.list h f e f_annihilates))))
    by (k ∷ []) h = inl (single k h)
    by (k ∷ (l ∷ ks)) h = inr (many k l ks h (each_head lengths) (each_head (each_tail lengths))
        (candidate k (each_head lengths) (each_head kills))
        (candidate l (each_head (each_tail lengths)) (each_head (each_tail kills))))
      where
        lengths : Each (λ (k : Member). length k.vector ≡ m) (k ∷ (l ∷ ks))
        lengths = each_from_all (λ (k : Member). length k.vector ≡ m) (k ∷ (l ∷ ks)) h.lengths

        kills : Each (λ (k : Member). Annihilates z.list k.vector) (k ∷ (l ∷ ks))
        kills = each_from_all (λ (k : Member). Annihilates z.list k.vector) (k ∷ (l ∷ ks)) h.annihilate

        candidate : (k : Member) → length k.vector ≡ m → Annihilates z.list k.vector → IsMultipleOf k.vector f ⊎ Split m S f
        candidate k long a = multiple_or_split m S f k.vector solid e long above n (along_from S f k.vector z a)

-- a function that is 0 on S is an empty sum, and a ray is a sum of one
sum_of_none : (m : ℕ) (S : List (List ℤ)) (f : List ℤ) → ((y : List ℤ) → dot f y ≡ pos 0) → IsSumOfRays m S f
sum_of_none m S f e = record {
  multiplier = pos 1;
  positive = omega (arith, linear);
  summands = [];
  are_rays = λ r i. elim i [ ];
  sums = λ y. ap (λ (z : ℤ). pos 1 *ℤ z) (e y);
}

-- a ray itself
sum_of_ray : (m : ℕ) (S : List (List ℤ)) (f : List ℤ) → IsRay m S f → IsSumOfRays m S f
sum_of_ray m S f h = record {
  multiplier = pos 1;
  positive = omega (arith, linear);
  summands = f ∷ [];
  are_rays = only;
  sums = λ y. simp products_out (omega (arith, linear));
}
  where
    only : (r : List ℤ) → In r (f ∷ []) → IsRay m S r
    only r here = h
    only r (there i) = elim i [ ]

-- the theorem, by induction on a bound of the number of vectors at which f isn't 0
rays_below : (m : ℕ) (S : List (List ℤ)) → IsSolid m S → ((v : List ℤ) → In v S → length v ≡ m) → (bound : ℕ) (f : List ℤ) → length f ≡ m
    → IsAbove S f → nonzeros S f < bound → IsSumOfRays m S f
rays_below m S solid dims zero f e above h = absurd (omega arith)
rays_below m S solid dims (suc bound) f e above h = by (find_nonzero S f) (λ n. ray_or_split m S f solid dims e above n)
    (λ g l a b. rays_below m S solid dims bound g l a b)
  where
    both : ((g : List ℤ) → length g ≡ m → IsAbove S g → nonzeros S g < bound → IsSumOfRays m S g) → IsRay m S f ⊎ Split m S f
        → IsSumOfRays m S f
    both smaller (inl r) = sum_of_ray m S f r
    both smaller (inr s) = sum_of_split m S f s (smaller s.left s.left_long s.left_above (less s.left_fewer))
        (smaller s.right s.right_long s.right_above (less s.right_fewer))
      where
        less : {a : ℕ} → a < nonzeros S f → a < bound
        less k = omega arith

    by : ((v : List ℤ) → In v S → dot f v ≡ pos 0) ⊎ Nonzero S f → (Nonzero S f → IsRay m S f ⊎ Split m S f)
        → ((g : List ℤ) → length g ≡ m → IsAbove S g → nonzeros S g < bound → IsSumOfRays m S g) → IsSumOfRays m S f
    by (inl z) either smaller = sum_of_none m S f (solid.only_zero f e z)
    by (inr n) either smaller = both smaller (either n)

-- each nonnegative function is a sum of rays, up to a positive multiple
pub rays_generate : (m : ℕ) (S : List (List ℤ)) → IsSolid m S → ((v : List ℤ) → In v S → length v ≡ m) → (f : List ℤ) → length f ≡ m
    → IsAbove S f → IsSumOfRays m S f
rays_generate m S solid dims f e above = rays_below m S solid dims (suc (nonzeros S f)) f e above (omega arith)
