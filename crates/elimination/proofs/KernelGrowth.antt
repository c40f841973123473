-- Kernels and their pivots with one more vector, and the kernel of any list of vectors.
use Rattle.std.proofs.Common.{◌≡◌, ◌≢◌, ℕ, suc, ◌≤◌, List, [], ◌∷◌, ◌++◌, length, ℤ, pos, negsuc, ◌+ℤ◌, ◌-ℤ◌, ◌*ℤ◌, neg_ℤ, ◌<ℤ◌, ◌⊎◌, inl, inr, ⊎_elim, refl, sym, ap, ◌∙◌, subst, arith, Contains, length-append, append_assoc, append-nil}
use Rattle.lattice_theory.specs.Vector.{entry, dot}
use Rattle.elimination.specs.Elimination.{Member, ArePivots}
use Rattle.lattice_theory.proofs.Integers.{products_out, linear, positive_or_negative, *ℤ-zero, product_positive, minus_one-*ℤ}
use Rattle.lattice_theory.proofs.Members.{Each, empty, more, In, each_head, each_tail, in_append_left, in_append_right, in_append_cases, in_from_contains, contains_from_in}
use Rattle.lattice_theory.proofs.Vectors.{combined, length-combined, entry-combined, dot-combined_left}
use Rattle.elimination.proofs.KernelForm.{IsMember, IsApart, Kernel, apart_head, kernel_in, kernel_out}
use Rattle.elimination.proofs.KernelStep.{Reduces, Reduced, none_left, one_left, kernel_step, kernel_stays}
use Rattle.elimination.proofs.KernelPivot.{Pivot, pivot_or_not, kernel_front}
use Rattle.elimination.proofs.KernelStart.{units, units_kernel, units_pivots}

-- a sign that makes a number that isn't 0 positive
pub record HasSign (d : ℤ) : Type 0 where
  pub sign : ℤ
  pub square : sign *ℤ sign ≡ pos 1
  pub nonzero : sign ≢ pos 0
  pub positive : pos 0 <ℤ (sign *ℤ d)

-- 1 or -1
pub sign_of : (d : ℤ) → d ≢ pos 0 → HasSign d
sign_of d n = ⊎_elim
    (λ (h : pos 0 <ℤ d). record {
      sign = pos 1;
      square = refl;
      nonzero = λ (e : pos 1 ≡ pos 0). absurd (omega (arith, linear));
      positive = simp products_out h;
    })
    (λ (h : pos 0 <ℤ neg_ℤ d). record {
      sign = negsuc 0;
      square = refl;
      nonzero = λ (e : negsuc 0 ≡ pos 0). absurd (omega (arith, linear));
      positive = rw minus_one-*ℤ h;
    })
    (positive_or_negative d n)

-- the member that the step makes, with no common factor taken out
sign_value : (s y d a b c : ℤ) → s *ℤ s ≡ pos 1 → y ≡ (s *ℤ d) *ℤ a +ℤ neg_ℤ (s *ℤ b) *ℤ c → s *ℤ y ≡ d *ℤ a -ℤ b *ℤ c
sign_value s y d a b c q e =
    let u = simp products_out at (ap (λ (z : ℤ). s *ℤ z) e) in
    let v = simp products_out at (ap (λ (z : ℤ). z *ℤ (d *ℤ a)) q) in
    let w = simp products_out at (ap (λ (z : ℤ). z *ℤ (b *ℤ c)) q) in
    omega (arith, linear)

-- that member
made : Member → ℤ → List ℤ → Member → Member
made p s v k = record { own = k.own; vector = combined (s *ℤ dot p.vector v) k.vector (neg_ℤ (s *ℤ dot k.vector v)) p.vector }

-- it is what the step asks for
made_reduces : {m : ℕ} {vectors : List (List ℤ)} {p k : Member} {v : List ℤ} → (s : HasSign (dot p.vector v)) → IsMember m vectors p
    → IsMember m vectors k → IsApart p k → (dot k.vector v ≡ pos 0) ⊎ (p.own ≤ k.own) → Reduces m p v k (made p s.sign v k)
unfolding made
made_reduces {m = m} {p = p} {k = k} {v = v} s hp hk a h = record {
  own = refl;
  dimension = length-combined m (s.sign *ℤ dot p.vector v) k.vector (neg_ℤ (s.sign *ℤ dot k.vector v)) p.vector hk.dimension hp.dimension;
  factor = s.sign;
  nonzero = s.nonzero;
  positive = rw (entry-combined (s.sign *ℤ dot p.vector v) k.vector (neg_ℤ (s.sign *ℤ dot k.vector v)) p.vector k.own)
      (at_own (s.sign *ℤ dot p.vector v) (entry k.vector k.own) (neg_ℤ (s.sign *ℤ dot k.vector v)) (entry p.vector k.own) s.positive
      hk.positive a.first);
  values = λ x. sign_value s.sign (dot (combined (s.sign *ℤ dot p.vector v) k.vector (neg_ℤ (s.sign *ℤ dot k.vector v)) p.vector) x)
      (dot p.vector v) (dot k.vector x) (dot k.vector v) (dot p.vector x) s.square
      (dot-combined_left (s.sign *ℤ dot p.vector v) k.vector (neg_ℤ (s.sign *ℤ dot k.vector v)) p.vector x);
  entries = λ j. sign_value s.sign (entry (combined (s.sign *ℤ dot p.vector v) k.vector (neg_ℤ (s.sign *ℤ dot k.vector v)) p.vector) j)
      (dot p.vector v) (entry k.vector j) (dot k.vector v) (entry p.vector j) s.square
      (entry-combined (s.sign *ℤ dot p.vector v) k.vector (neg_ℤ (s.sign *ℤ dot k.vector v)) p.vector j);
  earlier = h;
}
  where
    at_own : (d a b c : ℤ) → pos 0 <ℤ d → pos 0 <ℤ a → c ≡ pos 0 → pos 0 <ℤ (d *ℤ a +ℤ b *ℤ c)
    at_own d a b c hd ha e = let z = ap (λ (w : ℤ). b *ℤ w) e ∙ *ℤ-zero b in let h = product_positive d a hd ha in omega (arith, linear)

-- one for each member
pub reduced_exists : {m : ℕ} {vectors : List (List ℤ)} {p : Member} {v : List ℤ} {ks : List Member} → HasSign (dot p.vector v)
    → IsMember m vectors p → Each (IsMember m vectors) ks → Each (IsApart p) ks
    → Each (λ k. (dot k.vector v ≡ pos 0) ⊎ (p.own ≤ k.own)) ks → (ls : List Member) × Reduced m p v ks ls
reduced_exists s hp empty a h = ([], none_left)
reduced_exists {p = p} {v = v} s hp (more {x = k} hk hks) a h = let r = reduced_exists s hp hks (each_tail a) (each_tail h) in
    (made p s.sign v k ∷ r.0, one_left (made_reduces s hp hk (each_head a) (each_head h)) r.1)

-- a kernel and pivots of it
pub record Grown (m : ℕ) (vectors : List (List ℤ)) : Type 0 where
  pub kernel : List Member
  pub pivots : List (List ℤ)
  pub is_kernel : Kernel m vectors kernel
  pub are_pivots : ArePivots m vectors pivots kernel

-- what is chosen from the vectors is chosen from one more
push_left : (vectors pivots : List (List ℤ)) (v : List ℤ) → ((w : List ℤ) → Contains pivots w → Contains vectors w) → (w : List ℤ)
    → Contains pivots w → Contains (vectors ++ (v ∷ [])) w
push_left vectors pivots v h w c = contains_from_in (in_append_left (v ∷ []) (in_from_contains vectors (h w c)))

-- and with the new one too
push_both : (vectors pivots : List (List ℤ)) (v : List ℤ) → ((w : List ℤ) → Contains pivots w → Contains vectors w) → (w : List ℤ)
    → Contains (pivots ++ (v ∷ [])) w → Contains (vectors ++ (v ∷ [])) w
push_both vectors pivots v h w c = ⊎_elim
    (λ (i : In w pivots). push_left vectors pivots v h w (contains_from_in i))
    (λ (i : In w (v ∷ [])). contains_from_in (in_append_right vectors i))
    (in_append_cases pivots (v ∷ []) (in_from_contains (pivots ++ (v ∷ [])) c))

-- where each member annihilates the vector
pub pivots_stay : {m : ℕ} {vectors pivots : List (List ℤ)} {ks : List Member} (v : List ℤ) → ArePivots m vectors pivots ks
    → ArePivots m (vectors ++ (v ∷ [])) pivots ks
pivots_stay {vectors = vectors} {pivots = pivots} v h = record {
  chosen = push_left vectors pivots v h.chosen;
  count = h.count;
  kernel = h.kernel;
}

-- where a pivot leaves
pub pivots_step : {m : ℕ} {vectors pivots : List (List ℤ)} {p : Member} {v : List ℤ} (before after : List Member) {ls : List Member}
    → dot p.vector v ≢ pos 0 → Reduced m p v (before ++ after) ls → length ls ≡ length (before ++ after)
    → ArePivots m vectors pivots (before ++ (p ∷ after)) → ArePivots m (vectors ++ (v ∷ [])) (pivots ++ (v ∷ [])) ls
pivots_step {m = m} {vectors = vectors} {pivots = pivots} {p = p} {v = v} before after n rs e h = record {
  chosen = push_both vectors pivots v h.chosen;
  count = let c = h.count in let a = length-append before after in let b = length-append before (p ∷ after) in
      let d = length-append pivots (v ∷ []) in omega arith;
  kernel = kernel_out (kernel_step n rs (kernel_front before after (kernel_in m pivots (before ++ (p ∷ after)) h.kernel)));
}

-- a step keeps the number of the others
pub length-reduced : {m : ℕ} {p : Member} {v : List ℤ} {ks ls : List Member} → Reduced m p v ks ls → length ls ≡ length ks
length-reduced none_left = refl
length-reduced (one_left r rs) = ap suc (length-reduced rs)

-- with a pivot
pivot_grows : {m : ℕ} {vectors pivots : List (List ℤ)} (p : Member) {v : List ℤ} (before after : List Member) → dot p.vector v ≢ pos 0
    → Each (λ k. (dot k.vector v ≡ pos 0) ⊎ (p.own ≤ k.own)) (before ++ after)
    → Kernel m vectors (before ++ (p ∷ after)) → ArePivots m vectors pivots (before ++ (p ∷ after)) → Grown m (vectors ++ (v ∷ []))
pivot_grows {pivots = pivots} p {v = v} before after n e h hp = let f = kernel_front before after h in
    let r = reduced_exists (sign_of (dot p.vector v) n) (each_head f.members) (each_tail f.members) (apart_head f.apart) e in
    record {
      kernel = r.0;
      pivots = pivots ++ (v ∷ []);
      is_kernel = kernel_step n r.1 f;
      are_pivots = pivots_step before after n r.1 (length-reduced r.1) hp;
    }

-- by the choice of a pivot
grows_by : {m : ℕ} {vectors pivots : List (List ℤ)} {ks : List Member} {v : List ℤ} → Kernel m vectors ks → ArePivots m vectors pivots ks
    → Each (λ k. dot k.vector v ≡ pos 0) ks ⊎ Pivot v ks → Grown m (vectors ++ (v ∷ []))
grows_by {pivots = pivots} {ks = ks} {v = v} h hp (inl z) = record {
  kernel = ks;
  pivots = pivots;
  is_kernel = kernel_stays z h;
  are_pivots = pivots_stay v hp;
}
grows_by {m = m} {vectors = vectors} {pivots = pivots} h hp (inr c) =
    pivot_grows c.pivot c.before c.after c.usable c.earliest (subst (Kernel m vectors) c.split h)
    (subst (ArePivots m vectors pivots) c.split hp)

-- one more vector
pub kernel_grown : {m : ℕ} {vectors pivots : List (List ℤ)} {ks : List Member} (v : List ℤ) → Kernel m vectors ks
    → ArePivots m vectors pivots ks → Grown m (vectors ++ (v ∷ []))
kernel_grown {ks = ks} v h hp = grows_by h hp (pivot_or_not v ks)

-- the kernel of a list of vectors, one after another
kernel_after : {m : ℕ} (before vectors : List (List ℤ)) → Grown m before → Grown m (before ++ vectors)
kernel_after {m = m} before [] s = subst (Grown m) (sym (append-nil before)) s
kernel_after {m = m} before (v ∷ vectors) s =
    subst (Grown m) (append_assoc before (v ∷ []) vectors)
    (kernel_after (before ++ (v ∷ [])) vectors (kernel_grown v s.is_kernel s.are_pivots))

-- from the unit vectors on
pub kernel_of : (m : ℕ) (vectors : List (List ℤ)) → Grown m vectors
kernel_of m vectors = kernel_after [] vectors (record {
  kernel = units m;
  pivots = [];
  is_kernel = units_kernel m;
  are_pivots = units_pivots m;
})
