-- The laws of the step: where a kernel starts, where it stays, and what it becomes.
use Rattle.std.proofs.Common.{◌≡◌, ◌≢◌, ℕ, ◌≤◌, List, [], ◌∷◌, ◌++◌, ℤ, pos, ◌+ℤ◌, ◌-ℤ◌, ◌*ℤ◌, neg_ℤ, inl, inr, refl, sym, ap, ◌∙◌, subst, arith}
use Rattle.std.specs.List.{AllZip}
use Rattle.lattice_theory.specs.Vector.{entry, dot, scaled}
use Rattle.elimination.specs.Elimination.{Member, IsKernel, ArePivots, IsReduced}
use Rattle.elimination.specs.Laws.{KernelExists, KernelGrows, KernelStarts, KernelStays, KernelSteps}
use Rattle.lattice_theory.proofs.Integers.{products_out, linear, neg-*ℤ}
use Rattle.lattice_theory.proofs.Members.{Each, each_head, each_tail, each_from_all, each_left, each_right}
use Rattle.lattice_theory.proofs.Vectors.{combined, length-combined, length-scaled, entry-combined, entry-scaled, dot-combined_left, dot-scaled_left, same_from_entries}
use Rattle.elimination.proofs.KernelForm.{IsMember, Kernel, kernel_in, kernel_out}
use Rattle.elimination.proofs.KernelStep.{Reduces, Reduced, none_left, one_left, kernel_step, kernel_stays}
use Rattle.elimination.proofs.KernelPivot.{kernel_front}
use Rattle.elimination.proofs.KernelStart.{units_kernel, units_pivots, units_from}
use Rattle.elimination.proofs.KernelGrowth.{Grown, kernel_grown, kernel_of, pivots_stay, pivots_step, length-reduced}

-- every list of vectors has a kernel
grown_out : {m : ℕ} {vectors : List (List ℤ)} → Grown m vectors → (ks : List Member) × (pivots : List (List ℤ)) × IsKernel m vectors ks
    × ArePivots m vectors pivots ks
grown_out s = (s.kernel, s.pivots, kernel_out s.is_kernel, s.are_pivots)

-- the law on their being
pub kernel_exists_lem : KernelExists
kernel_exists_lem m vectors h = grown_out (kernel_of m vectors)

-- the law on one more vector
pub kernel_grows_lem : KernelGrows
kernel_grows_lem m vectors pivots ks v e h hp = grown_out (kernel_grown v (kernel_in m vectors ks h) hp)

-- the start and the standstill
pub kernel_starts_lem : KernelStarts
kernel_starts_lem m ks e h = let s = sym (units_from m ks e h) in
    (subst (IsKernel m []) s (kernel_out (units_kernel m)), subst (ArePivots m [] []) s (units_pivots m))

-- the law on a vector that is annihilated
pub kernel_stays_lem : KernelStays
kernel_stays_lem m vectors pivots ks v h hp z =
    (kernel_out (kernel_stays (each_from_all (λ k. dot k.vector v ≡ pos 0) ks z) (kernel_in m vectors ks h)), pivots_stay v hp)

-- the step in the form of the definitions: equal entries give equal pairings
step_vectors : {m : ℕ} {vectors : List (List ℤ)} {p k l : Member} {v : List ℤ} → IsMember m vectors p → IsMember m vectors k
    → (r : IsReduced p v k l) → scaled r.factor l.vector ≡ combined (dot p.vector v) k.vector (neg_ℤ (dot k.vector v)) p.vector
step_vectors {m = m} {p = p} {k = k} {l = l} {v = v} hp hk r =
    same_from_entries (scaled r.factor l.vector) (combined (dot p.vector v) k.vector (neg_ℤ (dot k.vector v)) p.vector)
    (length-scaled r.factor l.vector ∙ r.dimension ∙ hk.dimension
    ∙ sym (length-combined m (dot p.vector v) k.vector (neg_ℤ (dot k.vector v)) p.vector hk.dimension hp.dimension))
    (λ i. entry-scaled r.factor l.vector i ∙ r.entries i ∙ ap (λ (z : ℤ). dot p.vector v *ℤ entry k.vector i +ℤ z)
    (sym (neg-*ℤ (dot k.vector v) (entry p.vector i)))
    ∙ sym (entry-combined (dot p.vector v) k.vector (neg_ℤ (dot k.vector v)) p.vector i))

-- the pairings of the new member
step_values : {m : ℕ} {vectors : List (List ℤ)} {p k l : Member} {v : List ℤ} → IsMember m vectors p → IsMember m vectors k
    → (r : IsReduced p v k l) → (x : List ℤ)
    → r.factor *ℤ dot l.vector x ≡ dot p.vector v *ℤ dot k.vector x -ℤ dot k.vector v *ℤ dot p.vector x
step_values {p = p} {k = k} {l = l} {v = v} hp hk r x = sym (dot-scaled_left r.factor l.vector x) ∙ ap (λ (y : List ℤ). dot y x)
    (step_vectors hp hk r)
    ∙ dot-combined_left (dot p.vector v) k.vector (neg_ℤ (dot k.vector v)) p.vector x
    ∙ ap (λ (z : ℤ). dot p.vector v *ℤ dot k.vector x +ℤ z) (neg-*ℤ (dot k.vector v) (dot p.vector x))

-- a member behind the pivot
reduces_from : {m : ℕ} {vectors : List (List ℤ)} {p k l : Member} {v : List ℤ} → IsMember m vectors p → IsMember m vectors k
    → IsReduced p v k l → p.own ≤ k.own → Reduces m p v k l
reduces_from hp hk r h = record {
  own = r.own;
  dimension = r.dimension ∙ hk.dimension;
  factor = r.factor;
  nonzero = r.nonzero;
  positive = r.positive;
  values = step_values hp hk r;
  entries = r.entries;
  earlier = inr h;
}

-- all members behind the pivot
reduced_from : {m : ℕ} {vectors : List (List ℤ)} {p : Member} {v : List ℤ} (ks ls : List Member) → IsMember m vectors p
    → Each (IsMember m vectors) ks → Each (λ k. p.own ≤ k.own) ks → AllZip (IsReduced p v) ks ls → Reduced m p v ks ls
reduced_from [] [] hp hk h r = none_left
reduced_from [] (l ∷ ls) hp hk h r = absurd r
reduced_from (k ∷ ks) [] hp hk h r = absurd r
reduced_from (k ∷ ks) (l ∷ ls) hp hk h r =
    one_left (reduces_from hp (each_head hk) r.0 (each_head h)) (reduced_from ks ls hp (each_tail hk) (each_tail h) r.1)

-- a member that the vector annihilates is left as it is
value_same : (d a b c : ℤ) → b ≡ pos 0 → d *ℤ a ≡ d *ℤ a -ℤ b *ℤ c
value_same d a b c e = rw e (simp products_out (omega (arith, linear)))

-- as a step that multiplies it and divides it again
reduces_itself : {m : ℕ} {vectors : List (List ℤ)} {p k : Member} {v : List ℤ} → dot p.vector v ≢ pos 0 → IsMember m vectors k
    → dot k.vector v ≡ pos 0 → Reduces m p v k k
reduces_itself {p = p} {k = k} {v = v} n hk e = record {
  own = refl;
  dimension = hk.dimension;
  factor = dot p.vector v;
  nonzero = n;
  positive = hk.positive;
  values = λ x. value_same (dot p.vector v) (dot k.vector x) (dot k.vector v) (dot p.vector x) e;
  entries = λ j. value_same (dot p.vector v) (entry k.vector j) (dot k.vector v) (entry p.vector j) e;
  earlier = inl e;
}

-- the members before the pivot stay
reduced_behind : {m : ℕ} {vectors : List (List ℤ)} {p : Member} {v : List ℤ} (before : List Member) {ks ls : List Member}
    → dot p.vector v ≢ pos 0 → Each (IsMember m vectors) before → Each (λ k. dot k.vector v ≡ pos 0) before → Reduced m p v ks ls
    → Reduced m p v (before ++ ks) (before ++ ls)
reduced_behind [] n hb z rs = rs
reduced_behind (k ∷ before) n hb z rs =
    one_left (reduces_itself n (each_head hb) (each_head z)) (reduced_behind before n (each_tail hb) (each_tail z) rs)

-- before the pivot and behind it
reduced_whole : {m : ℕ} {vectors : List (List ℤ)} {p : Member} {v : List ℤ} (before after next : List Member)
    → Kernel m vectors (p ∷ (before ++ after)) → Each (λ k. dot k.vector v ≡ pos 0) before → dot p.vector v ≢ pos 0
    → Each (λ k. p.own ≤ k.own) after → AllZip (IsReduced p v) after next → Reduced m p v (before ++ after) (before ++ next)
reduced_whole before after next h z n o r = reduced_behind before n (each_left before after (each_tail h.members)) z
    (reduced_from after next (each_head h.members) (each_right before after (each_tail h.members)) o r)

-- the law on a step
pub kernel_steps_lem : KernelSteps
kernel_steps_lem m vectors pivots before p after next v h hp z n o r =
    let f = kernel_front before after (kernel_in m vectors (before ++ (p ∷ after)) h) in
    let rs = reduced_whole before after next f (each_from_all (λ k. dot k.vector v ≡ pos 0) before z) n
    (each_from_all (λ k. p.own ≤ k.own) after o) r in
    (kernel_out (kernel_step n rs f), pivots_step before after n rs (length-reduced rs) hp)
