-- Vectors of which each is told from those behind it: one more of them takes one member from the kernel.
use Rattle.std.proofs.Common.{◌≡◌, ◌≢◌, ℕ, ◌+◌, List, [], ◌∷◌, ◌++◌, length, ℤ, pos, ◌*ℤ◌, ◌⊎◌, inl, inr, refl, ap, ◌∙◌, subst, arith, length-append}
use Rattle.lattice_theory.specs.Vector.{dot}
use Rattle.elimination.specs.Elimination.{Member, pairings, IsCombination, AreSeparated}
use Rattle.elimination.specs.Laws.{SeparatedAreFew}
use Rattle.lattice_theory.proofs.Integers.{linear, factor_zero, *ℤ-zero}
use Rattle.lattice_theory.proofs.Members.{Each, empty, each_head, each_tail, each_push, each_from_all}
use Rattle.elimination.proofs.KernelForm.{Kills, Kernel, apart_head}
use Rattle.elimination.proofs.KernelPivot.{Pivot, pivot_or_not, kernel_front}
use Rattle.elimination.proofs.KernelStep.{kernel_step}
use Rattle.elimination.proofs.KernelGrowth.{sign_of, reduced_exists, length-reduced}
use Rattle.elimination.proofs.KernelSize.{multiplier_nonzero}
use Rattle.elimination.proofs.KernelStart.{units, units_kernel, units_pivots}

-- a kernel that has as many members fewer than m as there are vectors
record Counted (m : ℕ) (vectors : List (List ℤ)) : Type 0 where
  listed : List (List ℤ)
  same : (g : List ℤ) → Kills vectors g → Kills listed g
  members : List Member
  is_kernel : Kernel m listed members
  count : length vectors + length members ≡ m

-- where all members annihilate v, so does each combination of them
combination_zero : (cs : List ℤ) (ks : List Member) (v : List ℤ) → Each (λ k. dot k.vector v ≡ pos 0) ks → pairings cs ks v ≡ pos 0
combination_zero [] ks v z = refl
combination_zero (c ∷ cs) [] v z = refl
combination_zero (c ∷ cs) (k ∷ ks) v z =
    let e = ap (λ (w : ℤ). c *ℤ w) (each_head z) ∙ *ℤ-zero c in
    let r = combination_zero cs ks v (each_tail z) in
    omega (arith, linear)

combined_zero : {ks : List Member} {g : List ℤ} (v : List ℤ) → Each (λ k. dot k.vector v ≡ pos 0) ks → IsCombination ks g → dot g v ≡ pos 0
combined_zero {ks = ks} {g = g} v z h =
    factor_zero (pos h.multiplier) (dot g v) (multiplier_nonzero h) (h.sums v ∙ combination_zero h.coefficients ks v z)

-- one more vector takes one member away
counted_by : {m : ℕ} {vectors : List (List ℤ)} (v f : List ℤ) → length f ≡ m → Kills vectors f → dot f v ≢ pos 0 → (c : Counted m vectors)
    → Each (λ k. dot k.vector v ≡ pos 0) c.members ⊎ Pivot v c.members → Counted m (v ∷ vectors)
counted_by v f e z d c (inl all) = absurd (d (combined_zero v all (c.is_kernel.spans f e (c.same f z))))
counted_by {m = m} v f e z d c (inr p) =
    let k = kernel_front p.before p.after (subst (Kernel m c.listed) p.split c.is_kernel) in
    let r = reduced_exists (sign_of (dot p.pivot.vector v) p.usable) (each_head k.members) (each_tail k.members) (apart_head k.apart) p.earliest in
    record {
      listed = c.listed ++ (v ∷ []);
      same = λ g kills. each_push (c.same g (each_tail kills)) (each_head kills);
      members = r.0;
      is_kernel = kernel_step p.usable r.1 k;
      count =
          let a = length-reduced r.1 in
          let b = ap (λ (l : List Member). length l) p.split in
          let l = length-append p.before (p.pivot ∷ p.after) in
          let s = length-append p.before p.after in
          let t = c.count in
          omega arith;
    }

counted : (m : ℕ) (vectors : List (List ℤ)) → AreSeparated m vectors → Counted m vectors
counted m [] h = record {
  listed = [];
  same = λ g z. empty;
  members = units m;
  is_kernel = units_kernel m;
  count = (units_pivots m).count;
}
counted m (v ∷ vectors) (s, h) =
    let c = counted m vectors h in
    counted_by v s.separator s.dimension (each_from_all (λ w. dot s.separator w ≡ pos 0) vectors s.annihilates) s.nonzero c
    (pivot_or_not v c.members)

-- the law
pub separated_are_few_lem : SeparatedAreFew
separated_are_few_lem m vectors h = let c = (counted m vectors h).count in omega arith
