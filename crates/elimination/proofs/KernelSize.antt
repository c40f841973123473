-- What the number of a kernel's members says: none, one, or more; and the few vectors that determine a line.
use Rattle.std.proofs.Common.{◌≡◌, ◌≢◌, ℕ, ◌+◌, ◌<◌, ◌≤◌, List, [], ◌∷◌, length, ℤ, pos, ◌+ℤ◌, ◌*ℤ◌, ⊎_elim, refl, sym, ap, ◌∙◌, All, Contains, arith}
use Rattle.std.proofs.lemmas.Bool.{cases_lt}
use Rattle.lattice_theory.specs.Vector.{entry, dot, scaled, IsVectorMultiple}
use Rattle.elimination.specs.Elimination.{Member, pairings, IsCombination, ArePivots}
use Rattle.elimination.specs.Laws.{EmptyKernel, SingleKernel, LargeKernel, FewDetermine}
use Rattle.lattice_theory.proofs.Integers.{linear, factor_zero, positive_nonzero, product_nonzero, *ℤ-zero, zero-*ℤ, *ℤ_comm}
use Rattle.lattice_theory.proofs.Members.{empty, more, each_head, each_tail, each_from_all, all_from_each}
use Rattle.lattice_theory.proofs.Vectors.{dot-scaled_left, dot-unit, dot_comm, unit, length-scaled, entry-scaled, entry_past, same_from_pairings, zero_from_entries}
use Rattle.elimination.proofs.KernelForm.{Kills, Kernel, apart_head, kernel_in}
use Rattle.elimination.proofs.KernelGrowth.{kernel_of}

-- a multiplier isn't 0
pub multiplier_nonzero : {ks : List Member} {g : List ℤ} (h : IsCombination ks g) → pos h.multiplier ≢ pos 0
multiplier_nonzero h = let p = h.positive in positive_nonzero (pos h.multiplier) (omega (arith, linear))

-- no member: only 0
empty_pairings : (cs : List ℤ) (x : List ℤ) → pairings cs [] x ≡ pos 0
empty_pairings [] x = refl
empty_pairings (c ∷ cs) x = refl

-- so every pairing is 0
empty_dot : {g : List ℤ} (h : IsCombination [] g) (x : List ℤ) → dot g x ≡ pos 0
empty_dot {g = g} h x = factor_zero (pos h.multiplier) (dot g x) (multiplier_nonzero h) (h.sums x ∙ empty_pairings h.coefficients x)

-- a vector with all pairings 0 has all entries 0
zero_from_dot : (m : ℕ) (g : List ℤ) → length g ≡ m → ((x : List ℤ) → dot g x ≡ pos 0) → (i : ℕ) → entry g i ≡ pos 0
zero_from_dot m g e h i = ⊎_elim (λ (l : i < m). sym (dot-unit m i g l) ∙ dot_comm (unit m i) g ∙ h (unit m i))
    (λ (l : m ≤ i). entry_past g i (omega arith)) (cases_lt i m)

-- the law
pub empty_kernel_lem : EmptyKernel
empty_kernel_lem m vectors h g e z = zero_from_entries g (zero_from_dot m g e (empty_dot (h.spans g e z)))

-- one member: its multiples
one_coefficient : (k : Member) (g : List ℤ) (m : ℕ) → length g ≡ m → length k.vector ≡ m → (h : IsCombination (k ∷ []) g) → (cs : List ℤ)
    → length cs ≡ 1 → ((x : List ℤ) → pos h.multiplier *ℤ dot g x ≡ pairings cs (k ∷ []) x) → IsVectorMultiple g k.vector
one_coefficient k g m e f h [] l s = absurd (omega arith)
one_coefficient k g m e f h (c ∷ cs) l s = record {
  left = pos h.multiplier;
  right = c;
  nonzero = multiplier_nonzero h;
  same = same_from_pairings m (scaled (pos h.multiplier) g) (scaled c k.vector) (length-scaled (pos h.multiplier) g ∙ e)
      (length-scaled c k.vector ∙ f) (λ x u. dot-scaled_left (pos h.multiplier) g x ∙ s x ∙ ap (λ (z : ℤ). c *ℤ dot k.vector x +ℤ z)
      (empty_pairings cs x) ∙ last x ∙ sym (dot-scaled_left c k.vector x));
}
  where
    last : (x : List ℤ) → c *ℤ dot k.vector x +ℤ pos 0 ≡ c *ℤ dot k.vector x
    last x = omega (arith, linear)

-- so each vector of the kernel is a multiple
single_multiple : {m : ℕ} {vectors : List (List ℤ)} {k : Member} → Kernel m vectors (k ∷ []) → (g : List ℤ) → length g ≡ m → Kills vectors g
    → IsVectorMultiple g k.vector
single_multiple {m = m} {k = k} h g e z = let s = h.spans g e z in
    one_coefficient k g m e (each_head h.members).dimension s s.coefficients s.as_many s.sums

-- the law
pub single_kernel_lem : SingleKernel
single_kernel_lem m vectors k h g e z =
    single_multiple (kernel_in m vectors (k ∷ []) h) g e (each_from_all (λ v. dot g v ≡ pos 0) vectors z)

-- two members: at k's own place f isn't 0, but l is
pub entry_multiple : {g f : List ℤ} (h : IsVectorMultiple g f) (i : ℕ) → h.left *ℤ entry g i ≡ h.right *ℤ entry f i
entry_multiple {g = g} {f = f} h i = sym (entry-scaled h.left g i) ∙ ap (λ (x : List ℤ). entry x i) h.same ∙ entry-scaled h.right f i

-- q a = p f, q' 0 = p' f, q' b = p' c with q, q', a, b other than 0 are impossible
crossed : (q a p f q' z p' b c : ℤ) → q ≢ pos 0 → q' ≢ pos 0 → a ≢ pos 0 → b ≢ pos 0 → z ≡ pos 0 → q *ℤ a ≡ p *ℤ f → q' *ℤ z ≡ p' *ℤ f
    → q' *ℤ b ≡ p' *ℤ c → ⊥
crossed q a p f q' z p' b c nq nq' na nb ez e e' e'' =
    let nf : f ≢ pos 0 = λ (u : f ≡ pos 0). product_nonzero q a nq na (e ∙ ap (λ (w : ℤ). p *ℤ w) u ∙ *ℤ-zero p) in
    let zf : f *ℤ p' ≡ pos 0 = *ℤ_comm f p' ∙ sym e' ∙ ap (λ (w : ℤ). q' *ℤ w) ez ∙ *ℤ-zero q' in
    let zp : p' ≡ pos 0 = factor_zero f p' nf zf in
    product_nonzero q' b nq' nb (e'' ∙ ap (λ (w : ℤ). w *ℤ c) zp ∙ zero-*ℤ c)

-- the first two members are not multiples of one vector
pub two_members_apart : {m : ℕ} {vectors : List (List ℤ)} {k l : Member} {ks : List Member} → Kernel m vectors (k ∷ (l ∷ ks)) → (f : List ℤ)
    → IsVectorMultiple k.vector f → IsVectorMultiple l.vector f → ⊥
two_members_apart {k = k} {l = l} h f a b = crossed a.left (entry k.vector k.own) a.right (entry f k.own) b.left
    (entry l.vector k.own) b.right (entry l.vector l.own) (entry f l.own) a.nonzero b.nonzero
    (positive_nonzero (entry k.vector k.own) (each_head h.members).positive)
    (positive_nonzero (entry l.vector l.own) (each_head (each_tail h.members)).positive)
    (each_head (apart_head h.apart)).second
    (entry_multiple a k.own) (entry_multiple b k.own) (entry_multiple b l.own)

-- the law
pub large_kernel_lem : LargeKernel
large_kernel_lem m vectors k l ks h f a b = two_members_apart (kernel_in m vectors (k ∷ (l ∷ ks)) h) f a b

-- the pivots of a kernel of one member determine its line
kills_multiple : {g k : List ℤ} {vectors : List (List ℤ)} → IsVectorMultiple g k → Kills vectors k → Kills vectors g
kills_multiple h empty = empty
kills_multiple {g = g} {k = k} h (more {x = v} e es) = more
    (factor_zero h.left (dot g v) h.nonzero (sym (dot-scaled_left h.left g v) ∙ ap (λ (x : List ℤ). dot x v) h.same
    ∙ dot-scaled_left h.right k v ∙ ap (λ (z : ℤ). h.right *ℤ z) e ∙ *ℤ-zero h.right))
    (kills_multiple h es)

-- m - 1 of the vectors, with the same kernel
pub record FewVectors (m : ℕ) (vectors : List (List ℤ)) : Type 0 where
  pub pivots : List (List ℤ)
  pub count : length pivots + 1 ≡ m
  pub chosen : (v : List ℤ) → Contains pivots v → Contains vectors v
  pub kills : (g : List ℤ) → length g ≡ m → Kills pivots g → Kills vectors g

-- by the number of members
few_by : {m : ℕ} {vectors pivots : List (List ℤ)} (f : List ℤ) (ks : List Member) → length f ≡ m → (All (λ a. a ≡ pos 0) f → ⊥)
    → Kills vectors f
    → ((g : List ℤ) → length g ≡ m → Kills vectors g → IsVectorMultiple g f) → Kernel m vectors ks → ArePivots m vectors pivots ks
    → FewVectors m vectors
few_by {m = m} {vectors = vectors} f [] e n z d h hp = absurd (n (zero_from_entries f (zero_from_dot m f e (empty_dot (h.spans f e z)))))
few_by {m = m} {vectors = vectors} {pivots = pivots} f (k ∷ []) e n z d h hp = record {
  pivots = pivots;
  count = hp.count;
  chosen = hp.chosen;
  kills = λ g l y. kills_multiple (single_multiple (kernel_in m pivots (k ∷ []) hp.kernel) g l y) (each_head h.members).kills;
}
few_by {m = m} {vectors = vectors} f (k ∷ (l ∷ ks)) e n z d h hp = absurd (two_members_apart h f
    (d k.vector (each_head h.members).dimension (each_head h.members).kills)
    (d l.vector (each_head (each_tail h.members)).dimension (each_head (each_tail h.members)).kills))

-- from the kernel of the vectors
pub few_vectors : (m : ℕ) (vectors : List (List ℤ)) (f : List ℤ) → length f ≡ m → (All (λ a. a ≡ pos 0) f → ⊥) → Kills vectors f
    → ((g : List ℤ) → length g ≡ m → Kills vectors g → IsVectorMultiple g f) → FewVectors m vectors
few_vectors m vectors f e n z d = let s = kernel_of m vectors in few_by f s.kernel e n z d s.is_kernel s.are_pivots

-- the law
pub few_determine_lem : FewDetermine
few_determine_lem m vectors hv f e n z d =
    let s = few_vectors m vectors f e n (each_from_all (λ v. dot f v ≡ pos 0) vectors z) (λ g l y. d g l (all_from_each y)) in
    (s.pivots, s.count, s.chosen, λ g l y. all_from_each (s.kills g l (each_from_all (λ v. dot g v ≡ pos 0) s.pivots y)))
