-- What the own places tell: a vector of the kernel with 0 at all own places but one is a multiple of that member.
use Rattle.std.proofs.Common.{◌≡◌, ◌≢◌, ℕ, ◌<◌, ◌≤◌, List, [], ◌∷◌, ◌++◌, length, ℤ, pos, ◌+ℤ◌, ◌*ℤ◌, ⊎_elim, refl, sym, ap, ◌∙◌, subst, arith}
use Rattle.std.proofs.lemmas.Bool.{cases_lt}
use Rattle.lattice_theory.specs.Vector.{entry, dot, scaled, EndsAt, IsVectorMultiple}
use Rattle.elimination.specs.Elimination.{Member, pairings, IsCombination}
use Rattle.elimination.specs.Laws.{KernelMember, KernelEarliest}
use Rattle.lattice_theory.proofs.Integers.{products_out, linear, factor_zero, positive_nonzero, zero-*ℤ, *ℤ-zero, *ℤ_comm}
use Rattle.lattice_theory.proofs.Members.{Each, empty, more, each_head, each_tail, each_from_all, each_weaker}
use Rattle.lattice_theory.proofs.Vectors.{unit, dot_comm, dot-unit, dot-scaled_left, length-scaled, same_from_pairings, place_within}
use Rattle.elimination.proofs.KernelForm.{Kills, IsMember, IsApart, Apart, Kernel, apart_head, apart_tail, kernel_in}
use Rattle.elimination.proofs.KernelPivot.{kernel_front}
use Rattle.elimination.proofs.KernelSize.{multiplier_nonzero, entry_multiple}

-- an entry is the pairing with a unit vector
dot_entry : (m i : ℕ) (x : List ℤ) → i < m → dot x (unit m i) ≡ entry x i
dot_entry m i x h = dot_comm x (unit m i) ∙ dot-unit m i x h

-- an own place is within the length
own_within : {m : ℕ} {vectors : List (List ℤ)} {k : Member} → IsMember m vectors k → k.own < m
own_within {k = k} h = let d = h.dimension in let l = place_within k.vector k.own (positive_nonzero (entry k.vector k.own) h.positive) in
    omega arith

-- the others don't count at an own place
pairings_apart : (m : ℕ) (k : Member) (cs : List ℤ) (ks : List Member) → k.own < m → Each (IsApart k) ks
    → pairings cs ks (unit m k.own) ≡ pos 0
pairings_apart m k [] ks h a = refl
pairings_apart m k (c ∷ cs) [] h a = refl
pairings_apart m k (c ∷ cs) (l ∷ ks) h a = let e = dot_entry m k.own l.vector h ∙ (each_head a).second in
    let r = pairings_apart m k cs ks h (each_tail a) in rw (e, r) (simp products_out)

-- where a combination is 0 at all own places, all its coefficients are 0
head_coefficient : (c a s t : ℤ) → a ≢ pos 0 → s ≡ pos 0 → t ≡ c *ℤ a +ℤ s → t ≡ pos 0 → c ≡ pos 0
head_coefficient c a s t n e f g = factor_zero a c n (*ℤ_comm a c ∙ omega (arith, linear))

-- so the combination is 0
pairings_vanish : {m : ℕ} {vectors : List (List ℤ)} (cs : List ℤ) {ks : List Member} → Each (IsMember m vectors) ks → Apart ks
    → Each (λ l. pairings cs ks (unit m l.own) ≡ pos 0) ks → (x : List ℤ) → pairings cs ks x ≡ pos 0
pairings_vanish [] h a z x = refl
pairings_vanish (c ∷ cs) empty a z x = refl
pairings_vanish {m = m} (c ∷ cs) (more {x = k} {xs = ks} h hs) a z x =
    let o = own_within h in
    let e : c ≡ pos 0 = head_coefficient c (dot k.vector (unit m k.own)) (pairings cs ks (unit m k.own))
    (pairings (c ∷ cs) (k ∷ ks) (unit m k.own)) (own_nonzero o) (pairings_apart m k cs ks o (apart_head a)) refl (each_head z) in
    let r = pairings_vanish cs hs (apart_tail a) (each_weaker (λ l y. rest e (unit m l.own) y) (each_tail z)) x in
    rw (e, r) (simp products_out)
  where
    own_nonzero : k.own < m → dot k.vector (unit m k.own) ≢ pos 0
    own_nonzero o e = positive_nonzero (entry k.vector k.own) h.positive (sym (dot_entry m k.own k.vector o) ∙ e)

    rest : c ≡ pos 0 → (y : List ℤ) → c *ℤ dot k.vector y +ℤ pairings cs ks y ≡ pos 0 → pairings cs ks y ≡ pos 0
    rest e y f = let u = ap (λ (w : ℤ). w *ℤ dot k.vector y) e ∙ zero-*ℤ (dot k.vector y) in omega (arith, linear)

-- the combination of g at the own place of another member is 0
others_term : (q g c a s : ℤ) → q *ℤ g ≡ c *ℤ a +ℤ s → g ≡ pos 0 → a ≡ pos 0 → s ≡ pos 0
others_term q g c a s e f h = let u = ap (λ (z : ℤ). q *ℤ z) f ∙ *ℤ-zero q in let v = ap (λ (z : ℤ). c *ℤ z) h ∙ *ℤ-zero c in
    omega (arith, linear)

-- the same at the own places of all other members
others_vanish : {m : ℕ} {vectors : List (List ℤ)} {k : Member} (g : List ℤ) (q c : ℤ) (cs : List ℤ) (all : List Member) {ks : List Member}
    → ((x : List ℤ) → q *ℤ dot g x ≡ c *ℤ dot k.vector x +ℤ pairings cs all x)
    → Each (IsMember m vectors) ks → Each (IsApart k) ks → Each (λ l. entry g l.own ≡ pos 0) ks
    → Each (λ l. pairings cs all (unit m l.own) ≡ pos 0) ks
others_vanish g q c cs all s empty a z = empty
others_vanish {m = m} {k = k} g q c cs all s (more {x = l} h hs) a z = more
    (let o = own_within h in others_term q (dot g (unit m l.own)) c (dot k.vector (unit m l.own)) (pairings cs all (unit m l.own))
    (s (unit m l.own)) (dot_entry m l.own g o ∙ each_head z) (dot_entry m l.own k.vector o ∙ (each_head a).first))
    (others_vanish g q c cs all s hs (each_tail a) (each_tail z))

-- a combination in which only the first member counts
multiple_from : {m : ℕ} {vectors : List (List ℤ)} {k : Member} {ks : List Member} (g : List ℤ) → Kernel m vectors (k ∷ ks) → length g ≡ m
    → Each (λ l. entry g l.own ≡ pos 0) ks
    → (s : IsCombination (k ∷ ks) g) → (cs : List ℤ) → length cs ≡ length (k ∷ ks)
    → ((x : List ℤ) → pos s.multiplier *ℤ dot g x ≡ pairings cs (k ∷ ks) x) → IsVectorMultiple g k.vector
multiple_from g h e z s [] l t = absurd (omega arith)
multiple_from {m = m} {k = k} {ks = ks} g h e z s (c ∷ cs) l t = record {
  left = pos s.multiplier;
  right = c;
  nonzero = multiplier_nonzero s;
  same = same_from_pairings m (scaled (pos s.multiplier) g) (scaled c k.vector) (length-scaled (pos s.multiplier) g ∙ e)
      (length-scaled c k.vector ∙ (each_head h.members).dimension) (λ x u. dot-scaled_left (pos s.multiplier) g x ∙ t x
      ∙ alone (c *ℤ dot k.vector x) (pairings cs ks x) (vanish x) ∙ sym (dot-scaled_left c k.vector x));
}
  where
    vanish : (x : List ℤ) → pairings cs ks x ≡ pos 0
    vanish x = pairings_vanish cs (each_tail h.members) (apart_tail h.apart)
        (others_vanish g (pos s.multiplier) c cs ks t (each_tail h.members) (apart_head h.apart) z) x

    alone : (a b : ℤ) → b ≡ pos 0 → a +ℤ b ≡ a
    alone a b f = omega (arith, linear)

-- so the vector is a multiple of that member
pub member_multiple : {m : ℕ} {vectors : List (List ℤ)} {k : Member} {ks : List Member} → Kernel m vectors (k ∷ ks) → (g : List ℤ)
    → length g ≡ m → Kills vectors g → Each (λ l. entry g l.own ≡ pos 0) ks → IsVectorMultiple g k.vector
member_multiple h g e y z = let s = h.spans g e y in multiple_from g h e z s s.coefficients s.as_many s.sums

-- the law
pub kernel_member_lem : KernelMember
kernel_member_lem m vectors before k after h g e y z =
    member_multiple (kernel_front before after (kernel_in m vectors (before ++ (k ∷ after)) h)) g e
    (each_from_all (λ v. dot g v ≡ pos 0) vectors y) (each_from_all (λ l. entry g l.own ≡ pos 0) (before ++ after) z)

-- the least own place
later_zeros : {g : List ℤ} {j : ℕ} {ks : List Member} → EndsAt g j → Each (λ l. j < l.own) ks → Each (λ l. entry g l.own ≡ pos 0) ks
later_zeros d h = each_weaker (λ l o. d.zeros l.own o) h

-- q a = c b with q and b other than 0 and a = 0 gives c = 0, and then q y = c x gives y = 0
vanishing : (q a c b y x : ℤ) → q ≢ pos 0 → b ≢ pos 0 → a ≡ pos 0 → q *ℤ a ≡ c *ℤ b → q *ℤ y ≡ c *ℤ x → y ≡ pos 0
vanishing q a c b y x nq nb ea e f =
    let z : c ≡ pos 0 = factor_zero b c nb (*ℤ_comm b c ∙ sym e ∙ ap (λ (w : ℤ). q *ℤ w) ea ∙ *ℤ-zero q) in
    factor_zero q y nq (f ∙ ap (λ (w : ℤ). w *ℤ x) z ∙ zero-*ℤ x)

-- a multiple of a member doesn't end before its own place
too_early : {m : ℕ} {vectors : List (List ℤ)} {k : Member} {g : List ℤ} (j : ℕ) → IsMember m vectors k → EndsAt g j → j < k.own
    → IsVectorMultiple g k.vector → ⊥
too_early {k = k} {g = g} j h d o s =
    d.nonzero (vanishing s.left (entry g k.own) s.right (entry k.vector k.own) (entry g j) (entry k.vector j) s.nonzero
    (positive_nonzero (entry k.vector k.own) h.positive) (d.zeros k.own o) (entry_multiple s k.own) (entry_multiple s j))

-- two members that are apart have different own places
own_apart : {m : ℕ} {vectors : List (List ℤ)} {k l : Member} → IsMember m vectors k → IsApart k l → k.own ≡ l.own → ⊥
own_apart {k = k} h a e = positive_nonzero (entry k.vector k.own) h.positive (ap (entry k.vector) e ∙ a.first)

-- so the least own place comes before all others
own_later : {m : ℕ} {vectors : List (List ℤ)} {k : Member} {ks : List Member} → IsMember m vectors k → Each (IsApart k) ks
    → Each (λ l. k.own ≤ l.own) ks → Each (λ l. k.own < l.own) ks
own_later h empty o = empty
own_later {k = k} h (more {x = l} a ps) o = more (let n : k.own ≢ l.own = own_apart h a in let f = each_head o in
    omega arith) (own_later h ps (each_tail o))

-- where a vector of the kernel ends
pub kernel_ends : {m : ℕ} {vectors : List (List ℤ)} {k : Member} {ks : List Member} → Kernel m vectors (k ∷ ks)
    → Each (λ l. k.own ≤ l.own) ks → (g : List ℤ) → length g ≡ m → Kills vectors g → (j : ℕ) → EndsAt g j
    → (k.own ≤ j) × (j ≡ k.own → IsVectorMultiple g k.vector)
kernel_ends {k = k} {ks = ks} h o g e y j d = (
  ⊎_elim (λ (l : j < k.own). absurd
      (too_early j (each_head h.members) d l (member_multiple h g e y (later_zeros d (each_weaker (λ l' q. earlier l l'.own q) o))))) (λ q. q)
      (cases_lt j k.own),
  λ q. at_place q,
)
  where
    earlier : j < k.own → (i : ℕ) → k.own ≤ i → j < i
    earlier l i q = omega arith

    at_place : j ≡ k.own → IsVectorMultiple g k.vector
    at_place q = member_multiple h g e y
        (later_zeros d (subst (λ (i : ℕ). Each (λ l. i < l.own) ks) (sym q) (own_later (each_head h.members) (apart_head h.apart) o)))

-- the law
pub kernel_earliest_lem : KernelEarliest
kernel_earliest_lem m vectors k ks h o g e y j d =
    kernel_ends (kernel_in m vectors (k ∷ ks) h) (each_from_all (λ l. k.own ≤ l.own) ks o) g e
    (each_from_all (λ v. dot g v ≡ pos 0) vectors y) j d
