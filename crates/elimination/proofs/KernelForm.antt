-- Kernels in inductive form: the facts about each member, the members apart, and the combinations; to and from the form of the definitions.
use Rattle.std.proofs.Common.{◌≡◌, ◌≢◌, ℕ, suc, ◌<◌, List, [], ◌∷◌, length, ℤ, pos, ◌*ℤ◌, neg_ℤ, ◌<ℤ◌, ⊎_elim, refl, sym, ap, ◌∙◌, arith}
use Rattle.lattice_theory.specs.Vector.{entry, dot, EndsAt}
use Rattle.elimination.specs.Elimination.{Member, Annihilates, AreApart, pairings, IsCombination, IsKernel}
use Rattle.lattice_theory.proofs.Integers.{linear, neg-*ℤ, positive_nonzero, positive_or_negative, positive_is}
use Rattle.lattice_theory.proofs.Members.{Each, empty, more, each_from_all, all_from_each, each_head, each_tail, each_weaker}

-- g pairs to 0 with each of the vectors
abbrev pub Kills : List (List ℤ) → List ℤ → Type 0
Kills vectors g = Each (λ v. dot g v ≡ pos 0) vectors

-- what holds of each member of a kernel
pub record IsMember (m : ℕ) (vectors : List (List ℤ)) (k : Member) : Type 0 where
  pub dimension : length k.vector ≡ m
  pub kills : Kills vectors k.vector
  pub positive : pos 0 <ℤ entry k.vector k.own
  pub zeros : (j : ℕ) → k.own < j → entry k.vector j ≡ pos 0

-- neither member has an entry at the own place of the other
pub record IsApart (k l : Member) : Type 0 where
  pub first : entry k.vector l.own ≡ pos 0
  pub second : entry l.vector k.own ≡ pos 0

-- each member is apart from all behind it
pub data Apart : List Member → Type 0 where
  none : Apart []
  one_more : {k : Member} {ks : List Member} → Each (IsApart k) ks → Apart ks → Apart (k ∷ ks)

-- a kernel of vectors of length m
pub record Kernel (m : ℕ) (vectors : List (List ℤ)) (ks : List Member) : Type 0 where
  pub members : Each (IsMember m vectors) ks
  pub apart : Apart ks
  pub spans : (g : List ℤ) → length g ≡ m → Kills vectors g → IsCombination ks g

-- of the first
pub apart_head : {k : Member} {ks : List Member} → Apart (k ∷ ks) → Each (IsApart k) ks
apart_head (one_more p ps) = p

-- of the others
pub apart_tail : {k : Member} {ks : List Member} → Apart (k ∷ ks) → Apart ks
apart_tail (one_more p ps) = ps

-- from the definitions
apart_in : (ks : List Member) → AreApart ks → Apart ks
apart_in [] h = none
apart_in (k ∷ ks) h = one_more
    (each_weaker (λ l e. record { first = e.0; second = e.1 })
    (each_from_all (λ l. (entry k.vector l.own ≡ pos 0) × (entry l.vector k.own ≡ pos 0)) ks h.0)) (apart_in ks h.1)

-- the facts about each member, gathered
members_in : (m : ℕ) (vectors : List (List ℤ)) (ks : List Member)
    → Each (λ k. length k.vector ≡ m) ks → Each (λ k. Annihilates vectors k.vector) ks → Each (λ k. pos 0 <ℤ entry k.vector k.own) ks
    → Each (λ k. EndsAt k.vector k.own) ks
    → Each (IsMember m vectors) ks
members_in m vectors [] a b c d = empty
members_in m vectors (k ∷ ks) a b c d = more
    (record {
      dimension = each_head a;
      kills = each_from_all (λ v. dot k.vector v ≡ pos 0) vectors (each_head b);
      positive = each_head c;
      zeros = (each_head d).zeros;
    })
    (members_in m vectors ks (each_tail a) (each_tail b) (each_tail c) (each_tail d))

-- a kernel of the definitions in inductive form
pub kernel_in : (m : ℕ) (vectors : List (List ℤ)) (ks : List Member) → IsKernel m vectors ks → Kernel m vectors ks
kernel_in m vectors ks h = record {
  members = members_in m vectors ks (each_from_all (λ k. length k.vector ≡ m) ks h.lengths)
      (each_from_all (λ k. Annihilates vectors k.vector) ks h.annihilate)
      (each_from_all (λ k. pos 0 <ℤ entry k.vector k.own) ks h.own_positive) (each_from_all (λ k. EndsAt k.vector k.own) ks h.ends);
  apart = apart_in ks h.apart;
  spans = λ g e z. h.spans g e (all_from_each z);
}

-- to the definitions
apart_out : {ks : List Member} → Apart ks → AreApart ks
apart_out none = tt
apart_out (one_more {k = k} p ps) = (
  all_from_each (each_weaker {Q = λ l. (entry k.vector l.own ≡ pos 0) × (entry l.vector k.own ≡ pos 0)} (λ l e. (e.first, e.second)) p),
  apart_out ps,
)

-- and back
pub kernel_out : {m : ℕ} {vectors : List (List ℤ)} {ks : List Member} → Kernel m vectors ks → IsKernel m vectors ks
kernel_out {m = m} {vectors = vectors} {ks = ks} h = record {
  lengths = all_from_each (each_weaker {Q = λ k. length k.vector ≡ m} (λ k p. p.dimension) h.members);
  annihilate = all_from_each (each_weaker {Q = λ k. Annihilates vectors k.vector} (λ k p. all_from_each p.kills) h.members);
  own_positive = all_from_each (each_weaker {Q = λ k. pos 0 <ℤ entry k.vector k.own} (λ k p. p.positive) h.members);
  apart = apart_out h.apart;
  ends = all_from_each (each_weaker {Q = λ k. EndsAt k.vector k.own}
      (λ k p. record { nonzero = positive_nonzero (entry k.vector k.own) p.positive; zeros = p.zeros }) h.members);
  spans = λ g e z. h.spans g e (each_from_all (λ v. dot g v ≡ pos 0) vectors z);
}

-- a multiplier that isn't 0 is enough for a combination: its sign goes to the coefficients
abbrev pub negatives : List ℤ → List ℤ
negatives [] = []
negatives (c ∷ cs) = neg_ℤ c ∷ negatives cs

-- as many
length-negatives : (cs : List ℤ) → length (negatives cs) ≡ length cs
length-negatives [] = refl
length-negatives (c ∷ cs) = ap suc (length-negatives cs)

-- their combination is the negative
pairings-negatives : (cs : List ℤ) (ks : List Member) (x : List ℤ) → pairings (negatives cs) ks x ≡ neg_ℤ (pairings cs ks x)
pairings-negatives [] ks x = refl
pairings-negatives (c ∷ cs) [] x = refl
pairings-negatives (c ∷ cs) (k ∷ ks) x = let e = pairings-negatives cs ks x in rw (e, neg-*ℤ) (omega (arith, linear))

-- with a positive multiplier
positive_combination : (ks : List Member) (g : List ℤ) (q : ℤ) (cs : List ℤ) → pos 0 <ℤ q → length cs ≡ length ks
    → ((x : List ℤ) → q *ℤ dot g x ≡ pairings cs ks x) → IsCombination ks g
positive_combination ks g q cs h e f = let n = positive_is q h in record {
  multiplier = n.0;
  positive = n.1;
  coefficients = cs;
  as_many = e;
  sums = λ x. ap (λ (z : ℤ). z *ℤ dot g x) (sym n.2) ∙ f x;
}

-- with any multiplier other than 0
pub combination_from : (ks : List Member) (g : List ℤ) (q : ℤ) (cs : List ℤ) → q ≢ pos 0 → length cs ≡ length ks
    → ((x : List ℤ) → q *ℤ dot g x ≡ pairings cs ks x) → IsCombination ks g
combination_from ks g q cs n e f = ⊎_elim
    (λ (h : pos 0 <ℤ q). positive_combination ks g q cs h e f)
    (λ (h : pos 0 <ℤ neg_ℤ q). positive_combination ks g (neg_ℤ q) (negatives cs) h (length-negatives cs ∙ e)
    (λ x. neg-*ℤ q (dot g x) ∙ ap neg_ℤ (f x) ∙ sym (pairings-negatives cs ks x)))
    (positive_or_negative q n)
