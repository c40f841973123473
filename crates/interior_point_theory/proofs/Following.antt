-- In an interior-point system each weight may follow those before it.
use Rattle.std.proofs.Common.{◌≡◌, ◌≢◌, ℕ, suc, ◌+◌, ◌*◌, ◌<◌, ◌≤◌, ◌⊎◌, inl, inr, List, [], ◌∷◌, ◌++◌, length, refl, sym, ap, ◌∙◌, arith, get_or, subst, length-append}
use Rattle.lattice_theory.specs.Order.{Ascends}
use Rattle.lattice_theory.proofs.Members.{Each, empty, more, each_from_all, all_from_each, each_head, each_right}
use Rattle.lattice_core.specs.Weights.{total}
use Rattle.interior_point_theory.specs.Interior.{system_of}
use Rattle.interior_point_theory.specs.Laws.{WeightsMayFollow}
use Rattle.interior_point_theory.proofs.LargestWeights.{largest_weights_lem}

pub total-append : (b rest : List ℕ) → total (b ++ rest) ≡ total b + total rest
total-append [] rest = omega arith
total-append (w ∷ b) rest = let e = total-append b rest in omega arith

-- numbers that are at least u
total_at_least : (u : ℕ) (v : List ℕ) → Each (λ w. u ≤ w) v → length v * u ≤ total v
total_at_least u [] h = omega arith
total_at_least u (w ∷ v) (more p ps) = one (length v) u w (total v) p (total_at_least u v ps)
  where
    one : (k u w t : ℕ) → u ≤ w → k * u ≤ t → suc k * u ≤ w + t
    one k u w t p h = grind arith

-- the members of a list that ascends, before and behind one of them
below_next : (b : List ℕ) (v : ℕ) (rest : List ℕ) → Ascends (λ x y. x ≤ y) (b ++ v ∷ rest) → Each (λ w. w ≤ v) b
below_next [] v rest a = empty
below_next (u ∷ b) v rest a = more (each_head (each_right b (v ∷ rest) (each_from_all (λ w. u ≤ w) (b ++ v ∷ rest) a.0))) (below_next b v rest a.1)

above_next : (b : List ℕ) (v : ℕ) (rest : List ℕ) → Ascends (λ x y. x ≤ y) (b ++ v ∷ rest) → Each (λ w. v ≤ w) (v ∷ rest)
above_next [] v rest a = more (omega arith) (each_from_all (λ w. v ≤ w) rest a.0)
above_next (u ∷ b) v rest a = above_next b v rest a.1

at_length : (b : List ℕ) (v : ℕ) (rest : List ℕ) → get_or (b ++ v ∷ rest) (length b) 0 ≡ v
at_length [] v rest = refl
at_length (u ∷ b) v rest = at_length b v rest

length_one : (rest : List ℕ) → suc (length rest) ≡ 1 → rest ≡ []
length_one [] e = refl
length_one (u ∷ rest) e = absurd (omega arith)

pub weights_may_follow_lem : WeightsMayFollow
weights_may_follow_lem degree v b rest is = record {
  some = omega arith;
  positive = each_head (each_right b (v ∷ rest) (each_from_all (λ w. 1 ≤ w) (b ++ v ∷ rest) is.positive));
  ascends = all_from_each (below_next b v rest is.ascends);
  room =
      let t = total-append b (v ∷ rest) in
      let s = is.sum in
      let l = total_at_least v (v ∷ rest) (above_next b v rest is.ascends) in
      sum_within (total b) (suc (length rest) * v) (total (v ∷ rest)) degree (sym t ∙ s) l;
  last = λ e. alone (length_one rest e);
  cut = λ side. subst (λ (u : ℕ). (suc (length rest) + 1) * u ≤ degree) (at_length b v rest)
      (largest_weights_lem (system_of degree (b ++ v ∷ rest)) (length b) (suc (length rest)) is (sym (length-append b (v ∷ rest))) (omega arith)
      (by side));
}
  where
    sum_within : (t l r d : ℕ) → t + r ≡ d → l ≤ r → t + l ≤ d
    sum_within t l r d e h = omega arith

    alone : rest ≡ [] → total b + v ≡ degree
    alone e =
        let t = total-append b (v ∷ rest) in
        let z = ap total e in
        let s = is.sum in
        sum_of (total b) v (total rest) degree z (sym t ∙ s)
      where
        sum_of : (t v r d : ℕ) → r ≡ 0 → t + (v + r) ≡ d → t + v ≡ d
        sum_of t v r d z e = omega arith

    by : (0 < length b) ⊎ (degree ≢ suc (length rest)) → (0 < length b) ⊎ (degree ≢ length (b ++ v ∷ rest))
    by (inl l) = inl l
    by (inr u) = first_or_not b u
      where
        first_or_not : (c : List ℕ) → degree ≢ suc (length rest) → (0 < length c) ⊎ (degree ≢ length (c ++ v ∷ rest))
        first_or_not [] u = inr u
        first_or_not (w ∷ c) u = inl (omega arith)
