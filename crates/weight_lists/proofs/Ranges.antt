-- A range has the list of its systems.
use Rattle.std.proofs.Common.{◌≡◌, ◌⊎◌, inl, inr, ℕ, zero, suc, ◌+◌, ◌*◌, ◌-◌, ◌<◌, ◌≤◌, Bool, true, false, List, [], ◌∷◌, length, refl, subst, arith}
use Rattle.std.specs.Prelude.{◌↔◌, max}
use Rattle.lattice_theory.specs.Order.{Lists}
use Rattle.lattice_theory.proofs.Members.{In, here, there, Each, empty, more, each_push, each_in, each_weaker, each_from_all, all_from_each}
use Rattle.lattice_theory.proofs.Sublists.{ascends_append}
use Rattle.std.proofs.lemmas.Bool.{cases_eq, cases_lt}
use Rattle.walk_theory.specs.Walks.{NumbersLess, Guide, walk, IsSought}
use Rattle.lattice_core.specs.Weights.{Weighted}
use Rattle.interior_point_theory.specs.Interior.{IsInteriorPointSystem, AreSystemsOfRange, system_of}
use Rattle.interior_point_theory.specs.Beginnings.{IsBeginning, IsWeightGuide}
use Rattle.interior_point_theory.proofs.WeightWalks.{weight_walk_lem}
use Rattle.interior_point_theory.proofs.Degrees.{systems_by_degrees_lem}
use Rattle.weight_lists.specs.Laws.{RangesAreListed}
use Rattle.weight_lists.proofs.Deciding.{Decided, decide_system}

-- the least weight that may follow a beginning
top : List ℕ → ℕ
top [] = 1
top (w ∷ b) = max w (top b)

above_top : (b : List ℕ) → Each (λ w. w ≤ top b) b
unfolding top
above_top [] = empty
above_top (w ∷ b) = more (omega arith) (each_weaker (λ v h. omega (arith, h)) (above_top b))

top_positive : (b : List ℕ) → 1 ≤ top b
unfolding top
top_positive [] = omega arith
top_positive (w ∷ b) = let h = top_positive b in omega (arith, h)

top_least : (v : ℕ) (b : List ℕ) → 1 ≤ v → Each (λ w. w ≤ v) b → top b ≤ v
unfolding top
top_least v [] h e = h
top_least v (w ∷ b) h (more l e) = let r = top_least v b h e in omega (arith, l, r)

-- which beginnings there are
decide_beginning : (x : List ℕ) → Decided (IsBeginning x)
decide_beginning [] = inl (record { positive = all_from_each {P = λ w. 1 ≤ w} empty; ascends = tt })
decide_beginning (w ∷ x) = by (cases_lt 0 w) (decide_all x) (decide_beginning x)
  where
    decide_all : (ys : List ℕ) → Decided (Each (λ v. w ≤ v) ys)
    decide_all [] = inl empty
    decide_all (y ∷ ys) = of (cases_lt y w) (decide_all ys)
      where
        of : (y < w) ⊎ (w ≤ y) → Decided (Each (λ v. w ≤ v) ys) → Decided (Each (λ v. w ≤ v) (y ∷ ys))
        of (inl l) d = inr (λ e. elim e [ more h r ↦ omega (arith, l, h) ])
        of (inr l) (inl r) = inl (more l r)
        of (inr l) (inr none) = inr (λ e. elim e [ more h r ↦ none r ])

    by : (0 < w) ⊎ (w ≤ 0) → Decided (Each (λ v. w ≤ v) x) → Decided (IsBeginning x) → Decided (IsBeginning (w ∷ x))
    by (inr z) d b = inr (λ h. elim (each_from_all (λ v. 1 ≤ v) (w ∷ x) h.positive) [ more p r ↦ omega (arith, z, p) ])
    by (inl p) (inr none) b = inr (λ h. none (each_from_all (λ v. w ≤ v) x h.ascends.0))
    by (inl p) (inl d) (inr none) = inr (λ h. elim (each_from_all (λ v. 1 ≤ v) (w ∷ x) h.positive)
        [ more q r ↦ none (record { positive = all_from_each {P = λ v. 1 ≤ v} r; ascends = h.ascends.1 }) ])
    by (inl p) (inl d) (inl b) = inl (record {
      positive = all_from_each {P = λ v. 1 ≤ v} (more p (each_from_all (λ v. 1 ≤ v) x b.positive));
      ascends = (all_from_each d, b.ascends);
    })

told : {P : Type 0} → Decided P → Bool
told (inl p) = true
told (inr none) = false

told_is : {P : Type 0} (d : Decided P) → told d ≡ true ↔ P
unfolding told
told_is (inl p) = (λ e. p, λ q. refl)
told_is (inr none) = (λ e. absurd (cc), λ q. absurd (none q))

module _ (n degree : ℕ) (some : 0 < n) (small : degree ≤ 32767) where
  decide : (x : List ℕ) → Decided ((length x ≡ n + 1) × IsBeginning x × IsInteriorPointSystem (system_of degree x))
  decide x = by (cases_eq (length x) (n + 1)) (decide_beginning x)
    where
      of : (l : length x ≡ n + 1) (b : IsBeginning x) → Decided (IsInteriorPointSystem (system_of degree x))
          → Decided ((length x ≡ n + 1) × IsBeginning x × IsInteriorPointSystem (system_of degree x))
      of l b (inl s) = inl (l, b, s)
      of l b (inr none) = inr (λ t. none t.2)

      by : Decided (length x ≡ n + 1) → Decided (IsBeginning x)
          → Decided ((length x ≡ n + 1) × IsBeginning x × IsInteriorPointSystem (system_of degree x))
      by (inr none) b = inr (λ t. none t.0)
      by (inl l) (inr none) = inr (λ t. none t.1)
      by (inl l) (inl b) = of l b (decide_system n degree x some small l b)

  guide : Guide
  guide = record { first = top; count = λ b. suc degree; given_up = λ b. false; kept = λ x. told (decide x) }

  within : (t k v : ℕ) → 0 < k → t + k * v ≤ degree → v ≤ degree
  within t zero v p h = absurd (omega arith)
  within t (suc k) v p h = omega (arith, h)

  is_guide : IsWeightGuide degree (n + 1) guide
  unfolding guide
  is_guide = record {
    goes_on = λ b v h t.
        let low = t.low in
        let first = top_positive b in
        record {
          positive = all_from_each {P = λ w. 1 ≤ w} (each_push (each_from_all (λ w. 1 ≤ w) b h.positive) (omega (arith, low, first)));
          ascends = ascends_append (λ u w. u ≤ w) b (v ∷ []) h.ascends (all_from_each {P = λ w. v ≤ w} empty, tt)
              (λ u w i j. last b v u w low i j);
        };
    tries = λ b v k l h m.
        let low = top_least v b m.positive (each_from_all (λ w. w ≤ v) b m.ascends) in
        let high = within _ k v m.some m.room in
        record { low = low; high = omega (arith, high) };
    keeps = λ x l b. (λ e. ((told_is (decide x)).0 e).2, λ s. (told_is (decide x)).1 (l, b, s));
    spares = λ b rest e l s. false_true e;
  }
    where
      false_true : false ≡ true → ⊥
      false_true e = cc

      last : (b : List ℕ) (v u w : ℕ) → top b ≤ v → In u b → In w (v ∷ []) → u ≤ w
      last b v u w low i here = let h = each_in (above_top b) i in omega (arith, low, h)
      last b v u w low i (there j) = elim j [ ]

  listed : Lists NumbersLess (IsSought (λ x. IsInteriorPointSystem (system_of degree x)) (n + 1)) (walk guide (n + 1) [])
  listed = weight_walk_lem degree (n + 1) guide is_guide

-- the systems' weights by their degree; none above the limit on degrees
weights_by : (n degree : ℕ) → 0 < n → (32767 < degree) ⊎ (degree ≤ 32767) → List (List ℕ)
weights_by n degree some (inl large) = []
weights_by n degree some (inr small) = walk (guide n degree some small) (n + 1) []

weights_of : (n : ℕ) → 0 < n → ℕ → List (List ℕ)
weights_of n some degree = weights_by n degree some (cases_lt 32767 degree)

weights_are : (n degree : ℕ) (some : 0 < n) → degree ≤ 32767
    → Lists NumbersLess (IsSought (λ x. IsInteriorPointSystem (system_of degree x)) (n + 1)) (weights_of n some degree)
unfolding weights_of weights_by
weights_are n degree some small = by (cases_lt 32767 degree)
  where
    by : (c : (32767 < degree) ⊎ (degree ≤ 32767))
        → Lists NumbersLess (IsSought (λ x. IsInteriorPointSystem (system_of degree x)) (n + 1)) (weights_by n degree some c)
    by (inl large) = absurd (omega (arith, large, small))
    by (inr fits) = listed n degree some fits

pub ranges_are_listed_lem : RangesAreListed
ranges_are_listed_lem dim low high range =
    let some : 0 < dim = let h = range.searched.some in omega (arith, h) in
    let order = range.in_order in
    let limit = range.searched.limit in
    let count : ℕ = high - low in
    let same : low + count ≡ high = omega (arith, order) in
    subst (λ (h : ℕ). (systems : List Weighted) × AreSystemsOfRange dim low h systems) same
    (_, systems_by_degrees_lem dim low count (weights_of dim some) (λ d a b. weights_are dim d some (omega (arith, same, b, limit))))
