-- The numbers of a set, as they are summed in their place.
use Rattle.std.specs.Prelude.{slice_set}
use Rattle.std.proofs.Common.{◌≡◌, ◌≢◌, ◌⊎◌, inl, inr, ℕ, zero, suc, ◌+◌, ◌-◌, ◌*◌, ◌^◌, ◌<◌, ◌≤◌, List, length, get_or, refl, sym, ap, ◌∙◌, subst, arith}
use Rattle.std.proofs.Math.Nat.{suc-mul}
use Rattle.std.proofs.lemmas.Bool.{cases_eq, cases_lt}
use Rattle.std.proofs.lemmas.List.{get_or-set_same, get_or-set_other}
use Rattle.cayley_theory.specs.Bases.{summed}
use Rattle.cayley_theory.proofs.Summed.{summed_same}
use Rattle.base_counts.specs.Counting.{count_at}
use Rattle.cone_counts.specs.CountSteps.{IsSummed}

-- the sums of sums
pub summed_again : (k : ℕ) (f : ℕ → ℕ) (s : ℕ) → summed 1 (summed k f) s ≡ summed (suc k) f s
unfolding summed
summed_again k f zero = refl
summed_again k f (suc s) = ap (λ (a : ℕ). a + summed k f (suc s)) (summed_again k f s)

first_is : (f : ℕ → ℕ) → summed 1 f zero ≡ f zero
unfolding summed
first_is f = refl

next_sum : (f : ℕ → ℕ) (d : ℕ) → summed 1 f (suc d) ≡ summed 1 f d + f (suc d)
unfolding summed
next_sum f d = refl

-- how large sums get
sum_bound : (f : ℕ → ℕ) (b s : ℕ) → ((i : ℕ) → i ≤ s → f i ≤ b) → summed 1 f s ≤ suc s * b
sum_bound f b zero h = let k = h 0 (omega arith) in let e = first_is f in omega (arith, k, e)
sum_bound f b (suc s) h =
    let r = sum_bound f b s (λ i l. h i (omega (arith, l))) in
    let k = h (suc s) (omega arith) in
    let e = suc-mul (suc s) b in
    let n = next_sum f s in
    omega (arith, r, k, e, n)

times_more : (s b : ℕ) → s < 7 → suc s * b ≤ 7 * b
times_more zero b l = omega arith
times_more (suc zero) b l = omega arith
times_more (suc (suc zero)) b l = omega arith
times_more (suc (suc (suc zero))) b l = omega arith
times_more (suc (suc (suc (suc zero)))) b l = omega arith
times_more (suc (suc (suc (suc (suc zero))))) b l = omega arith
times_more (suc (suc (suc (suc (suc (suc zero)))))) b l = omega arith
times_more (suc (suc (suc (suc (suc (suc (suc s))))))) b l = absurd (omega (arith, l))

pub sum_below : (f : ℕ → ℕ) (b : ℕ) → ((i : ℕ) → i < 7 → f i ≤ b) → (s : ℕ) → s < 7 → summed 1 f s ≤ 7 * b
sum_below f b h s l = let r = sum_bound f b s (λ i k. h i (omega (arith, l, k))) in let m = times_more s b l in omega (arith, r, m)

summed_none : (f : ℕ → ℕ) (s : ℕ) → f s ≡ summed 0 f s
unfolding summed
summed_none f s = refl

-- after at most two times numbers are small enough to be summed once more
pub summed_small : (k : ℕ) (f : ℕ → ℕ) → k ≤ 2 → ((i : ℕ) → i < 7 → f i ≤ 2 ^ 22) → (s : ℕ) → s < 7 → summed k f s < 2 ^ 29
summed_small zero f l h s m = let k = subst (λ (a : ℕ). a ≤ 2 ^ 22) (summed_none f s) (h s m) in omega (arith, k)
summed_small (suc zero) f l h s m = let k = sum_below f (2 ^ 22) h s m in omega (arith, k)
summed_small (suc (suc zero)) f l h s m =
    let k = sum_below (summed 1 f) (7 * 2 ^ 22) (sum_below f (2 ^ 22) h) s m in
    subst (λ (a : ℕ). a < 2 ^ 29) (summed_again 1 f s) (omega (arith, k))
summed_small (suc (suc (suc k))) f l h s m = absurd (omega (arith, l))

-- the numbers of a set below a degree are summed, and those from there on, and of other sets, are as before
pub record IsSummedTo (set degree : ℕ) (old new : List ℕ) : Type 0 where
  pub done : (l : ℕ) → l < degree → count_at new set l ≡ summed 1 (count_at old set) l
  pub behind : (l : ℕ) → degree ≤ l → l < 7 → count_at new set l ≡ count_at old set l
  pub others : (k l : ℕ) → k ≢ set → l < 7 → count_at new k l ≡ count_at old k l

first_sum : (f : ℕ → ℕ) (l : ℕ) → l < 1 → f l ≡ summed 1 f l
unfolding summed
first_sum f zero h = refl
first_sum f (suc l) h = absurd (omega (arith, h))

pub sums_begin : (set : ℕ) (old : List ℕ) → IsSummedTo set 1 old old
sums_begin set old = record {
  done = λ l h. first_sum (count_at old set) l h;
  behind = λ l h k. refl;
  others = λ k l d m. refl;
}

-- the number before is at the place before
pub place_before : (set degree : ℕ) (counts : List ℕ) → 1 ≤ degree → get_or counts (set * 7 + degree - 1) 0 ≡ count_at counts set (degree - 1)
place_before set degree counts some = ap (λ (k : ℕ). get_or counts k 0) (omega (arith, some))

module _ (set degree : ℕ) (old new : List ℕ) (a : IsSummedTo set degree old new) (some : 1 ≤ degree) (small : degree < 7) where
  abbrev before_is : degree ≡ suc (degree - 1)
  before_is = omega (arith, some)

  -- the next sum is small
  pub next_small : ((l : ℕ) → l < 7 → count_at old set l < 2 ^ 29) → count_at new set degree + count_at new set (degree - 1) < 2 ^ 32
  next_small h =
      let e = a.behind degree (omega arith) small in
      let d = a.done (degree - 1) (omega (arith, some)) in
      let k = sum_bound (count_at old set) 536870911 (degree - 1) (λ i l. let m = h i (omega (arith, l, small, some)) in omega (arith, m)) in
      let m = h degree small in
      let t : suc (degree - 1) * 536870911 ≤ 6 * 536870911 = omega (arith, some, small) in
      omega (arith, e, d, k, m, t)

  module _ (within : set * 7 + degree < length new) (v : ℕ) (v_is : v ≡ count_at new set degree + count_at new set (degree - 1)) where
    abbrev next : List ℕ
    next = slice_set new (set * 7 + degree) v

    here : count_at next set degree ≡ summed 1 (count_at old set) degree
    here =
        let b = a.behind degree (omega arith) small in
        let d = a.done (degree - 1) (omega (arith, some)) in
        get_or-set_same new (set * 7 + degree) v 0 within ∙ v_is
        ∙ (let e : count_at new set degree + count_at new set (degree - 1) ≡ summed 1 (count_at old set) (degree - 1) + count_at old set degree
        = omega (arith, b, d) in e)
        ∙ ap (λ (i : ℕ). summed 1 (count_at old set) (degree - 1) + count_at old set i) before_is
        ∙ sym (next_sum (count_at old set) (degree - 1))
        ∙ ap (summed 1 (count_at old set)) (sym before_is)

    other : (k l : ℕ) → l < 7 → ((k ≡ set) × (l ≡ degree) → ⊥) → count_at next k l ≡ count_at new k l
    other k l m d = get_or-set_other new (set * 7 + degree) (k * 7 + l) v 0 (λ e. d (omega (arith, e, m, small), omega (arith, e, m, small)))

    pub sum_one : IsSummedTo set (degree + 1) old next
    sum_one = record {
      done = done;
      behind = λ l h m. other set l m (λ p. let e = p.1 in omega (arith, e, h)) ∙ a.behind l (omega (arith, h)) m;
      others = λ k l d m. other k l m (λ p. d p.0) ∙ a.others k l d m;
    }
      where
        done : (l : ℕ) → l < degree + 1 → count_at next set l ≡ summed 1 (count_at old set) l
        done l h = by (cases_eq l degree)
          where
            by : (l ≡ degree) ⊎ (l ≡ degree → ⊥) → count_at next set l ≡ summed 1 (count_at old set) l
            by (inl e) = subst (λ (i : ℕ). count_at next set i ≡ summed 1 (count_at old set) i) (sym e) here
            by (inr d) =
                let k : l < degree = by_lt (cases_lt l degree) in
                other set l (omega (arith, k, small)) (λ p. d p.1) ∙ a.done l k
              where
                by_lt : (l < degree) ⊎ (degree ≤ l) → l < degree
                by_lt (inl k) = k
                by_lt (inr k) = absurd (d (omega (arith, h, k)))

pub sums_end : (set degree : ℕ) (old new : List ℕ) → 7 ≤ degree → IsSummedTo set degree old new → IsSummed 1 set old new
sums_end set degree old new h a = record { sums = λ l m. a.done l (omega (arith, h, m)); others = a.others }

-- the same once more
pub none_summed : (set : ℕ) (old : List ℕ) → IsSummed 0 set old old
none_summed set old = record { sums = λ l h. summed_none (count_at old set) l; others = λ k l d m. refl }

pub summed_more : (times set : ℕ) (old now new : List ℕ) → IsSummed times set old now → IsSummed 1 set now new → IsSummed (times + 1) set old new
summed_more times set old now new a b = record {
  sums = λ l h. b.sums l h ∙ summed_same 1 (count_at now set) (summed times (count_at old set)) l (λ i k. a.sums i (omega (arith, h, k)))
      ∙ summed_again times (count_at old set) l ∙ ap (λ (k : ℕ). summed k (count_at old set) l) (let e : suc times ≡ times + 1 = omega arith in e);
  others = λ k l d m. b.others k l d m ∙ a.others k l d m;
}

pub small_again : (times set : ℕ) (old now : List ℕ) → times < 3 → IsSummed times set old now → ((l : ℕ) → l < 7 → count_at old set l ≤ 2 ^ 22) → (l : ℕ) → l < 7
    → count_at now set l < 2 ^ 29
small_again times set old now k a h l m = subst (λ (c : ℕ). c < 2 ^ 29) (sym (a.sums l m)) (summed_small times (count_at old set) (omega (arith, k)) h l m)
