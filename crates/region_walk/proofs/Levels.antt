-- Levels of functions.
use Rattle.std.specs.Prelude.{◌≢◌, ℤ, pos, nat_abs, ◌^◌, ◌≤◌, ◌≤ℤ◌}
use Rattle.std.specs.List.{All}
use Rattle.std.proofs.Common.{◌≡◌, ◌⊎◌, inl, inr, ℕ, ◌<◌, List, [], ◌∷◌, ◌++◌, length, refl, sym, subst, ◌∙◌, arith}
use Rattle.std.proofs.Math.ListN.{set, length-set}
use Rattle.std.proofs.lemmas.List.{get_or-set_same, get_or-set_other}
use Rattle.lattice_theory.specs.Affine.{Affine, value}
use Rattle.lattice_theory.specs.Vector.{entry}
use Rattle.lattice_theory.proofs.Members.{each_from_all, all_from_each, each_push, each_left, each_right, each_head}
use Rattle.lattice_theory.proofs.Vectors.{entry_last}
use Rattle.region_walk.specs.Regions.{level, IsInside, IsOfLevel, AreLevels}
use Rattle.region_walk.specs.steps.Beginnings.{MeetsLevel}
use Rattle.region_walk.specs.steps.Spans.{IsBetween, AreNonnegativeAt}

-- what holds of a list and of one more
all_push : (P : Affine → Type 0) (fs : List Affine) (f : Affine) → All P fs → P f → All P (fs ++ f ∷ [])
all_push P fs f h k = all_from_each (each_push (each_from_all P fs h) k)

all_before : (P : Affine → Type 0) (fs : List Affine) (f : Affine) → All P (fs ++ f ∷ []) → All P fs
all_before P fs f h = all_from_each (each_left fs (f ∷ []) (each_from_all P (fs ++ f ∷ []) h))

all_last : (P : Affine → Type 0) (fs : List Affine) (f : Affine) → All P (fs ++ f ∷ []) → P f
all_last P fs f h = each_head (each_right fs (f ∷ []) (each_from_all P (fs ++ f ∷ []) h))

place_cases : (k i : ℕ) → (k ≡ i) ⊎ (k ≢ i)
place_cases k i = grind arith

-- one level with one function more
module _ (low high : List ℤ) (levels : List (List Affine)) (i : ℕ) (f : Affine) (more_functions : List Affine) (within : i < length levels)
    (are : more_functions ≡ level levels i ++ f ∷ []) where
  here : level (set levels i more_functions) i ≡ level levels i ++ f ∷ []
  here = get_or-set_same levels i more_functions [] within ∙ are

  elsewhere : (k : ℕ) → k ≢ i → level (set levels i more_functions) k ≡ level levels k
  elsewhere k h = get_or-set_other levels i k more_functions [] h

  -- what holds of each level's functions and of this one
  all_more : (P : Affine → Type 0) (k : ℕ) → All P (level levels k) → (k ≡ i → P f) → All P (level (set levels i more_functions) k)
  all_more P k h this = by (place_cases k i)
    where
      by : (k ≡ i) ⊎ (k ≢ i) → All P (level (set levels i more_functions) k)
      by (inl e) = rw e (subst (All P) (sym here) (all_push P (level levels i) f (rw e at h) (this e)))
      by (inr e) = subst (All P) (sym (elsewhere k e)) h

  all_fewer : (P : Affine → Type 0) (k : ℕ) → All P (level (set levels i more_functions) k) → All P (level levels k)
  all_fewer P k h = by (place_cases k i)
    where
      by : (k ≡ i) ⊎ (k ≢ i) → All P (level levels k)
      by (inl e) = rw e (all_before P (level levels i) f (subst (All P) here (rw e at h)))
      by (inr e) = subst (All P) (elsewhere k e) h

  pub added_levels : AreLevels low high levels → IsOfLevel (length low) i f → AreLevels low high (set levels i more_functions)
  added_levels sound of_level = record {
    high_dimension = sound.high_dimension;
    one_each = length-set levels i more_functions ∙ sound.one_each;
    least = sound.least;
    most = sound.most;
    ordered = sound.ordered;
    small_low = sound.small_low;
    small_high = sound.small_high;
    functions = λ k l. all_more (IsOfLevel (length low) k) k (sound.functions k l) (λ e. rw e of_level);
  }

  pub added_members : length levels ≡ length low → (x : List ℤ)
      → (IsInside low high (set levels i more_functions) x → IsInside low high levels x × (pos 0 ≤ℤ value f x))
      × (IsInside low high levels x × (pos 0 ≤ℤ value f x) → IsInside low high (set levels i more_functions) x)
  added_members each x = (
    λ h. (
      record { inside = h.inside; nonnegative = λ k l. all_fewer (λ g. pos 0 ≤ℤ value g x) k (h.nonnegative k l) },
      all_last (λ g. pos 0 ≤ℤ value g x) (level levels i) f
          (subst (All (λ g. pos 0 ≤ℤ value g x)) here (h.nonnegative i (let e = h.inside.low_dimension in omega arith))),
    ),
    λ h. record { inside = h.0.inside; nonnegative = λ k l. all_more (λ g. pos 0 ≤ℤ value g x) k (h.0.nonnegative k l) (λ e. h.1) },
  )

-- meeting a level with one more coordinate
pub meets_level : (low high : List ℤ) (levels : List (List Affine)) (p : List ℤ) (v a b : ℤ) (functions : List Affine)
    → functions ≡ level levels (length p) → a ≡ entry low (length p) → b ≡ entry high (length p)
    → (IsBetween a b v × AreNonnegativeAt functions (p ++ v ∷ []) → MeetsLevel low high levels (length p) (p ++ v ∷ []))
    × (MeetsLevel low high levels (length p) (p ++ v ∷ []) → IsBetween a b v × AreNonnegativeAt functions (p ++ v ∷ []))
meets_level low high levels p v a b functions e f g = (
  λ h. record {
    between = rw (entry_last p v (length p) refl, sym f, sym g) h.0;
    nonnegative = subst (λ fs. AreNonnegativeAt fs (p ++ v ∷ [])) e h.1;
  },
  λ h. (
    let w = rw (entry_last p v (length p) refl) at h.between in rw (f, g) w,
    subst (λ fs. AreNonnegativeAt fs (p ++ v ∷ [])) (sym e) h.nonnegative,
  ),
)

-- what the functions of a level allow
pub level_places : (n k : ℕ) (fs : List Affine) → All (IsOfLevel n k) fs → (j : ℕ) → j < n → All (λ f. j < length f.normal) fs
level_places n k fs h j l = λ i d m. let e = (h i d m).dimension in omega arith

pub level_constants : (n k : ℕ) (fs : List Affine) → All (IsOfLevel n k) fs → All (λ f. nat_abs f.constant ≤ 2 ^ 103) fs
level_constants n k fs h = λ i d m. (h i d m).small
