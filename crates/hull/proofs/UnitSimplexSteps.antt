-- The unit simplex is made corner by corner.
use Rattle.std.proofs.Common.{◌≡◌, ⊎_elim, ℕ, zero, suc, ◌+◌, ◌<◌, ◌≤◌, List, [], ◌∷◌, ◌++◌, length, ◌*◌, ℤ, pos, negsuc, ◌+ℤ◌, nat_abs, sym, ap, ◌∙◌, subst, arith}
use Rattle.std.specs.Prelude.{◌^◌}
use Rattle.std.proofs.lemmas.Int.{ints}
use Rattle.std.proofs.lemmas.Bool.Decides.{eqb_tells}
use Rattle.lattice_theory.specs.Vector.{entry}
use Rattle.lattice_theory.specs.Size.{absolute_sum}
use Rattle.lattice_theory.proofs.Vectors.{same_from_entries, entry_past}
use Rattle.hull.proofs.Vectors.{entry_small}
use Rattle.std.proofs.lemmas.Bool.{cases_lt}
use Rattle.std.proofs.lemmas.List.{length_push, get_or_push, get_or_append_left}
use Rattle.lattice_theory.specs.Affine.{Affine}
use Rattle.hull.specs.steps.Tight.{function_of}
use Rattle.hull.specs.steps.Facing.{corner_of, unit_step, step_at, IsStepped, IsStepFunction, IsTopFunction, IsUnitSimplex}

-- the corners and functions of the first axes
pub record IsUnitBelow (p : List ℤ) (axis : ℕ) (corners : List (List ℤ)) (functions : List Affine) : Type 0 where
  pub corner_count : length corners ≡ axis + 1
  pub function_count : length functions ≡ axis + 1
  pub first : corner_of corners 0 ≡ p
  pub steps : (i : ℕ) → i < axis → IsStepped p i (corner_of corners (suc i))
  pub top : (q : List ℤ) → IsStepped p 0 q → IsTopFunction p q (function_of functions 0)
  pub sides : (i : ℕ) → i < axis → IsStepFunction p i (function_of functions (suc i))

module _ (p : List ℤ) (axis : ℕ) (corners more : List (List ℤ)) (functions others : List Affine) (q : List ℤ) (f : Affine) (step : IsStepped p axis q)
    (side : IsStepFunction p axis f) (corner_pushed : more ≡ corners ++ (q ∷ [])) (function_pushed : others ≡ functions ++ (f ∷ []))
    (so_far : IsUnitBelow p axis corners functions) where
  old_corner : (i : ℕ) → i < axis + 1 → corner_of more i ≡ corner_of corners i
  old_corner i h = ap (λ (cs : List (List ℤ)). corner_of cs i) corner_pushed
      ∙ get_or_append_left corners (q ∷ []) [] i (let c = so_far.corner_count in omega arith)

  old_function : (i : ℕ) → i < axis + 1 → function_of others i ≡ function_of functions i
  old_function i h = ap (λ (fs : List Affine). function_of fs i) function_pushed
      ∙ get_or_append_left functions (f ∷ []) _ i (let c = so_far.function_count in omega arith)

  new_corner : (i : ℕ) → i ≡ axis + 1 → corner_of more i ≡ q
  new_corner i e = ap (λ (cs : List (List ℤ)). corner_of cs i) corner_pushed
      ∙ get_or_push corners q [] i (let c = so_far.corner_count in omega arith)

  new_function : (i : ℕ) → i ≡ axis + 1 → function_of others i ≡ f
  new_function i e = ap (λ (fs : List Affine). function_of fs i) function_pushed
      ∙ get_or_push functions f _ i (let c = so_far.function_count in omega arith)

  pub unit_more : IsUnitBelow p (axis + 1) more others
  unit_more = record {
    corner_count = ap length corner_pushed ∙ length_push corners q ∙ ap (λ (m : ℕ). m + 1) so_far.corner_count;
    function_count = ap length function_pushed ∙ length_push functions f ∙ ap (λ (m : ℕ). m + 1) so_far.function_count;
    first = old_corner 0 (omega arith) ∙ so_far.first;
    steps = λ i h. ⊎_elim
        (λ (b : i < axis). subst (IsStepped p i) (sym (old_corner (suc i) (omega arith))) (so_far.steps i b))
        (λ (b : axis ≤ i). last_step i (omega arith)) (cases_lt i axis);
    top = λ r s. subst (IsTopFunction p r) (sym (old_function 0 (omega arith))) (so_far.top r s);
    sides = λ i h. ⊎_elim
        (λ (b : i < axis). subst (IsStepFunction p i) (sym (old_function (suc i) (omega arith))) (so_far.sides i b))
        (λ (b : axis ≤ i). last_side i (omega arith)) (cases_lt i axis);
  }
    where
      last_step : (i : ℕ) → axis ≡ i → IsStepped p i (corner_of more (suc i))
      last_step i e = subst (IsStepped p i) (sym (new_corner (suc i) (omega arith))) (subst (λ (j : ℕ). IsStepped p j q) e step)

      last_side : (i : ℕ) → axis ≡ i → IsStepFunction p i (function_of others (suc i))
      last_side i e = subst (IsStepFunction p i) (sym (new_function (suc i) (omega arith))) (subst (λ (j : ℕ). IsStepFunction p j f) e side)

-- all of them
pub unit_all : (p : List ℤ) (axis : ℕ) (corners : List (List ℤ)) (functions : List Affine) → 1 ≤ length p → axis ≡ length p
    → IsUnitBelow p axis corners functions → IsUnitSimplex p corners functions
unit_all p axis corners functions some e all = record {
  corner_count = all.corner_count ∙ ap (λ (m : ℕ). m + 1) e;
  function_count = all.function_count ∙ ap (λ (m : ℕ). m + 1) e;
  first = all.first;
  steps = λ i h. all.steps i (omega (arith, h, e));
  top = all.top (corner_of corners 1) (all.steps zero (omega (arith, some, e)));
  sides = λ i h. all.sides i (omega (arith, h, e));
}

-- a stepped point is the only one
stepped_unique : (p q r : List ℤ) (axis : ℕ) → IsStepped p axis q → IsStepped p axis r → q ≡ r
stepped_unique p q r axis h k = same_from_entries q r (h.dimension ∙ sym k.dimension) (λ i. ⊎_elim
    (λ (b : i < length p). h.entries i b ∙ sym (k.entries i b))
    (λ (b : length p ≤ i). entry_past q i (let d = h.dimension in omega arith) ∙ sym (entry_past r i (let d = k.dimension in omega arith)))
    (cases_lt i (length p)))

-- and small
entries_sum : (m : ℕ) (x : List ℤ) → ((i : ℕ) → nat_abs (entry x i) ≤ m) → absolute_sum x ≤ length x * m
entries_sum m [] h = omega arith
entries_sum m (a ∷ x) h = let first = h 0 in let rest = entries_sum m x (λ i. h (suc i)) in omega (arith, first, rest)

step_at_small : (axis i : ℕ) (a : ℤ) → nat_abs (step_at axis i a) ≤ 1
step_at_small axis i a = ⊎_elim (λ h. rw h.0 (unit_small a)) (λ h. rw h.0 (omega (arith, ints))) (eqb_tells i axis)
  where
    unit_small : (a : ℤ) → nat_abs (unit_step a) ≤ 1
    unit_small (pos zero) = omega (arith, ints)
    unit_small (pos (suc a)) = omega (arith, ints)
    unit_small (negsuc a) = omega (arith, ints)

pub stepped_small : (p q : List ℤ) (axis : ℕ) → length p ≤ 6 → absolute_sum p ≤ 2 ^ 30 → IsStepped p axis q → absolute_sum q ≤ 2 ^ 60
stepped_small p q axis most small step =
    few (length q) (absolute_sum q) (let d = step.dimension in omega arith) (entries_sum (2 ^ 31) q at)
  where
    few : (l s : ℕ) → l ≤ 6 → s ≤ l * 2 ^ 31 → s ≤ 2 ^ 60
    few l s h k = omega arith

    sum : (a b : ℤ) → nat_abs a ≤ 2 ^ 30 → nat_abs b ≤ 1 → nat_abs (a +ℤ b) ≤ 2 ^ 31
    sum a b h k = omega (arith, ints)

    nothing : (a : ℤ) → a ≡ pos 0 → nat_abs a ≤ 2 ^ 31
    nothing a e = omega (arith, ints)

    at : (i : ℕ) → nat_abs (entry q i) ≤ 2 ^ 31
    at i = ⊎_elim
        (λ (b : i < length p). subst (λ (z : ℤ). nat_abs z ≤ 2 ^ 31) (sym (step.entries i b))
        (sum (entry p i) (step_at axis i (entry p i)) (entry_small p i (2 ^ 30) small) (step_at_small axis i (entry p i))))
        (λ (b : length p ≤ i). nothing (entry q i) (entry_past q i (let d = step.dimension in omega arith))) (cases_lt i (length p))

-- at the start there is the point alone
pub unit_start : (p q copy : List ℤ) (corners : List (List ℤ)) (functions : List Affine) (f : Affine) → copy ≡ p → corners ≡ copy ∷ []
    → functions ≡ f ∷ [] → IsStepped p 0 q → IsTopFunction p q f → IsUnitBelow p 0 corners functions
unit_start p q copy corners functions f e k l step top = record {
  corner_count = ap length k;
  function_count = ap length l;
  first = ap (λ (cs : List (List ℤ)). corner_of cs 0) k ∙ e;
  steps = λ i h. absurd (omega (arith, h));
  top = λ r s. subst (IsTopFunction p r) (sym (ap (λ (fs : List Affine). function_of fs 0) l))
      (subst (λ (x : List ℤ). IsTopFunction p x f) (stepped_unique p q r 0 step s) top);
  sides = λ i h. absurd (omega (arith, h));
}
