-- The recursion of one system: the lengths and values of what it makes, that it can be carried out, and that it is determined.
use Rattle.std.proofs.Common.{◌≡◌, ℕ, zero, suc, ◌*◌, ◌<◌, List, [], ◌∷◌, ◌++◌, length, map, ℤ, pos, refl, ap, ap₂, subst, arith}
use Rattle.lattice_theory.specs.Vector.{dot, DividesInteger}
use Rattle.lattice_core.specs.Weights.{Weighted, weighted_degree}
use Rattle.lattice_theory.proofs.Members.{Each, empty, each_head, each_tail, each_append}
use Rattle.lattice_theory.proofs.Vectors.{zeros}
use Rattle.lattice_theory.proofs.Divisibility.{zero_divides}
use Rattle.weight_frame.specs.Frame.{IsZeroVector, IsGreatestDivisor, degrees_of, Exchange, keeps, takes, turns, exchanges, Exchanges, none, more as one_more}
use Rattle.weight_frame.proofs.Sums.{zero_exists, zero_unique, zero_pairs}
use Rattle.weight_frame.proofs.Divisors.{greatest_unique, greatest_none, greatest_head}
use Rattle.weight_frame.proofs.Steps.{AreSized, HasLengths, step_lengths, HasValues, step_values, step_keeps, HasStep, step_exists, step_unique, not_positive, not_negative}

-- lengths
pub recursion_lengths : (n : ℕ) (system : Weighted) (us ks : List (List ℤ)) (h : List ℤ) (g : ℕ) (made : List (List ℤ)) → AreSized n us
    → Exchanges n system us ks h g made → HasLengths n ks h
recursion_lengths n system _ _ h _ _ s (none z) = record { kept = empty; last = z.dimension }
recursion_lengths n system _ _ next g _ s (one_more {u = u} {us = us} {ks = ks} {h = h} {after = after} {made = made} {k = k} e d x) =
    let before = recursion_lengths n system us ks h after made (each_tail s) e in
    let here = step_lengths n u (weighted_degree system u) h after g k next (each_head s) x in
    record { kept = each_append here.kept before.kept; last = here.last }

-- the greatest common divisor
pub recursion_divisor : (n : ℕ) (system : Weighted) (us ks : List (List ℤ)) (h : List ℤ) (g : ℕ) (made : List (List ℤ))
    → Exchanges n system us ks h g made → IsGreatestDivisor (degrees_of system us) g
recursion_divisor n system _ _ h _ _ (none z) = greatest_none
recursion_divisor n system _ _ next g _ (one_more e d x) = d

-- values under the system
pub recursion_values : (n : ℕ) (system : Weighted) (us ks : List (List ℤ)) (h : List ℤ) (g : ℕ) (made : List (List ℤ)) → AreSized n us
    → Exchanges n system us ks h g made → HasValues (map pos system.weights) ks h g
recursion_values n system _ _ h _ _ s (none z) = record { kept = empty; last = zero_pairs n h (map pos system.weights) z }
recursion_values n system _ _ next g _ s (one_more {u = u} {us = us} {ks = ks} {h = h} {after = after} {made = made} {k = k} e d x) =
    let before = recursion_values n system us ks h after made (each_tail s) e in
    let sizes = recursion_lengths n system us ks h after made (each_tail s) e in
    let here = step_values n (map pos system.weights) u (weighted_degree system u) (degrees_of system us) h after g k next
    (each_head s) sizes.last refl before.last
    (recursion_divisor n system us ks h after made e) d x in
    record { kept = each_append here.kept before.kept; last = here.last }

-- values 0 under another system stay
pub recursion_keeps : (n : ℕ) (w : List ℤ) (system : Weighted) (us ks : List (List ℤ)) (h : List ℤ) (g : ℕ) (made : List (List ℤ))
    → AreSized n us → Each (λ x. dot w x ≡ pos 0) us → Exchanges n system us ks h g made → HasValues w ks h 0
recursion_keeps n w system _ _ h _ _ s v (none z) = record { kept = empty; last = zero_pairs n h w z }
recursion_keeps n w system _ _ next g _ s v (one_more {u = u} {us = us} {ks = ks} {h = h} {after = after} {made = made} {k = k} e d x) =
    let before = recursion_keeps n w system us ks h after made (each_tail s) (each_tail v) e in
    let sizes = recursion_lengths n system us ks h after made (each_tail s) e in
    let here = step_keeps n w u (weighted_degree system u) h after g k next (each_head s) sizes.last (each_head v) before.last x in
    record { kept = each_append here.kept before.kept; last = here.last }

-- the recursion can be carried out
pub record HasRecursion (n : ℕ) (system : Weighted) (us : List (List ℤ)) : Type 0 where
  pub kept : List (List ℤ)
  pub last : List ℤ
  pub divisor : ℕ
  pub made : List (List ℤ)
  pub exchanged : Exchanges n system us kept last divisor made

-- with one vector more
pub recursion_more : (n : ℕ) (system : Weighted) (u : List ℤ) (us : List (List ℤ)) → length u ≡ n → AreSized n us
    → (r : HasRecursion n system us)
    → HasStep n u (weighted_degree system u) (degrees_of system us) r.last r.divisor
recursion_more n system u us l s r = step_exists n u (weighted_degree system u) (degrees_of system us) r.last r.divisor l
    (recursion_lengths n system us r.kept r.last r.divisor r.made s r.exchanged).last
    (recursion_divisor n system us r.kept r.last r.divisor r.made r.exchanged)

pub recursion_with : (n : ℕ) (system : Weighted) (u : List ℤ) (us : List (List ℤ)) (r : HasRecursion n system us)
    → HasStep n u (weighted_degree system u) (degrees_of system us) r.last r.divisor → HasRecursion n system (u ∷ us)
recursion_with n system u us r x = record {
  kept = x.kept ++ r.kept;
  last = x.last;
  divisor = x.divisor;
  made = r.made ++ (x.kept ++ (x.last ∷ []));
  exchanged = one_more r.exchanged x.greatest x.step;
}

pub recursion_exists : (n : ℕ) (system : Weighted) (us : List (List ℤ)) → AreSized n us → HasRecursion n system us
recursion_exists n system [] s = record { kept = []; last = zeros n; divisor = 0; made = []; exchanged = none (zero_exists n) }
recursion_exists n system (u ∷ us) s =
    let r = recursion_exists n system us (each_tail s) in
    recursion_with n system u us r (recursion_more n system u us (each_head s) (each_tail s) r)

-- and in one way
pub record AreSameRecursion (ks ks' : List (List ℤ)) (h h' : List ℤ) (g g' : ℕ) (made made' : List (List ℤ)) : Type 0 where
  pub kept : ks ≡ ks'
  pub last : h ≡ h'
  pub divisor : g ≡ g'
  pub all : made ≡ made'

pub same_append : {X : Type 0} (xs xs' ys ys' : List X) → xs ≡ xs' → ys ≡ ys' → xs ++ ys ≡ xs' ++ ys'
same_append xs xs' ys ys' e f = ap₂ (λ (u v : List _). u ++ v) e f

recursion_joined : (n : ℕ) (u : List ℤ) (v : ℤ) (values : List ℤ) (h h' : List ℤ) (a a' g g' : ℕ) (ks ks' made made' k k' : List (List ℤ))
    (x x' : List ℤ) → AreSameRecursion ks ks' h h' a a' made made'
    → IsGreatestDivisor (v ∷ values) g → IsGreatestDivisor (v ∷ values) g' → Exchange n u v h a g k x → Exchange n u v h' a' g' k' x'
    → AreSameRecursion (k ++ ks) (k' ++ ks') x x' g g' (made ++ (k ++ (x ∷ []))) (made' ++ (k' ++ (x' ∷ [])))
recursion_joined n u v values h h' a a' g g' ks ks' made made' k k' x x' same d d' i i' =
    let e = greatest_unique (v ∷ values) g g' d d' in
    let j : Exchange n u v h' a' g' k x = rw (same.last, same.divisor, e) at i in
    let step = step_unique n u v h' a' g' k x k' x' j i' in
    record {
      kept = same_append k k' ks ks' step.kept same.kept;
      last = step.last;
      divisor = e;
      all = same_append made made' (k ++ (x ∷ [])) (k' ++ (x' ∷ [])) same.all
          (same_append k k' (x ∷ []) (x' ∷ []) step.kept (ap (λ (y : List ℤ). y ∷ []) step.last));
    }

pub recursion_unique : (n : ℕ) (system : Weighted) (us ks : List (List ℤ)) (h : List ℤ) (g : ℕ) (made ks' : List (List ℤ)) (h' : List ℤ)
    (g' : ℕ) (made' : List (List ℤ))
    → Exchanges n system us ks h g made → Exchanges n system us ks' h' g' made' → AreSameRecursion ks ks' h h' g g' made made'
recursion_unique n system _ _ h _ _ _ h' _ _ (none z) (none z') = record {
  kept = refl;
  last = zero_unique n h h' z z';
  divisor = refl;
  all = refl;
}
recursion_unique n system _ _ x g _ _ x' g' _ (one_more {u = u} {us = us} {ks = ks} {h = h} {after = a} {made = made} {k = k} e d i)
    (one_more {ks = ks'} {h = h'} {after = a'} {made = made'} {k = k'} e' d' i') =
    recursion_joined n u (weighted_degree system u) (degrees_of system us) h h' a a' g g' ks ks' made made' k k' x x'
    (recursion_unique n system us ks h a made ks' h' a' made' e e') d d' i i'

-- where all values are 0, h is the zero vector
no_value : (v : ℤ) (values : List ℤ) (g : ℕ) → g ≡ 0 → IsGreatestDivisor (v ∷ values) g → v ≡ pos 0
no_value v values g z d = zero_divides v (subst (λ (m : ℕ). DividesInteger m v) z (greatest_head v values g d))

no_divisor : {P : Type 0} (p g after : ℕ) → g ≡ 0 → 0 < after → p * g ≡ after → P
no_divisor p zero after z h e = absurd (omega arith)
no_divisor p (suc g) after z h e = absurd (omega arith)

step_zero : (n : ℕ) (u : List ℤ) (v : ℤ) (values h : List ℤ) (after g : ℕ) (k : List (List ℤ)) (next : List ℤ) → g ≡ 0
    → IsGreatestDivisor (v ∷ values) g → Exchange n u v h after g k next → IsZeroVector n next
step_zero n u v values h after g _ _ z d (keeps a b i) = i
step_zero n u v values h after g _ _ z d (takes a b) = not_positive v (no_value v values g z d) b
step_zero n u v values h after g _ _ z d (turns a b) = not_negative v (no_value v values g z d) b
step_zero n u v values h after g _ _ z d (exchanges p q s t a b x y) = no_divisor p g after z a b.behind

pub recursion_zero : (n : ℕ) (system : Weighted) (us ks : List (List ℤ)) (h : List ℤ) (g : ℕ) (made : List (List ℤ)) → g ≡ 0
    → Exchanges n system us ks h g made → IsZeroVector n h
recursion_zero n system _ _ h _ _ e (none z) = z
recursion_zero n system _ _ next g _ z (one_more {u = u} {us = us} {h = h} {after = after} {k = k} e d x) =
    step_zero n u (weighted_degree system u) (degrees_of system us) h after g k next z d x
