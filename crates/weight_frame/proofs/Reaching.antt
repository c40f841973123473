-- How the recursion goes on in the program, within the limit, and that it can be carried to its end where a vector is above the limit.
use Rattle.std.proofs.Common.{◌≡◌, ℕ, zero, suc, ◌+◌, ◌<◌, ◌≤◌, List, [], ◌∷◌, ◌++◌, length, drop, ℤ, sym, ap, subst, ◌∙◌, All, arith, length-append, append_assoc, get_or}
use Rattle.std.proofs.lemmas.List.{drop_more}
use Rattle.lattice_core.specs.Weights.{Weighted, weighted_degree, columns_of}
use Rattle.lattice_theory.proofs.Members.{empty, each_from_all, all_from_each, each_append, each_tail, each_head}
use Rattle.lattice_core.specs.declared.limits.TheConstants.{MOST_FRAME_ENTRY}
use Rattle.weight_frame.specs.Frame.{IsZeroVector, AreUnitVectors, degrees_of, Exchange, keeps, takes, turns, exchanges, none, more as one_more, AreExchanged, done, next, largest, AreWithinEntryLimit, IsFirstAboveLimit}
use Rattle.weight_frame.specs.steps.Reached.{AreSmallVectors, IsStep, IsStepAbove, IsReached, IsAbove, AreReached}
use Rattle.weight_frame.specs.Answers.{IsFrameWithinLimit, ExceedsEntryLimit}
use Rattle.weight_frame.proofs.Steps.{AreSized, step_lengths}
use Rattle.weight_frame.proofs.StepAnswers.{within_one, within_none}
use Rattle.weight_frame.proofs.Recursion.{HasRecursion, recursion_lengths, recursion_divisor, recursion_more}
use Rattle.weight_frame.proofs.Units.{unit_vectors_sized, unit_vectors_small}
use Rattle.weight_frame.proofs.Frames.{exchanged_exists}

-- vectors within the limit
pub within_append : (xs ys : List (List ℤ)) → AreWithinEntryLimit xs → AreWithinEntryLimit ys → AreWithinEntryLimit (xs ++ ys)
within_append xs ys h k = all_from_each {P = λ x. largest x ≤ MOST_FRAME_ENTRY}
    (each_append (each_from_all (λ x. largest x ≤ MOST_FRAME_ENTRY) xs h) (each_from_all (λ x. largest x ≤ MOST_FRAME_ENTRY) ys k))

-- the first vector above the limit
pub first_behind : (xs ys : List (List ℤ)) (told : ℕ) → AreWithinEntryLimit xs → IsFirstAboveLimit ys told
    → IsFirstAboveLimit (xs ++ ys) told
first_behind xs ys told h f = record {
  before = xs ++ f.before;
  vector = f.vector;
  behind = f.behind;
  split = ap (λ (z : List (List ℤ)). xs ++ z) f.split ∙ sym (append_assoc xs f.before (f.vector ∷ f.behind));
  within = within_append xs f.before h f.within;
  value = f.value;
  above = f.above;
}

pub first_before : (xs ys : List (List ℤ)) (told : ℕ) → IsFirstAboveLimit xs told → IsFirstAboveLimit (xs ++ ys) told
first_before xs ys told f = record {
  before = f.before;
  vector = f.vector;
  behind = f.behind ++ ys;
  split = ap (λ (z : List (List ℤ)). z ++ ys) f.split ∙ append_assoc f.before (f.vector ∷ f.behind) ys;
  within = f.within;
  value = f.value;
  above = f.above;
}

-- the sizes in the two forms
pub sized_from_all : (n : ℕ) (xs : List (List ℤ)) → All (λ x. length x ≡ n) xs → AreSized n xs
sized_from_all n xs h = each_from_all (λ x. length x ≡ n) xs h

dimension_append : (n : ℕ) (xs ys : List (List ℤ)) → AreSized n xs → All (λ x. length x ≡ n) ys → All (λ x. length x ≡ n) (xs ++ ys)
dimension_append n xs ys h k = all_from_each {P = λ x. length x ≡ n} (each_append h (sized_from_all n ys k))

-- a step keeps at most one vector
one_kept : (n : ℕ) (u : List ℤ) (v : ℤ) (h : List ℤ) (after g : ℕ) (k : List (List ℤ)) (x : List ℤ) → Exchange n u v h after g k x
    → length k ≤ 1
one_kept n u v h after g _ _ (keeps a b i) = omega arith
one_kept n u v h after g _ _ (takes a b) = omega arith
one_kept n u v h after g _ _ (turns a b) = omega arith
one_kept n u v h after g _ _ (exchanges p q s t a b i j) = omega arith

-- before the first step
pub reached_none : (n : ℕ) (system : Weighted) (h : List ℤ) → IsZeroVector n h → largest h ≤ MOST_FRAME_ENTRY → IsReached n system [] [] h 0
reached_none n system h z l = record {
  made = [];
  exchanged = none z;
  within = within_none;
  small = record { dimension = all_from_each {P = λ x. length x ≡ n} empty; within = within_none };
  count = omega arith;
  dimension = z.dimension;
  last_within = l;
  small_divisor = omega arith;
}

-- one step more
pub reached_more : (n : ℕ) (system : Weighted) (u : List ℤ) (us kept : List (List ℤ)) (last : List ℤ) (after : ℕ) (k : List (List ℤ))
    (x : List ℤ) (g : ℕ) → length u ≡ n → IsReached n system us kept last after
    → IsStep n u (weighted_degree system u) last after k x g → IsReached n system (u ∷ us) (k ++ kept) x g
reached_more n system u us kept last after k x g l r s =
    let sizes = step_lengths n u (weighted_degree system u) last after g k x l s.step in
    let one = one_kept n u (weighted_degree system u) last after g k x s.step in
    let count = r.count in
    record {
      made = r.made ++ (k ++ (x ∷ []));
      exchanged = one_more r.exchanged
          (s.divisor (degrees_of system us) (recursion_divisor n system us kept last after r.made r.exchanged)) s.step;
      within = within_append r.made (k ++ (x ∷ [])) r.within (within_append k (x ∷ []) s.kept (within_one x s.last));
      small = record {
        dimension = dimension_append n k kept sizes.kept r.small.dimension;
        within = within_append k kept s.kept r.small.within;
      };
      count = omega (arith, length-append k kept);
      dimension = sizes.last;
      last_within = s.last;
      small_divisor = s.small;
    }

-- one step more, which makes a vector above the limit
pub above_more : (n : ℕ) (system : Weighted) (u : List ℤ) (us kept : List (List ℤ)) (last : List ℤ) (after told : ℕ)
    → IsReached n system us kept last after → IsStepAbove n u (weighted_degree system u) last after told → IsAbove n system (u ∷ us) told
above_more n system u us kept last after told r s = record {
  kept = s.k ++ kept;
  last = s.next;
  divisor = s.g;
  made = r.made ++ (s.k ++ (s.next ∷ []));
  exchanged = one_more r.exchanged
      (s.divisor (degrees_of system us) (recursion_divisor n system us kept last after r.made r.exchanged)) s.step;
  first = first_behind r.made (s.k ++ (s.next ∷ [])) told r.within s.first;
}

-- the recursion goes on behind it
above_with : (n : ℕ) (system : Weighted) (u : List ℤ) (us : List (List ℤ)) (told : ℕ) → length u ≡ n → AreSized n us
    → IsAbove n system us told → IsAbove n system (u ∷ us) told
above_with n system u us told l s a =
    let r : HasRecursion n system us = record {
      kept = a.kept;
      last = a.last;
      divisor = a.divisor;
      made = a.made;
      exchanged = a.exchanged;
    } in
    let x = recursion_more n system u us l s r in
    record {
      kept = x.kept ++ a.kept;
      last = x.last;
      divisor = x.divisor;
      made = a.made ++ (x.kept ++ (x.last ∷ []));
      exchanged = one_more a.exchanged x.greatest x.step;
      first = first_before a.made (x.kept ++ (x.last ∷ [])) told a.first;
    }

pub above_drop : (n : ℕ) (system : Weighted) (i : ℕ) (us : List (List ℤ)) (told : ℕ) → AreSized n us → IsAbove n system (drop i us) told
    → IsAbove n system us told
above_drop n system zero us told s a = a
above_drop n system (suc i) [] told s a = a
above_drop n system (suc i) (u ∷ us) told s a =
    above_with n system u us told (each_head s) (each_tail s) (above_drop n system i us told (each_tail s) a)

-- the unit vectors
pub units_reached : (n : ℕ) (vectors : List (List ℤ)) → AreUnitVectors n vectors → AreReached n [] vectors
units_reached n vectors u = record {
  units = vectors;
  are_units = u;
  made = [];
  exchanged = done;
  within = within_none;
  small = record {
    dimension = all_from_each {P = λ x. length x ≡ n} (unit_vectors_sized n vectors u);
    within = all_from_each {P = λ x. largest x ≤ MOST_FRAME_ENTRY} (unit_vectors_small n vectors u);
  };
  count = let c = u.count in omega arith;
}

-- the systems one after another
pub exchanged_append : (n : ℕ) (systems others : List Weighted) (us vectors ws made later : List (List ℤ))
    → AreExchanged n systems us vectors made → AreExchanged n others vectors ws later
    → AreExchanged n (systems ++ others) us ws (made ++ later)
exchanged_append n _ others us _ ws _ later done f = f
exchanged_append n _ others us vectors ws _ later (next {system = w} {systems = rest} {ks = ks} {made = made} {later = behind} e f) g =
    subst (λ (z : List (List ℤ)). AreExchanged n (w ∷ (rest ++ others)) us ws z) (sym (append_assoc made behind later))
    (next e (exchanged_append n rest others ks vectors ws behind later f g))

-- one system more
pub reached_system : (n : ℕ) (systems : List Weighted) (system : Weighted) (us kept : List (List ℤ)) (last : List ℤ) (divisor : ℕ)
    → AreReached n systems us → IsReached n system us kept last divisor → AreReached n (systems ++ (system ∷ [])) kept
reached_system n systems system us kept last divisor a r = record {
  units = a.units;
  are_units = a.are_units;
  made = a.made ++ (r.made ++ []);
  exchanged = exchanged_append n systems (system ∷ []) a.units us kept a.made (r.made ++ []) a.exchanged (next r.exchanged done);
  within = within_append a.made (r.made ++ []) a.within (within_append r.made [] r.within (within_none));
  small = r.small;
  count = let c = a.count in let d = r.count in omega arith;
}

-- a vector above the limit in the recursion of some system
pub exceeds : (systems before behind : List Weighted) (system : Weighted) (us : List (List ℤ)) (told : ℕ)
    → systems ≡ before ++ (system ∷ behind) → AreReached (columns_of systems) before us → IsAbove (columns_of systems) system us told
    → ExceedsEntryLimit systems told
exceeds systems before behind system us told e a x =
    let n = columns_of systems in
    let sizes = sized_from_all n us a.small.dimension in
    let later = exchanged_exists n behind x.kept (recursion_lengths n system us x.kept x.last x.divisor x.made sizes x.exchanged).kept in
    record {
      vectors = later.vectors;
      made = a.made ++ (x.made ++ later.made);
      recursion = record {
        units = a.units;
        are_units = a.are_units;
        exchanged = subst (λ (z : List Weighted). AreExchanged n z a.units later.vectors (a.made ++ (x.made ++ later.made))) (sym e)
            (exchanged_append n before (system ∷ behind) a.units us later.vectors a.made (x.made ++ later.made) a.exchanged
            (next x.exchanged later.exchanged));
      };
      first = first_behind a.made (x.made ++ later.made) told a.within (first_before x.made later.made told x.first);
    }

-- all systems
pub reached_all : (systems done_with : List Weighted) (vectors : List (List ℤ)) → done_with ≡ systems
    → AreReached (columns_of systems) done_with vectors → IsFrameWithinLimit systems vectors
reached_all systems done_with vectors e a = record {
  made = a.made;
  recursion = record {
    units = a.units;
    are_units = a.are_units;
    exchanged = subst (λ (z : List Weighted). AreExchanged (columns_of systems) z a.units vectors a.made) e a.exchanged;
  };
  within = a.within;
}

-- a vector of the list
pub record IsSmallVector (n : ℕ) (u : List ℤ) : Type 0 where
  pub dimension : length u ≡ n
  pub within : largest u ≤ MOST_FRAME_ENTRY

pub vector_at : (n : ℕ) (us : List (List ℤ)) (i : ℕ) (u : List ℤ) → AreSmallVectors n us → i < length us → u ≡ get_or us i u
    → IsSmallVector n u
vector_at n us i u s h e = record {
  dimension = ap length e ∙ s.dimension i u h;
  within = subst (λ (x : List ℤ). largest x ≤ MOST_FRAME_ENTRY) (sym e) (s.within i u h);
}

at_place : (us : List (List ℤ)) (i : ℕ) (u : List ℤ) → i < length us → u ≡ get_or us i u → drop i us ≡ u ∷ drop (i + 1) us
at_place us i u h e = drop_more us i u h ∙ ap (λ (x : List ℤ). x ∷ drop (i + 1) us) (sym e)

-- the step at a place
pub reached_at : (n : ℕ) (system : Weighted) (us : List (List ℤ)) (i : ℕ) (u : List ℤ) (v : ℤ) (kept : List (List ℤ)) (last : List ℤ)
    (after : ℕ) (k : List (List ℤ)) (x : List ℤ) (g : ℕ) (new : List (List ℤ))
    → AreSmallVectors n us → i < length us → u ≡ get_or us i u → v ≡ weighted_degree system u
    → IsReached n system (drop (i + 1) us) kept last after → IsStep (length u) u v last after k x g → new ≡ k ++ kept
    → IsReached n system (drop i us) new x g
reached_at n system us i u v kept last after k x g new s h e f r t m =
    let l = (vector_at n us i u s h e).dimension in
    let step : IsStep n u (weighted_degree system u) last after k x g = rw (l, f) at t in
    rw (at_place us i u h e, m) (reached_more n system u (drop (i + 1) us) kept last after k x g l r step)

pub above_at : (n : ℕ) (system : Weighted) (us : List (List ℤ)) (i : ℕ) (u : List ℤ) (v : ℤ) (kept : List (List ℤ)) (last : List ℤ)
    (after told : ℕ)
    → AreSmallVectors n us → i < length us → u ≡ get_or us i u → v ≡ weighted_degree system u
    → IsReached n system (drop (i + 1) us) kept last after → IsStepAbove (length u) u v last after told
    → IsAbove n system (drop i us) told
above_at n system us i u v kept last after told s h e f r t =
    let l = (vector_at n us i u s h e).dimension in
    let step : IsStepAbove n u (weighted_degree system u) last after told = rw (l, f) at t in
    rw (at_place us i u h e) (above_more n system u (drop (i + 1) us) kept last after told r step)

-- after the last step
pub reached_end : (n : ℕ) (system : Weighted) (us : List (List ℤ)) (i : ℕ) (kept : List (List ℤ)) (last : List ℤ) (divisor : ℕ) → i ≡ 0
    → IsReached n system (drop i us) kept last divisor → IsReached n system us kept last divisor
reached_end n system us i kept last divisor e r = rw e at r

-- one system more, at the place of the program's systems
pub next_reached : (n m : ℕ) (systems others : List Weighted) (system : Weighted) (us vs kept : List (List ℤ)) (last : List ℤ) (divisor : ℕ)
    → m ≡ n → vs ≡ us → others ≡ systems ++ (system ∷ []) → AreReached n systems us → IsReached m system vs kept last divisor
    → AreReached n others kept
next_reached n m systems others system us vs kept last divisor e f o a r =
    rw o (reached_system n systems system us kept last divisor a (rw (e, f) at r))

pub next_exceeds : (systems before behind : List Weighted) (system : Weighted) (m : ℕ) (us vs : List (List ℤ)) (told : ℕ)
    → m ≡ columns_of systems → vs ≡ us → systems ≡ before ++ (system ∷ behind) → AreReached (columns_of systems) before us
    → IsAbove m system vs told
    → ExceedsEntryLimit systems told
next_exceeds systems before behind system m us vs told e f o a x = exceeds systems before behind system us told o a (rw (e, f) at x)
