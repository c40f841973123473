-- The systems of a range, degree by degree.
use Rattle.std.proofs.Common.{◌≡◌, ℕ, zero, suc, ◌+◌, ◌<◌, ◌≤◌, List, ◌++◌, map, ◌⊎◌, inl, inr, refl, arith, subst}
use Rattle.std.proofs.lemmas.Bool.{cases_lt}
use Rattle.lattice_theory.specs.Order.{Ascends}
use Rattle.lattice_theory.proofs.Members.{In, in_append_left, in_append_right, in_append_cases, in_from_contains, contains_from_in}
use Rattle.lattice_theory.proofs.Orders.{lex_asymmetric}
use Rattle.lattice_theory.proofs.Unique.{ascending_unique}
use Rattle.lattice_theory.proofs.Sublists.{in_map, from_map, ascends_append, ascends_map}
use Rattle.walk_theory.specs.Walks.{NumbersLess, IsSought}
use Rattle.lattice_core.specs.Weights.{Weighted}
use Rattle.interior_point_theory.specs.Interior.{IsInteriorPointSystem, SystemLess, IsSystemOfRange, system_of, weight_vector}
use Rattle.interior_point_theory.specs.Beginnings.{by_degrees}
use Rattle.interior_point_theory.specs.Laws.{SystemsByDegrees, SystemsAreSingle}

-- a member of the lists of k degrees
record IsOfDegrees (f : ℕ → List (List ℕ)) (d k : ℕ) (s : Weighted) : Type 0 where
  weights : List ℕ
  degree : ℕ
  low : d ≤ degree
  high : degree < d + k
  member : In weights (f degree)
  is : s ≡ system_of degree weights

from_degrees : (f : ℕ → List (List ℕ)) (d k : ℕ) (s : Weighted) → In s (by_degrees f d k) → IsOfDegrees f d k s
unfolding by_degrees
from_degrees f d zero s i = elim i [ ]
from_degrees f d (suc k) s i = by (in_append_cases (map (system_of d) (f d)) (by_degrees f (suc d) k) i) (from_degrees f (suc d) k s)
  where
    by : In s (map (system_of d) (f d)) ⊎ In s (by_degrees f (suc d) k) → (In s (by_degrees f (suc d) k) → IsOfDegrees f (suc d) k s)
        → IsOfDegrees f d (suc k) s
    by (inl j) later =
        let m = from_map (system_of d) (f d) j in
        record { weights = m.source; degree = d; low = omega arith; high = omega arith; member = m.member; is = m.is }
    by (inr j) later =
        let r = later j in
        let l = r.low in
        let h = r.high in
        record { weights = r.weights; degree = r.degree; low = omega arith; high = omega arith; member = r.member; is = r.is }

to_degrees : (f : ℕ → List (List ℕ)) (d k e : ℕ) (x : List ℕ) → d ≤ e → e < d + k → In x (f e) → In (system_of e x) (by_degrees f d k)
unfolding by_degrees
to_degrees f d zero e x l h i = absurd (omega arith)
to_degrees f d (suc k) e x l h i = by (cases_lt d e) (λ m. to_degrees f (suc d) k e x m (omega arith) i)
  where
    by : (d < e) ⊎ (e ≤ d) → (suc d ≤ e → In (system_of e x) (by_degrees f (suc d) k))
        → In (system_of e x) (map (system_of d) (f d) ++ by_degrees f (suc d) k)
    by (inl m) later = in_append_right (map (system_of d) (f d)) (later (omega arith))
    by (inr m) later =
        let same : e ≡ d = omega arith in
        in_append_left (by_degrees f (suc d) k) (subst (λ (j : ℕ). In (system_of e x) (map (system_of j) (f j))) same (in_map (system_of e) i))

degrees_ascend : (f : ℕ → List (List ℕ)) (d k : ℕ) → ((e : ℕ) → d ≤ e → e < d + k → Ascends NumbersLess (f e)) → Ascends SystemLess (by_degrees f d k)
unfolding by_degrees
degrees_ascend f d zero h = tt
degrees_ascend f d (suc k) h = ascends_append SystemLess (map (system_of d) (f d)) (by_degrees f (suc d) k)
    (ascends_map NumbersLess SystemLess (system_of d) (λ x y l. inr (refl, l)) (f d) (h d (omega arith) (omega arith)))
    (degrees_ascend f (suc d) k (λ e l m. h e (omega arith) (omega arith)))
    (λ s t i j.
    let m = from_map (system_of d) (f d) i in
    let r = from_degrees f (suc d) k t j in
    before s t m.source r.degree r.weights m.is r.is r.low)
  where
    before : (s t : Weighted) (x : List ℕ) (e : ℕ) (y : List ℕ) → s ≡ system_of d x → t ≡ system_of e y → suc d ≤ e → SystemLess s t
    before s t x e y p q l = rw (p, q) (inl l)

pub systems_by_degrees_lem : SystemsByDegrees
systems_by_degrees_lem dim low count f lists = record {
  ascends = degrees_ascend f low (suc count) (λ d l h. (lists d l (omega arith)).ascends);
  members = λ s. (
    (λ c.
        let r = from_degrees f low (suc count) s (in_from_contains (by_degrees f low (suc count)) c) in
        let h = r.high in
        inside s r.weights r.degree r.is r.low r.high (((lists r.degree r.low (omega arith)).members r.weights).0 (contains_from_in r.member))),
    (λ r.
        let m = r.most in
        contains_from_in (to_degrees f low (suc count) s.degree s.weights r.least (omega arith)
        (in_from_contains (f s.degree)
        (((lists s.degree r.least m).members s.weights).1 (record { places = r.columns; holds = r.is_system }))))),
  );
}
  where
    inside : (s : Weighted) (x : List ℕ) (d : ℕ) → s ≡ system_of d x → low ≤ d → d < low + suc count
        → IsSought (λ y. IsInteriorPointSystem (system_of d y)) (dim + 1) x → IsSystemOfRange dim low (low + count) s
    inside s x d e l h q = rw e (record { columns = q.places; least = l; most = omega arith; is_system = q.holds })

pub system_asymmetric : (s t : Weighted) → SystemLess s t → SystemLess t s → ⊥
system_asymmetric s t (inl l) (inl m) = omega arith
system_asymmetric s t (inl l) (inr m) = let e = m.0 in omega arith
system_asymmetric s t (inr l) (inl m) = let e = l.0 in omega arith
system_asymmetric s t (inr l) (inr m) = lex_asymmetric (weight_vector s) (weight_vector t) l.1 m.1

pub systems_are_single_lem : SystemsAreSingle
systems_are_single_lem dim low high xs ys h k = ascending_unique SystemLess system_asymmetric xs ys h.ascends k.ascends
    (λ s. ((λ c. (k.members s).1 ((h.members s).0 c)), (λ c. (h.members s).1 ((k.members s).0 c))))
