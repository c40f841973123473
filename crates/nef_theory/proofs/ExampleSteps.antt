-- Worked examples.
use Rattle.std.proofs.Common.{◌≡◌, ◌≢◌, ℕ, zero, suc, ◌<◌, List, [], ◌∷◌, length, ℤ, pos, negsuc, ◌≤ℤ◌, refl, arith}
use Rattle.std.proofs.lemmas.Int.{ints}
use Rattle.std.specs.List.{Contains}
use Rattle.lattice_theory.specs.Examples.{on_line, in_plane, segment, minus1}
use Rattle.lattice_theory.proofs.Members.{empty, more, all_from_each, In, here, there, in_from_contains, contains_from_in}
use Rattle.lattice_theory.proofs.SegmentFacets.{lower_facet}
use Rattle.nef_theory.specs.Nef.{part_at, pairing_at, IsGrowthList, IsPartPoint, IsNefPartition}
use Rattle.duality_theory.specs.Reflexive.{IsReflexive}
use Rattle.nef_theory.specs.Agreement.{Agrees, IsDead}
use Rattle.nef_theory.specs.Examples.{short_segment, short_normals, surface, surface_normals}

pub zero_one : IsGrowthList 2 (0 ∷ 1 ∷ [])
zero_one = record {
  below = all_from_each {P = λ p. p < 2} (more (omega arith) (more (omega arith) empty));
  occur = occur;
  first = first;
}
  where
    occur : (i : ℕ) → i < 2 → Contains (0 ∷ 1 ∷ []) i
    occur zero h = contains_from_in {xs = 0 ∷ 1 ∷ []} here
    occur (suc zero) h = contains_from_in {xs = 0 ∷ 1 ∷ []} (there here)
    occur (suc (suc i)) h = absurd (omega arith)

    first : (e i : ℕ) → e < 2 → i < part_at (0 ∷ 1 ∷ []) e → (f : ℕ) × (f < e) × (part_at (0 ∷ 1 ∷ []) f ≡ i)
    first zero i h l = absurd (omega arith)
    first (suc zero) zero h l = (0, omega arith, refl)
    first (suc zero) (suc i) h l = absurd (omega arith)
    first (suc (suc e)) i h l = absurd (omega arith)

pub one_zero : IsGrowthList 2 (1 ∷ 0 ∷ []) → ⊥
one_zero g = let f = g.first 0 0 (omega arith) (omega arith) in omega (arith, f.1)

-- what holds at each of two places
two_places : (P : ℕ → Type 0) → P 0 → P 1 → (e : ℕ) → e < 2 → P e
two_places P p q zero h = p
two_places P p q (suc zero) h = q
two_places P p q (suc (suc e)) h = absurd (omega arith)

four_places : (P : ℕ → Type 0) → P 0 → P 1 → P 2 → P 3 → (e : ℕ) → e < 4 → P e
four_places P p q r s zero h = p
four_places P p q r s (suc zero) h = q
four_places P p q r s (suc (suc zero)) h = r
four_places P p q r s (suc (suc (suc zero))) h = s
four_places P p q r s (suc (suc (suc (suc e)))) h = absurd (omega arith)

-- what a point of the part i has at a place of the part p, where its vertex pairs to a and the point to b
record MeetsAt (a b : ℤ) (p i : ℕ) : Type 0 where
  own : a ≡ negsuc 0 → p ≡ i → b ≡ negsuc 0
  others : a ≡ negsuc 0 → p ≢ i → b ≡ pos 0
  least : p ≡ i → negsuc 0 ≤ℤ b
  apart : p ≢ i → pos 0 ≤ℤ b

own_place : (a b : ℤ) (p : ℕ) → (a ≡ negsuc 0 → b ≡ negsuc 0) → negsuc 0 ≤ℤ b → MeetsAt a b p p
own_place a b p h l = record { own = λ t s. h t; others = λ t d. absurd (d refl); least = λ s. l; apart = λ d. absurd (d refl) }

other_place : (a b : ℤ) (p i : ℕ) → p ≢ i → (a ≡ negsuc 0 → b ≡ pos 0) → pos 0 ≤ℤ b → MeetsAt a b p i
other_place a b p i d h l = record { own = λ t s. absurd (d s); others = λ t u. h t; least = λ s. absurd (d s); apart = λ u. l }

from_places : (n : ℕ) (normals : List (List ℤ)) (parts : List ℕ) (m : List ℤ) (i : ℕ) (x : List ℤ) → length x ≡ n
    → ((e : ℕ) → e < length normals → MeetsAt (pairing_at normals m e) (pairing_at normals x e) (part_at parts e) i) → IsPartPoint n normals parts m i x
from_places n normals parts m i x l h = record {
  dimension = l;
  own = λ e b. (h e b).own;
  others = λ e b. (h e b).others;
  least = λ e b. (h e b).least;
  apart = λ e b. (h e b).apart;
}

-- the point of a part of 0 1 at an end of the segment
end_point : (m : List ℤ) (i : ℕ) (x : List ℤ) → length x ≡ 1 → MeetsAt (pairing_at short_normals m 0) (pairing_at short_normals x 0) 0 i
    → MeetsAt (pairing_at short_normals m 1) (pairing_at short_normals x 1) 1 i → (y : List ℤ) × IsPartPoint 1 short_normals (0 ∷ 1 ∷ []) m i y
end_point m i x l p q = (
  x,
  from_places 1 short_normals (0 ∷ 1 ∷ []) m i x l
      (two_places (λ e. MeetsAt (pairing_at short_normals m e) (pairing_at short_normals x e) (part_at (0 ∷ 1 ∷ []) e) i) p q),
)

pub short_segment_nef : IsNefPartition 1 short_segment short_normals 2 (0 ∷ 1 ∷ [])
short_segment_nef = record {
  count = refl;
  growth = zero_one;
  points = λ m c i h. at m i (in_from_contains short_segment c) h;
}
  where
    at : (m : List ℤ) (i : ℕ) → In m short_segment → i < 2 → (x : List ℤ) × IsPartPoint 1 short_normals (0 ∷ 1 ∷ []) m i x
    at m zero here h = end_point m 0 (on_line minus1) refl (own_place (negsuc 0) (negsuc 0) 0 (λ t. refl) (omega (arith, ints)))
        (other_place (pos 1) (pos 1) 1 0 (λ e. absurd (omega arith)) (λ t. absurd (omega (arith, ints))) (omega (arith, ints)))
    at m (suc zero) here h = end_point m 1 (on_line (pos 0)) refl
        (other_place (negsuc 0) (pos 0) 0 1 (λ e. absurd (omega arith)) (λ t. refl) (omega (arith, ints)))
        (own_place (pos 1) (pos 0) 1 (λ t. absurd (omega (arith, ints))) (omega (arith, ints)))
    at m zero (there here) h = end_point m 0 (on_line (pos 0)) refl (own_place (pos 1) (pos 0) 0 (λ t. absurd (omega (arith, ints))) (omega (arith, ints)))
        (other_place (negsuc 0) (pos 0) 1 0 (λ e. absurd (omega arith)) (λ t. refl) (omega (arith, ints)))
    at m (suc zero) (there here) h = end_point m 1 (on_line (pos 1)) refl
        (other_place (pos 1) (pos 1) 0 1 (λ e. absurd (omega arith)) (λ t. absurd (omega (arith, ints))) (omega (arith, ints)))
        (own_place (negsuc 0) (negsuc 0) 1 (λ t. refl) (omega (arith, ints)))
    at m (suc (suc i)) j h = absurd (omega arith)
    at m i (there (there j)) h = elim j [ ]

pub longer_segment : IsReflexive 1 segment → ⊥
longer_segment r = two_isnt_one (r (record { normal = on_line (pos 1); constant = pos 2 }) lower_facet)
  where
    two_isnt_one : pos 2 ≡ pos 1 → ⊥
    two_isnt_one e = absurd (omega (arith, ints))

-- the point of the second normal alone at the corner (-1, -1) would be (0, -1), where the third normal is -1
second_alone : (x : List ℤ) → length x ≡ 2 → pairing_at surface_normals x 0 ≡ pos 0 → pairing_at surface_normals x 1 ≡ negsuc 0
    → pos 0 ≤ℤ pairing_at surface_normals x 2 → ⊥
second_alone [] l e f h = absurd (omega arith)
second_alone (x ∷ []) l e f h = absurd (omega arith)
second_alone (x ∷ y ∷ []) l e f h = absurd (omega (arith, ints))
second_alone (x ∷ y ∷ z ∷ u) l e f h = absurd (omega arith)

pub surface_alone : IsNefPartition 2 surface surface_normals 2 (0 ∷ 1 ∷ 0 ∷ 0 ∷ []) → ⊥
surface_alone nef =
    let p = nef.points (in_plane minus1 minus1) (contains_from_in {xs = surface} here) 1 (omega arith) in
    second_alone p.0 p.1.dimension (p.1.others 0 (omega arith) refl (λ e. absurd (omega arith))) (p.1.own 1 (omega arith) refl refl)
    (p.1.apart 2 (omega arith) (λ e. absurd (omega arith)))

pub surface_dead : IsDead surface surface_normals (in_plane (pos 0) minus1 ∷ in_plane (pos 0) (pos 0) ∷ []) 2 (0 ∷ 1 ∷ 0 ∷ [])
surface_dead = record {
  vertex = in_plane minus1 minus1;
  member = contains_from_in {xs = surface} here;
  part = 1;
  within = omega arith;
  none = λ a. by a.point (in_from_contains (in_plane (pos 0) minus1 ∷ in_plane (pos 0) (pos 0) ∷ []) a.member) a.agrees;
}
  where
    by : (x : List ℤ) → In x (in_plane (pos 0) minus1 ∷ in_plane (pos 0) (pos 0) ∷ []) → Agrees surface_normals 3 (0 ∷ 1 ∷ 0 ∷ []) (in_plane minus1 minus1) 1 x → ⊥
    by x here a = let e = a.inside 2 (omega arith) refl in absurd (omega arith)
    by x (there here) a = zero_isnt_minus (a.own 1 (omega arith) refl refl)
      where
        zero_isnt_minus : pos 0 ≡ negsuc 0 → ⊥
        zero_isnt_minus e = absurd (omega (arith, ints))
    by x (there (there i)) a = elim i [ ]

pub surface_both : IsPartPoint 2 surface_normals (0 ∷ 1 ∷ 1 ∷ 0 ∷ []) (in_plane minus1 minus1) 1 (in_plane (pos 0) minus1)
surface_both = from_places 2 surface_normals (0 ∷ 1 ∷ 1 ∷ 0 ∷ []) (in_plane minus1 minus1) 1 (in_plane (pos 0) minus1) refl
    (four_places (λ e. MeetsAt (pairing_at surface_normals (in_plane minus1 minus1) e) (pairing_at surface_normals (in_plane (pos 0) minus1) e)
    (part_at (0 ∷ 1 ∷ 1 ∷ 0 ∷ []) e) 1)
    (other_place (negsuc 0) (pos 0) 0 1 (λ e. absurd (omega arith)) (λ t. refl) (omega (arith, ints)))
    (own_place (negsuc 0) (negsuc 0) 1 (λ t. refl) (omega (arith, ints)))
    (own_place (pos 0) (negsuc 0) 1 (λ t. absurd (omega (arith, ints))) (omega (arith, ints)))
    (other_place (pos 1) (pos 1) 0 1 (λ e. absurd (omega arith)) (λ t. absurd (omega (arith, ints))) (omega (arith, ints))))
