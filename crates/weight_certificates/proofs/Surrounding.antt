-- What the checked numbers mean.
use Rattle.std.proofs.Common.{◌≡◌, ◌≢◌, ℕ, ◌<◌, List, [], ◌∷◌, length, map, ℤ, pos, ◌+ℤ◌, ◌*ℤ◌, ◌≤ℤ◌, All, arith, refl, sym, rules, ap₂}
use Rattle.std.specs.Prelude.{nat_abs, slice_index_or}
use Rattle.std.specs.List.{Contains}
use Rattle.std.proofs.lemmas.Int.{ints}
use Rattle.std.proofs.lemmas.List.Elements.{Contains-get_or}
use Rattle.lattice_theory.specs.Vector.{entry, dot}
use Rattle.lattice_theory.proofs.Members.{Each, empty, more, In, here, there, each_from_all, in_from_contains, contains_from_in}
use Rattle.interior_point_theory.specs.Certificates.{IsSurrounded, HasInverse, entries_at, integer_sum}
use Rattle.weight_certificates.specs.Surroundings.{IsSurrounding, IsInverseAt, AreWithin, chosen, vectors, multiples}
use Rattle.weight_certificates.specs.Laws.{SurroundingsSurround}
use Rattle.weight_certificates.specs.declared.surroundings.Corner.{Corner}

-- what corners choose are some of the points
chosen_inside : (points : List (List ℤ)) (corners : List Corner) → Each (λ c. c.place < length points) corners
    → (y : List ℤ) → In y (chosen points corners) → In y points
chosen_inside points [] each y m = elim m [ ]
chosen_inside points (c ∷ corners) (more h rest) y here = in_from_contains points (Contains-get_or points c.place [] h)
chosen_inside points (c ∷ corners) (more h rest) y (there i) = chosen_inside points corners rest y i

-- a nonnegative integer is a natural number
natural : (a : ℤ) → pos 0 ≤ℤ a → pos (nat_abs a) ≡ a
natural a h = omega (arith, ints)

naturals : {corners : List Corner} → Each (λ c. pos 0 ≤ℤ c.multiple) corners → map pos (map (λ c. nat_abs c.multiple) corners) ≡ multiples corners
naturals empty = refl
naturals (more {x = c} h rest) = ap₂ (λ b x. b ∷ x) (natural c.multiple h) (naturals rest)

-- the inverse of the chosen points
inverse : (points : List (List ℤ)) (corners : List Corner) (divisor : ℤ) → divisor ≢ pos 0
    → ((k : ℕ) → k < length corners → IsInverseAt points corners divisor k) → HasInverse (length corners) (chosen points corners)
inverse points corners divisor nonzero at = record {
  divisor = divisor;
  nonzero = nonzero;
  rows = λ k. entries_at k (vectors corners);
  own = λ k h. (at k h).own;
  others = λ k j h i apart. (at k h).others j i apart;
}

pub surroundings_surround_lem : SurroundingsSurround
surroundings_surround_lem points corners divisor times s = record {
  chosen = chosen points corners;
  inside = λ y m. contains_from_in (chosen_inside points corners (each_from_all _ corners s.within) y (in_from_contains (chosen points corners) m));
  inverse = inverse points corners divisor s.nonzero s.inverse;
  times = times;
  positive = s.positive;
  multiples = map (λ c. nat_abs c.multiple) corners;
  balance = λ j h. rw (naturals (each_from_all _ corners s.nonnegative)) (s.balance j h);
}
