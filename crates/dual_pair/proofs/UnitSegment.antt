-- The two lattice points of the segment from 0 to 1.
use Rattle.std.proofs.Common.{◌≡◌, zero, suc, List, [], ◌∷◌, length, ℤ, pos, negsuc, ◌+ℤ◌, ◌*ℤ◌, ◌≤ℤ◌, inl, refl, sym, subst, arith}
use Rattle.std.proofs.lemmas.Int.{ints}
use Rattle.lattice_theory.specs.Affine.{value}
use Rattle.lattice_theory.specs.Order.{LexLess}
use Rattle.lattice_theory.specs.Hull.{InHull}
use Rattle.lattice_theory.specs.Points.{AreLatticePoints}
use Rattle.lattice_theory.specs.Examples.{on_line, function, minus1}
use Rattle.lattice_theory.proofs.Members.{In, here, there, empty, more, all_from_each, each_from_all, each_in, in_from_contains, contains_from_in}
use Rattle.lattice_core.specs.Dimensions.{dimension_of}

abbrev pub ends : List (List ℤ)
ends = on_line (pos 0) ∷ on_line (pos 1) ∷ []

-- both ends are points of the hull
dimension : (x : List ℤ) → In x ends → length x ≡ 1
dimension x here = refl
dimension x (there here) = refl
dimension x (there (there i)) = elim i [ ]

-- and no other integer is
least : (a : ℤ) → pos 0 ≤ℤ (pos 1 *ℤ a +ℤ pos 0 +ℤ pos 0) → pos 0 ≤ℤ a
least a h = omega (arith, ints, h)

most : (a : ℤ) → pos 0 ≤ℤ (minus1 *ℤ a +ℤ pos 0 +ℤ pos 1) → a ≤ℤ pos 1
most a h = omega (arith, ints, h)

between : (a : ℤ) → pos 0 ≤ℤ a → a ≤ℤ pos 1 → In (a ∷ []) ends
between (pos zero) l m = here
between (pos (suc zero)) l m = there here
between (pos (suc (suc n))) l m = absurd (omega (arith, ints, m))
between (negsuc n) l m = absurd (omega (arith, ints, l))

is_end : (x : List ℤ) → length x ≡ 1 → InHull 1 ends x → In x ends
is_end [] l h = absurd (omega arith)
is_end (a ∷ []) l h = between a
    (least a (h (function (on_line (pos 1)) (pos 0)) refl (all_from_each {P = λ p. pos 0 ≤ℤ value (function (on_line (pos 1)) (pos 0)) p}
    (more (omega (arith, ints)) (more (omega (arith, ints)) empty)))))
    (most a (h (function (on_line minus1) (pos 1)) refl (all_from_each {P = λ p. pos 0 ≤ℤ value (function (on_line minus1) (pos 1)) p}
    (more (omega (arith, ints)) (more (omega (arith, ints)) empty)))))
is_end (a ∷ b ∷ x) l h = absurd (omega arith)

lattice_ends : AreLatticePoints 1 ends ends
lattice_ends = record {
  ascends = (
    all_from_each {P = LexLess (on_line (pos 0))} (more (inl (omega (arith, ints))) empty),
    (all_from_each {P = LexLess (on_line (pos 1))} empty, tt),
  );
  members = λ x. (
    λ c. record {
      dimension = dimension x (in_from_contains ends c);
      inside = λ f l n. each_in (each_from_all (λ p. pos 0 ≤ℤ value f p) ends n) (in_from_contains ends c);
    },
    λ h. contains_from_in (is_end x h.dimension h.inside),
  );
}

pub ends_given : (points : List (List ℤ)) → points ≡ ends → AreLatticePoints (dimension_of points) points points
ends_given points e = subst (λ (ps : List (List ℤ)). AreLatticePoints (dimension_of ps) ps ps) (sym e) lattice_ends
