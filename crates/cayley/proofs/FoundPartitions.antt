-- That what a search for nef partitions gives is a nef partition, with the places of its points.
use Rattle.std.specs.Prelude.{pos}
use Rattle.std.proofs.Common.{◌≡◌, ℕ, suc, List, [], ◌∷◌, length, map, refl, ap, ap₂, subst, arith}
use mathlib.Core.List.{head-eq_of_cons-eq, tail-eq_of_cons-eq}
use Rattle.lattice_theory.proofs.Integers.{same_natural}
use Rattle.lattice_theory.proofs.Members.{here, in_append_right, contains_from_in}
use Rattle.lattice_core.specs.Dimensions.{dimension_of}
use Rattle.nef_theory.specs.Nef.{IsNefPartition}
use Rattle.dual_pair.specs.Pairs.{PairState}
use Rattle.nef_parts.specs.Lists.{lists_of}
use Rattle.nef_parts.specs.Partitions.{IsNefAt, ArePointsOf}
use Rattle.cayley.specs.PairCones.{IsPartition}
use Rattle.cayley.specs.Laws.{FoundArePartitions}

-- numbers are told by their integers
same_numbers : (xs ys : List ℕ) → map pos xs ≡ map pos ys → xs ≡ ys
same_numbers [] [] e = refl
same_numbers [] (y ∷ ys) e = absurd (let f : 0 ≡ suc (length (map pos ys)) = ap length e in omega arith)
same_numbers (x ∷ xs) [] e = absurd (let f : suc (length (map pos xs)) ≡ 0 = ap length e in omega arith)
same_numbers (x ∷ xs) (y ∷ ys) e =
    ap₂ (λ (z : ℕ) (zs : List ℕ). z ∷ zs) (same_natural x y (head-eq_of_cons-eq e)) (same_numbers xs ys (tail-eq_of_cons-eq e))

module _ (pair : PairState) (r place : ℕ) (part_of places : List ℕ) (h : IsNefAt (lists_of pair) r place part_of) where
  nef : IsNefPartition (dimension_of pair.m.vertices) pair.m.vertices pair.n.vertices r part_of
  nef =
      let v = (h.are_partitions.members (map pos part_of)).0 (contains_from_in (in_append_right h.before here)) in
      subst (IsNefPartition (dimension_of pair.m.vertices) pair.m.vertices pair.n.vertices r) (same_numbers v.parts part_of v.is) v.nef

  is_partition : ArePointsOf (lists_of pair) r part_of places → IsPartition pair part_of places
  is_partition k = record {
    parts = r;
    nef = nef;
    places_are = record { count = k.count; are = λ v i l m. let p = k.are v i l m in record { within = p.within; is_point = p.is } };
  }

pub found_are_partitions_lem : FoundArePartitions
found_are_partitions_lem pair r place part_of places h k = is_partition pair r place part_of places h k
