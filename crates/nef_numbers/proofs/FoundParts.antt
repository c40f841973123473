-- A partition that a search gives has as many parts as are sought.
use Rattle.std.specs.Prelude.{pos, Some}
use Rattle.std.proofs.Common.{◌≡◌, ℕ, List, map, nat_abs, refl, sym, ap, ◌∙◌, subst}
use Rattle.std.proofs.lemmas.Simd.{map-map}
use Rattle.std.proofs.lemmas.List.{map-id}
use Rattle.lattice_theory.proofs.Members.{here, in_append_right, contains_from_in}
use Rattle.lattice_core.specs.Dimensions.{dimension_of}
use Rattle.nef_theory.specs.Nef.{IsNefPartition}
use Rattle.dual_pair.specs.Pairs.{PairState}
use Rattle.dual_pair.specs.declared.partition.Partition.{Partition}
use Rattle.nef_parts.specs.Lists.{PairLists, lists_of}
use Rattle.nef_parts.specs.Partitions.{Searched, IsNefAt, ArePointsOf}
use Rattle.nef_parts.specs.Given.{GivesNext}
use Rattle.nef_numbers.specs.Numbers.{IsPartitionInto}
use Rattle.nef_numbers.specs.Laws.{FoundHaveParts}

-- numbers are told by their integers
back : (xs : List ℕ) → map nat_abs (map pos xs) ≡ xs
back xs = map-map nat_abs pos xs ∙ map-id xs

module _ (pair : PairState) (r place : ℕ) (part_of : List ℕ) (h : IsNefAt (lists_of pair) r place part_of) where
  nef : IsNefPartition (dimension_of pair.m.vertices) pair.m.vertices pair.n.vertices r part_of
  nef =
      let v = (h.are_partitions.members (map pos part_of)).0 (contains_from_in (in_append_right h.before here)) in
      subst (IsNefPartition (dimension_of pair.m.vertices) pair.m.vertices pair.n.vertices r)
      (sym (back v.parts) ∙ ap (λ xs. map nat_abs xs) v.is ∙ back part_of) v.nef

pub found_have_parts_lem : FoundHaveParts
found_have_parts_lem pair r place part_of places h k = record {
  is_partition = record {
    parts = r;
    nef = nef pair r place part_of h;
    places_are = record { count = k.count; are = λ v i l m. let p = k.are v i l m in record { within = p.within; is_point = p.is } };
  };
  parts_are = refl;
}

-- so has what a search gives next
pub next_has_parts : (pair : PairState) (old new : Searched) (r : ℕ) (p : Partition) → old.lists ≡ lists_of pair → old.codim ≡ r
    → GivesNext old new (Some p) → IsPartitionInto pair r p.part_of.items p.points.items
next_has_parts pair old new r p e f h = found_have_parts_lem pair r old.given p.part_of.items p.points.items
    (subst (λ (l : PairLists). IsNefAt l r old.given p.part_of.items) e (subst (λ (k : ℕ). IsNefAt old.lists k old.given p.part_of.items) f h.3))
    (subst (λ (l : PairLists). ArePointsOf l r p.part_of.items p.points.items) e
    (subst (λ (k : ℕ). ArePointsOf old.lists k p.part_of.items p.points.items) f h.4))
