-- The walk of a weight guide lists the interior-point systems of its degree.
use Rattle.std.proofs.Common.{suc, ◌≤◌, [], ◌∷◌, length, sym, ◌∙◌, arith, length-append}
use Rattle.lattice_theory.proofs.Members.{each_from_all, all_from_each}
use Rattle.walk_theory.proofs.Walks.{walk_lists}
use Rattle.interior_point_theory.specs.Interior.{IsInteriorPointSystem, system_of}
use Rattle.interior_point_theory.specs.Beginnings.{IsBeginning}
use Rattle.interior_point_theory.specs.Laws.{WeightWalk}
use Rattle.interior_point_theory.proofs.Following.{weights_may_follow_lem}

pub weight_walk_lem : WeightWalk
weight_walk_lem degree n g s = walk_lists (λ x. IsInteriorPointSystem (system_of degree x)) IsBeginning n g (record {
  starts = record { positive = all_from_each {P = λ w. 1 ≤ w} (each_from_all (λ w. 1 ≤ w) [] (λ i d l. absurd (omega arith))); ascends = tt };
  goes_on = s.goes_on;
  keeps = s.keeps;
  tries = λ b v rest l h is. s.tries b v (suc (length rest)) (sym (length-append b (v ∷ rest)) ∙ l) h (weights_may_follow_lem degree v b rest is);
  spares = s.spares;
})
