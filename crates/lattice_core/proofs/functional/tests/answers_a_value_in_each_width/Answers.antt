use Rattle.std.proofs.Common.{rules, ◌≡◌, ◌∷◌, [], pos, negsuc, ◌≤◌, arith}
use Rattle.std.specs.Prelude.{nat_abs}
use Rattle.lattice_theory.proofs.Members.{empty, more, all_from_each}
use Rattle.lattice_core.specs.ValueWidths.{IsNarrowAt}
use Rattle.lattice_core.proofs.functional.tests.answers_a_value_in_each_width.Goals as goal

-- the function is small at the point
small : IsNarrowAt (record { normal = negsuc 2 ∷ negsuc 3 ∷ []; constant = pos 5 }) (negsuc 0 ∷ negsuc 0 ∷ [])
small = record {
  bound = 4;
  entries = all_from_each {P = λ a. nat_abs a ≤ 4} (more (omega arith) (more (omega arith) empty));
  sums = omega arith;
}

pub value_at-requires-clause-fits : goal.value_at-requires-clause-fits
value_at-requires-clause-fits g c =
    let function : c.expect-f.result ≡ record { normal = negsuc 2 ∷ negsuc 3 ∷ []; constant = pos 5 } = search rules in
    let point : c.expect-p.result ≡ negsuc 0 ∷ negsuc 0 ∷ [] = search rules in
    rw (function, point) small

pub narrow_at_in-requires-clause-fits : goal.narrow_at_in-requires-clause-fits
narrow_at_in-requires-clause-fits g c =
    let function : c.expect-f.result ≡ record { normal = negsuc 2 ∷ negsuc 3 ∷ []; constant = pos 5 } = search rules in
    let point : c.expect-p.result ≡ negsuc 0 ∷ negsuc 0 ∷ [] = search rules in
    rw (function, point) small
