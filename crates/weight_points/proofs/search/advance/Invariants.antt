use Rattle.std.proofs.Common.{◌≡◌, List, ℕ, map, pos}
use Rattle.weight_points.specs.steps.Rows.{systems_of, AreRows}
use Rattle.weight_points.specs.steps.Search.{Solves, IsZeroFrom}
use Rattle.lattice_theory.specs.Order.{LexLess}
use Rattle.lattice_theory.specs.Grid.{AgreesTo}
use Rattle.weight_points.proofs.search.advance.Given as goal

abbrev pub invariant-loop-place : goal.invariant-loop-place
invariant-loop-place l = record {
  systems : systems_of l.rows ≡ systems_of l.fn.rows;
  ready : AreRows l.rows l.entries;
  zeros : IsZeroFrom l.place l.entries;
  agrees : AgreesTo l.place (map pos l.fn.entries) (map pos l.entries);
  none : (b : List ℕ) → Solves (systems_of l.fn.rows) b → AgreesTo l.place (map pos l.fn.entries) (map pos b)
      → LexLess (map pos l.fn.entries) (map pos b) → ⊥;
}
