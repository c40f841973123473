-- The nef partitions of a table. This project's own.
use Rattle.std.specs.Prelude.{ℕ, List}
use Rattle.lattice_core.specs.Dimensions.{dimension_of}
use Rattle.nef_theory.specs.Nef.{IsNefPartition}
use Rattle.nef_parts.specs.declared.masks.Table.{Table}
use Rattle.nef_parts.specs.Lists.{PairLists}

abbrev pub IsNefIn : Table → ℕ → List ℕ → Type 0
IsNefIn t r parts = IsNefPartition (dimension_of t.vertices.items) t.vertices.items t.normals.items r parts

-- the lists of a table
abbrev pub lists_in : Table → PairLists
lists_in t = record { vertices = t.vertices.items; points = t.points.items; normals = t.normals.items }
