-- The width in which the values of facets of points are worked out. This project's own.
use Rattle.std.specs.Prelude.{List, ℤ}
use Rattle.lattice_theory.specs.Size.{size}
use Rattle.lattice_core.specs.Dimensions.{dimension_of}
use Rattle.lattice_core.specs.ValueWidths.{Serves}
use Rattle.lattice_core.specs.declared.value_widths.Width.{Width}

-- the width serves the facets of the points, at each of them
abbrev pub ServesPoints : List (List ℤ) → Width → Type 0
ServesPoints points width = Serves (dimension_of points) (size (dimension_of points) points) width
