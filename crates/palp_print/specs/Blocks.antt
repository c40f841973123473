-- The blocks of points and facets, line by line. Facets as rows of their normals, and points as columns, follow PALP's manual
-- (arXiv:1205.4147, section 3); the other lines are this project's own.
use Rattle.std.specs.Prelude.{◌≡◌, ℕ, ◌^◌, ◌<◌, ◌≤◌, List, [], ◌∷◌, ◌++◌, length, zero, ℤ, pos, nat_abs, codes}
use Rattle.std.specs.Fmt.{decimal, signed_decimal}
use Rattle.std.specs.List.{All, flat_map, range_with_len}
use Rattle.lattice_theory.specs.Vector.{entry}
use Rattle.lattice_theory.specs.Affine.{Affine, value}
use Rattle.lattice_theory.specs.Size.{absolute_sum}
use Rattle.lattice_core.specs.Dimensions.{dimension_of}
use Rattle.lattice_core.specs.PointLists.{ArePoints}
use Rattle.palp_print.specs.Texts.{behind_spaces, spaced, function_text, heading, titled}
use Rattle.palp_print.specs.declared.titles.Title.{Title}
use Rattle.palp_print.specs.declared.titles.Title.TheVariants.{Vertices, Points, DualPoints}

-- the words of a title
abbrev pub title_text : Title → List ℕ
title_text Vertices = codes "Vertices"
title_text Points = codes "Points"
title_text DualPoints = codes "Points of P-dual"

-- the line of the i-th entries of points
abbrev pub column_line : List (List ℤ) → ℕ → List ℕ
column_line points i = spaced (λ p. signed_decimal (entry p i)) points ++ codes "\n"

-- points as columns: their dimension, their number and a title, then a line for each coordinate
abbrev pub columns : Title → List (List ℤ) → List ℕ
columns title points = heading (dimension_of points) (length points) (title_text title)
    ++ flat_map (column_line points) (range_with_len 0 (dimension_of points))

-- the number of entries of the first function's normal, which is that of all functions of one dimension; 0 where there is no function
abbrev pub function_dimension : List Affine → ℕ
function_dimension [] = 0
function_dimension (f ∷ functions) = length f.normal

-- at least one function, and all of one dimension
pub record AreFunctions (functions : List Affine) : Type 0 where
  pub some : 0 < length functions
  pub one_dimension : All (λ f. length f.normal ≡ function_dimension functions) functions

-- the facets of a reflexive polytope as the vertices of its dual: their number, their dimension and a title, then the normal of each
abbrev pub normal_line : Affine → List ℕ
normal_line f = spaced signed_decimal f.normal ++ codes "\n"

abbrev pub dual_rows : List Affine → List ℕ
dual_rows facets = heading (length facets) (function_dimension facets) (codes "Vertices of P-dual") ++ flat_map normal_line facets

-- facets as equations: a title, their number and their dimension, then each one's normal and constant
abbrev pub equation_line : Affine → List ℕ
equation_line f = function_text f ++ codes "\n"

abbrev pub equations : List Affine → List ℕ
equations facets = titled (codes "Equations") (length facets) (function_dimension facets) ++ flat_map equation_line facets

-- the values of facets at vertices: a title and the numbers of both, then a line for each facet
abbrev pub value_line : List (List ℤ) → Affine → List ℕ
value_line vertices f = spaced (λ p. signed_decimal (value f p)) vertices ++ codes "\n"

abbrev pub pairing : List Affine → List (List ℤ) → List ℕ
pairing facets vertices = titled (codes "Pairing") (length facets) (length vertices) ++ flat_map (value_line vertices) facets

-- 1 where a value is 0, so that a vertex lies on a facet, and otherwise 0
abbrev pub mark : ℤ → List ℕ
mark (pos zero) = codes "1"
mark other = codes "0"

abbrev pub mark_line : List (List ℤ) → Affine → List ℕ
mark_line vertices f = flat_map (λ p. mark (value f p)) vertices ++ codes "\n"

-- which vertices lie on which facets: a title and the numbers of both, then a line for each facet
abbrev pub marks : List Affine → List (List ℤ) → List ℕ
marks facets vertices = titled (codes "Incidence") (length facets) (length vertices) ++ flat_map (mark_line vertices) facets

-- numbers of faces
abbrev pub face_counts : List ℕ → List ℕ
face_counts counts = codes "Faces:" ++ (behind_spaces decimal counts ++ codes "\n")

-- both
abbrev pub incidence : List ℕ → List Affine → List (List ℤ) → List ℕ
incidence counts facets vertices = face_counts counts ++ marks facets vertices

-- a function and a point of one dimension, so small that the value is worked out in 128 bits
pub record AreInReach (f : Affine) (p : List ℤ) : Type 0 where
  pub one_dimension : length f.normal ≡ length p
  pub constant : nat_abs f.constant ≤ 2 ^ 100
  pub sum : absolute_sum p ≤ 2 ^ 33

-- at least one function and one point, and each function in reach of each point
pub record ArePaired (functions : List Affine) (points : List (List ℤ)) : Type 0 where
  pub are_functions : AreFunctions functions
  pub are_points : ArePoints points
  pub reach : All (λ f. All (AreInReach f) points) functions
