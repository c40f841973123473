-- h*, S~ and the numerator of the faces of a cone with their numbers of lattice points (alg-geom/9509009).
use Rattle.std.specs.Prelude.{◌≡◌, ℕ, ◌-◌, ◌≤◌, List, length, ℤ, pos}
use Rattle.std.specs.List.{All}
use Rattle.polynomial_theory.specs.Series.{Series}
use Rattle.stringy_theory.specs.HStar.{h_star}
use Rattle.stringy_theory.specs.CountedFaces.{CountedFaces, series_of}
use Rattle.stringy_theory.specs.Stringy.{numerator, s_tilde, s_tilde_dual}
use Rattle.small_poly.specs.Tables.{laurent_of}
use Rattle.face_poset.specs.Faces.{TableState, IsTopRank}
use Rattle.dual_pair.specs.declared.side.Side.{Side}
use Rattle.dual_pair.specs.declared.side.Side.TheVariants as sides
use Rattle.poset_g.specs.Numbered.{counted}
use Rattle.stringy.specs.RowSteps.{rank_at}

-- the dimension of a cone, how many faces are counted, and the number of lattice points by side, degree and face
pub record PointNumbers : Type 0 where
  pub dim : ℕ
  pub faces : ℕ
  pub number : Side → ℕ → ℕ → ℕ

-- those of a face on a side, by degree
abbrev pub points_of : PointNumbers → Side → ℕ → Series
points_of counts side f s = pos (counts.number side s f)

-- the faces of a table with these numbers, where the highest rank is told
abbrev pub counted_faces : TableState → ℕ → PointNumbers → CountedFaces ℕ
counted_faces table top counts = counted table top (points_of counts sides.M) (points_of counts sides.N)

-- the counts are those of the table's faces, of which none has a rank above that of the counts
pub record AreCountsOf (table : TableState) (counts : PointNumbers) : Type 0 where
  pub faces : counts.faces ≡ length table.faces
  pub ranks : All (λ face. face.rank ≤ counts.dim) table.faces

-- h* of a face: by its rank on one side, and by what is left from it to the highest rank on the other
abbrev pub star_rank : TableState → ℕ → Side → ℕ → ℕ
star_rank table top sides.M f = rank_at table f
star_rank table top sides.N f = top - rank_at table f

abbrev pub star_of : TableState → ℕ → PointNumbers → Side → ℕ → Series
star_of table top counts side f = h_star (star_rank table top side f) (points_of counts side f)

-- S~ of a face
abbrev pub s_tilde_of : TableState → ℕ → PointNumbers → Side → ℕ → Series
s_tilde_of table top counts sides.M f = s_tilde (series_of (counted_faces table top counts)) f
s_tilde_of table top counts sides.N f = s_tilde_dual (series_of (counted_faces table top counts)) f

-- some coefficients are those of h*, of S~, and of the numerator, for the highest rank of the table
abbrev pub IsHStar : TableState → PointNumbers → Side → ℕ → Series → Type 0
IsHStar table counts side f A = (top : ℕ) → IsTopRank table.faces top → (k : ℕ) → A k ≡ star_of table top counts side f k

abbrev pub IsSTilde : TableState → PointNumbers → Side → ℕ → Series → Type 0
IsSTilde table counts side f A = (top : ℕ) → IsTopRank table.faces top → (k : ℕ) → A k ≡ s_tilde_of table top counts side f k

abbrev pub IsNumerator : TableState → PointNumbers → List ℤ → Type 0
IsNumerator table counts coefficients = (top : ℕ) → IsTopRank table.faces top → (p : ℤ) (q : ℕ)
    → laurent_of coefficients p q ≡ numerator (series_of (counted_faces table top counts)) p q
