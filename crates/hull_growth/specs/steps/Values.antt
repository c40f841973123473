-- The values of functions at one point. This project's own.
use Rattle.std.specs.Prelude.{◌≡◌, List, ℤ, map}
use Rattle.lattice_theory.specs.Affine.{Affine, value}

-- the values are those of the functions at p, in their order
abbrev pub AreValuesAt : List ℤ → List Affine → List ℤ → Type 0
AreValuesAt p functions values = values ≡ map (λ f. value f p) functions
