-- The laws of bases, as statements. This project's own.
use Rattle.std.specs.Prelude.{◌≡◌, ◌↔◌, ℕ, ◌≤◌, List, length, ℤ}
use Rattle.lattice_theory.specs.Affine.{Affine}
use Rattle.face_theory.specs.Pairings.{is_zero}
use Rattle.bit_pool.specs.Bits.{HasBit, IsSubset}
use Rattle.face_closing.specs.Words.{set_of}
use Rattle.incidence.specs.Incidences.{HasExactly}
use Rattle.cayley_theory.specs.Bases.{pairing_with, IsBase, IsZeroOn}
pub use Rattle.cayley_theory.specs.Bases.{HaveAllParts}
use Rattle.base_counts.specs.Tops.{IsTopOf}

-- the least heights over all vectors are the base of the point, where each part has a vector
abbrev pub TopsAreBases : Type 0
TopsAreBases = (r : ℕ) (vs : List Affine) (x base : List ℤ) → length base ≡ r → HaveAllParts r vs → IsTopOf vs x (length vs) base → IsBase r vs x base

-- the vectors of a set pair to 0 with a point and heights exactly where the set is within that of all vectors that do
abbrev pub SetsWithinTight : Type 0
SetsWithinTight = (vs : List Affine) (x base : List ℤ) (set tight : List ℕ) → HasExactly (length vs) (λ i. is_zero (pairing_with vs x base i)) tight
    → ((number : ℕ) → length vs ≤ number → HasBit set number → ⊥) → IsSubset set tight ↔ IsZeroOn vs (set_of (length vs) set) x base
