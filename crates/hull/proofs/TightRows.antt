-- Rows of the functions that vanish at points.
use Rattle.std.proofs.Common.{◌≡◌, ◌↔◌, ℕ, ◌<◌, List, [], length, ℤ, pos, get_or, sym, subst}
use Rattle.std.proofs.lemmas.List.{get_or_default}
use Rattle.lattice_theory.specs.Affine.{Affine, value}
use Rattle.bit_rows.specs.Rows.{HasIndex, IsPartOf}
use Rattle.hull.specs.steps.Tight.{LiesWith, function_of, IsTightRow}

-- a function of the list, whatever stands for those that aren't there
pub function_at : (functions : List Affine) (place : ℕ) (d : Affine) → place < length functions → function_of functions place ≡ get_or functions place d
function_at functions place d h = get_or_default functions place (record { normal = []; constant = pos 0 }) d h

-- one row is part of another exactly where the second point lies on each function on which the first one lies
pub part_is_with : (functions : List Affine) (v p : List ℤ) (row other : ℕ) → IsTightRow functions v row → IsTightRow functions p other
    → IsPartOf row other ↔ LiesWith functions v p
part_is_with functions v p row other tight tight_too = (there, back)
  where
    there : IsPartOf row other → LiesWith functions v p
    there part place d h zero =
        let same = function_at functions place d h in
        let first : value (function_of functions place) v ≡ pos 0 = subst (λ f. value f v ≡ pos 0) (sym same) zero in
        subst (λ f. value f p ≡ pos 0) same ((tight_too place).0 (part place ((tight place).1 (h, first)))).1

    back : LiesWith functions v p → IsPartOf row other
    back lies place h =
        let first = (tight place).0 h in
        (tight_too place).1 (first.0, lies place (record { normal = []; constant = pos 0 }) first.0 first.1)

-- the row of the first functions
abbrev pub IsTightBelow : ℕ → List Affine → List ℤ → ℕ → Type 0
IsTightBelow i functions p row = (place : ℕ) → HasIndex row place ↔ ((place < i) × (value (function_of functions place) p ≡ pos 0))
