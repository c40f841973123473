-- Lists of the values of functions at a point.
use Rattle.std.proofs.Common.{◌≡◌, ℕ, ◌<◌, List, [], length, get_or, slice_index_or, ℤ, pos, sym, ap, ◌∙◌}
use Rattle.std.proofs.lemmas.List.{get_or-map, get_or_default}
use Rattle.lattice_theory.specs.Affine.{Affine, value}
use Rattle.hull_growth.specs.steps.Values.{AreValuesAt}

-- the value at a place is that of the function there
pub value_of : (p : List ℤ) (fs : List Affine) (values : List ℤ) (i : ℕ) (f : Affine) → i < length fs → f ≡ slice_index_or fs i f
    → AreValuesAt p fs values → slice_index_or values i (pos 0) ≡ value f p
value_of p fs values i f l e h =
    ap (λ (ws : List ℤ). get_or ws i (pos 0)) h ∙ get_or-map (λ (g : Affine). value g p) fs i f (pos 0) l
    ∙ ap (λ (g : Affine). value g p) (sym e)

-- the function at a place
abbrev pub function_at : List Affine → ℕ → Affine
function_at fs i = get_or fs i (record { normal = []; constant = pos 0 })

pub stands_there : (fs : List Affine) (i : ℕ) → i < length fs → function_at fs i ≡ slice_index_or fs i (function_at fs i)
stands_there fs i l = get_or_default fs i (record { normal = []; constant = pos 0 }) (function_at fs i) l
