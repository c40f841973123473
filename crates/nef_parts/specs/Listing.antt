-- The list of all nef partitions, by a walk through restricted growth lists that gives up nothing, and how many of it come up to one of
-- them. This project's own.
use Rattle.std.specs.Prelude.{ℕ, zero, suc, max, min, Bool, false, true, cond, not, ◌&&◌, ◌||◌, ◌==◌, List, [], ◌∷◌, length, map, ℤ, pos, negsuc}
use Rattle.std.specs.Ordering.{int_eq}
use Rattle.lattice_theory.specs.Grid.{up_to}
use Rattle.walk_theory.specs.Walks.{Guide, walk}
use Rattle.nef_theory.specs.Nef.{part_at, pairing_at}
use Rattle.nef_parts.specs.Lists.{PairLists}

-- whether x agrees at one place with a part number
abbrev pub agrees_at : List (List ℤ) → List ℕ → List ℤ → ℕ → List ℤ → ℕ → Bool
agrees_at normals parts m i x e = (not (int_eq (pairing_at normals m e) (negsuc 0)) || (not (part_at parts e == i) || int_eq (pairing_at normals x e) (negsuc 0)))
    && ((not (int_eq (pairing_at normals m e) (negsuc 0)) || (not (not (part_at parts e == i)) || int_eq (pairing_at normals x e) (pos 0)))
    && (not (int_eq (pairing_at normals x e) (negsuc 0)) || part_at parts e == i))

-- whether it does at the first k places
unfoldable pub agrees_below : List (List ℤ) → List ℕ → List ℤ → ℕ → List ℤ → ℕ → Bool
agrees_below normals parts m i x zero = true
agrees_below normals parts m i x (suc k) = agrees_at normals parts m i x k && agrees_below normals parts m i x k

-- whether some of the points agrees with all part numbers
unfoldable pub some_agrees : List (List ℤ) → List ℕ → List ℤ → ℕ → List (List ℤ) → Bool
some_agrees normals parts m i [] = false
some_agrees normals parts m i (x ∷ points) = agrees_below normals parts m i x (length normals) || some_agrees normals parts m i points

-- whether some does for each of the parts below r
unfoldable pub parts_agree : List (List ℤ) → List ℕ → List (List ℤ) → List ℤ → ℕ → Bool
parts_agree normals parts points m zero = true
parts_agree normals parts points m (suc r) = some_agrees normals parts m r points && parts_agree normals parts points m r

-- whether some does for each vertex and part
unfoldable pub vertices_agree : List (List ℤ) → List ℕ → List (List ℤ) → ℕ → List (List ℤ) → Bool
vertices_agree normals parts points r [] = true
vertices_agree normals parts points r (m ∷ vertices) = parts_agree normals parts points m r && vertices_agree normals parts points r vertices

-- the least number above all part numbers
abbrev pub number_used : List ℕ → ℕ
number_used [] = 0
number_used (p ∷ parts) = max (suc p) (number_used parts)

-- the guide that tries each growth list
abbrev pub growth_guide : PairLists → ℕ → Guide
growth_guide l r = record {
  first = λ b. 0;
  count = λ b. min (suc (number_used b)) r;
  given_up = λ b. false;
  kept = λ x. number_used x == r && vertices_agree l.normals x l.points r l.vertices;
}

-- all nef partitions into r parts, as integers
unfoldable pub partitions : PairLists → ℕ → List (List ℤ)
partitions l r = map (λ parts. map pos parts) (walk (growth_guide l r) (length l.normals) [])

-- how many were given: none at first, and otherwise those up to the last one
unfoldable pub given_of : PairLists → ℕ → Bool → List ℕ → ℕ
given_of l r started last = cond started (length (up_to (map pos last) (partitions l r))) 0
