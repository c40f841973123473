-- Steps of the lists of kept vectors.
use Rattle.std.proofs.Common.{◌≡◌, ◌⊎◌, ◌↔◌, ℕ, zero, suc, ◌%◌, ◌<◌, ◌≤◌, List, [], ◌∷◌, length, take, ℤ, pos, ap, ◌∙◌, refl, inl, inr, arith, slice_index_or}
use Rattle.std.specs.List.{All, Contains}
use Rattle.std.proofs.lemmas.List.{get_or_default}
use Rattle.std.proofs.lemmas.List.Elements.{All-contains, Contains-get_or}
use Rattle.lattice_theory.specs.Vector.{HaveDimension}
use Rattle.lattice_theory.specs.Affine.{Affine}
use Rattle.lattice_theory.proofs.Members.{all_from_each, each_from_in, contains_from_in}
use Rattle.cayley_theory.specs.Cones.{zero_vector}
use Rattle.cayley_theory.proofs.ConeVectors.{length_at, length-zero_vector}
use Rattle.cayley.specs.ConeSteps.{with_part, kept_point, kept_normal, kept_unit, IsAmong, AddsFirst, HoldFunctions}
use Rattle.cayley.proofs.KeptVectors.{from_none}

-- a sorted list holds the same
pub sorted_first : (these : ℕ → Affine) (k : ℕ) (fs gs : List Affine) → ((f : Affine) → Contains gs f ↔ Contains fs f) → AddsFirst these [] k fs
    → AddsFirst these [] k gs
sorted_first these k fs gs same h f = (λ c. (h f).0 ((same f).0 c), λ c. (same f).1 ((h f).1 c))

pub sorted_functions : (n : ℕ) (normals : List (List ℤ)) (part_of : List ℕ) (parts : ℕ) (fs gs : List Affine) → ((f : Affine) → Contains gs f ↔ Contains fs f)
    → HoldFunctions n normals part_of parts fs → HoldFunctions n normals part_of parts gs
sorted_functions n normals part_of parts fs gs same h f = (λ c. (h f).0 ((same f).0 c), λ c. (same f).1 ((h f).1 c))

-- all have one dimension
pub point_dimensions : (n : ℕ) (points : List (List ℤ)) (places : List ℕ) (parts k : ℕ) (fs : List Affine) → HaveDimension n points
    → All (λ place. place < length points) places → k ≤ length places → AddsFirst (kept_point points places parts) [] k fs
    → All (λ f. length f.normal ≡ n) fs
point_dimensions n points places parts k fs d within most h = all_from_each {P = λ f. length f.normal ≡ n} (each_from_in fs
    (λ f i. at f ((from_none (kept_point points places parts) k fs h f).0 (contains_from_in i))))
  where
    at : (f : Affine) → IsAmong (kept_point points places parts) k f → length f.normal ≡ n
    at f a = ap (λ (g : Affine). length g.normal) a.is ∙ length_at n points d (slice_index_or places a.place 0)
        (All-contains (λ place. place < length points) places (slice_index_or places a.place 0) within
        (Contains-get_or places a.place 0 (let w = a.within in omega arith)))

pub function_dimensions : (n : ℕ) (normals : List (List ℤ)) (part_of : List ℕ) (parts : ℕ) (fs : List Affine) → HaveDimension n normals
    → HoldFunctions n normals part_of parts fs → All (λ f. length f.normal ≡ n) fs
function_dimensions n normals part_of parts fs d h = all_from_each {P = λ f. length f.normal ≡ n} (each_from_in fs
    (λ f i. at f ((h f).0 (contains_from_in i))))
  where
    at : (f : Affine) → IsAmong (kept_normal normals part_of) (length normals) f ⊎ IsAmong (kept_unit n) parts f → length f.normal ≡ n
    at f (inl a) = ap (λ (g : Affine). length g.normal) a.is ∙ length_at n normals d a.place a.within
    at f (inr a) = ap (λ (g : Affine). length g.normal) a.is ∙ length-zero_vector n

-- what is kept of a point at a place
pub point_kept : (points : List (List ℤ)) (places : List ℕ) (parts k : ℕ) (x p : List ℤ) (f : Affine) → All (λ place. place < length points) places
    → k < length places → p ≡ slice_index_or points (slice_index_or places k 0) p → x ≡ p → f ≡ with_part x (k % parts) → f ≡ kept_point points places parts k
point_kept points places parts k x p f within l is same e =
    let at = All-contains (λ place. place < length points) places (slice_index_or places k 0) within (Contains-get_or places k 0 l) in
    e ∙ ap (λ (y : List ℤ). with_part y (k % parts)) (same ∙ is ∙ get_or_default points (slice_index_or places k 0) p [] at)

pub normal_kept : (normals : List (List ℤ)) (part_of : List ℕ) (e : ℕ) (x p : List ℤ) (f : Affine) → e < length normals → p ≡ slice_index_or normals e p
    → x ≡ p → f ≡ with_part x (slice_index_or part_of e 0) → f ≡ kept_normal normals part_of e
normal_kept normals part_of e x p f l is same h =
    h ∙ ap (λ (y : List ℤ). with_part y (slice_index_or part_of e 0)) (same ∙ is ∙ get_or_default normals e p [] l)

-- zeros
pub zeros_front : (n : ℕ) → n ≤ 6 → take n (pos 0 ∷ pos 0 ∷ pos 0 ∷ pos 0 ∷ pos 0 ∷ pos 0 ∷ []) ≡ zero_vector n
zeros_front zero h = refl
zeros_front (suc zero) h = refl
zeros_front (suc (suc zero)) h = refl
zeros_front (suc (suc (suc zero))) h = refl
zeros_front (suc (suc (suc (suc zero)))) h = refl
zeros_front (suc (suc (suc (suc (suc zero))))) h = refl
zeros_front (suc (suc (suc (suc (suc (suc zero)))))) h = refl
zeros_front (suc (suc (suc (suc (suc (suc (suc n))))))) h = absurd (omega arith)
