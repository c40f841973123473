-- Well-formed systems within the limits have weights that the program can take.
use Rattle.std.proofs.Common.{◌≡◌, ℕ, ◌+◌, ◌<◌, ◌≤◌, List, [], ◌∷◌, ◌++◌, length, map, take, drop, get_or, ℤ, pos, sym, ap, ap₂, subst, ◌∙◌, All, arith, refl}
use Rattle.std.proofs.lemmas.List.{get_or-map, take-append-drop, drop_more, take_more, take_all, map-append, length-map}
use Rattle.std.proofs.lemmas.List.Elements.{All-push}
use Rattle.std.specs.List.{AllZip}
use Rattle.std.proofs.lemmas.Slice.Zip.{AllZip-map}
use Rattle.lattice_core.specs.declared.weights.WeightSystem.{WeightSystem}
use Rattle.lattice_core.specs.Weights.{Weighted, weighted, weighted_all, weighted_degree, columns_of, IsSummed, AreWellFormed, AreWithinLimits}
use Rattle.weight_frame.specs.steps.Reached.{IsUsable}

length_map_below : (systems : List WeightSystem) (i : ℕ) → i < length systems → i < length (weighted_all systems)
length_map_below systems i h = rw (length-map systems weighted) h

-- what holds of each system holds of the one at a place
pub at_system : (P : Weighted → Type 0) (systems : List WeightSystem) (i : ℕ) (system : WeightSystem) → i < length systems
    → system ≡ get_or systems i system → All P (weighted_all systems) → P (weighted system)
at_system P systems i system h e all = subst P (get_or-map weighted systems i system (weighted system) h ∙ ap weighted (sym e))
    (all i (weighted system) (length_map_below systems i h))

pub usable_at : (systems : List WeightSystem) (i : ℕ) (system : WeightSystem) → i < length systems → system ≡ get_or systems i system
    → AreWellFormed (weighted_all systems) → AreWithinLimits (weighted_all systems)
    → IsUsable (columns_of (weighted_all systems)) (weighted system)
usable_at systems i system h e formed limited =
    let n = columns_of (weighted_all systems) in
    let summed = at_system (IsSummed (columns_of (weighted_all systems))) systems i system h e formed.summed in
    let degree = at_system (λ s. s.degree ≤ 32_767) systems i system h e limited.degrees in
    record { columns = summed.columns; small = let f = summed.sum in omega arith }

-- the systems before, at and behind a place
pub split_systems : (systems : List WeightSystem) (i : ℕ) (system : WeightSystem) → i < length systems → system ≡ get_or systems i system
    → weighted_all systems ≡ weighted_all (take i systems) ++ (weighted system ∷ weighted_all (drop (i + 1) systems))
split_systems systems i system h e =
    ap weighted_all (sym (take-append-drop i systems) ∙ ap (λ (z : List WeightSystem). take i systems ++ z)
    (drop_more systems i system h ∙ ap (λ (s : WeightSystem). s ∷ drop (i + 1) systems) (sym e)))
    ∙ map-append weighted (take i systems) (system ∷ drop (i + 1) systems)

pub more_systems : (systems : List WeightSystem) (i : ℕ) (system : WeightSystem) → i < length systems → system ≡ get_or systems i system
    → weighted_all (take (i + 1) systems) ≡ weighted_all (take i systems) ++ (weighted system ∷ [])
more_systems systems i system h e =
    ap weighted_all (take_more systems i system h ∙ ap (λ (s : WeightSystem). take i systems ++ (s ∷ [])) (sym e))
    ∙ map-append weighted (take i systems) (system ∷ [])

-- the number of columns is that of the first system's weights
pub columns_first : (systems : List WeightSystem) (system : WeightSystem) → 0 < length systems → system ≡ get_or systems 0 system
    → columns_of (weighted_all systems) ≡ length system.weights.items
columns_first [] system h e = absurd (omega arith)
columns_first (s ∷ systems) system h e = ap (λ x. length x.weights.items) (sym e)

-- one copy more
pub copied_more : (systems copies new : List WeightSystem) (i : ℕ) (system copy : WeightSystem) → i < length systems
    → system ≡ get_or systems i system → weighted copy ≡ weighted system → new ≡ copies ++ (copy ∷ [])
    → weighted_all copies ≡ weighted_all (take i systems) → weighted_all new ≡ weighted_all (take (i + 1) systems)
copied_more systems copies new i system copy h e f n d =
    ap weighted_all n ∙ map-append weighted copies (copy ∷ []) ∙ ap₂ (λ (x : List Weighted) (y : Weighted). x ++ (y ∷ [])) d f
    ∙ sym (more_systems systems i system h e)

-- copied numbers
map_same : (xs : List ℕ) → map (λ x. x) xs ≡ xs
map_same [] = refl
map_same (x ∷ xs) = ap (λ (ys : List ℕ). x ∷ ys) (map_same xs)

pub same_numbers : (xs ys : List ℕ) → AllZip (λ x y. y ≡ x) xs ys → ys ≡ xs
same_numbers xs ys h = AllZip-map (λ x. x) xs ys h ∙ map_same xs

pub same_system : (system : WeightSystem) (copy : WeightSystem) → copy.degree ≡ system.degree → copy.weights.items ≡ system.weights.items
    → weighted copy ≡ weighted system
same_system system copy e f = ap₂ (λ (d : ℕ) (ws : List ℕ). record { degree = d; weights = ws }) e f

-- one system more at which a vector has the value 0
pub vanish_more : (systems : List WeightSystem) (i : ℕ) (system : WeightSystem) (x : List ℤ) → i < length systems
    → system ≡ get_or systems i system → weighted_degree (weighted system) x ≡ pos 0
    → All (λ s. weighted_degree s x ≡ pos 0) (weighted_all (take i systems))
    → All (λ s. weighted_degree s x ≡ pos 0) (weighted_all (take (i + 1) systems))
vanish_more systems i system x h e z all = subst (All (λ s. weighted_degree s x ≡ pos 0)) (sym (more_systems systems i system h e))
    (All-push (λ s. weighted_degree s x ≡ pos 0) (weighted_all (take i systems)) (weighted system) all z)

pub vanish_all : (systems : List WeightSystem) (i : ℕ) (x : List ℤ) → length systems ≤ i
    → All (λ s. weighted_degree s x ≡ pos 0) (weighted_all (take i systems)) → All (λ s. weighted_degree s x ≡ pos 0) (weighted_all systems)
vanish_all systems i x h all = subst (λ (ss : List WeightSystem). All (λ s. weighted_degree s x ≡ pos 0) (weighted_all ss))
    (take_all i systems h) all
