-- The members of a list behind its first ones.
use Rattle.std.proofs.Common.{◌≡◌, ℕ, List, length, take, drop, length-drop, ℤ, subst, All, Contains, arith}
use Rattle.std.specs.Prelude.{◌-◌}
use Rattle.std.proofs.lemmas.List.{take_all, take-append-drop}
use Rattle.std.proofs.lemmas.List.Elements.{All-take, All-drop, Contains-append_left, Contains-append_right}

-- the members from a place on
abbrev pub last_of : ℕ → List (List ℤ) → List (List ℤ)
last_of from points = take (length points - from) (drop from points)

pub last_is : (from : ℕ) (points : List (List ℤ)) → last_of from points ≡ drop from points
last_is from points = take_all (length points - from) (drop from points) (let d = length-drop from points in omega arith)

pub last_among : (from : ℕ) (points : List (List ℤ)) (p : List ℤ) → Contains (last_of from points) p → Contains points p
last_among from points p c =
    subst (λ (ps : List (List ℤ)). Contains ps p) (take-append-drop from points)
    (Contains-append_right (take from points) (drop from points) p
    (subst (λ (ps : List (List ℤ)). Contains ps p) (take-append-drop (length points - from) (drop from points))
    (Contains-append_left (last_of from points) (drop (length points - from) (drop from points)) p c)))

pub last_all : (P : List ℤ → Type 0) (from : ℕ) (points : List (List ℤ)) → All P points → All P (last_of from points)
last_all P from points all = All-take P (length points - from) (drop from points) (All-drop P from points all)
