-- Points that a visitor takes, list after list.
use Rattle.std.specs.Prelude.{ℤ}
use Rattle.std.proofs.Common.{◌≡◌, Bool, List, [], ◌∷◌, ◌++◌, sym, ap, subst, ◌∙◌, append-nil}
use Rattle.std.proofs.lemmas.List.{append_assoc}
use Rattle.point_scan.specs.Visits.{Visited, none, one_more, StopsWithin}

-- the points of one list and then those of another
pub visited_append : {V : Type 0} (visits : V → List ℤ → Bool → V → Type 0) (before middle after : V) (xs ys : List (List ℤ))
    → Visited visits before xs middle → Visited visits middle ys after → Visited visits before (xs ++ ys) after
visited_append visits before middle _ xs _ h none = subst (λ zs. Visited visits before zs middle) (sym (append-nil xs)) h
visited_append visits before middle after xs _ h (one_more ys y last _ k step) =
    subst (λ zs. Visited visits before zs after) (append_assoc xs ys (y ∷ []))
    (one_more (xs ++ ys) y last after (visited_append visits before middle last xs ys h k) step)

-- one that stops within the second stops within a list that begins with both
pub stops_later : {V : Type 0} (visits : V → List ℤ → Bool → V → Type 0) (before middle after : V) (xs ys rest all : List (List ℤ))
    → Visited visits before xs middle → StopsWithin visits middle ys after → all ≡ (xs ++ ys) ++ rest → StopsWithin visits before all after
stops_later visits before middle after xs ys rest all h stops e = record {
  front = xs ++ stops.front;
  x = stops.x;
  rest = stops.rest ++ rest;
  middle = stops.middle;
  whole = e ∙ ap (λ (zs : List (List ℤ)). (xs ++ zs) ++ rest) stops.whole ∙ ap (λ (zs : List (List ℤ)). zs ++ rest)
      (sym (append_assoc xs stops.front (stops.x ∷ stops.rest))) ∙ append_assoc (xs ++ stops.front) (stops.x ∷ stops.rest) rest;
  visited = visited_append visits before middle stops.middle xs stops.front h stops.visited;
  last = stops.last;
}
