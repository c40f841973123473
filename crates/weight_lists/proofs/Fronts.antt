-- The first systems of a range stand at the front of its list.
use Rattle.std.proofs.Common.{◌≡◌, ◌⊎◌, inl, inr, ℕ, ◌+◌, ◌<◌, ◌^◌, List, [], ◌∷◌, ◌++◌, length, map, refl, sym, ap, ◌∙◌, subst, arith, append_assoc, length-append}
use Rattle.std.proofs.lemmas.List.{map-append}
use Rattle.lattice_theory.specs.Order.{Ascends}
use Rattle.lattice_theory.proofs.Members.{In, here, there, each_in, each_from_all, in_from_contains, contains_from_in}
use Rattle.lattice_core.specs.Weights.{Weighted}
use Rattle.interior_point_theory.specs.Interior.{SystemLess, IsSystemOfRange, AreSystemsOfRange}
use Rattle.interior_point_theory.proofs.Degrees.{system_asymmetric}
use Rattle.weight_enum.specs.Searched.{AreFirstSystems}
use Rattle.weight_lists.specs.Entries.{ListEntry, System, EndOf, entries_of, AreListEntries}
use Rattle.weight_lists.specs.Answers.{IsRange}
use Rattle.weight_lists.proofs.Ranges.{ranges_are_listed_lem}
use Rattle.weight_lists.proofs.Counts.{ranges_are_few_lem}

-- what stands behind a front
record HasRest {X : Type 0} (xs ys : List X) : Type 0 where
  rest : List X
  whole : ys ≡ xs ++ rest

first_or_later : {X : Type 0} {z : X} (y : X) (ys : List X) → In z (y ∷ ys) → (z ≡ y) ⊎ In z ys
first_or_later y ys here = inl refl
first_or_later y ys (there i) = inr i

heads : {X : Type 0} {x y : X} {xs ys : List X} → x ≡ y → xs ≡ ys → x ∷ xs ≡ y ∷ ys
heads e f = λ i. e i ∷ f i

module _ {X : Type 0} (less : X → X → Type 0) (asymmetric : (x y : X) → less x y → less y x → ⊥) where
  same_head : (x y : X) (xs ys : List X) → Ascends less (x ∷ xs) → Ascends less (y ∷ ys) → In x (y ∷ ys)
      → (less y x → In y (x ∷ xs)) → x ≡ y
  same_head x y xs ys a b here closed = refl
  same_head x y xs ys a b (there i) closed =
      let l = each_in (each_from_all (less y) ys b.0) i in by l (closed l)
    where
      of : less y x → (y ≡ x) ⊎ In y xs → x ≡ y
      of l (inl e) = sym e
      of l (inr j) = absurd (asymmetric x y (each_in (each_from_all (less x) xs a.0) j) l)

      by : less y x → In y (x ∷ xs) → x ≡ y
      by l m = of l (first_or_later x xs m)

  -- a list that has with each member all members of another list that come before it
  leads : (xs ys : List X) → Ascends less xs → Ascends less ys → ((x : X) → In x xs → In x ys)
      → ((s t : X) → In s xs → In t ys → less t s → In t xs) → HasRest xs ys
  leads [] ys a b inside closed = record { rest = ys; whole = refl }
  leads (x ∷ xs) [] a b inside closed = elim (inside x here) [ ]
  leads (x ∷ xs) (y ∷ ys) a b inside closed =
      let same = same_head x y xs ys a b (inside x here) (λ l. closed x y here here l) in
      with_rest same (leads xs ys a.1 b.1 (λ z i. later z i (subst (λ (w : X). In z (w ∷ ys)) (sym same) (inside z (there i))))
      (λ s t i j l. front s t (subst (λ (w : X). less w t) (sym same) (each_in (each_from_all (less y) ys b.0) j)) (closed s t (there i) (there j) l)))
    where
      later : (z : X) → In z xs → In z (x ∷ ys) → In z ys
      later z i here = let l = each_in (each_from_all (less x) xs a.0) i in absurd (asymmetric x x l l)
      later z i (there j) = j

      front : (s t : X) → less x t → In t (x ∷ xs) → In t xs
      front s t l here = absurd (asymmetric x x l l)
      front s t l (there i) = i

      with_rest : x ≡ y → HasRest xs ys → HasRest (x ∷ xs) (y ∷ ys)
      with_rest same r = record { rest = r.rest; whole = heads (sym same) r.whole }

-- the list of a range, of which some systems are the first ones
pub record HasWhole (dim low high : ℕ) (xs : List Weighted) : Type 0 where
  pub rest : List Weighted
  pub are_systems : AreSystemsOfRange dim low high (xs ++ rest)

pub whole_of : (dim low high count : ℕ) (xs : List Weighted) → IsRange dim low high → AreFirstSystems dim low high count xs
    → HasWhole dim low high xs
whole_of dim low high count xs range f = by (ranges_are_listed_lem dim low high range)
  where
    by : (systems : List Weighted) × AreSystemsOfRange dim low high systems → HasWhole dim low high xs
    by (ys, are) =
        let r = leads SystemLess system_asymmetric xs ys f.ascends are.ascends
        (λ s i. in_from_contains ys ((are.members s).1 (each_in (each_from_all (IsSystemOfRange dim low high) xs f.are_systems) i)))
        (λ s t i j l. in_from_contains xs (f.with_earlier s t (contains_from_in i) ((are.members t).0 (contains_from_in j)) l)) in
        record { rest = r.rest; are_systems = subst (AreSystemsOfRange dim low high) r.whole are }

-- so many systems are below the bound
pub first_are_few : (dim low high count : ℕ) (xs : List Weighted) → IsRange dim low high → AreFirstSystems dim low high count xs
    → count < 2 ^ 61
first_are_few dim low high count xs range f =
    let w = whole_of dim low high count xs range f in
    let all = ranges_are_few_lem dim low high (xs ++ w.rest) range w.are_systems in
    let both = length-append xs w.rest in
    let counted = f.count_is in
    within (length (xs ++ w.rest)) (length xs) (length w.rest) all both counted
  where
    within : (a l r : ℕ) → a < 2 ^ 61 → a ≡ l + r → l ≡ count → count < 2 ^ 61
    within a l r h e c = omega (arith, h, e, c)

-- the entries of a list that begins with some systems
pub entries_more : (xs rest : List Weighted) → entries_of (xs ++ rest) ≡ map System xs ++ (map System rest ++ EndOf (xs ++ rest) ∷ [])
entries_more xs rest = ap (λ (es : List ListEntry). es ++ EndOf (xs ++ rest) ∷ []) (map-append System xs rest)
    ∙ append_assoc (map System xs) (map System rest) (EndOf (xs ++ rest) ∷ [])

pub whole_entries : (dim low high : ℕ) (systems : List Weighted) → AreSystemsOfRange dim low high systems
    → AreListEntries dim low high (entries_of systems)
whole_entries dim low high systems are = record { systems = systems; are_systems = are; entries_are = refl }
