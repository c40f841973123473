-- The systems that were given first.
use Rattle.std.proofs.Common.{◌≡◌, ◌⊎◌, inl, inr, ℕ, ◌+◌, ◌<◌, ◌≤◌, List, [], ◌∷◌, ◌++◌, length, map, ℤ, pos, nat_abs, refl, sym, ap, ◌∙◌, subst, arith, length-append}
use Rattle.std.specs.List.{Contains}
use Rattle.std.proofs.lemmas.Bool.{cases_lt}
use Rattle.std.proofs.lemmas.List.{length-map}
use Rattle.lattice_theory.specs.Order.{Lists, LexLess}
use Rattle.lattice_theory.specs.Grid.{LexAtMost}
use Rattle.lattice_theory.proofs.Members.{empty, each_push, each_from_in, each_from_all, all_from_each, In}
use Rattle.lattice_theory.proofs.Members.{here, there, in_append_left, in_append_cases, in_from_contains, contains_from_in}
use Rattle.lattice_theory.proofs.Orders.{lex_transitive}
use Rattle.lattice_theory.proofs.LexPlaces.{lex_total}
use Rattle.lattice_theory.proofs.Sublists.{ascends_append}
use Rattle.lattice_core.specs.Weights.{Weighted}
use Rattle.interior_point_theory.specs.Interior.{SystemLess, IsSystemOfRange, AreSystemsOfRange, weight_vector, system_of}
use Rattle.interior_point_theory.proofs.Degrees.{system_asymmetric}
use Rattle.weight_enum.specs.Searched.{IsSystemAt, AreFirstSystems}
use Rattle.weight_enum.specs.Laws.{NoSystemsAreFirst, FirstAndNextSystemAreFirst, FirstSystemsAreAll}
use Rattle.weight_enum.proofs.Fronts.{IsFront, same_front}

system_transitive : (s t u : Weighted) → SystemLess s t → SystemLess t u → SystemLess s u
system_transitive s t u (inl l) (inl m) = inl (omega (arith, l, m))
system_transitive s t u (inl l) (inr m) = let e = m.0 in inl (omega (arith, l, e))
system_transitive s t u (inr l) (inl m) = let e = l.0 in inl (omega (arith, m, e))
system_transitive s t u (inr l) (inr m) = inr (l.0 ∙ m.0, lex_transitive (weight_vector s) (weight_vector t) (weight_vector u) l.1 m.1)

-- numbers that are the same as integers
natural : (xs : List ℕ) → map nat_abs (map pos xs) ≡ xs
natural [] = refl
natural (x ∷ xs) = λ i. x ∷ natural xs i

same_numbers : (xs ys : List ℕ) → map pos xs ≡ map pos ys → xs ≡ ys
same_numbers xs ys e = sym (natural xs) ∙ (ap (λ (zs : List ℤ). map nat_abs zs) e ∙ natural ys)

-- of two systems with as many weights one comes before the other, or they are the same
system_total : (n : ℕ) (s t : Weighted) → length s.weights ≡ n → length t.weights ≡ n → SystemLess s t ⊎ (SystemLess t s ⊎ (s ≡ t))
system_total n s t e f = by (cases_lt s.degree t.degree) (cases_lt t.degree s.degree) (lex_total (weight_vector s) (weight_vector t)
    (length-map s.weights pos ∙ (e ∙ (sym f ∙ sym (length-map t.weights pos)))))
  where
    same : t.degree ≡ s.degree → map pos t.weights ≡ map pos s.weights → s ≡ t
    same d w = λ i. system_of (sym d i) (sym (same_numbers t.weights s.weights w) i)

    by : (s.degree < t.degree) ⊎ (t.degree ≤ s.degree) → (t.degree < s.degree) ⊎ (s.degree ≤ t.degree)
        → LexLess (weight_vector s) (weight_vector t) ⊎ LexAtMost (weight_vector t) (weight_vector s) → SystemLess s t ⊎ (SystemLess t s ⊎ (s ≡ t))
    by (inl l) m r = inl (inl l)
    by (inr l) (inl m) r = inr (inl (inl m))
    by (inr l) (inr m) (inl r) = inl (inr (omega (arith, l, m), r))
    by (inr l) (inr m) (inr (inl r)) = inr (inl (inr (omega (arith, l, m), r)))
    by (inr l) (inr m) (inr (inr w)) = inr (inr (same (omega (arith, l, m)) w))

front_of_first : (dim low high count : ℕ) (xs : List Weighted) → AreFirstSystems dim low high count xs → IsFront SystemLess (IsSystemOfRange dim low high) xs
front_of_first dim low high count xs f = record {
  ascends = f.ascends;
  hold = each_from_all (IsSystemOfRange dim low high) xs f.are_systems;
  closed = λ s t i h l. in_from_contains xs (f.with_earlier s t (contains_from_in i) h l);
}

-- fronts of as many systems are the same
same_systems : (dim low high : ℕ) (xs ys : List Weighted) → IsFront SystemLess (IsSystemOfRange dim low high) xs
    → IsFront SystemLess (IsSystemOfRange dim low high) ys → length xs ≡ length ys → xs ≡ ys
same_systems dim low high xs ys f g e = same_front SystemLess system_asymmetric (IsSystemOfRange dim low high) xs ys
    (λ s t p q. system_total (dim + 1) s t p.columns q.columns) f g e

pub no_systems_are_first_lem : NoSystemsAreFirst
no_systems_are_first_lem dim low high = record {
  ascends = tt;
  are_systems = all_from_each {P = IsSystemOfRange dim low high} empty;
  with_earlier = λ s t c h l. absurd (nothing c);
  count_is = refl;
}
  where
    nothing : {s : Weighted} → Contains {X = Weighted} [] s → ⊥
    nothing (k, h, e) = omega (arith, h)

-- the systems before one are a front
before_front : (dim low high count : ℕ) (s : Weighted) (at : IsSystemAt dim low high count s) → IsFront SystemLess (IsSystemOfRange dim low high) at.before
before_front dim low high count s at = record {
  ascends = at.are_before.ascends;
  hold = each_from_in at.before (λ t i. ((at.are_before.members t).0 (contains_from_in i)).0);
  closed = λ t u i h l. in_from_contains at.before ((at.are_before.members u).1
      (h, system_transitive u t s l ((at.are_before.members t).0 (contains_from_in i)).1));
}

pub first_and_next_lem : FirstAndNextSystemAreFirst
first_and_next_lem dim low high count xs s f at =
    let counted = f.count_is in
    let same : at.before ≡ xs = same_systems dim low high at.before xs (before_front dim low high count s at) (front_of_first dim low high count xs f) (at.count ∙ sym counted) in
    let before : Lists SystemLess (λ t. IsSystemOfRange dim low high t × SystemLess t s) xs =
    subst (λ (ys : List Weighted). Lists SystemLess (λ t. IsSystemOfRange dim low high t × SystemLess t s) ys) same at.are_before in
    record {
      ascends = ascends_append SystemLess xs (s ∷ []) f.ascends (all_from_each {P = SystemLess s} empty, tt)
          (λ t u i j. last t u ((before.members t).0 (contains_from_in i)).1 j);
      are_systems = all_from_each {P = IsSystemOfRange dim low high} (each_push (each_from_all (IsSystemOfRange dim low high) xs f.are_systems) at.is_system);
      with_earlier = λ t u c h l. contains_from_in (in_append_left (s ∷ []) (in_from_contains xs ((before.members u).1
          (h, earlier t u before l (in_append_cases xs (s ∷ []) (in_from_contains (xs ++ s ∷ []) c))))));
      count_is = length-append xs (s ∷ []) ∙ omega (arith, counted);
    }
  where
    last : (t u : Weighted) → SystemLess t s → In u (s ∷ []) → SystemLess t u
    last t u l here = l
    last t u l (there j) = elim j [ ]

    earlier : (t u : Weighted) → Lists SystemLess (λ v. IsSystemOfRange dim low high v × SystemLess v s) xs → SystemLess u t → In t xs ⊎ In t (s ∷ []) → SystemLess u s
    earlier t u before l (inl i) = system_transitive u t s l ((before.members t).0 (contains_from_in i)).1
    earlier t u before l (inr here) = l
    earlier t u before l (inr (there j)) = elim j [ ]

pub first_are_all_lem : FirstSystemsAreAll
first_are_all_lem dim low high count xs f has =
    let counted = f.count_is in
    let same : has.systems ≡ xs = same_systems dim low high has.systems xs (record {
      ascends = has.are_systems.ascends;
      hold = each_from_in has.systems (λ t i. (has.are_systems.members t).0 (contains_from_in i));
      closed = λ s t i h l. in_from_contains has.systems ((has.are_systems.members t).1 h);
    }) (front_of_first dim low high count xs f) (has.count_is ∙ sym counted) in
    subst (AreSystemsOfRange dim low high) same has.are_systems
