-- The walk of a guide that loses none lists all that is sought, each once, in order.
use Rattle.std.specs.Prelude.{cond}
use Rattle.std.proofs.Common.{◌≡◌, ℕ, zero, suc, ◌+◌, ◌<◌, ◌≤◌, Bool, true, false, List, [], ◌∷◌, ◌++◌, length, ◌⊎◌, inl, inr, refl, sym, ap, ◌∙◌, arith, subst, length-append}
use Rattle.std.proofs.lemmas.Bool.{cases_lt}
use Rattle.lattice_theory.specs.Order.{Ascends, Lists}
use Rattle.lattice_theory.proofs.Integers.{linear}
use Rattle.lattice_theory.proofs.Members.{empty, all_from_each, In, here, there, in_append_left, in_append_right, in_append_cases, in_from_contains, contains_from_in}
use Rattle.lattice_theory.proofs.Sublists.{ascends_append}
use Rattle.walk_theory.specs.Walks.{NumbersLess, in_turn, Guide, walk, LosesNone, IsSought}
use Rattle.walk_theory.specs.Laws.{WalkListsSought}

pub append_none : (b : List ℕ) → b ++ [] ≡ b
append_none [] = refl
append_none (v ∷ b) = ap (λ (y : List ℕ). v ∷ y) (append_none b)

pub append_next : (b : List ℕ) (v : ℕ) (rest : List ℕ) → (b ++ v ∷ []) ++ rest ≡ b ++ v ∷ rest
append_next [] v rest = refl
append_next (u ∷ b) v rest = ap (λ (y : List ℕ). u ∷ y) (append_next b v rest)

-- x is in one of the lists that come in turn
record IsInTurn (f : ℕ → List (List ℕ)) (v k : ℕ) (x : List ℕ) : Type 0 where
  number : ℕ
  low : v ≤ number
  high : number < v + k
  member : In x (f number)

from_turn : (f : ℕ → List (List ℕ)) (v k : ℕ) (x : List ℕ) → In x (in_turn f v k) → IsInTurn f v k x
unfolding in_turn
from_turn f v zero x i = elim i [ ]
from_turn f v (suc k) x i = by (in_append_cases (f v) (in_turn f (suc v) k) i) (from_turn f (suc v) k x)
  where
    by : In x (f v) ⊎ In x (in_turn f (suc v) k) → (In x (in_turn f (suc v) k) → IsInTurn f (suc v) k x) → IsInTurn f v (suc k) x
    by (inl j) later = record { number = v; low = omega arith; high = omega arith; member = j }
    by (inr j) later =
        let r = later j in
        let l = r.low in
        let h = r.high in
        record { number = r.number; low = omega arith; high = omega arith; member = r.member }

to_turn : (f : ℕ → List (List ℕ)) (v k u : ℕ) (x : List ℕ) → v ≤ u → u < v + k → In x (f u) → In x (in_turn f v k)
unfolding in_turn
to_turn f v zero u x l h i = absurd (omega arith)
to_turn f v (suc k) u x l h i = by (cases_lt v u) (λ m. to_turn f (suc v) k u x m (omega arith) i)
  where
    by : (v < u) ⊎ (u ≤ v) → (suc v ≤ u → In x (in_turn f (suc v) k)) → In x (f v ++ in_turn f (suc v) k)
    by (inl m) later = in_append_right (f v) (later (omega arith))
    by (inr m) later = let same : u ≡ v = omega arith in in_append_left (in_turn f (suc v) k) (subst (λ (w : ℕ). In x (f w)) same i)

-- of two lists that differ first behind one beginning, the one with the smaller number there comes first
pub less_behind : (b : List ℕ) (v u : ℕ) (x y : List ℕ) → v < u → NumbersLess (b ++ v ∷ x) (b ++ u ∷ y)
less_behind [] v u x y h = inl (omega (arith, linear))
less_behind (w ∷ b) v u x y h = inr (refl, less_behind b v u x y h)

record BeginsWith (b x : List ℕ) : Type 0 where
  rest : List ℕ
  is : x ≡ b ++ rest

turn_ascends : (b : List ℕ) (f : ℕ → List (List ℕ)) → ((v : ℕ) → Ascends NumbersLess (f v))
    → ((v : ℕ) (x : List ℕ) → In x (f v) → BeginsWith (b ++ v ∷ []) x) → (v k : ℕ) → Ascends NumbersLess (in_turn f v k)
unfolding in_turn
turn_ascends b f each begins v zero = tt
turn_ascends b f each begins v (suc k) = ascends_append NumbersLess (f v) (in_turn f (suc v) k) (each v) (turn_ascends b f each begins (suc v) k)
    (λ x y i j. let r = from_turn f (suc v) k y j in before x y r.number r.low (begins v x i) (begins r.number y r.member))
  where
    before : (x y : List ℕ) (u : ℕ) → suc v ≤ u → BeginsWith (b ++ v ∷ []) x → BeginsWith (b ++ u ∷ []) y → NumbersLess x y
    before x y u l p q = subst (λ (z : List ℕ). NumbersLess z y) (sym (p.is ∙ append_next b v p.rest))
        (subst (NumbersLess (b ++ v ∷ p.rest)) (sym (q.is ∙ append_next b u q.rest)) (less_behind b v u p.rest q.rest (omega arith)))

-- members of one list or another, as a test tells
from_choice : {X : Type 0} (t : Bool) (xs ys : List X) (x : X) → In x (cond t xs ys) → ((t ≡ true) × In x xs) ⊎ ((t ≡ false) × In x ys)
from_choice true xs ys x i = inl (refl, i)
from_choice false xs ys x i = inr (refl, i)

choice_ascends : (t : Bool) (xs ys : List (List ℕ)) → Ascends NumbersLess xs → Ascends NumbersLess ys → Ascends NumbersLess (cond t xs ys)
choice_ascends true xs ys h k = h
choice_ascends false xs ys h k = k

only_member : {b x : List ℕ} → In x (b ∷ []) → x ≡ b
only_member here = refl
only_member (there i) = elim i [ ]

module _ (P Reached : List ℕ → Type 0) (n : ℕ) (g : Guide) where
  abbrev behind_number : ℕ → List ℕ → ℕ → List (List ℕ)
  behind_number places b v = walk g places (b ++ v ∷ [])

  abbrev behind : ℕ → List ℕ → List (List ℕ)
  behind places b = in_turn (behind_number places b) (g.first b) (g.count b)

  begins : (places : ℕ) (b x : List ℕ) → In x (walk g places b) → BeginsWith b x
  unfolding walk
  begins zero b x i = by (from_choice (g.kept b) (b ∷ []) [] x i)
    where
      by : ((g.kept b ≡ true) × In x (b ∷ [])) ⊎ ((g.kept b ≡ false) × In x []) → BeginsWith b x
      by (inl j) = record { rest = []; is = only_member j.1 ∙ sym (append_none b) }
      by (inr j) = elim j.1 [ ]
  begins (suc places) b x i = by (from_choice (g.given_up b) [] (behind places b) x i) (λ v j. begins places (b ++ v ∷ []) x j)
    where
      by : ((g.given_up b ≡ true) × In x []) ⊎ ((g.given_up b ≡ false) × In x (behind places b))
          → ((v : ℕ) → In x (behind_number places b v) → BeginsWith (b ++ v ∷ []) x) → BeginsWith b x
      by (inl j) later = elim j.1 [ ]
      by (inr j) later =
          let s = from_turn (behind_number places b) (g.first b) (g.count b) x j.1 in
          let t = later s.number s.member in
          record { rest = s.number ∷ t.rest; is = t.is ∙ append_next b s.number t.rest }

  walk_ascends : (places : ℕ) (b : List ℕ) → Ascends NumbersLess (walk g places b)
  unfolding walk
  walk_ascends zero b = choice_ascends (g.kept b) (b ∷ []) [] (all_from_each empty, tt) tt
  walk_ascends (suc places) b = choice_ascends (g.given_up b) [] (behind places b) tt
      (turn_ascends b (behind_number places b) (λ v. walk_ascends places (b ++ v ∷ [])) (λ v x i. begins places (b ++ v ∷ []) x i) (g.first b)
      (g.count b))

  from_walk : LosesNone P Reached n g → (places : ℕ) (b x : List ℕ) → length b + places ≡ n → Reached b → In x (walk g places b) → IsSought P n x
  unfolding walk
  from_walk s zero b x l h i = by (from_choice (g.kept b) (b ∷ []) [] x i)
    where
      by : ((g.kept b ≡ true) × In x (b ∷ [])) ⊎ ((g.kept b ≡ false) × In x []) → IsSought P n x
      by (inl j) =
          let c : length b ≡ n = omega arith in
          subst (IsSought P n) (sym (only_member j.1)) (record { places = c; holds = (s.keeps b c h).0 j.0 })
      by (inr j) = elim j.1 [ ]
  from_walk s (suc places) b x l h i = by (from_choice (g.given_up b) [] (behind places b) x i) (λ v e k j. from_walk s places (b ++ v ∷ []) x e k j)
    where
      by : ((g.given_up b ≡ true) × In x []) ⊎ ((g.given_up b ≡ false) × In x (behind places b))
          → ((v : ℕ) → length (b ++ v ∷ []) + places ≡ n → Reached (b ++ v ∷ []) → In x (behind_number places b v) → IsSought P n x) → IsSought P n x
      by (inl j) later = elim j.1 [ ]
      by (inr j) later =
          let f = from_turn (behind_number places b) (g.first b) (g.count b) x j.1 in
          later f.number (let e = length-append b (f.number ∷ []) in omega arith) (s.goes_on b f.number h (record { low = f.low; high = f.high })) f.member

  to_walk : LosesNone P Reached n g → (places : ℕ) (b rest : List ℕ) → length rest ≡ places → length (b ++ rest) ≡ n → Reached b → P (b ++ rest)
      → In (b ++ rest) (walk g places b)
  unfolding walk
  to_walk s zero b [] l c h p = by (g.kept b) ((s.keeps b (sym (ap length (append_none b)) ∙ c) h).1 (subst P (append_none b) p))
    where
      by : (t : Bool) → t ≡ true → In (b ++ []) (cond t (b ∷ []) [])
      by t e = rw e (subst (λ (y : List ℕ). In y (b ∷ [])) (sym (append_none b)) here)
  to_walk s zero b (v ∷ rest) l c h p = absurd (omega arith)
  to_walk s (suc places) b [] l c h p = absurd (omega arith)
  to_walk s (suc places) b (v ∷ rest) l c h p =
      let t = s.tries b v rest c h p in
      by (g.given_up b) (λ e. s.spares b (v ∷ rest) e c p) (to_turn (behind_number places b) (g.first b) (g.count b) v (b ++ v ∷ rest) t.low t.high
      (subst (λ (y : List ℕ). In y (behind_number places b v)) same (to_walk s places (b ++ v ∷ []) rest (omega arith) (ap length same ∙ c)
      (s.goes_on b v h t) (subst P (sym same) p))))
    where
      same : (b ++ v ∷ []) ++ rest ≡ b ++ v ∷ rest
      same = append_next b v rest

      by : (t : Bool) → (t ≡ true → ⊥) → In (b ++ v ∷ rest) (behind places b) → In (b ++ v ∷ rest) (cond t [] (behind places b))
      by true d i = absurd (d refl)
      by false d i = i

-- the law, for anything that is sought
pub walk_lists : (P Reached : List ℕ → Type 0) (n : ℕ) (g : Guide) → LosesNone P Reached n g → Lists NumbersLess (IsSought P n) (walk g n [])
walk_lists P Reached n g s = record {
  ascends = walk_ascends P Reached n g n [];
  members = λ x. (
    (λ c. from_walk P Reached n g s n [] x (omega arith) s.starts (in_from_contains (walk g n []) c)),
    (λ q. contains_from_in (to_walk P Reached n g s n [] x q.places q.places s.starts q.holds)),
  );
}

pub walk_lists_sought_lem : WalkListsSought
walk_lists_sought_lem sought reached n g s = walk_lists (λ x. sought x ≡ true) (λ b. reached b ≡ true) n g s
