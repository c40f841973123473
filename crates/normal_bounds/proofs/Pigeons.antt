-- The pigeonhole principle for a shrinking list: of more than N c members,
-- on which a function has at most N values, more than c have the same value.
use Rattle.std.proofs.Common.{◌≡◌, ◌≢◌, ℕ, zero, suc, ◌+◌, ◌*◌, ◌<◌, ◌≤◌, List, [], ◌∷◌, length, ℤ, pos, ◌+ℤ◌, ◌-ℤ◌, ◌⊎◌, inl, inr, ⊎_elim, refl, ap, arith}
use Rattle.std.proofs.lemmas.Bool.{cases_lt}
use Rattle.lattice_theory.proofs.Integers.{linear, zero_or_not}
use Rattle.lattice_theory.proofs.Members.{Each, empty, more, each_head, each_tail}
use Rattle.normal_bounds.proofs.Boxes.{Different, none, one_more}

-- ys is xs without some of its members
pub data Among {X : Type 0} : List X → List X → Type 0 where
  stop : Among [] []
  keep : {x : X} {ys xs : List X} → Among ys xs → Among (x ∷ ys) (x ∷ xs)
  drop : {x : X} {ys xs : List X} → Among ys xs → Among ys (x ∷ xs)

-- what holds of each member still does
pub each_among : {X : Type 0} {P : X → Type 0} {ys xs : List X} → Among ys xs → Each P xs → Each P ys
each_among stop ps = empty
each_among (keep a) ps = more (each_head ps) (each_among a (each_tail ps))
each_among (drop a) ps = each_among a (each_tail ps)

-- members still differ
pub different_among : {X : Type 0} {ys xs : List X} → Among ys xs → Different xs → Different ys
different_among stop d = none
different_among (keep a) (one_more p d) = one_more (each_among a p) (different_among a d)
different_among (drop a) (one_more p d) = different_among a d

-- all members
pub among_itself : {X : Type 0} (xs : List X) → Among xs xs
among_itself [] = stop
among_itself (x ∷ xs) = keep (among_itself xs)

-- some of some
pub among_among : {X : Type 0} {zs ys xs : List X} → Among zs ys → Among ys xs → Among zs xs
among_among a stop = a
among_among (keep a) (keep b) = keep (among_among a b)
among_among (drop a) (keep b) = drop (among_among a b)
among_among a (drop b) = drop (among_among a b)

-- the members at which a function has a value, and the others
record Parts {X : Type 0} (f : X → ℤ) (v : ℤ) (xs : List X) : Type 0 where
  same : List X
  other : List X
  total : length same + length other ≡ length xs
  same_among : Among same xs
  other_among : Among other xs
  same_value : Each (λ x. f x ≡ v) same
  other_value : Each (λ x. f x ≢ v) other

-- one more member
part_more : {X : Type 0} {f : X → ℤ} {v : ℤ} {xs : List X} (x : X) → (f x ≡ v) ⊎ (f x ≢ v) → Parts f v xs → Parts f v (x ∷ xs)
part_more x (inl e) p = record {
  same = x ∷ p.same;
  other = p.other;
  total = let t = p.total in omega arith;
  same_among = keep p.same_among;
  other_among = drop p.other_among;
  same_value = more e p.same_value;
  other_value = p.other_value;
}
part_more x (inr n) p = record {
  same = p.same;
  other = x ∷ p.other;
  total = let t = p.total in omega arith;
  same_among = drop p.same_among;
  other_among = keep p.other_among;
  same_value = p.same_value;
  other_value = more n p.other_value;
}

-- equal or not
equal_or_not : (a b : ℤ) → (a ≡ b) ⊎ (a ≢ b)
equal_or_not a b = ⊎_elim (λ (e : a -ℤ b ≡ pos 0). inl (omega (arith, linear)))
    (λ (n : a -ℤ b ≢ pos 0). inr (λ (e : a ≡ b). n (omega (arith, linear)))) (zero_or_not (a -ℤ b))

-- the two parts of a list
parts : {X : Type 0} (f : X → ℤ) (v : ℤ) (xs : List X) → Parts f v xs
parts f v [] = record {
  same = [];
  other = [];
  total = refl;
  same_among = stop;
  other_among = stop;
  same_value = empty;
  other_value = empty;
}
parts f v (x ∷ xs) = part_more x (equal_or_not (f x) v) (parts f v xs)

-- a is one of the N numbers from -s up
pub record IsOneOf (N : ℕ) (s a : ℤ) : Type 0 where
  pub place : ℕ
  pub below : place < N
  pub same : a +ℤ s ≡ pos place

-- a value other than the last is one of the others
one_less : (N : ℕ) (s a : ℤ) → a ≢ pos N -ℤ s → IsOneOf (suc N) s a → IsOneOf N s a
one_less N s a n h = record {
  place = h.place;
  below = let b = h.below in
      let k : h.place ≢ N = (λ (e : h.place ≡ N). n (at_last e h.same)) in omega arith;
  same = h.same;
}
  where
    at_last : h.place ≡ N → a +ℤ s ≡ pos h.place → a ≡ pos N -ℤ s
    at_last e f = let g = ap pos e in omega (arith, linear)

-- all values other than the last
all_one_less : {X : Type 0} {f : X → ℤ} (N : ℕ) (s : ℤ) {xs : List X} → Each (λ x. f x ≢ pos N -ℤ s) xs
    → Each (λ x. IsOneOf (suc N) s (f x)) xs → Each (λ x. IsOneOf N s (f x)) xs
all_one_less N s empty hs = empty
all_one_less {f = f} N s (more {x = x} n ns) hs = more (one_less N s (f x) n (each_head hs)) (all_one_less N s ns (each_tail hs))

-- more than c members with one value
pub record Crowd {X : Type 0} (f : X → ℤ) (c : ℕ) (xs : List X) : Type 0 where
  pub members : List X
  pub among : Among members xs
  pub many : c < length members
  pub value : ℤ
  pub same : Each (λ x. f x ≡ value) members

-- a crowd among some members is one among all
crowd_among : {X : Type 0} {f : X → ℤ} {c : ℕ} {ys xs : List X} → Among ys xs → Crowd f c ys → Crowd f c xs
crowd_among a d = record { members = d.members; among = among_among d.among a; many = d.many; value = d.value; same = d.same }

-- by the number of values: those of the last value are a crowd, or the others have one
pub crowd : {X : Type 0} (f : X → ℤ) (N c : ℕ) (s : ℤ) (xs : List X) → Each (λ x. IsOneOf N s (f x)) xs → N * c < length xs → Crowd f c xs
crowd f zero c s [] hs l = absurd (omega arith)
crowd f zero c s (x ∷ xs) hs l = let b = (each_head hs).below in absurd (omega arith)
crowd f (suc N) c s xs hs l = let p = parts f (pos N -ℤ s) xs in ⊎_elim
    (λ (m : c < length p.same). record { members = p.same; among = p.same_among; many = m; value = pos N -ℤ s; same = p.same_value })
    (λ (m : length p.same ≤ c). crowd_among p.other_among
    (crowd f N c s p.other (all_one_less N s p.other_value (each_among p.other_among hs)) (let t = p.total in omega arith)))
    (cases_lt c (length p.same))
