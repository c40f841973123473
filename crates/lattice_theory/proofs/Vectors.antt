-- Vectors: sums and multiples, and the pairing, which is symmetric and linear in each argument whatever the lengths.
use Rattle.std.proofs.Common.{◌≡◌, ℕ, zero, suc, ◌<◌, ◌≤◌, List, [], ◌∷◌, ◌++◌, length, ℤ, pos, ◌+ℤ◌, ◌*ℤ◌, refl, sym, ap, ap₂, ◌∙◌, arith, le_of_suc-le-suc, suc-le-suc, zero-lt-suc, ⊎_elim, ◌≢◌, ◌⊎◌, inl, inr}
use Rattle.lattice_theory.specs.Vector.{entry, dot, scaled, EndsAt}
use Rattle.std.specs.List.{All}
use Rattle.std.proofs.lemmas.Bool.{cases_lt}
use Rattle.lattice_theory.proofs.Integers.{products_out, linear, zero_or_not, one-*ℤ, *ℤ_assoc}
use Rattle.lattice_theory.proofs.Members.{Each, empty, more, all_from_each, each_from_all}
use Rattle.std.proofs.lemmas.List.{get_or_append_left, get_or_push}

-- the sum of two vectors; the shorter one is read with entries 0
abbrev pub add : List ℤ → List ℤ → List ℤ
add [] y = y
add (a ∷ x) [] = a ∷ x
add (a ∷ x) (b ∷ y) = (a +ℤ b) ∷ add x y

-- p x + q y
abbrev pub combined : ℤ → List ℤ → ℤ → List ℤ → List ℤ
combined p x q y = add (scaled p x) (scaled q y)

-- the pairing with no entries
pub dot-nil : (x : List ℤ) → dot x [] ≡ pos 0
dot-nil [] = refl
dot-nil (a ∷ x) = refl

-- the pairing is symmetric
pub dot_comm : (x y : List ℤ) → dot x y ≡ dot y x
dot_comm [] y = sym (dot-nil y)
dot_comm (a ∷ x) [] = refl
dot_comm (a ∷ x) (b ∷ y) = let e = dot_comm x y in simp (products_out, e)

-- a multiple on the left
pub dot-scaled_left : (k : ℤ) (x y : List ℤ) → dot (scaled k x) y ≡ k *ℤ dot x y
dot-scaled_left k [] y = simp products_out
dot-scaled_left k (a ∷ x) [] = simp products_out
dot-scaled_left k (a ∷ x) (b ∷ y) = let e = dot-scaled_left k x y in simp (products_out, e)

-- on the right
pub dot-scaled_right : (k : ℤ) (x y : List ℤ) → dot x (scaled k y) ≡ k *ℤ dot x y
dot-scaled_right k x y = dot_comm x (scaled k y) ∙ dot-scaled_left k y x ∙ ap (λ (z : ℤ). k *ℤ z) (dot_comm y x)

-- a sum on the left
pub dot-add_left : (x y z : List ℤ) → dot (add x y) z ≡ dot x z +ℤ dot y z
dot-add_left [] y z = omega (arith, linear)
dot-add_left (a ∷ x) [] z = omega (arith, linear)
dot-add_left (a ∷ x) (b ∷ y) [] = omega (arith, linear)
dot-add_left (a ∷ x) (b ∷ y) (c ∷ z) = let e = dot-add_left x y z in simp products_out (omega (arith, linear))

-- on the right
pub dot-add_right : (x y z : List ℤ) → dot x (add y z) ≡ dot x y +ℤ dot x z
dot-add_right x y z = dot_comm x (add y z) ∙ dot-add_left y z x ∙ ap₂ (λ (p q : ℤ). p +ℤ q) (dot_comm y x) (dot_comm z x)

-- both on the left
pub dot-combined_left : (p : ℤ) (x : List ℤ) (q : ℤ) (y z : List ℤ) → dot (combined p x q y) z ≡ p *ℤ dot x z +ℤ q *ℤ dot y z
dot-combined_left p x q y z = dot-add_left (scaled p x) (scaled q y) z ∙ ap₂ (λ (u v : ℤ). u +ℤ v) (dot-scaled_left p x z)
    (dot-scaled_left q y z)

-- both on the right
pub dot-combined_right : (z : List ℤ) (p : ℤ) (x : List ℤ) (q : ℤ) (y : List ℤ) → dot z (combined p x q y) ≡ p *ℤ dot z x +ℤ q *ℤ dot z y
dot-combined_right z p x q y = dot-add_right z (scaled p x) (scaled q y) ∙ ap₂ (λ (u v : ℤ). u +ℤ v) (dot-scaled_right p z x)
    (dot-scaled_right q z y)

-- multiples of multiples
pub scaled-one : (x : List ℤ) → scaled (pos 1) x ≡ x
scaled-one [] = refl
scaled-one (a ∷ x) = ap₂ (λ (b : ℤ) (y : List ℤ). b ∷ y) (one-*ℤ a) (scaled-one x)

-- a multiple of a multiple
pub scaled-scaled : (a b : ℤ) (x : List ℤ) → scaled a (scaled b x) ≡ scaled (a *ℤ b) x
scaled-scaled a b [] = refl
scaled-scaled a b (c ∷ x) = ap₂ (λ (d : ℤ) (y : List ℤ). d ∷ y) (sym (*ℤ_assoc a b c)) (scaled-scaled a b x)

-- lengths
pub length-scaled : (k : ℤ) (x : List ℤ) → length (scaled k x) ≡ length x
length-scaled k [] = refl
length-scaled k (a ∷ x) = ap suc (length-scaled k x)

-- of a sum
pub length-add : (m : ℕ) (x y : List ℤ) → length x ≡ m → length y ≡ m → length (add x y) ≡ m
length-add m [] y e f = f
length-add m (a ∷ x) [] e f = e
length-add zero (a ∷ x) (b ∷ y) e f = absurd (omega arith)
length-add (suc m) (a ∷ x) (b ∷ y) e f = ap suc (length-add m x y (omega arith) (omega arith))

-- of a combination
pub length-combined : (m : ℕ) (p : ℤ) (x : List ℤ) (q : ℤ) (y : List ℤ) → length x ≡ m → length y ≡ m → length (combined p x q y) ≡ m
length-combined m p x q y e f = length-add m (scaled p x) (scaled q y) (length-scaled p x ∙ e) (length-scaled q y ∙ f)

-- entries
pub entry-scaled : (k : ℤ) (x : List ℤ) (i : ℕ) → entry (scaled k x) i ≡ k *ℤ entry x i
entry-scaled k [] i = simp products_out
entry-scaled k (a ∷ x) zero = refl
entry-scaled k (a ∷ x) (suc i) = entry-scaled k x i

-- of a sum
pub entry-add : (x y : List ℤ) (i : ℕ) → entry (add x y) i ≡ entry x i +ℤ entry y i
entry-add [] y i = omega (arith, linear)
entry-add (a ∷ x) [] i = omega (arith, linear)
entry-add (a ∷ x) (b ∷ y) zero = refl
entry-add (a ∷ x) (b ∷ y) (suc i) = entry-add x y i

-- of a combination
pub entry-combined : (p : ℤ) (x : List ℤ) (q : ℤ) (y : List ℤ) (i : ℕ) → entry (combined p x q y) i ≡ p *ℤ entry x i +ℤ q *ℤ entry y i
entry-combined p x q y i = entry-add (scaled p x) (scaled q y) i ∙ ap₂ (λ (u v : ℤ). u +ℤ v) (entry-scaled p x i) (entry-scaled q y i)

-- past the end
pub entry_past : (x : List ℤ) (i : ℕ) → length x ≤ i → entry x i ≡ pos 0
entry_past [] i h = refl
entry_past (a ∷ x) zero h = absurd (omega arith)
entry_past (a ∷ x) (suc i) h = entry_past x i (omega arith)

-- vectors of one length with the same entries are the same
pub same_from_entries : (x y : List ℤ) → length x ≡ length y → ((i : ℕ) → entry x i ≡ entry y i) → x ≡ y
same_from_entries [] [] e f = refl
same_from_entries [] (b ∷ y) e f = absurd (omega arith)
same_from_entries (a ∷ x) [] e f = absurd (omega arith)
same_from_entries (a ∷ x) (b ∷ y) e f = ap₂ (λ (c : ℤ) (z : List ℤ). c ∷ z) (f 0) (same_from_entries x y (omega arith) (λ i. f (suc i)))

-- the vector of m entries 0, and the one with 1 at the place i
abbrev pub zeros : ℕ → List ℤ
zeros zero = []
zeros (suc m) = pos 0 ∷ zeros m

-- the unit vector
abbrev pub unit : ℕ → ℕ → List ℤ
unit zero i = []
unit (suc m) zero = pos 1 ∷ zeros m
unit (suc m) (suc i) = pos 0 ∷ unit m i

-- m entries
pub length-zeros : (m : ℕ) → length (zeros m) ≡ m
length-zeros zero = refl
length-zeros (suc m) = ap suc (length-zeros m)

-- each is 0
pub entry-zeros : (m i : ℕ) → entry (zeros m) i ≡ pos 0
entry-zeros zero i = refl
entry-zeros (suc m) zero = refl
entry-zeros (suc m) (suc i) = entry-zeros m i

-- its pairings are 0
pub dot-zeros : (m : ℕ) (x : List ℤ) → dot (zeros m) x ≡ pos 0
dot-zeros zero x = refl
dot-zeros (suc m) [] = refl
dot-zeros (suc m) (a ∷ x) = let e = dot-zeros m x in simp (products_out, e)

-- m entries
pub length-unit : (m i : ℕ) → length (unit m i) ≡ m
length-unit zero i = refl
length-unit (suc m) zero = ap suc (length-zeros m)
length-unit (suc m) (suc i) = ap suc (length-unit m i)

-- the pairing with a unit vector is an entry
pub dot-unit : (m i : ℕ) (x : List ℤ) → i < m → dot (unit m i) x ≡ entry x i
dot-unit zero i x h = absurd (omega arith)
dot-unit (suc m) zero [] h = refl
dot-unit (suc m) zero (a ∷ x) h = let e = dot-zeros m x in simp (products_out, e) (omega (arith, linear))
dot-unit (suc m) (suc i) [] h = refl
dot-unit (suc m) (suc i) (a ∷ x) h = let e = dot-unit m i x (omega arith) in simp (products_out, e) (omega (arith, linear))

-- its entry at its place
pub entry-unit_same : (m i : ℕ) → i < m → entry (unit m i) i ≡ pos 1
entry-unit_same zero i h = absurd (omega arith)
entry-unit_same (suc m) zero h = refl
entry-unit_same (suc m) (suc i) h = entry-unit_same m i (omega arith)

-- its other entries
pub entry-unit_other : (m i j : ℕ) → i ≢ j → entry (unit m i) j ≡ pos 0
entry-unit_other zero i j n = refl
entry-unit_other (suc m) zero zero n = absurd (n refl)
entry-unit_other (suc m) zero (suc j) n = entry-zeros m j
entry-unit_other (suc m) (suc i) zero n = refl
entry-unit_other (suc m) (suc i) (suc j) n = entry-unit_other m i j (λ e. n (ap suc e))

-- vectors of one length with the same pairings are the same
pub entries_from_pairings : (m : ℕ) (x y : List ℤ) → length x ≡ m → length y ≡ m → ((v : List ℤ) → length v ≡ m → dot x v ≡ dot y v)
    → (i : ℕ) → entry x i ≡ entry y i
entries_from_pairings m x y e f p i = ⊎_elim
    (λ (h : i < m). sym (dot-unit m i x h) ∙ dot_comm (unit m i) x ∙ p (unit m i) (length-unit m i) ∙ dot_comm y (unit m i)
    ∙ dot-unit m i y h)
    (λ (h : m ≤ i). entry_past x i (omega arith) ∙ sym (entry_past y i (omega arith)))
    (cases_lt i m)

-- so they are the same
pub same_from_pairings : (m : ℕ) (x y : List ℤ) → length x ≡ m → length y ≡ m → ((v : List ℤ) → length v ≡ m → dot x v ≡ dot y v) → x ≡ y
same_from_pairings m x y e f p = same_from_entries x y (e ∙ sym f) (entries_from_pairings m x y e f p)

-- the vector 0: all its entries are 0
pub zero_from_entries : (x : List ℤ) → ((i : ℕ) → entry x i ≡ pos 0) → All (λ a. a ≡ pos 0) x
zero_from_entries x f = all_from_each (zero_entries x f)
  where
    zero_entries : (y : List ℤ) → ((i : ℕ) → entry y i ≡ pos 0) → Each (λ a. a ≡ pos 0) y
    zero_entries [] f = empty
    zero_entries (a ∷ y) f = more (f 0) (zero_entries y (λ i. f (suc i)))

-- from the inductive form
zero_each : (x : List ℤ) → Each (λ a. a ≡ pos 0) x → (i : ℕ) → entry x i ≡ pos 0
zero_each [] e i = refl
zero_each (a ∷ x) (more p ps) zero = p
zero_each (a ∷ x) (more p ps) (suc i) = zero_each x ps i

-- and conversely
pub entries_from_zero : (x : List ℤ) → All (λ a. a ≡ pos 0) x → (i : ℕ) → entry x i ≡ pos 0
entries_from_zero x h = zero_each x (each_from_all (λ a. a ≡ pos 0) x h)

-- a vector is 0 or has a last entry that isn't 0
ends_deeper : (a : ℤ) (x : List ℤ) → ((i : ℕ) → entry x i ≡ pos 0) ⊎ ((k : ℕ) × (k < length x) × EndsAt x k)
    → ((i : ℕ) → entry (a ∷ x) i ≡ pos 0) ⊎ ((k : ℕ) × (k < length (a ∷ x)) × EndsAt (a ∷ x) k)
ends_deeper a x (inr (k, h, e)) = inr (suc k, suc-le-suc h, record { nonzero = e.nonzero; zeros = λ j. later j })
  where
    later : (j : ℕ) → suc k < j → entry (a ∷ x) j ≡ pos 0
    later zero l = absurd (omega arith)
    later (suc j) l = e.zeros j (le_of_suc-le-suc l)
ends_deeper a x (inl z) = ⊎_elim
    (λ (e : a ≡ pos 0). inl (λ i. all_zero e i))
    (λ (n : a ≢ pos 0). inr (0, zero-lt-suc _, record { nonzero = n; zeros = λ j. later j }))
    (zero_or_not a)
  where
    all_zero : a ≡ pos 0 → (i : ℕ) → entry (a ∷ x) i ≡ pos 0
    all_zero e zero = e
    all_zero e (suc i) = z i

    later : (j : ℕ) → 0 < j → entry (a ∷ x) j ≡ pos 0
    later zero l = absurd (omega arith)
    later (suc j) l = z j

-- by the last entry
pub zero_or_ends : (x : List ℤ) → ((i : ℕ) → entry x i ≡ pos 0) ⊎ ((k : ℕ) × (k < length x) × EndsAt x k)
zero_or_ends [] = inl (λ i. refl)
zero_or_ends (a ∷ x) = ends_deeper a x (zero_or_ends x)

-- a vector that isn't 0 has an entry that isn't 0, at a place within its length
pub nonzero_entry : (x : List ℤ) → (All (λ a. a ≡ pos 0) x → ⊥) → (k : ℕ) × (k < length x) × EndsAt x k
nonzero_entry x n = ⊎_elim (λ (z : (i : ℕ) → entry x i ≡ pos 0). absurd (n (zero_from_entries x z))) (λ e. e) (zero_or_ends x)

-- a place with an entry that isn't 0 is within the length
pub place_within : (x : List ℤ) (i : ℕ) → entry x i ≢ pos 0 → i < length x
place_within x i n = ⊎_elim (λ h. h) (λ (h : length x ≤ i). absurd (n (entry_past x i h))) (cases_lt i (length x))

-- one more entry: the earlier ones
pub entry_before : (xs : List ℤ) (y : ℤ) (k : ℕ) → k < length xs → entry (xs ++ (y ∷ [])) k ≡ entry xs k
entry_before xs y k h = get_or_append_left xs (y ∷ []) (pos 0) k h

-- and itself
pub entry_last : (xs : List ℤ) (y : ℤ) (i : ℕ) → length xs ≡ i → entry (xs ++ (y ∷ [])) i ≡ y
entry_last xs y i e = get_or_push xs y (pos 0) i e
