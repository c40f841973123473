-- Points that are surrounded have no linear function but 0 that is nonnegative on them.
use Rattle.std.proofs.Common.{◌≡◌, ◌≢◌, ℕ, suc, ◌<◌, ◌≤◌, ◌⊎◌, inl, inr, List, [], ◌∷◌, length, map, ℤ, pos, ◌+ℤ◌, ◌*ℤ◌, neg_ℤ, ◌≤ℤ◌, ◌<ℤ◌, refl, sym, ap, ap₂, ◌∙◌, arith, ⊎_elim}
use Rattle.std.proofs.lemmas.Bool.{cases_lt}
use Rattle.lattice_theory.specs.Vector.{entry, dot}
use Rattle.lattice_theory.proofs.Integers.{products_out, linear, product_nonnegative, positive_nonzero, positive_pos, factor_zero}
use Rattle.lattice_theory.proofs.Members.{Each, empty, more, each_from_in, each_in, in_from_contains, contains_from_in}
use Rattle.lattice_theory.proofs.Vectors.{add, combined, unit, dot-unit, dot_comm, dot-nil, dot-add_right, dot-combined_right, entry-add, entry-combined, entry_past, entry-unit_same, entry-unit_other}
use Rattle.facet_theory.proofs.Signs.{nonnegative_sum, terms_zero}
use Rattle.interior_point_theory.specs.Certificates.{entries_at, integer_sum, HasInverse}
use Rattle.interior_point_theory.specs.Laws.{SurroundedPoints}

-- a vector whose entries are 0 at the places of f pairs to 0 with it
zero_pairing : (f z : List ℤ) → ((j : ℕ) → j < length f → entry z j ≡ pos 0) → dot f z ≡ pos 0
zero_pairing [] z h = refl
zero_pairing (a ∷ f) [] h = refl
zero_pairing (a ∷ f) (b ∷ z) h = rw (h 0 (omega arith), zero_pairing f z (λ j l. h (suc j) (omega arith))) (simp products_out refl)

-- the sum of vectors, and their sum with factors
abbrev vector_sum : List (List ℤ) → List ℤ
vector_sum [] = []
vector_sum (y ∷ ys) = add y (vector_sum ys)

entry-vector_sum : (ys : List (List ℤ)) (j : ℕ) → entry (vector_sum ys) j ≡ integer_sum (entries_at j ys)
entry-vector_sum [] j = refl
entry-vector_sum (y ∷ ys) j = entry-add y (vector_sum ys) j ∙ ap (λ (z : ℤ). entry y j +ℤ z) (entry-vector_sum ys j)

dot-vector_sum : (f : List ℤ) (ys : List (List ℤ)) → dot f (vector_sum ys) ≡ integer_sum (map (dot f) ys)
dot-vector_sum f [] = dot-nil f
dot-vector_sum f (y ∷ ys) = dot-add_right f y (vector_sum ys) ∙ ap (λ (z : ℤ). dot f y +ℤ z) (dot-vector_sum f ys)

abbrev mixed : List ℤ → List (List ℤ) → List ℤ
mixed [] ys = []
mixed (c ∷ cs) [] = []
mixed (c ∷ cs) (y ∷ ys) = combined c y (pos 1) (mixed cs ys)

one_more : (a b c : ℤ) → b ≡ c → a +ℤ pos 1 *ℤ b ≡ a +ℤ c
one_more a b c e = rw e (simp products_out refl)

entry-mixed : (cs : List ℤ) (ys : List (List ℤ)) (j : ℕ) → entry (mixed cs ys) j ≡ dot cs (entries_at j ys)
entry-mixed [] ys j = refl
entry-mixed (c ∷ cs) [] j = refl
entry-mixed (c ∷ cs) (y ∷ ys) j = entry-combined c y (pos 1) (mixed cs ys) j
    ∙ one_more (c *ℤ entry y j) (entry (mixed cs ys) j) (dot cs (entries_at j ys)) (entry-mixed cs ys j)

dot-mixed : (f cs : List ℤ) (ys : List (List ℤ)) → dot f (mixed cs ys) ≡ dot cs (map (dot f) ys)
dot-mixed f [] ys = dot-nil f
dot-mixed f (c ∷ cs) [] = dot-nil f
dot-mixed f (c ∷ cs) (y ∷ ys) = dot-combined_right f c y (pos 1) (mixed cs ys)
    ∙ one_more (c *ℤ dot f y) (dot f (mixed cs ys)) (dot cs (map (dot f) ys)) (dot-mixed f cs ys)

-- a sum of values that aren't negative isn't, and where it is 0 they all are
sum_parts : (f : List ℤ) (points : List (List ℤ)) → Each (λ y. pos 0 ≤ℤ dot f y) points
    → (pos 0 ≤ℤ integer_sum (map (dot f) points)) × (integer_sum (map (dot f) points) ≡ pos 0 → Each (λ y. dot f y ≡ pos 0) points)
sum_parts f [] h = (omega (arith, linear), λ e. empty)
sum_parts f (y ∷ points) (more h hs) = let rest = sum_parts f points hs in
    (nonnegative_sum h rest.0, λ e. let p = terms_zero (dot f y) (integer_sum (map (dot f) points)) h rest.0 e in more p.0 (rest.1 p.1))

-- nor is one with natural factors
multiples_nonnegative : (multiples : List ℕ) (f : List ℤ) (ys : List (List ℤ)) → Each (λ y. pos 0 ≤ℤ dot f y) ys
    → pos 0 ≤ℤ dot (map pos multiples) (map (dot f) ys)
multiples_nonnegative [] f ys h = omega (arith, linear)
multiples_nonnegative (k ∷ multiples) f [] h = omega (arith, linear)
multiples_nonnegative (k ∷ multiples) f (y ∷ ys) (more h hs) =
    nonnegative_sum (product_nonnegative (pos k) (dot f y) (omega (arith, linear)) h) (multiples_nonnegative multiples f ys hs)

zero_values : (cs f : List ℤ) (ys : List (List ℤ)) → Each (λ y. dot f y ≡ pos 0) ys → dot cs (map (dot f) ys) ≡ pos 0
zero_values [] f ys z = refl
zero_values (c ∷ cs) f [] z = refl
zero_values (c ∷ cs) f (y ∷ ys) (more e z) = rw (e, zero_values cs f ys z) (simp products_out refl)

-- a function that is 0 on vectors with an inverse is 0
inverse_zero : (n : ℕ) (vectors : List (List ℤ)) (f : List ℤ) → length f ≡ n → HasInverse n vectors → Each (λ y. dot f y ≡ pos 0) vectors
    → (k : ℕ) → k < n → entry f k ≡ pos 0
inverse_zero n vectors f l inverse z k h = factor_zero inverse.divisor (entry f k) inverse.nonzero
    (moved inverse.divisor (dot f made) (dot f (unit n k)) (entry f k) (dot-mixed f (inverse.rows k) vectors ∙ zero_values (inverse.rows k) f vectors z)
    (dot_comm f (unit n k) ∙ dot-unit n k f h)
    (sym (dot-combined_right f (pos 1) made (neg_ℤ inverse.divisor) (unit n k)) ∙ zero_pairing f (combined (pos 1) made (neg_ℤ inverse.divisor) (unit n k))
    (λ j b. entry-combined (pos 1) made (neg_ℤ inverse.divisor) (unit n k) j ∙ at j (omega arith))))
  where
    made : List ℤ
    made = mixed (inverse.rows k) vectors

    moved : (d a b c : ℤ) → a ≡ pos 0 → b ≡ c → pos 1 *ℤ a +ℤ neg_ℤ d *ℤ b ≡ pos 0 → d *ℤ c ≡ pos 0
    moved d a b c e p h = let s = simp products_out at (sym (ap₂ (λ (x y : ℤ). pos 1 *ℤ x +ℤ neg_ℤ d *ℤ y) e p) ∙ h) in omega (arith, linear)

    same_place : (d a u : ℤ) → a ≡ d → u ≡ pos 1 → pos 1 *ℤ a +ℤ neg_ℤ d *ℤ u ≡ pos 0
    same_place d a u p q = rw (p, q) (simp products_out (omega (arith, linear)))

    other_place : (d a u : ℤ) → a ≡ pos 0 → u ≡ pos 0 → pos 1 *ℤ a +ℤ neg_ℤ d *ℤ u ≡ pos 0
    other_place d a u p q = rw (p, q) (simp products_out refl)

    by : (j : ℕ) → j < n → (k ≡ j) ⊎ (k ≢ j) → pos 1 *ℤ entry made j +ℤ neg_ℤ inverse.divisor *ℤ entry (unit n k) j ≡ pos 0
    by j b (inl e) = rw (sym e) (same_place inverse.divisor (entry made k) (entry (unit n k) k) (entry-mixed (inverse.rows k) vectors k ∙ inverse.own k h)
        (entry-unit_same n k h))
    by j b (inr e) = other_place inverse.divisor (entry made j) (entry (unit n k) j) (entry-mixed (inverse.rows k) vectors j ∙ inverse.others k j h b e)
        (entry-unit_other n k j e)

    same_or_not : (i j : ℕ) → (i ≡ j) ⊎ (i ≢ j)
    same_or_not i j = ⊎_elim (λ (a : i < j). inr (λ (e : i ≡ j). absurd (omega arith)))
        (λ (a : j ≤ i). ⊎_elim (λ (b : j < i). inr (λ (e : i ≡ j). absurd (omega arith))) (λ (b : i ≤ j). inl (omega arith)) (cases_lt j i)) (cases_lt i j)

    at : (j : ℕ) → j < n → pos 1 *ℤ entry made j +ℤ neg_ℤ inverse.divisor *ℤ entry (unit n k) j ≡ pos 0
    at j b = by j b (same_or_not k j)

pub surrounded_points_lem : SurroundedPoints
surrounded_points_lem n points s f l h i = ⊎_elim (λ (b : i < n). inverse_zero n s.chosen f l s.inverse chosen_zeros i b)
    (λ (b : n ≤ i). entry_past f i (omega arith)) (cases_lt i n)
  where
    nonnegative : Each (λ y. pos 0 ≤ℤ dot f y) points
    nonnegative = each_from_in points (λ y j. h y (contains_from_in j))

    chosen_nonnegative : Each (λ y. pos 0 ≤ℤ dot f y) s.chosen
    chosen_nonnegative = each_from_in s.chosen (λ y j. h y (s.inside y (contains_from_in j)))

    -- the balance, paired with f
    balanced : pos s.times *ℤ integer_sum (map (dot f) points) +ℤ dot (map pos s.multiples) (map (dot f) s.chosen) ≡ pos 0
    balanced = sym (ap (λ (z : ℤ). pos s.times *ℤ z +ℤ dot (map pos s.multiples) (map (dot f) s.chosen)) (dot-vector_sum f points)
        ) ∙ sym (one_more (pos s.times *ℤ dot f (vector_sum points)) (dot f (mixed (map pos s.multiples) s.chosen)) (dot (map pos s.multiples) (map (dot f) s.chosen))
        (dot-mixed f (map pos s.multiples) s.chosen))
        ∙ sym (dot-combined_right f (pos s.times) (vector_sum points) (pos 1) (mixed (map pos s.multiples) s.chosen))
        ∙ zero_pairing f (combined (pos s.times) (vector_sum points) (pos 1) (mixed (map pos s.multiples) s.chosen)) (λ j b. at j (omega arith))
      where
        at : (j : ℕ) → j < n → entry (combined (pos s.times) (vector_sum points) (pos 1) (mixed (map pos s.multiples) s.chosen)) j ≡ pos 0
        at j b = entry-combined (pos s.times) (vector_sum points) (pos 1) (mixed (map pos s.multiples) s.chosen) j
            ∙ one_more (pos s.times *ℤ entry (vector_sum points) j) (entry (mixed (map pos s.multiples) s.chosen) j)
            (dot (map pos s.multiples) (entries_at j s.chosen)) (entry-mixed (map pos s.multiples) s.chosen j)
            ∙ ap (λ (z : ℤ). pos s.times *ℤ z +ℤ dot (map pos s.multiples) (entries_at j s.chosen)) (entry-vector_sum points j)
            ∙ s.balance j b

    no_part : (d a b : ℤ) → pos 0 <ℤ d → pos 0 ≤ℤ a → pos 0 ≤ℤ b → d *ℤ a +ℤ b ≡ pos 0 → a ≡ pos 0
    no_part d a b p q r e = factor_zero d a (positive_nonzero d p)
        (let k = product_nonnegative d a (omega (arith, linear)) q in omega (arith, linear))

    zeros : Each (λ y. dot f y ≡ pos 0) points
    zeros =
        let parts = sum_parts f points nonnegative in
        parts.1 (no_part (pos s.times) (integer_sum (map (dot f) points)) (dot (map pos s.multiples) (map (dot f) s.chosen))
        (positive_pos s.times s.positive) parts.0 (multiples_nonnegative s.multiples f s.chosen chosen_nonnegative) balanced)

    chosen_zeros : Each (λ y. dot f y ≡ pos 0) s.chosen
    chosen_zeros = each_from_in s.chosen (λ y j. each_in zeros (in_from_contains points (s.inside y (contains_from_in j))))
