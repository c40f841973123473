-- The first large coefficient is one, by any table of the faces.
use Rattle.std.proofs.Common.{◌≡◌, inl, inr, ⊎_elim, ℕ, ◌<◌, ◌≤◌, Bool, true, false, length, ℤ, nat_abs, refl, sym, ap, ap₂, ◌∙◌, subst, arith}
use Rattle.std.proofs.lemmas.Bool.{cases_lt}
use Rattle.face_theory.specs.Faces.{TightRelation}
use Rattle.face_poset.specs.Faces.{TableState, IsTableOf}
use Rattle.poset_g.specs.Numbered.{numbered, IsInterval}
use Rattle.poset_g.specs.declared.faults.TheConstants.{MOST_COEFFICIENT}
use Rattle.poset_g.specs.Values.{Place, polynomial, IsDegreeBefore, IsBefore, gap_of, AreSmall, IsFirstLarge}
use Rattle.nef_numbers.proofs.AlikeFaces.{g_alike, g_dual_alike}
use Rattle.nef_numbers.proofs.SameFaces.{same_length, same_below, orders_alike, in_numbers}

-- of two numbers one is smaller, or they are the same
data Compared (m n : ℕ) : Type 0 where
  smaller : m < n → Compared m n
  larger : n < m → Compared m n
  equal : m ≡ n → Compared m n

compare : (m n : ℕ) → Compared m n
compare m n = ⊎_elim (λ (l : m < n). smaller l)
    (λ (l : n ≤ m). ⊎_elim (λ (k : n < m). larger k) (λ (k : m ≤ n). equal (omega arith)) (cases_lt n m)) (cases_lt m n)

-- of two places of a table one comes first, or they are the same
data Sorted (table : TableState) (p q : Place) : Type 0 where
  before : IsBefore table p q → Sorted table p q
  behind : IsBefore table q p → Sorted table p q
  same : p.from ≡ q.from → p.to ≡ q.to → p.dual ≡ q.dual → p.degree ≡ q.degree → Sorted table p q

module _ (table : TableState) (p q : Place) (g : gap_of table p ≡ gap_of table q) (f : p.from ≡ q.from) (t : p.to ≡ q.to) where
  first_before : IsDegreeBefore p q → Sorted table p q
  first_before h = before (inr (g, inr (f, inr (t, h))))

  first_behind : IsDegreeBefore q p → Sorted table p q
  first_behind h = behind (inr (sym g, inr (sym f, inr (sym t, h))))

  by_degree : p.dual ≡ q.dual → Compared p.degree q.degree → Sorted table p q
  by_degree d (smaller l) = first_before (inr (d, l))
  by_degree d (larger l) = first_behind (inr (sym d, l))
  by_degree d (equal e) = same f t d e

  by_dual : (a b : Bool) → p.dual ≡ a → q.dual ≡ b → Sorted table p q
  by_dual true true d e = by_degree (d ∙ sym e) (compare p.degree q.degree)
  by_dual true false d e = first_behind (inl (e, d))
  by_dual false true d e = first_before (inl (d, e))
  by_dual false false d e = by_degree (d ∙ sym e) (compare p.degree q.degree)

by_to : (table : TableState) (p q : Place) → gap_of table p ≡ gap_of table q → p.from ≡ q.from → Compared p.to q.to → Sorted table p q
by_to table p q g f (smaller l) = before (inr (g, inr (f, inl l)))
by_to table p q g f (larger l) = behind (inr (sym g, inr (sym f, inl l)))
by_to table p q g f (equal t) = by_dual table p q g f t p.dual q.dual refl refl

by_from : (table : TableState) (p q : Place) → gap_of table p ≡ gap_of table q → Compared p.from q.from → Sorted table p q
by_from table p q g (smaller l) = before (inr (g, inl l))
by_from table p q g (larger l) = behind (inr (sym g, inl l))
by_from table p q g (equal f) = by_to table p q g f (compare p.to q.to)

sorted : (table : TableState) (p q : Place) → Compared (gap_of table p) (gap_of table q) → Sorted table p q
sorted table p q (smaller l) = before (inl l)
sorted table p q (larger l) = behind (inl l)
sorted table p q (equal g) = by_from table p q g (compare p.from q.from)

abbrev place : ℕ → ℕ → Bool → ℕ → Place
place from to dual degree = record { from = from; to = to; dual = dual; degree = degree }

-- a large coefficient isn't small
not_small : (value other : ℤ) → MOST_COEFFICIENT < nat_abs value → value ≡ other → nat_abs other ≤ MOST_COEFFICIENT → ⊥
not_small value other l e h = let f = ap nat_abs e in omega arith

-- so a table has one first large coefficient
pub first_large_single : (table : TableState) (i j m k l n : ℕ) (v w : ℤ) → IsFirstLarge table i j m v → IsFirstLarge table k l n w → v ≡ w
first_large_single table i j m k l n v w a b = by (sorted table (place i j a.dual m) (place k l b.dual n)
    (compare (gap_of table (place i j a.dual m)) (gap_of table (place k l b.dual n))))
  where
    by : Sorted table (place i j a.dual m) (place k l b.dual n) → v ≡ w
    by (before h) = absurd (not_small v (polynomial table a.dual i j m) a.large a.value_is (b.first (place i j a.dual m) a.interval h))
    by (behind h) = absurd (not_small w (polynomial table b.dual k l n) b.large b.value_is (a.first (place k l b.dual n) b.interval h))
    by (same f t d e) = a.value_is ∙ ap₂ (λ (x y : ℕ). polynomial table a.dual x y m) f t
        ∙ ap₂ (λ (c : Bool) (x : ℕ). polynomial table c k l x) d e ∙ sym b.value_is

module _ (R : TightRelation) (a b : TableState) (s : IsTableOf R a) (t : IsTableOf R b) where
  interval_moves : (x y : ℕ) → IsInterval a x y → IsInterval b x y
  interval_moves x y i = let e = same_length R a b s t in let f = i.from in let g = i.to in record {
    from = omega arith;
    to = omega arith;
    below = sym (same_below R a b s t x y f g) ∙ i.below;
  }

  polynomial_moves : (dual : Bool) (x y k : ℕ) → IsInterval a x y → polynomial a dual x y k ≡ polynomial b dual x y k
  polynomial_moves false x y k i = g_alike (numbered a) (numbered b) (orders_alike R a b s t) x y (in_numbers (length a.faces) x i.from)
      (in_numbers (length a.faces) y i.to) k
  polynomial_moves true x y k i = g_dual_alike (numbered a) (numbered b) (orders_alike R a b s t) x y (in_numbers (length a.faces) x i.from)
      (in_numbers (length a.faces) y i.to) k

  gap_moves : (p : Place) → IsInterval a p.from p.to → gap_of a p ≡ gap_of b p
  gap_moves p i = (orders_alike R a b s t).gap p.from p.to (in_numbers (length a.faces) p.from i.from) (in_numbers (length a.faces) p.to i.to)

  before_moves : (p q : Place) → IsInterval a p.from p.to → IsInterval a q.from q.to → IsBefore a p q → IsBefore b p q
  before_moves p q i j (inl l) = inl (let e = gap_moves p i in let f = gap_moves q j in omega arith)
  before_moves p q i j (inr h) = inr (sym (gap_moves p i) ∙ h.0 ∙ gap_moves q j, h.1)

-- it is large by any table of the faces
pub first_large_moves : (R : TightRelation) (a b : TableState) → IsTableOf R a → IsTableOf R b → (x y k : ℕ) (v : ℤ)
    → IsFirstLarge a x y k v → IsFirstLarge b x y k v
first_large_moves R a b s t x y k v h = record {
  dual = h.dual;
  interval = interval_moves R a b s t x y h.interval;
  value_is = h.value_is ∙ polynomial_moves R a b s t h.dual x y k h.interval;
  large = h.large;
  first = λ p i e. let j = interval_moves R b a t s p.from p.to i in
      subst (λ (z : ℤ). nat_abs z ≤ MOST_COEFFICIENT) (polynomial_moves R a b s t p.dual p.from p.to p.degree j)
      (h.first p j (before_moves R b a t s p (place x y h.dual k) i (interval_moves R a b s t x y h.interval) e));
}

-- and then not all are small
pub small_or_large : (R : TightRelation) (a b : TableState) → IsTableOf R a → IsTableOf R b → (x y k : ℕ) (v : ℤ)
    → AreSmall a → IsFirstLarge b x y k v → ⊥
small_or_large R a b s t x y k v h l =
    let m = first_large_moves R b a t s x y k v l in
    not_small v (polynomial a m.dual x y k) m.large m.value_is (h (place x y m.dual k) m.interval)
