-- The faces are what rows of functions have in common, and one row after another makes all of them. A meet is here what some rows have in common.
use Rattle.std.proofs.Common.{◌≡◌, ℕ, zero, suc, ◌<◌, ◌≤◌, Bool, true, false, ◌&&◌, List, [], ◌∷◌, length, ◌⊎◌, inl, inr, ⊎_elim, refl, sym, ap, ap₂, ◌∙◌, subst, arith, not-suc-le-zero}
use Rattle.std.proofs.lemmas.Bool.{cases_lt, and_parts, and_from}
use Rattle.lattice_theory.proofs.Members.{Each, empty, more, In, here, there, each_head, each_tail, each_in, each_weaker, each_from_all, all_from_each}
use Rattle.face_theory.specs.Sets.{in_set, common}
use Rattle.face_theory.specs.Meets.{function_row, row_meet, IsRowMeet, AreRowMeets, IsMadeBy}
use Rattle.face_theory.specs.Faces.{TightRelation, IsTightOn, IsFace}
use Rattle.face_theory.specs.Laws.{FacesAreMeets, MeetsStart, MeetsGrow}
use Rattle.face_theory.proofs.Sets.{true_false, in_set_width, same_from_parts, length-numbers_with, in_set-numbers_with, in_set-common, length-common}
use Rattle.face_theory.proofs.Separations.{tight_or_not}

-- the width of a meet
pub length-row_meet : (R : TightRelation) (fs : List ℕ) → length (row_meet R fs) ≡ R.members
length-row_meet R [] = length-numbers_with R.members (λ m. true)
length-row_meet R (f ∷ fs) = let e = length-row_meet R fs in length-common (row_meet R fs) (function_row R f)
    (e ∙ sym (length-numbers_with R.members (λ m. R.tight m f))) ∙ e

-- its members are tight on each of the functions
meet_member : (R : TightRelation) (fs : List ℕ) (m : ℕ) → m < R.members → in_set (row_meet R fs) m ≡ true → Each
    (λ f. R.tight m f ≡ true) fs
meet_member R [] m l h = empty
meet_member R (f ∷ fs) m l h =
    let p = and_parts (in_set (row_meet R fs) m) (in_set (function_row R f) m)
    (sym (in_set-common (row_meet R fs) (function_row R f) m) ∙ h) in
    more (sym (in_set-numbers_with R.members (λ k. R.tight k f) m l) ∙ p.1) (meet_member R fs m l p.0)

-- and such members are in it
member_meet : (R : TightRelation) (fs : List ℕ) (m : ℕ) → m < R.members → Each (λ f. R.tight m f ≡ true) fs → in_set
    (row_meet R fs) m ≡ true
member_meet R [] m l h = in_set-numbers_with R.members (λ k. true) m l
member_meet R (f ∷ fs) m l h = in_set-common (row_meet R fs) (function_row R f) m
    ∙ and_from (in_set (row_meet R fs) m) (in_set (function_row R f) m) (member_meet R fs m l (each_tail h))
    (in_set-numbers_with R.members (λ k. R.tight k f) m l ∙ each_head h)

-- the members of a meet are in range
meet_width : (R : TightRelation) (fs : List ℕ) (m : ℕ) → in_set (row_meet R fs) m ≡ true → m < R.members
meet_width R fs m h = subst (λ (k : ℕ). m < k) (length-row_meet R fs) (in_set_width (row_meet R fs) m h)

-- the functions below k that are tight on the set
record Chosen (R : TightRelation) (set : List Bool) (k : ℕ) : Type 0 where
  list : List ℕ
  first : Each (λ f. f < k) list
  tight : Each (IsTightOn R set) list
  all : (f : ℕ) → f < k → IsTightOn R set f → In f list

chosen_by : (R : TightRelation) (set : List Bool) (k : ℕ) → Chosen R set k
    → ((m : ℕ) × (in_set set m ≡ true) × (R.tight m k ≡ false)) ⊎ IsTightOn R set k → Chosen R set (suc k)
chosen_by R set k c (inl x) = record {
  list = c.list;
  first = each_weaker (λ f l. omega arith) c.first;
  tight = c.tight;
  all = λ f l t. ⊎_elim (λ (i : f < k). c.all f i t)
      (λ (i : k ≤ f). let e : f ≡ k = omega arith in absurd
      (true_false (t x.0 x.1) (subst (λ (g : ℕ). R.tight x.0 g ≡ false) (sym e) x.2))) (cases_lt f k);
}
chosen_by R set k c (inr u) = record {
  list = k ∷ c.list;
  first = more (omega arith) (each_weaker (λ f l. omega arith) c.first);
  tight = more u c.tight;
  all = λ f l t. ⊎_elim (λ (i : f < k). there (c.all f i t))
      (λ (i : k ≤ f). let e : k ≡ f = omega arith in subst (λ (g : ℕ). In g (k ∷ c.list)) e here) (cases_lt f k);
}

chosen : (R : TightRelation) (set : List Bool) → length set ≡ R.members → (k : ℕ) → Chosen R set k
chosen R set w zero = record { list = []; first = empty; tight = empty; all = λ f l t. absurd (not-suc-le-zero l) }
chosen R set w (suc k) = chosen_by R set k (chosen R set w k) (tight_or_not R set w k)

-- a face is the meet of the rows of all functions that are tight on it
face_meet : (R : TightRelation) (set : List Bool) → IsFace R set → IsRowMeet R R.functions set
face_meet R set face = let c = chosen R set face.width R.functions in record {
  chosen = c.list;
  first = all_from_each c.first;
  is = same_from_parts set (row_meet R c.list) (face.width ∙ sym (length-row_meet R c.list))
      (λ m h. member_meet R c.list m (subst (λ (k : ℕ). m < k) face.width (in_set_width set m h)) (each_weaker (λ f t. t m h) c.tight))
      (λ m h. let l = meet_width R c.list m h in (face.closed m l).1 (λ f i t. each_in (meet_member R c.list m l h) (c.all f i t)));
}

-- each function of the list is tight on the meet
meet_tight : (R : TightRelation) (fs : List ℕ) → (f : ℕ) → In f fs → IsTightOn R (row_meet R fs) f
meet_tight R fs f i m h = each_in (meet_member R fs m (meet_width R fs m h) h) i

-- so what is tight on all functions that are tight on the meet is in it
each_of : {P : ℕ → Type 0} {k : ℕ} {fs : List ℕ} → Each (λ f. f < k) fs → ((f : ℕ) → f < k → In f fs → P f) → Each P fs
each_of empty g = empty
each_of (more {x = f} l ls) g = more (g f l here) (each_of ls (λ h i j. g h i (there j)))

pub meet_face : (R : TightRelation) (fs : List ℕ) → Each (λ f. f < R.functions) fs → IsFace R (row_meet R fs)
meet_face R fs first = record {
  width = length-row_meet R fs;
  closed = λ m l. (λ h f i t. t m h, λ all. member_meet R fs m l (each_of first (λ f i j. all f i (meet_tight R fs f j))));
}

-- the law
pub faces_are_meets_lem : FacesAreMeets
faces_are_meets_lem R set = (
  face_meet R set,
  λ h. subst (IsFace R) (sym h.is) (meet_face R h.chosen (each_from_all (λ f. f < R.functions) h.chosen h.first)),
)

-- no function is before the first
none_chosen : (R : TightRelation) (fs : List ℕ) → Each (λ f. f < 0) fs → row_meet R fs ≡ row_meet R []
none_chosen R [] h = refl
none_chosen R (f ∷ fs) h = absurd (not-suc-le-zero (each_head h))

pub meets_start_lem : MeetsStart
meets_start_lem R set = (
  λ h. h.is ∙ none_chosen R h.chosen (each_from_all (λ f. f < 0) h.chosen h.first),
  λ e. record { chosen = []; first = all_from_each {P = λ f. f < 0} empty; is = e },
)

-- the order of two meets, and a meet taken twice
and_right_comm : (x y z : Bool) → ((x && y) && z) ≡ ((x && z) && y)
and_right_comm false y z = refl
and_right_comm true true true = refl
and_right_comm true true false = refl
and_right_comm true false true = refl
and_right_comm true false false = refl

and_twice : (x y : Bool) → ((x && y) && y) ≡ (x && y)
and_twice false y = refl
and_twice true true = refl
and_twice true false = refl

meet_right_comm : (a b c : List Bool) → common (common a b) c ≡ common (common a c) b
meet_right_comm [] b c = refl
meet_right_comm (x ∷ a) [] [] = refl
meet_right_comm (x ∷ a) [] (z ∷ c) = refl
meet_right_comm (x ∷ a) (y ∷ b) [] = refl
meet_right_comm (x ∷ a) (y ∷ b) (z ∷ c) = ap₂ (λ (w : Bool) (d : List Bool). w ∷ d) (and_right_comm x y z) (meet_right_comm a b c)

meet_twice : (a b : List Bool) → common (common a b) b ≡ common a b
meet_twice [] b = refl
meet_twice (x ∷ a) [] = refl
meet_twice (x ∷ a) (y ∷ b) = ap₂ (λ (w : Bool) (d : List Bool). w ∷ d) (and_twice x y) (meet_twice a b)

-- a meet of the first j + 1 rows is one of the first j rows, or what such a one has in common with the last row
record IsSplit (R : TightRelation) (j : ℕ) (fs : List ℕ) : Type 0 where
  rest : List ℕ
  first : Each (λ f. f < j) rest
  is : (row_meet R fs ≡ row_meet R rest) ⊎ (row_meet R fs ≡ common (row_meet R rest) (function_row R j))

split_earlier : (R : TightRelation) (j f : ℕ) (fs : List ℕ) → f < j → IsSplit R j fs → IsSplit R j (f ∷ fs)
split_earlier R j f fs l s = record {
  rest = f ∷ s.rest;
  first = more l s.first;
  is = ⊎_elim
      (λ (e : row_meet R fs ≡ row_meet R s.rest). inl (ap (λ (a : List Bool). common a (function_row R f)) e))
      (λ (e : row_meet R fs ≡ common (row_meet R s.rest) (function_row R j)). inr
      (ap (λ (a : List Bool). common a (function_row R f)) e ∙ meet_right_comm (row_meet R s.rest) (function_row R j)
      (function_row R f)))
      s.is;
}

split_last : (R : TightRelation) (j : ℕ) (fs : List ℕ) → IsSplit R j fs → IsSplit R j (j ∷ fs)
split_last R j fs s = record {
  rest = s.rest;
  first = s.first;
  is = inr (⊎_elim
      (λ (e : row_meet R fs ≡ row_meet R s.rest). ap (λ (a : List Bool). common a (function_row R j)) e)
      (λ (e : row_meet R fs ≡ common (row_meet R s.rest) (function_row R j)). ap (λ (a : List Bool). common a (function_row R j)) e
      ∙ meet_twice (row_meet R s.rest) (function_row R j))
      s.is);
}

split : (R : TightRelation) (j : ℕ) (fs : List ℕ) → Each (λ f. f < suc j) fs → IsSplit R j fs
split R j [] h = record { rest = []; first = empty; is = inl refl }
split R j (f ∷ fs) h = ⊎_elim
    (λ (l : f < j). split_earlier R j f fs l (split R j fs (each_tail h)))
    (λ (l : j ≤ f). let i = each_head h in let e : j ≡ f = omega arith in subst (λ (g : ℕ). IsSplit R j (g ∷ fs)) e
    (split_last R j fs (split R j fs (each_tail h))))
    (cases_lt f j)

-- what is made is a meet
meet_more : (R : TightRelation) (j : ℕ) (set : List Bool) → IsRowMeet R j set → IsRowMeet R (suc j) set
meet_more R j set h = record {
  chosen = h.chosen;
  first = all_from_each {P = λ f. f < suc j}
      (each_weaker (λ f l. omega arith) (each_from_all (λ f. f < j) h.chosen h.first));
  is = h.is;
}

meet_last : (R : TightRelation) (j : ℕ) (old set : List Bool) → set ≡ common old (function_row R j) → IsRowMeet R j old → IsRowMeet R
    (suc j) set
meet_last R j old set e h = record {
  chosen = j ∷ h.chosen;
  first = all_from_each {P = λ f. f < suc j}
      (more (omega arith) (each_weaker (λ f l. omega arith) (each_from_all (λ f. f < j) h.chosen h.first)));
  is = e ∙ ap (λ (a : List Bool). common a (function_row R j)) h.is;
}

made_meet : (R : TightRelation) (j : ℕ) (table : List (List Bool)) → AreRowMeets R j table → (set : List Bool) → IsMadeBy table
    (function_row R j) set → IsRowMeet R (suc j) set
made_meet R j table h set (inl c) = meet_more R j set ((h set).0 c)
made_meet R j table h set (inr (old, c, e)) = meet_last R j old set e ((h old).0 c)

-- a meet is made
meet_made : (R : TightRelation) (j : ℕ) (table : List (List Bool)) → AreRowMeets R j table → (set : List Bool) → IsRowMeet R (suc j) set
    → IsMadeBy table (function_row R j) set
meet_made R j table h set m = by (split R j m.chosen (each_from_all (λ f. f < suc j) m.chosen m.first))
  where
    by : IsSplit R j m.chosen → IsMadeBy table (function_row R j) set
    by s = ⊎_elim
        (λ (e : row_meet R m.chosen ≡ row_meet R s.rest). inl
        ((h set).1 (record { chosen = s.rest; first = all_from_each {P = λ f. f < j} s.first; is = m.is ∙ e })))
        (λ (e : row_meet R m.chosen ≡ common (row_meet R s.rest) (function_row R j)). inr (
          row_meet R s.rest,
          (h (row_meet R s.rest)).1
              (record { chosen = s.rest; first = all_from_each {P = λ f. f < j} s.first; is = refl }),
          m.is ∙ e,
        ))
        s.is

-- the law
pub meets_grow_lem : MeetsGrow
meets_grow_lem R j table next h made set = (
  λ c. made_meet R j table h set ((made set).0 c),
  λ m. (made set).1 (meet_made R j table h set m),
)
