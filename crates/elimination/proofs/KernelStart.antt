-- The unit vectors are the kernel of no vectors.
use Rattle.std.proofs.lemmas.Bool.{cases_eq}
use Rattle.std.proofs.Common.{⊎_elim, ◌≡◌, ◌≢◌, ℕ, zero, suc, ◌<◌, List, [], ◌∷◌, length, map, get_or, ℤ, pos, refl, sym, ap, ap₂, ◌∙◌, subst, arith, ext_get_or}
use Rattle.lattice_theory.specs.Vector.{entry, dot}
use Rattle.elimination.specs.Elimination.{Member, pairings, ArePivots, IsUnitMember}
use Rattle.lattice_theory.proofs.Integers.{products_out, linear}
use Rattle.lattice_theory.proofs.Members.{Each, empty, more}
use Rattle.lattice_theory.proofs.Vectors.{zeros, length-zeros, entry-zeros, dot-zeros, same_from_entries}
use Rattle.elimination.proofs.KernelForm.{IsMember, IsApart, Apart, none, one_more, Kernel, kernel_out}

-- a member one place further on, behind an entry 0
abbrev pub behind : Member → Member
behind k = record { own = suc k.own; vector = pos 0 ∷ k.vector }

-- the unit vectors of length m, in order
abbrev pub units : ℕ → List Member
units zero = []
units (suc m) = record { own = 0; vector = pos 1 ∷ zeros m } ∷ map behind (units m)

-- what holds of a member, one place further on
member_behind : {m : ℕ} {k : Member} → IsMember m [] k → IsMember (suc m) [] (behind k)
member_behind {k = k} h = record { dimension = ap suc h.dimension; kills = empty; positive = h.positive; zeros = λ j. later j }
  where
    later : (j : ℕ) → suc k.own < j → entry (pos 0 ∷ k.vector) j ≡ pos 0
    later zero l = refl
    later (suc j) l = h.zeros j (omega arith)

-- of all
members_behind : {m : ℕ} {ks : List Member} → Each (IsMember m []) ks → Each (IsMember (suc m) []) (map behind ks)
members_behind empty = empty
members_behind (more p ps) = more (member_behind p) (members_behind ps)

-- members stay apart one place further on
apart_behind : {k : Member} {ks : List Member} → Each (IsApart k) ks → Each (IsApart (behind k)) (map behind ks)
apart_behind empty = empty
apart_behind (more p ps) = more (record { first = p.first; second = p.second }) (apart_behind ps)

-- all of them
all_apart_behind : {ks : List Member} → Apart ks → Apart (map behind ks)
all_apart_behind none = none
all_apart_behind (one_more p ps) = one_more (apart_behind p) (all_apart_behind ps)

-- the first unit vector
first_member : (m : ℕ) → IsMember (suc m) [] (record { own = 0; vector = pos 1 ∷ zeros m })
first_member m = record { dimension = ap suc (length-zeros m); kills = empty; positive = omega (arith, linear); zeros = λ j. later j }
  where
    later : (j : ℕ) → 0 < j → entry (pos 1 ∷ zeros m) j ≡ pos 0
    later zero l = absurd (omega arith)
    later (suc j) l = entry-zeros m j

-- is apart from those behind it
first_apart : (m : ℕ) (ks : List Member) → Each (IsApart (record { own = 0; vector = pos 1 ∷ zeros m })) (map behind ks)
first_apart m [] = empty
first_apart m (k ∷ ks) = more (record { first = entry-zeros m k.own; second = refl }) (first_apart m ks)

-- each is a member
units_members : (m : ℕ) → Each (IsMember m []) (units m)
units_members zero = empty
units_members (suc m) = more (first_member m) (members_behind (units_members m))

-- they are apart
units_apart : (m : ℕ) → Apart (units m)
units_apart zero = none
units_apart (suc m) = one_more (first_apart m (units m)) (all_apart_behind (units_apart m))

-- there are m
length-units : (m : ℕ) → length (units m) ≡ m
length-units zero = refl
length-units (suc m) = ap suc (length-behind (units m) ∙ length-units m)
  where
    length-behind : (ks : List Member) → length (map behind ks) ≡ length ks
    length-behind [] = refl
    length-behind (k ∷ ks) = ap suc (length-behind ks)

-- a vector is the combination of the unit vectors with its entries as coefficients
pairings-behind_nil : (cs : List ℤ) (ks : List Member) → pairings cs (map behind ks) [] ≡ pos 0
pairings-behind_nil [] ks = refl
pairings-behind_nil (c ∷ cs) [] = refl
pairings-behind_nil (c ∷ cs) (k ∷ ks) = let e = pairings-behind_nil cs ks in rw e (simp products_out)

-- one place further on the combination is that of the rest
pairings-behind : (cs : List ℤ) (ks : List Member) (a : ℤ) (x : List ℤ) → pairings cs (map behind ks) (a ∷ x) ≡ pairings cs ks x
pairings-behind [] ks a x = refl
pairings-behind (c ∷ cs) [] a x = refl
pairings-behind (c ∷ cs) (k ∷ ks) a x = let e = pairings-behind cs ks a x in rw e (simp products_out (omega (arith, linear)))

-- the combination
pairings-units : (m : ℕ) (g x : List ℤ) → length g ≡ m → dot g x ≡ pairings g (units m) x
pairings-units m [] x e = refl
pairings-units zero (a ∷ g) x e = absurd (omega arith)
pairings-units (suc m) (a ∷ g) [] e = sym (rw (pairings-behind_nil g (units m)) (simp products_out))
pairings-units (suc m) (a ∷ g) (b ∷ x) e = let z = dot-zeros m x in let p = pairings-behind g (units m) b x in
    let r = pairings-units m g x (omega arith) in
    rw (z, p, r) (simp products_out (omega (arith, linear)))

-- the kernel of no vectors
pub units_kernel : (m : ℕ) → Kernel m [] (units m)
units_kernel m = record {
  members = units_members m;
  apart = units_apart m;
  spans = λ g e z. record {
    multiplier = 1;
    positive = omega arith;
    coefficients = g;
    as_many = e ∙ sym (length-units m);
    sums = λ x. simp products_out (pairings-units m g x e);
  };
}

-- its pivots
pub units_pivots : (m : ℕ) → ArePivots m [] [] (units m)
units_pivots m = record { chosen = λ v c. c; count = let e = length-units m in omega arith; kernel = kernel_out (units_kernel m) }

-- a list of unit members is that list
is_unit_front : (m : ℕ) → IsUnitMember (suc m) 0 (record { own = 0; vector = pos 1 ∷ zeros m })
is_unit_front m = record { own = refl; unit = record { dimension = ap suc (length-zeros m); one = refl; zeros = λ j. later j } }
  where
    later : (j : ℕ) → j ≢ 0 → entry (pos 1 ∷ zeros m) j ≡ pos 0
    later zero n = absurd (n refl)
    later (suc j) n = entry-zeros m j

-- one place further on
is_unit_behind : {m i : ℕ} {k : Member} → IsUnitMember m i k → IsUnitMember (suc m) (suc i) (behind k)
is_unit_behind {m = m} {i = i} {k = k} h = record {
  own = ap suc h.own;
  unit = record { dimension = ap suc h.unit.dimension; one = h.unit.one; zeros = λ j. later j };
}
  where
    later : (j : ℕ) → j ≢ suc i → entry (pos 0 ∷ k.vector) j ≡ pos 0
    later zero n = refl
    later (suc j) n = h.unit.zeros j (λ e. n (ap suc e))

-- the units are unit members
units_are : (m i : ℕ) (d : Member) → i < m → IsUnitMember m i (get_or (units m) i d)
units_are zero i d h = absurd (omega arith)
units_are (suc m) zero d h = is_unit_front m
units_are (suc m) (suc i) d h = subst (IsUnitMember (suc m) (suc i)) (sym (at (units m) i (let e = length-units m in omega arith)))
    (is_unit_behind (units_are m i d (omega arith)))
  where
    at : (ks : List Member) (j : ℕ) → j < length ks → get_or (map behind ks) j d ≡ behind (get_or ks j d)
    at [] j l = absurd (omega arith)
    at (k ∷ ks) zero l = refl
    at (k ∷ ks) (suc j) l = at ks j (omega arith)

-- two unit members of one place have the same entries
unit_entries : {m i : ℕ} {k l : Member} → IsUnitMember m i k → IsUnitMember m i l → (j : ℕ) → entry k.vector j ≡ entry l.vector j
unit_entries {i = i} h h' j = ⊎_elim (λ (e : j ≡ i). rw e (h.unit.one ∙ sym h'.unit.one)) (λ (n : j ≢ i). h.unit.zeros j n
    ∙ sym (h'.unit.zeros j n)) (cases_eq j i)

-- so they are the same
unit_same : {m i : ℕ} {k l : Member} → IsUnitMember m i k → IsUnitMember m i l → k ≡ l
unit_same {k = k} {l = l} h h' = let o = h.own ∙ sym h'.own in
    let e = same_from_entries k.vector l.vector (h.unit.dimension ∙ sym h'.unit.dimension) (unit_entries h h') in
    ap₂ (λ (i : ℕ) (x : List ℤ). record { own = i; vector = x }) o e

-- so such a list is the list of the units
pub units_from : (m : ℕ) (ks : List Member) → length ks ≡ m → ((i : ℕ) (d : Member) → i < m → IsUnitMember m i (get_or ks i d))
    → ks ≡ units m
units_from m ks e h = let d : Member = record { own = 0; vector = [] } in
    ext_get_or d ks (units m) (e ∙ sym (length-units m)) (λ i l. unit_same (h i d (omega arith)) (units_are m i d (omega arith)))
