-- One step of elimination: the pivot leaves, and the pivot's line is
-- taken out of every other member. The kernel of one more vector is left.
use Rattle.std.proofs.Common.{◌≡◌, ◌≢◌, ℕ, suc, ◌<◌, ◌≤◌, List, [], ◌∷◌, ◌++◌, length, ℤ, pos, ◌+ℤ◌, ◌-ℤ◌, ◌*ℤ◌, ◌<ℤ◌, ◌⊎◌, ⊎_elim, refl, sym, ap, ◌∙◌, arith}
use Rattle.lattice_theory.specs.Vector.{entry, dot}
use Rattle.elimination.specs.Elimination.{Member, pairings, IsCombination}
use Rattle.lattice_theory.proofs.Integers.{products_out, linear, product_nonzero, factor_zero, positive_nonzero, *ℤ-zero}
use Rattle.lattice_theory.proofs.Members.{Each, empty, more, each_head, each_tail, each_push, each_left, each_right}
use Rattle.elimination.proofs.KernelForm.{Kills, IsMember, IsApart, Apart, none, one_more, Kernel, apart_head, apart_tail, combination_from}

-- l is what the step with the vector v and the pivot p makes of k: f l = <p,v> k - <k,v> p
pub record Reduces (m : ℕ) (p : Member) (v : List ℤ) (k l : Member) : Type 0 where
  pub own : l.own ≡ k.own
  pub dimension : length l.vector ≡ m
  pub factor : ℤ
  pub nonzero : factor ≢ pos 0
  pub positive : pos 0 <ℤ entry l.vector l.own
  pub values : (x : List ℤ) → factor *ℤ dot l.vector x ≡ dot p.vector v *ℤ dot k.vector x -ℤ dot k.vector v *ℤ dot p.vector x
  pub entries : (j : ℕ) → factor *ℤ entry l.vector j ≡ dot p.vector v *ℤ entry k.vector j -ℤ dot k.vector v *ℤ entry p.vector j
  pub earlier : (dot k.vector v ≡ pos 0) ⊎ (p.own ≤ k.own)

-- each member of one list and what the step makes of it
pub data Reduced (m : ℕ) (p : Member) (v : List ℤ) : List Member → List Member → Type 0 where
  none_left : Reduced m p v [] []
  one_left : {k l : Member} {ks ls : List Member} → Reduces m p v k l → Reduced m p v ks ls → Reduced m p v (k ∷ ks) (l ∷ ls)

-- scalar steps
value_zero : (f y d a b c : ℤ) → f ≢ pos 0 → f *ℤ y ≡ d *ℤ a -ℤ b *ℤ c → a ≡ pos 0 → c ≡ pos 0 → y ≡ pos 0
value_zero f y d a b c n e ea ec = factor_zero f y n (e ∙ rw (ea, ec) (simp products_out))

-- at the new vector: f y = d a - a d
value_crossed : (f y d a : ℤ) → f ≢ pos 0 → f *ℤ y ≡ d *ℤ a -ℤ a *ℤ d → y ≡ pos 0
value_crossed f y d a n e = factor_zero f y n (e ∙ simp products_out (omega (arith, linear)))

-- where the member pairs to 0 with the new vector
value_unused : (f y d a b c : ℤ) → f ≢ pos 0 → f *ℤ y ≡ d *ℤ a -ℤ b *ℤ c → a ≡ pos 0 → b ≡ pos 0 → y ≡ pos 0
value_unused f y d a b c n e ea eb = factor_zero f y n (e ∙ rw (ea, eb) (simp products_out))

-- the step keeps what holds of a member
member_kills : {m : ℕ} {p k l : Member} {v : List ℤ} {vectors : List (List ℤ)} → Kills vectors p.vector → Kills vectors k.vector
    → Reduces m p v k l → Kills vectors l.vector
member_kills empty empty r = empty
member_kills {p = p} {k = k} {l = l} {v = v} (more {x = w} a ps) b r = more
    (value_zero r.factor (dot l.vector w) (dot p.vector v) (dot k.vector w) (dot k.vector v) (dot p.vector w) r.nonzero (r.values w)
    (each_head b) a)
    (member_kills {p = p} {k = k} {l = l} {v = v} ps (each_tail b) r)

-- no entry behind the own place
member_zeros : {m : ℕ} {vectors : List (List ℤ)} {p k l : Member} {v : List ℤ} → IsMember m vectors p → IsMember m vectors k
    → Reduces m p v k l → (j : ℕ) → l.own < j → entry l.vector j ≡ pos 0
member_zeros {p = p} {k = k} {l = l} {v = v} hp hk r j h = let o = r.own in let h' : k.own < j = omega arith in ⊎_elim
    (λ (e : dot k.vector v ≡ pos 0). value_unused r.factor (entry l.vector j) (dot p.vector v) (entry k.vector j) (dot k.vector v)
    (entry p.vector j) r.nonzero (r.entries j) (hk.zeros j h') e)
    (λ (e : p.own ≤ k.own). let h'' : p.own < j = omega arith in
    value_zero r.factor (entry l.vector j) (dot p.vector v) (entry k.vector j) (dot k.vector v) (entry p.vector j) r.nonzero
    (r.entries j) (hk.zeros j h') (hp.zeros j h''))
    r.earlier

-- one member
member_step : {m : ℕ} {vectors : List (List ℤ)} {p k l : Member} {v : List ℤ} → IsMember m vectors p → IsMember m vectors k
    → Reduces m p v k l → IsMember m (vectors ++ (v ∷ [])) l
member_step {p = p} {k = k} {l = l} {v = v} hp hk r = record {
  dimension = r.dimension;
  kills = each_push (member_kills hp.kills hk.kills r) (value_crossed r.factor (dot l.vector v) (dot p.vector v) (dot k.vector v) r.nonzero
      (r.values v));
  positive = r.positive;
  zeros = member_zeros hp hk r;
}

-- all members
members_step : {m : ℕ} {vectors : List (List ℤ)} {p : Member} {v : List ℤ} {ks ls : List Member} → IsMember m vectors p
    → Each (IsMember m vectors) ks → Reduced m p v ks ls → Each (IsMember m (vectors ++ (v ∷ []))) ls
members_step hp h none_left = empty
members_step hp h (one_left r rs) = more (member_step hp (each_head h) r) (members_step hp (each_tail h) rs)

-- the step keeps the members apart
entry_apart : {m : ℕ} {p k l : Member} {v : List ℤ} (i : ℕ) → Reduces m p v k l → entry k.vector i ≡ pos 0 → entry p.vector i ≡ pos 0
    → entry l.vector i ≡ pos 0
entry_apart {p = p} {k = k} {l = l} {v = v} i r a b = value_zero r.factor (entry l.vector i) (dot p.vector v) (entry k.vector i)
    (dot k.vector v) (entry p.vector i) r.nonzero (r.entries i) a b

-- two members
apart_step : {m : ℕ} {p k l k' l' : Member} {v : List ℤ} → IsApart p k → IsApart p k' → IsApart k k' → Reduces m p v k l
    → Reduces m p v k' l' → IsApart l l'
apart_step {k = k} {l = l} {k' = k'} {l' = l'} a a' b r r' = record {
  first = let o = r'.own in rw o (entry_apart k'.own r b.first a'.first);
  second = let o = r.own in rw o (entry_apart k.own r' b.second a.first);
}

-- one and all behind it
apart_from_one : {m : ℕ} {p k l : Member} {v : List ℤ} {ks ls : List Member} → IsApart p k → Each (IsApart p) ks → Each (IsApart k) ks
    → Reduces m p v k l → Reduced m p v ks ls → Each (IsApart l) ls
apart_from_one a ps qs r none_left = empty
apart_from_one a ps qs r (one_left s ss) =
    more (apart_step a (each_head ps) (each_head qs) r s) (apart_from_one a (each_tail ps) (each_tail qs) r ss)

-- all of them
apart_all : {m : ℕ} {p : Member} {v : List ℤ} {ks ls : List Member} → Each (IsApart p) ks → Apart ks → Reduced m p v ks ls → Apart ls
apart_all ps qs none_left = none
apart_all ps qs (one_left r rs) = one_more (apart_from_one (each_head ps) (each_tail ps) (apart_head qs) r rs)
    (apart_all (each_tail ps) (apart_tail qs) rs)

-- the coefficients after the step: each times its member's factor
abbrev pub stepped : {m : ℕ} {p : Member} {v : List ℤ} {ks ls : List Member} → List ℤ → Reduced m p v ks ls → List ℤ
stepped [] rs = []
stepped (c ∷ cs) none_left = c ∷ cs
stepped (c ∷ cs) (one_left r rs) = (c *ℤ r.factor) ∷ stepped cs rs

-- as many
length-stepped : {m : ℕ} {p : Member} {v : List ℤ} {ks ls : List Member} (cs : List ℤ) (rs : Reduced m p v ks ls) → length cs ≡ length ks
    → length (stepped cs rs) ≡ length ls
length-stepped [] none_left e = refl
length-stepped [] (one_left r rs) e = absurd (omega arith)
length-stepped (c ∷ cs) none_left e = absurd (omega arith)
length-stepped (c ∷ cs) (one_left r rs) e = ap suc (length-stepped cs rs (omega arith))

-- one term of the combination
pairing_term : (c f y d a b z s t u : ℤ) → f *ℤ y ≡ d *ℤ a -ℤ b *ℤ z → s ≡ d *ℤ t -ℤ u *ℤ z
    → (c *ℤ f) *ℤ y +ℤ s ≡ d *ℤ (c *ℤ a +ℤ t) -ℤ (c *ℤ b +ℤ u) *ℤ z
pairing_term c f y d a b z s t u e g = let h = simp products_out at (ap (λ (w : ℤ). c *ℤ w) e) in let g' = simp products_out at g in
    simp products_out (omega (arith, linear))

-- what they combine to
pairings-stepped : {m : ℕ} {p : Member} {v : List ℤ} {ks ls : List Member} (cs : List ℤ) (rs : Reduced m p v ks ls) (x : List ℤ)
    → pairings (stepped cs rs) ls x ≡ dot p.vector v *ℤ pairings cs ks x -ℤ pairings cs ks v *ℤ dot p.vector x
pairings-stepped [] rs x = simp products_out
pairings-stepped (c ∷ cs) none_left x = simp products_out
pairings-stepped {p = p} {v = v} (c ∷ cs) (one_left {k = k} {l = l} {ks = ks} {ls = ls} r rs) x =
    pairing_term c r.factor (dot l.vector x) (dot p.vector v) (dot k.vector x) (dot k.vector v) (dot p.vector x)
    (pairings (stepped cs rs) ls x) (pairings cs ks x) (pairings cs ks v) (r.values x) (pairings-stepped cs rs x)

-- a combination with the pivot becomes one without it, where g annihilates the new vector
combination_term : (d q gx gv c px s t u : ℤ) → q *ℤ gx ≡ c *ℤ px +ℤ t → q *ℤ gv ≡ c *ℤ d +ℤ u → gv ≡ pos 0 → s ≡ d *ℤ t -ℤ u *ℤ px
    → (d *ℤ q) *ℤ gx ≡ s
combination_term d q gx gv c px s t u e f z g =
    let e' = simp products_out at (ap (λ (w : ℤ). d *ℤ w) e) in
    let f' : c *ℤ d +ℤ u ≡ pos 0 = sym f ∙ ap (λ (w : ℤ). q *ℤ w) z ∙ *ℤ-zero q in
    let f'' = simp products_out at (ap (λ (w : ℤ). px *ℤ w) f') in
    let g' = simp products_out at g in
    simp products_out (omega (arith, linear))

-- the combination
combination_step : {m : ℕ} {p : Member} {v : List ℤ} {ks ls : List Member} (g : List ℤ) → dot p.vector v ≢ pos 0 → dot g v ≡ pos 0
    → Reduced m p v ks ls → IsCombination (p ∷ ks) g → IsCombination ls g
combination_step {p = p} {v = v} {ks = ks} {ls = ls} g n z rs h = by h.coefficients h.as_many h.sums
  where
    by : (cs : List ℤ) → length cs ≡ length (p ∷ ks) → ((x : List ℤ) → pos h.multiplier *ℤ dot g x ≡ pairings cs (p ∷ ks) x)
        → IsCombination ls g
    by [] e f = absurd (omega arith)
    by (c ∷ cs) e f = combination_from ls g (dot p.vector v *ℤ pos h.multiplier) (stepped cs rs)
        (product_nonzero (dot p.vector v) (pos h.multiplier) n (let hm = h.positive in
        positive_nonzero (pos h.multiplier) (omega (arith, linear))))
        (length-stepped cs rs (omega arith))
        (λ x. combination_term (dot p.vector v) (pos h.multiplier) (dot g x) (dot g v) c (dot p.vector x) (pairings (stepped cs rs) ls x)
        (pairings cs ks x) (pairings cs ks v) (f x) (f v) z (pairings-stepped cs rs x))

-- the step, with the pivot at the head
pub kernel_step : {m : ℕ} {vectors : List (List ℤ)} {p : Member} {v : List ℤ} {ks ls : List Member} → dot p.vector v ≢ pos 0
    → Reduced m p v ks ls → Kernel m vectors (p ∷ ks) → Kernel m (vectors ++ (v ∷ [])) ls
kernel_step {vectors = vectors} {v = v} n rs h = record {
  members = members_step (each_head h.members) (each_tail h.members) rs;
  apart = apart_all (apart_head h.apart) (apart_tail h.apart) rs;
  spans = λ g e z. combination_step g n (each_head (each_right vectors (v ∷ []) z)) rs (h.spans g e (each_left vectors (v ∷ []) z));
}

-- a vector that each member annihilates changes nothing
members_stay : {m : ℕ} {vectors : List (List ℤ)} {v : List ℤ} {ks : List Member} → Each (IsMember m vectors) ks
    → Each (λ k. dot k.vector v ≡ pos 0) ks → Each (IsMember m (vectors ++ (v ∷ []))) ks
members_stay empty z = empty
members_stay (more p ps) z = more (record {
  dimension = p.dimension;
  kills = each_push p.kills (each_head z);
  positive = p.positive;
  zeros = p.zeros;
}) (members_stay ps (each_tail z))

-- so the kernel stays
pub kernel_stays : {m : ℕ} {vectors : List (List ℤ)} {v : List ℤ} {ks : List Member} → Each (λ k. dot k.vector v ≡ pos 0) ks
    → Kernel m vectors ks → Kernel m (vectors ++ (v ∷ [])) ks
kernel_stays {vectors = vectors} {v = v} z h = record {
  members = members_stay h.members z;
  apart = h.apart;
  spans = λ g e k. h.spans g e (each_left vectors (v ∷ []) k);
}
