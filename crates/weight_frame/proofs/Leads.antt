-- Vectors in echelon form: the first entry of each that isn't 0 is positive and stands behind that of the vector before. The recursion
-- keeps this form, and in it the coefficients of a combination are determined.
use Rattle.std.proofs.Common.{◌≡◌, ℕ, suc, ◌<◌, ◌≤◌, List, [], ◌∷◌, ◌++◌, length, map, ℤ, pos, negsuc, ◌+ℤ◌, ◌*ℤ◌, neg_ℤ, ◌<ℤ◌, refl, sym, ap, ap₂, ◌∙◌, arith}
use Rattle.lattice_theory.specs.Vector.{entry, dot}
use Rattle.lattice_theory.proofs.Integers.{products_out, linear, product_positive, positive_pos, positive_nonzero, cancel_left, *ℤ-zero, *ℤ_comm}
use Rattle.lattice_core.specs.Weights.{Weighted, weighted_degree}
use Rattle.lattice_theory.proofs.Vectors.{entry-scaled}
use Rattle.weight_frame.specs.steps.Echelon.{IsZeroBelow, LeadsAt, Leads, no_more, leads}
use Rattle.weight_frame.specs.Frame.{Exchange, keeps, takes, turns, exchanges, Exchanges, none, more}
use Rattle.weight_frame.proofs.Euclid.{positive_part}

-- from a place before on
pub leads_from : (a b : ℕ) (us : List (List ℤ)) → a ≤ b → Leads b us → Leads a us
leads_from a b _ h no_more = no_more
leads_from a b _ h (leads place k x l) = leads place (omega arith) x l

-- every vector is 0 before the place
pub data AreZeroBelow (place : ℕ) : List (List ℤ) → Type 0 where
  zero_none : AreZeroBelow place []
  zero_more : {u : List ℤ} {us : List (List ℤ)} → IsZeroBelow place u → AreZeroBelow place us → AreZeroBelow place (u ∷ us)

zero_before : (a b : ℕ) (us : List (List ℤ)) → a ≤ b → Leads b us → AreZeroBelow a us
zero_before a b _ h no_more = zero_none
zero_before a b _ h (leads {us = us} place k x l) =
    zero_more (λ j i. x.before j (omega arith)) (zero_before a (suc place) us (omega arith) l)

pub leads_zero : (a : ℕ) (us : List (List ℤ)) → Leads a us → AreZeroBelow a us
leads_zero a us l = zero_before a a us (omega arith) l

-- what the step makes
pub record HasLeads (place : ℕ) (ks : List (List ℤ)) (h : List ℤ) : Type 0 where
  pub kept : Leads place ks
  pub last : IsZeroBelow place h

zero_sum : (p x q y z : ℤ) → z ≡ p *ℤ x +ℤ q *ℤ y → x ≡ pos 0 → y ≡ pos 0 → z ≡ pos 0
zero_sum p x q y z e f g = e ∙ rw (f, g) (simp products_out)

lead_sum : (p x q y z : ℤ) → z ≡ p *ℤ x +ℤ q *ℤ y → pos 0 <ℤ p → pos 0 <ℤ x → y ≡ pos 0 → pos 0 <ℤ z
lead_sum p x q y z e h k g =
    let m = product_positive p x h k in
    let o = ap (λ (w : ℤ). q *ℤ w) g ∙ *ℤ-zero q in
    omega (arith, linear)

step_leads : (n : ℕ) (u : List ℤ) (v : ℤ) (h : List ℤ) (after g place : ℕ) (k ks : List (List ℤ)) (next : List ℤ) → LeadsAt u place
    → IsZeroBelow (suc place) h → Leads (suc place) ks
    → Exchange n u v h after g k next → HasLeads place (k ++ ks) next
step_leads n u v h after g place _ ks _ l z m (keeps a b i) = record { kept = leads place (omega arith) l m; last = λ j _. i.zeros j }
step_leads n u v h after g place _ ks _ l z m (takes a b) = record {
  kept = leads_from place (suc place) ks (omega arith) m;
  last = l.before;
}
step_leads n u v h after g place _ ks _ l z m (turns a b) = record {
  kept = leads_from place (suc place) ks (omega arith) m;
  last = λ j i. entry-scaled (negsuc 0) u j ∙ rw (l.before j i) refl;
}
step_leads n u v h after g place _ ks _ l z m (exchanges {k = k} {next = next} p q s t a b x y) = record {
  kept = leads place (omega arith) (record {
    before = λ j i. zero_sum (pos p) (entry u j) (neg_ℤ q) (entry h j) (entry k j) (x.entries j) (l.before j i) (z j (omega arith));
    positive = lead_sum (pos p) (entry u place) (neg_ℤ q) (entry h place) (entry k place) (x.entries place)
        (positive_pos p (positive_part p g after a b.behind)) l.positive (z place (omega arith));
  }) m;
  last = λ j i. zero_sum (pos s) (entry u j) t (entry h j) (entry next j) (y.entries j) (l.before j i) (z j (omega arith));
}

has_leads_from : (a b : ℕ) (ks : List (List ℤ)) (h : List ℤ) → a ≤ b → HasLeads b ks h → HasLeads a ks h
has_leads_from a b ks h i x = record { kept = leads_from a b ks i x.kept; last = λ j l. x.last j (omega arith) }

pub recursion_leads : (n : ℕ) (system : Weighted) (us ks : List (List ℤ)) (h : List ℤ) (g : ℕ) (made : List (List ℤ)) (a : ℕ) → Leads a us
    → Exchanges n system us ks h g made → HasLeads a ks h
recursion_leads n system _ _ h _ _ a l (none z) = record { kept = no_more; last = λ j _. z.zeros j }
recursion_leads n system _ _ next g _ a (leads place i x m) (more {u = u} {us = us} {ks = ks} {h = h} {after = after} {made = made}
    {k = k} e d y) =
    let before = recursion_leads n system us ks h after made (suc place) m e in
    has_leads_from a place (k ++ ks) next i (step_leads n u (weighted_degree system u) h after g place k ks next x before.last before.kept
    y)

-- the entries of the vectors at a place
abbrev pub column : ℕ → List (List ℤ) → List ℤ
column j vectors = map (λ b. entry b j) vectors

-- a combination of vectors that are 0 at a place
pub zero_column : (a j : ℕ) (vectors : List (List ℤ)) (c : List ℤ) → j < a → AreZeroBelow a vectors → dot c (column j vectors) ≡ pos 0
zero_column a j _ [] h z = refl
zero_column a j _ (c ∷ cs) h zero_none = refl
zero_column a j _ (c ∷ cs) h (zero_more {us = us} e z) = rw (e j h, zero_column a j us cs h z) (simp products_out)

-- at its leading place the first vector alone has a part
pub lead_column : (u : List ℤ) (us : List (List ℤ)) (c : ℤ) (cs : List ℤ) (place : ℕ) → Leads (suc place) us
    → dot (c ∷ cs) (column place (u ∷ us)) ≡ c *ℤ entry u place
lead_column u us c cs place l = rw (zero_column (suc place) place us cs (omega arith) (leads_zero (suc place) us l)) (omega (arith, linear))

-- so there is only one list of coefficients
same_first : (c d x : ℤ) → pos 0 <ℤ x → c *ℤ x ≡ d *ℤ x → c ≡ d
same_first c d x h e = cancel_left x c d (positive_nonzero x h) (*ℤ_comm x c ∙ e ∙ *ℤ_comm d x)

rest_same : (c d x r s : ℤ) → c ≡ d → c *ℤ x +ℤ r ≡ d *ℤ x +ℤ s → r ≡ s
rest_same c d x r s e f = let f' = rw e at f in omega (arith, linear)

pub coefficients_unique : (a : ℕ) (us : List (List ℤ)) (c d : List ℤ) → Leads a us → length c ≡ length us → length d ≡ length us
    → ((j : ℕ) → dot c (column j us) ≡ dot d (column j us)) → c ≡ d
coefficients_unique a _ [] [] l e f h = refl
coefficients_unique a _ [] (d ∷ ds) no_more e f h = absurd (omega arith)
coefficients_unique a _ [] (d ∷ ds) (leads place i x m) e f h = absurd (omega arith)
coefficients_unique a _ (c ∷ cs) [] no_more e f h = absurd (omega arith)
coefficients_unique a _ (c ∷ cs) [] (leads place i x m) e f h = absurd (omega arith)
coefficients_unique a _ (c ∷ cs) (d ∷ ds) no_more e f h = absurd (omega arith)
coefficients_unique a _ (c ∷ cs) (d ∷ ds) (leads {u = u} {us = us} place i x m) e f h =
    let first = same_first c d (entry u place) x.positive (sym (lead_column u us c cs place m) ∙ h place ∙ lead_column u us d ds place m) in
    ap₂ (λ (b : ℤ) (y : List ℤ). b ∷ y) first (coefficients_unique (suc place) us cs ds m (omega arith) (omega arith)
    (λ j. rest_same c d (entry u j) (dot cs (column j us)) (dot ds (column j us)) first (h j)))
