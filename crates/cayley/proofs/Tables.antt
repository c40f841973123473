-- The table that tells which members are tight on which functions, and the rows of a pool that tell the same.
use Rattle.std.specs.Prelude.{Result, Ok, Err}
use Rattle.std.proofs.Common.{◌≡◌, ◌≢◌, ◌⊎◌, ℕ, zero, suc, ◌+◌, ◌*◌, ◌<◌, Bool, true, false, cond, List, [], ◌∷◌, ◌++◌, length, ℤ, pos, negsuc, neg_ℤ, nat_abs, ◌+ℤ◌, refl, sym, ap, ap₂, ◌∙◌, subst, inl, inr, arith, slice_index_or}
use Rattle.std.specs.Ordering.{int_eq}
use Rattle.std.specs.Cmp.{signed_Decides}
use Rattle.std.proofs.lemmas.Bool.{cases_Bool}
use Rattle.std.proofs.lemmas.List.{length-append, length-map, get_or-map, get_or_append_left, get_or-append-add, append-nil, append_assoc}
use Rattle.std.proofs.lemmas.List.Elements.{Contains-get_or}
use Rattle.lattice_theory.specs.Vector.{dot}
use Rattle.lattice_theory.specs.Affine.{Affine}
use Rattle.lattice_theory.proofs.Integers.{linear}
use Rattle.lattice_theory.proofs.Members.{Each, each_in, in_from_contains}
use Rattle.face_theory.specs.Pairings.{is_zero, paired}
use Rattle.face_theory.proofs.Sets.{true_false, same_test}
use Rattle.bit_pool.specs.Pools.{PoolState, OnRow}
use Rattle.bit_pool.specs.declared.faults.RowId.{RowId}
use Rattle.bit_pool.specs.declared.faults.Full.{Full}
use Rattle.incidence.specs.Incidences.{IncidenceState, HasExactly, IsTold, tabled}
use Rattle.cayley.specs.PairCones.{ConeState}
use Rattle.cayley_theory.specs.Cones.{unit_vector}
use Rattle.cayley_theory.proofs.ConeVectors.{dot_append, unit_itself, unit_other}
use Rattle.cayley.specs.ConeSteps.{lifted_one, lifted_all, meets, row_of, table_of, IsTableOf}
use Rattle.cayley.proofs.KeptVectors.{part_kept, KeepsPart}

-- the entries of the rows
table_count : (fs ms : List Affine) → length (table_of fs ms) ≡ length ms * length fs
table_count fs [] = omega arith
table_count fs (m ∷ ms) =
    let a = length-append (row_of fs m) (table_of fs ms) in
    let b = length-map fs (meets m) in
    let c = table_count fs ms in
    omega arith

table_at : (fs ms : List Affine) (m f : ℕ) (d e : Affine) → m < length ms → f < length fs
    → slice_index_or (table_of fs ms) (m * length fs + f) false ≡ meets (slice_index_or ms m d) (slice_index_or fs f e)
table_at fs [] m f d e l k = absurd (omega arith)
table_at fs (x ∷ ms) zero f d e l k = ap (λ (i : ℕ). slice_index_or (row_of fs x ++ table_of fs ms) i false)
    (first (length fs) f)
    ∙ get_or_append_left (row_of fs x) (table_of fs ms) false f (let b = length-map fs (meets x) in omega arith)
    ∙ get_or-map (meets x) fs f e false k
  where
    first : (n f : ℕ) → 0 * n + f ≡ f
    first n f = omega arith
table_at fs (x ∷ ms) (suc m) f d e l k =
    ap (λ (i : ℕ). slice_index_or (row_of fs x ++ table_of fs ms) i false)
    (let b = length-map fs (meets x) in shift (length fs) (length (row_of fs x)) m f b)
    ∙ get_or-append-add (row_of fs x) (table_of fs ms) (m * length fs + f) false ∙ table_at fs ms m f d e (omega arith) k
  where
    shift : (n j m f : ℕ) → j ≡ n → suc m * n + f ≡ j + (m * n + f)
    shift n j m f e = omega arith

-- the row of one more member
pub table_push : (fs ms : List Affine) (m : Affine) → table_of fs (ms ++ (m ∷ [])) ≡ table_of fs ms ++ row_of fs m
table_push fs [] m = append-nil (row_of fs m)
table_push fs (x ∷ ms) m = ap (λ (t : List Bool). row_of fs x ++ t) (table_push fs ms m) ∙ sym (append_assoc (row_of fs x) (table_of fs ms) (row_of fs m))

-- whether an integer is 0
zero_told : (a : ℤ) → is_zero a ≡ true → a ≡ pos 0
zero_told (pos zero) e = refl
zero_told (pos (suc a)) e = absurd (true_false e refl)
zero_told (negsuc a) e = absurd (true_false e refl)

told_zero : (a : ℤ) → a ≡ pos 0 → is_zero a ≡ true
told_zero a e = ap is_zero e

-- a sum with 1, or with 0
one_less : (a b c : ℤ) → c ≡ a +ℤ b → b ≡ pos 1 → int_eq a (negsuc 0) ≡ is_zero c
one_less a b c e f = same_test (int_eq a (negsuc 0)) (is_zero c)
    (λ t. told_zero c (let s = (signed_Decides a (negsuc 0)).0 t in omega (arith, linear)))
    (λ t. (signed_Decides a (negsuc 0)).1 (let s = zero_told c t in omega (arith, linear)))

no_less : (a b c : ℤ) → c ≡ a +ℤ b → b ≡ pos 0 → int_eq a (pos 0) ≡ is_zero c
no_less a b c e f = same_test (int_eq a (pos 0)) (is_zero c)
    (λ t. told_zero c (let s = (signed_Decides a (pos 0)).0 t in omega (arith, linear)))
    (λ t. (signed_Decides a (pos 0)).1 (let s = zero_told c t in omega (arith, linear)))

same_parts : (c d : ℤ) (i j : ℕ) → c ≡ neg_ℤ (pos i) → d ≡ neg_ℤ (pos j) → i ≡ j → c ≡ d
same_parts c d i j e f s = e ∙ ap (λ (k : ℕ). neg_ℤ (pos k)) s ∙ sym f

meets_lifted : (r : ℕ) (m f : Affine) → KeepsPart r m → KeepsPart r f → length f.normal ≡ length m.normal
    → meets m f ≡ is_zero (dot (lifted_one r f) (lifted_one r m))
meets_lifted r m f hm hf l = by (cases_Bool (int_eq m.constant f.constant))
  where
    i : nat_abs m.constant ≡ hm.part
    i = part_kept m.constant hm.part hm.constant_is

    j : nat_abs f.constant ≡ hf.part
    j = part_kept f.constant hf.part hf.constant_is

    sum : dot (lifted_one r f) (lifted_one r m) ≡ dot f.normal m.normal +ℤ dot (unit_vector r (nat_abs f.constant)) (unit_vector r (nat_abs m.constant))
    sum = dot_append f.normal m.normal (unit_vector r (nat_abs f.constant)) (unit_vector r (nat_abs m.constant)) l

    by : (int_eq m.constant f.constant ≡ true) ⊎ (int_eq m.constant f.constant ≡ false) → meets m f ≡ is_zero (dot (lifted_one r f) (lifted_one r m))
    by (inl e) =
        let s = (signed_Decides m.constant f.constant).0 e in
        let u : dot (unit_vector r (nat_abs f.constant)) (unit_vector r (nat_abs m.constant)) ≡ pos 1 =
        ap (λ (k : ℕ). dot (unit_vector r k) (unit_vector r (nat_abs m.constant))) (ap nat_abs (sym s))
        ∙ unit_itself r (nat_abs m.constant) (rw i hm.within) in
        ap (λ (b : Bool). cond b (int_eq (dot f.normal m.normal) (negsuc 0)) (int_eq (dot f.normal m.normal) (pos 0))) e
        ∙ one_less (dot f.normal m.normal) (dot (unit_vector r (nat_abs f.constant)) (unit_vector r (nat_abs m.constant)))
        (dot (lifted_one r f) (lifted_one r m)) sum u
    by (inr e) =
        let apart : nat_abs f.constant ≢ nat_abs m.constant = λ s. true_false ((signed_Decides m.constant f.constant).1
        (same_parts m.constant f.constant hm.part hf.part hm.constant_is hf.constant_is (sym i ∙ sym s ∙ j))) e in
        let u = unit_other r (nat_abs f.constant) (nat_abs m.constant) apart in
        ap (λ (b : Bool). cond b (int_eq (dot f.normal m.normal) (negsuc 0)) (int_eq (dot f.normal m.normal) (pos 0))) e
        ∙ no_less (dot f.normal m.normal) (dot (unit_vector r (nat_abs f.constant)) (unit_vector r (nat_abs m.constant)))
        (dot (lifted_one r f) (lifted_one r m)) sum u

-- the table of the lists of a cone
pub is_table : (n r : ℕ) (ms fs : List Affine) → Each (KeepsPart r) ms → Each (KeepsPart r) fs → Each (λ m. length m.normal ≡ n) ms
    → Each (λ f. length f.normal ≡ n) fs → IsTableOf (lifted_all r ms) (lifted_all r fs) (table_of fs ms)
is_table n r ms fs km kf dm df = record {
  count = table_count fs ms ∙ ap₂ (λ (a b : ℕ). a * b) (sym (length-map ms (lifted_one r))) (sym (length-map fs (lifted_one r)));
  entries = λ m f l k. entry m f (subst (λ (a : ℕ). m < a) (length-map ms (lifted_one r)) l) (subst (λ (a : ℕ). f < a) (length-map fs (lifted_one r)) k);
}
  where
    none : Affine
    none = record { normal = []; constant = pos 0 }

    entry : (m f : ℕ) → m < length ms → f < length fs
        → slice_index_or (table_of fs ms) (m * length (lifted_all r fs) + f) false ≡ (paired (lifted_all r ms) (lifted_all r fs)).tight m f
    entry m f l k =
        let member = slice_index_or ms m none in
        let function = slice_index_or fs f none in
        let in_ms = in_from_contains ms (Contains-get_or ms m none l) in
        let in_fs = in_from_contains fs (Contains-get_or fs f none k) in
        ap (λ (a : ℕ). slice_index_or (table_of fs ms) (m * a + f) false) (length-map fs (lifted_one r))
        ∙ table_at fs ms m f none none l k
        ∙ meets_lifted r (slice_index_or ms m none) (slice_index_or fs f none) (each_in km in_ms) (each_in kf in_fs)
        (each_in df in_fs ∙ sym (each_in dm in_ms))
        ∙ ap₂ (λ (x y : List ℤ). is_zero (dot x y)) (sym (get_or-map (lifted_one r) fs f none [] k)) (sym (get_or-map (lifted_one r) ms m none [] l))

-- rows that tell a relation tell each that is the same within range
exactly_same : (n : ℕ) (t u : ℕ → Bool) → ((k : ℕ) → k < n → t k ≡ u k) → (words : List ℕ) → HasExactly n t words → HasExactly n u words
exactly_same n t u same words h k = (
  λ b. let p = (h k).0 b in (p.0, sym (same k p.0) ∙ p.1),
  λ p. (h k).1 (p.0, same k p.0 ∙ p.1),
)

on_row : (pool : PoolState) (id : RowId) (P Q : List ℕ → Type 0) → ((words : List ℕ) → P words → Q words) → OnRow pool id P → OnRow pool id Q
on_row pool id P Q f h = record { words = h.words; named = h.named; holds = f h.words h.holds }

pub told_same : (before now : PoolState) (M F : ℕ) (t u : ℕ → ℕ → Bool) → ((m f : ℕ) → m < M → f < F → t m f ≡ u m f)
    → (x : Result IncidenceState Full) → IsTold before now (record { members = M; functions = F; tight = t }) x
    → IsTold before now (record { members = M; functions = F; tight = u }) x
told_same before now M F t u same (Ok i) h = record {
  room = h.room;
  epoch = h.epoch;
  first = h.first;
  gained = h.gained;
  tells = record {
    members = h.tells.members;
    functions = h.tells.functions;
    member_rows = λ m l. on_row now (record { epoch = i.epoch; place = i.first + m }) (HasExactly F (t m)) (HasExactly F (u m))
        (exactly_same F (t m) (u m) (λ f k. same m f l k)) (h.tells.member_rows m l);
    function_rows = λ f l. on_row now (record { epoch = i.epoch; place = i.first + (i.members + f) }) (HasExactly M (λ m. t m f)) (HasExactly M (λ m. u m f))
        (exactly_same M (λ m. t m f) (λ m. u m f) (λ m k. same m f k l)) (h.tells.function_rows f l);
  };
}
told_same before now M F t u same (Err full) h = h

-- so a table of the lists of a cone tells its relation
pub told_cone : (before now : PoolState) (cone : ConeState) (a b : ℕ) (t tight : List Bool) (x : Result IncidenceState Full) → a ≡ length cone.members
    → b ≡ length cone.functions → t ≡ tight → IsTableOf cone.members cone.functions tight → IsTold before now (tabled a b t) x
    → IsTold before now (paired cone.members cone.functions) x
told_cone before now cone a b t tight x e f g is h = told_same before now (length cone.members) (length cone.functions)
    (λ m k. slice_index_or tight (m * length cone.functions + k) false) (paired cone.members cone.functions).tight is.entries x
    (subst (λ (i : ℕ). IsTold before now (tabled i (length cone.functions) tight) x) e
    (subst (λ (j : ℕ). IsTold before now (tabled a j tight) x) f (subst (λ (u : List Bool). IsTold before now (tabled a b u) x) g h)))
