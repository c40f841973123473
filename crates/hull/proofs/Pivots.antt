-- The pivot of a step, and what the loop behind it has made so far.
use Rattle.std.proofs.Common.{◌≡◌, ◌≢◌, ℕ, ◌+◌, ◌-◌, ◌*◌, ◌<◌, ◌≤◌, List, [], ◌∷◌, ◌++◌, length, get_or, take, drop, ℤ, pos, sym, ap, ◌∙◌, subst}
use Rattle.std.proofs.Common.{All, Contains, arith, add-one, append_assoc, append-nil, length-append, length-take}
use Rattle.std.specs.List.{AllZip}
use Rattle.std.proofs.lemmas.List.{take_all, drop_more, take-append-drop}
use Rattle.std.proofs.lemmas.List.Elements.{All-push, AllZip-push, length_all_zip}
use Rattle.std.proofs.Math.Seq.{take-suc, take-append_seam, get_or-append_seam, drop-append-add}
use Rattle.lattice_theory.specs.Vector.{dot, IsPrimitive}
use Rattle.lattice_theory.specs.Size.{absolute_sum}
use Rattle.elimination.specs.Elimination.{Member, IsReduced}
use Rattle.lattice_theory.proofs.Members.{all_from_each, empty, In, in_from_contains, contains_from_in, in_append_left, in_append_right}
use Rattle.lattice_core.specs.Limits.{size_limit_of}
use Rattle.hull.specs.steps.Kernels.{IsPrimitiveKernel, IsSmallKernel, IsPivotAt, CanReduce, IsReducedBy, IsStepped}
use Rattle.hull.proofs.Kernels.{can_reduce, reduced_at, kernel_stepped, stepped_length, kernel_stayed}

-- the first members and one more
pub take_more : {X : Type 0} (xs : List X) (i : ℕ) (x : X) → i < length xs → x ≡ get_or xs i x → take (i + 1) xs ≡ take i xs ++ (x ∷ [])
take_more xs i x h e = rw add-one (take-suc xs i x h ∙ ap (λ y. take i xs ++ (y ∷ [])) (sym e))

-- what the code has behind the pivot's place
abbrev pub rest : List Member → ℕ → List Member
rest ks place = take (length ks - (place + 1)) (drop (place + 1) ks)

-- the parts of a split list, at its place
pub parts_of : (before : List Member) (p : Member) (after : List Member) (place : ℕ) → length before ≡ place
    → (take place (before ++ (p ∷ after)) ≡ before) × ((d : Member) → get_or (before ++ (p ∷ after)) place d ≡ p)
    × (rest (before ++ (p ∷ after)) place ≡ after)
parts_of before p after place e = (
  subst (λ (n : ℕ). take n (before ++ (p ∷ after)) ≡ before) e (take-append_seam before (p ∷ after)),
  λ d. subst (λ (n : ℕ). get_or (before ++ (p ∷ after)) n d ≡ p) e (get_or-append_seam before p after d),
  behind,
)
  where
    dropped : drop (place + 1) (before ++ (p ∷ after)) ≡ after
    dropped = subst (λ (n : ℕ). drop (n + 1) (before ++ (p ∷ after)) ≡ after) e (drop-append-add before (p ∷ after) 1)

    behind : rest (before ++ (p ∷ after)) place ≡ after
    behind = rw dropped (take_all (length (before ++ (p ∷ after)) - (place + 1)) after (let a = length-append before (p ∷ after) in
        omega arith))

-- so those of a kernel with a pivot at a place
pub pivot_parts : (ks : List Member) (v : List ℤ) (place : ℕ) (h : IsPivotAt ks v place)
    → (take place ks ≡ h.before) × ((d : Member) → get_or ks place d ≡ h.pivot) × (rest ks place ≡ h.after)
pivot_parts ks v place h = subst (λ (xs : List Member). (take place xs ≡ h.before) × ((d : Member) → get_or xs place d ≡ h.pivot)
    × (rest xs place ≡ h.after)) (sym h.split) (parts_of h.before h.pivot h.after place h.stands)

-- the member at a place is the pivot where all before it pair to 0 with the vector
pub pivot_found : (ks : List Member) (v : List ℤ) (place : ℕ) (p : Member) → place < length ks → p ≡ get_or ks place p
    → All (λ k. dot k.vector v ≡ pos 0) (take place ks) → dot p.vector v ≢ pos 0 → IsPivotAt ks v place
pivot_found ks v place p h e z u = record {
  before = take place ks;
  pivot = p;
  after = drop (place + 1) ks;
  split = sym (take-append-drop place ks) ∙ ap (λ (xs : List Member). take place ks ++ xs)
      (drop_more ks place p h ∙ ap (λ (k : Member). k ∷ drop (place + 1) ks) (sym e));
  stands = length-take place ks ∙ omega arith;
  annihilated = z;
  usable = u;
}

-- one more member that pairs to 0
pub annihilated_more : (ks : List Member) (v : List ℤ) (place : ℕ) (p : Member) → place < length ks → p ≡ get_or ks place p
    → All (λ k. dot k.vector v ≡ pos 0) (take place ks) → dot p.vector v ≡ pos 0 → All (λ k. dot k.vector v ≡ pos 0) (take (place + 1) ks)
annihilated_more ks v place p h e z u = rw (take_more ks place p h e) (All-push (λ k. dot k.vector v ≡ pos 0) (take place ks) p z u)

-- a kernel has at most as many members as coordinates
pub kernel_few : (n : ℕ) (ks : List Member) → IsSmallKernel n ks → length ks ≤ n
kernel_few n ks h = let e = h.is_kernel.are_pivots.count in omega arith

-- the pivot and the member of this turn can be reduced
pub turn_can_reduce : (ks : List Member) (v : List ℤ) (place i : ℕ) (p k : Member) (a b : ℤ) → 1 ≤ length v → length v ≤ 6
    → IsSmallKernel (length v) ks → absolute_sum v ≤ 2 * size_limit_of (length v) → IsPivotAt ks v place
    → p ≡ get_or ks place p → i < length (rest ks place) → k ≡ get_or (rest ks place) i k → a ≡ dot p.vector v → b ≡ dot k.vector v
    → CanReduce p a k b
turn_can_reduce ks v place i p k a b some most small w h ep l ek ea eb =
    let parts = pivot_parts ks v place h in
    let same : p ≡ h.pivot = ep ∙ parts.1 p in
    let member : Contains h.after k = subst (λ (xs : List Member). Contains xs k) parts.2 (i, l, sym ek) in
    let can = can_reduce (length v) h.before h.pivot h.after v some most (subst (IsSmallKernel (length v)) h.split small) w h.usable k
    member in
    let can' = subst (λ (q : Member). CanReduce q (dot q.vector v) k (dot k.vector v)) (sym same) can in
    subst (λ (x : ℤ). CanReduce p x k b) (sym ea) (subst (λ (y : ℤ). CanReduce p (dot p.vector v) k y) (sym eb) can')

-- before the loop
pub stepped_none : (before : List Member) (p : Member) (after : List Member) (v : List ℤ) (new : List Member) → new ≡ before
    → IsStepped before p (take 0 after) v new
stepped_none before p after v new e = record {
  next = [];
  whole = e ∙ sym (append-nil before);
  reduced = tt;
  primitive = all_from_each empty;
}

-- one more turn
pub stepped_more : (before : List Member) (p : Member) (after : List Member) (v : List ℤ) (old new : List Member) (i : ℕ) (k l : Member)
    (a b : ℤ) → i < length after → k ≡ get_or after i k → a ≡ dot p.vector v → b ≡ dot k.vector v
    → IsReducedBy p a k b l → new ≡ old ++ (l ∷ []) → IsStepped before p (take i after) v old
    → IsStepped before p (take (i + 1) after) v new
stepped_more before p after v old new i k l a b h e ea eb r n s =
    let by_values = subst (λ (x : ℤ). IsReducedBy p x k (dot k.vector v) l) ea (subst (λ (y : ℤ). IsReducedBy p a k y l) eb r) in
    record {
      next = s.next ++ (l ∷ []);
      whole = n ∙ ap (λ (xs : List Member). xs ++ (l ∷ [])) s.whole ∙ append_assoc before s.next (l ∷ []);
      reduced = subst (λ (xs : List Member). AllZip (IsReduced p v) xs (s.next ++ (l ∷ []))) (sym (take_more after i k h e))
          (AllZip-push (IsReduced p v) (take i after) s.next k l s.reduced (reduced_at p k l v by_values));
      primitive = All-push (λ m. IsPrimitive m.vector) s.next l s.primitive by_values.primitive;
    }

-- there is room for one more
pub stepped_room : (ks : List Member) (v : List ℤ) (place i : ℕ) (p : Member) (old : List Member) → length v ≤ 6
    → IsSmallKernel (length v) ks → i < length (rest ks place) → IsStepped (take place ks) p (take i (rest ks place)) v old → length old < 6
stepped_room ks v place i p old most small h s =
    let few = kernel_few (length v) ks small in
    let zipped = length_all_zip (IsReduced p v) (take i (rest ks place)) s.next s.reduced in
    let whole = ap length s.whole in
    let both = length-append (take place ks) s.next in
    let first = length-take place ks in
    let turn = length-take i (rest ks place) in
    let long = length-take (length ks - (place + 1)) (drop (place + 1) ks) in
    omega arith

-- after the loop
pub stepped_all : (ks : List Member) (v : List ℤ) (place i : ℕ) (p : Member) (new : List Member) → p ≡ get_or ks place p
    → length (rest ks place) ≤ i → IsStepped (take place ks) p (take i (rest ks place)) v new
    → (h : IsPivotAt ks v place) → IsStepped h.before h.pivot h.after v new
stepped_all ks v place i p new e l s h =
    let parts = pivot_parts ks v place h in
    let behind : take i (rest ks place) ≡ h.after = take_all i (rest ks place) l ∙ parts.2 in
    subst (λ (xs : List Member). IsStepped xs h.pivot h.after v new) parts.0
    (subst (λ (q : Member). IsStepped (take place ks) q h.after v new) (e ∙ parts.1 p)
    (subst (λ (xs : List Member). IsStepped (take place ks) p xs v new) behind s))

-- so the result is the kernel with one more vector
pub with_pivot : (n : ℕ) (ks : List Member) (v : List ℤ) (place : ℕ) (new : List Member) (h : IsPivotAt ks v place)
    → IsStepped h.before h.pivot h.after v new → (vs : List (List ℤ)) → IsPrimitiveKernel n vs ks → IsPrimitiveKernel n (vs ++ (v ∷ [])) new
with_pivot n ks v place new h s vs k = kernel_stepped n vs h.before h.pivot h.after new v (subst (IsPrimitiveKernel n vs) h.split k)
    h.annihilated h.usable s

-- with one member less
pub with_pivot_length : (ks : List Member) (v : List ℤ) (place : ℕ) (new : List Member) (h : IsPivotAt ks v place)
    → IsStepped h.before h.pivot h.after v new → length new + 1 ≡ length ks
with_pivot_length ks v place new h s = stepped_length h.before h.pivot h.after new v s ∙ ap length (sym h.split)

-- without a pivot it is the same
pub without_pivot : (n : ℕ) (ks : List Member) (v : List ℤ) (new : List Member) → new ≡ ks → All (λ k. dot k.vector v ≡ pos 0) ks
    → (vs : List (List ℤ)) → IsPrimitiveKernel n vs ks → IsPrimitiveKernel n (vs ++ (v ∷ [])) new
without_pivot n ks v new e z vs k = subst (IsPrimitiveKernel n (vs ++ (v ∷ []))) (sym e) (kernel_stayed n vs ks v k z)

-- at the end all pair to 0
pub annihilated_all : (ks : List Member) (v : List ℤ) (place : ℕ) → length ks ≤ place → All (λ k. dot k.vector v ≡ pos 0) (take place ks)
    → All (λ k. dot k.vector v ≡ pos 0) ks
annihilated_all ks v place h z = subst (All (λ k. dot k.vector v ≡ pos 0)) (take_all place ks h) z

-- a member of the front of a list
pub in_taken : {X : Type 0} {x : X} (n : ℕ) (xs : List X) → In x (take n xs) → In x xs
in_taken {x = x} n xs i = subst (In x) (take-append-drop n xs) (in_append_left (drop n xs) i)

-- a member of the rest
pub in_dropped : {X : Type 0} {x : X} (n : ℕ) (xs : List X) → In x (drop n xs) → In x xs
in_dropped {x = x} n xs i = subst (In x) (take-append-drop n xs) (in_append_right (take n xs) i)

-- the pivot is a member
pub pivot_member : (ks : List Member) (v : List ℤ) (place : ℕ) (p : Member) → IsPivotAt ks v place → p ≡ get_or ks place p → Contains ks p
pivot_member ks v place p h e =
    (place, (let l = ap length h.split in let s = h.stands in let a = length-append h.before (h.pivot ∷ h.after) in omega arith), sym e)

-- and so are those behind it
pub in_rest : (ks : List Member) (place i : ℕ) (k : Member) → i < length (rest ks place) → k ≡ get_or (rest ks place) i k → Contains ks k
in_rest ks place i k h e = contains_from_in
    (in_dropped (place + 1) ks (in_taken (length ks - (place + 1)) (drop (place + 1) ks) (in_from_contains (rest ks place) (i, h, sym e))))
