-- Steps of the listing.
use Rattle.std.proofs.Common.{◌≡◌, ◌⊎◌, inl, inr, ℕ, zero, suc, ◌+◌, ◌-◌, ◌*◌, ◌<◌, ◌≤◌, List, []}
use Rattle.std.proofs.Common.{◌∷◌, ◌++◌, length, map, take, get_or, refl, sym, ap, ◌∙◌, subst, arith, length-append, take-take}
use Rattle.std.specs.List.{Contains}
use Rattle.std.proofs.Math.Nat.{le-div_iff_mul-le}
use Rattle.std.proofs.lemmas.Bool.{cases_lt}
use Rattle.std.proofs.lemmas.List.{append_assoc, append-nil, map-append}
use Rattle.lattice_theory.specs.Order.{Lists}
use Rattle.lattice_theory.proofs.Members.{empty, each_push, each_right, each_head, each_weaker, each_in, each_from_all}
use Rattle.lattice_theory.proofs.Members.{all_from_each, In, in_append_left, in_append_right, in_append_cases, in_from_contains, contains_from_in}
use Rattle.lattice_theory.proofs.Sublists.{ascends_append, ascends_map, in_map, from_map, IsImage}
use Rattle.lattice_core.specs.Weights.{Weighted, total}
use Rattle.walk_theory.specs.Walks.{NumbersLess}
use Rattle.walk_theory.proofs.Walks.{append_next, append_none, less_behind}
use Rattle.interior_point_theory.specs.Beginnings.{MayFollow}
use Rattle.interior_point_theory.specs.Interior.{SystemLess, IsInteriorPointSystem, system_of}
use Rattle.interior_point_theory.proofs.Following.{weights_may_follow_lem, total-append}
use Rattle.weight_enum.specs.Systems.{IsSystemOfDegree, AreSystemsOfDegree}
use Rattle.weight_enum.specs.steps.Listing.{IsCompleted, AddsSystems, IsReady, IsFirst, IsMost, most_behind}

-- completed with a number below the bound behind the beginning
pub record IsCompletedBelow (degree n : ℕ) (b : List ℕ) (bound : ℕ) (x : List ℕ) : Type 0 where
  pub number : ℕ
  pub rest : List ℕ
  pub below : number < bound
  pub is : x ≡ b ++ number ∷ rest
  pub places : length x ≡ n
  pub holds : IsInteriorPointSystem (system_of degree x)

-- a number behind the beginning of a system may follow it
follows : (degree n : ℕ) (b : List ℕ) (u : ℕ) (rest x : List ℕ) → x ≡ b ++ u ∷ rest → length x ≡ n → IsInteriorPointSystem (system_of degree x)
    → MayFollow degree b u (suc (length rest)) × (length b + suc (length rest) ≡ n)
follows degree n b u rest x is places holds = (
  weights_may_follow_lem degree u b rest (subst (λ (y : List ℕ). IsInteriorPointSystem (system_of degree y)) is holds),
  sym (length-append b (u ∷ rest)) ∙ (sym (ap length is) ∙ places),
)

-- a list of a system goes on behind a beginning that has fewer numbers
pub below_from_completed : (degree n place least rest most : ℕ) (b x : List ℕ) → IsReady degree n b place least rest → place < n
    → IsMost n degree place rest most → IsCompleted degree n b x → IsCompletedBelow degree n b (most + 1) x
below_from_completed degree n place least rest most b x ready within is_most c = by c.rest c.is
  where
    by : (r : List ℕ) → x ≡ b ++ r → IsCompletedBelow degree n b (most + 1) x
    by [] e =
        let columns = ready.columns in
        let places = c.places in
        let short : length x ≡ length b = ap length (e ∙ append_none b) in
        absurd (omega (arith, columns, places, short, within))
    by (u ∷ r) e =
        let f = follows degree n b u r x e c.places c.holds in
        let columns = ready.columns in
        let there : place + suc (length r) ≡ n = omega (arith, columns, f.1) in
        let small : u ≤ most = is_most b u (suc (length r)) columns there ready.leaves f.0 in
        record { number = u; rest = r; below = omega (arith, small); is = e; places = c.places; holds = c.holds }

pub completed_from_below : (degree n bound : ℕ) (b x : List ℕ) → IsCompletedBelow degree n b bound x → IsCompleted degree n b x
completed_from_below degree n bound b x c = record { rest = c.number ∷ c.rest; is = c.is; places = c.places; holds = c.holds }

-- what stands behind a beginning takes at most so much
behind_sum : (degree : ℕ) (b r : List ℕ) → 0 < length b → IsInteriorPointSystem (system_of degree (b ++ r)) → total r ≤ most_behind degree (length r)
behind_sum degree b [] some is = omega arith
behind_sum degree b (u ∷ r) some is =
    let cut = (weights_may_follow_lem degree u b r is).cut (inl some) in
    let positive : 0 < length r + 2 = omega arith in
    let most = (le-div_iff_mul-le positive).1 (times (length r) u cut) in
    let next = behind_sum degree (b ++ u ∷ []) r (let l = length-append b (u ∷ []) in omega (arith, l))
    (subst (λ (x : List ℕ). IsInteriorPointSystem (system_of degree x)) (sym (append_next b u r)) is) in
    omega (arith, most, next)
  where
    times : (k v : ℕ) → (suc k + 1) * v ≤ degree → v * (k + 2) ≤ degree
    times k v h = omega (arith, h)

-- none stands below the first number that is tried
pub none_below_first : (degree n place least rest first : ℕ) (b x : List ℕ) → IsReady degree n b place least rest
    → IsFirst degree n place least rest first → IsCompletedBelow degree n b first x → ⊥
none_below_first degree n place least rest first b x ready is_first c =
    let f = follows degree n b c.number c.rest x c.is c.places c.holds in
    let columns = ready.columns in
    let leaves = ready.leaves in
    let length_is = f.1 in
    let low : least ≤ c.number = ready.is_least c.number (suc (length c.rest)) f.0 in
    let l = length-append b (c.number ∷ []) in
    let holds = subst (λ (y : List ℕ). IsInteriorPointSystem (system_of degree y)) (c.is ∙ sym (append_next b c.number c.rest)) c.holds in
    let behind = behind_sum degree (b ++ c.number ∷ []) c.rest (omega (arith, l)) holds in
    let sum : total x ≡ degree = c.holds.sum in
    let whole = ap total c.is in
    let parts = total-append b (c.number ∷ c.rest) in
    let above = is_first.is_first c.number (length c.rest) low (omega (arith, columns, length_is)) (omega (arith, behind, sum, whole, parts, leaves)) in
    let below = c.below in
    omega (arith, above, below)

-- the next bound
pub below_next : (degree n v : ℕ) (b x : List ℕ) → IsCompletedBelow degree n b (v + 1) x → IsCompletedBelow degree n b v x ⊎ IsCompleted degree n (b ++ v ∷ []) x
below_next degree n v b x c = by (cases_lt c.number v)
  where
    by : (c.number < v) ⊎ (v ≤ c.number) → IsCompletedBelow degree n b v x ⊎ IsCompleted degree n (b ++ v ∷ []) x
    by (inl l) = inl (record { number = c.number; rest = c.rest; below = l; is = c.is; places = c.places; holds = c.holds })
    by (inr l) =
        let below = c.below in
        let same : c.number ≡ v = omega (arith, l, below) in
        inr (record {
          rest = c.rest;
          is = subst (λ (u : ℕ). x ≡ b ++ u ∷ c.rest) same c.is ∙ sym (append_next b v c.rest);
          places = c.places;
          holds = c.holds;
        })

pub next_below : (degree n v : ℕ) (b x : List ℕ) → IsCompletedBelow degree n b v x ⊎ IsCompleted degree n (b ++ v ∷ []) x → IsCompletedBelow degree n b (v + 1) x
next_below degree n v b x (inl c) = let below = c.below in
    record { number = c.number; rest = c.rest; below = omega (arith, below); is = c.is; places = c.places; holds = c.holds }
next_below degree n v b x (inr c) =
    record { number = v; rest = c.rest; below = omega arith; is = c.is ∙ append_next b v c.rest; places = c.places; holds = c.holds }

-- lists below come before lists behind the bound itself
before_next : (degree n v : ℕ) (b x y : List ℕ) → IsCompletedBelow degree n b v x → IsCompleted degree n (b ++ v ∷ []) y → NumbersLess x y
before_next degree n v b x y p q = subst (λ (z : List ℕ). NumbersLess z y) (sym p.is)
    (subst (NumbersLess (b ++ p.number ∷ p.rest)) (sym (q.is ∙ append_next b v q.rest)) (less_behind b p.number v p.rest q.rest p.below))

-- two whole lists, one behind another
pub lists_append : {X : Type 0} (less : X → X → Type 0) (P Q R : X → Type 0) (xs ys : List X) → Lists less P xs → Lists less Q ys
    → ((x y : X) → P x → Q y → less x y) → ((x : X) → (R x → P x ⊎ Q x) × (P x ⊎ Q x → R x)) → Lists less R (xs ++ ys)
lists_append {X = X} less P Q R xs ys l m before both = record {
  ascends = ascends_append less xs ys l.ascends m.ascends
      (λ x y i j. before x y ((l.members x).0 (contains_from_in i)) ((m.members y).0 (contains_from_in j)));
  members = λ x. (λ c. (both x).1 (to (in_append_cases xs ys (in_from_contains (xs ++ ys) c))), λ r. contains_from_in (from ((both x).0 r)));
}
  where
    to : {x : X} → In x xs ⊎ In x ys → P x ⊎ Q x
    to {x = x} (inl i) = inl ((l.members x).0 (contains_from_in i))
    to {x = x} (inr i) = inr ((m.members x).0 (contains_from_in i))

    from : {x : X} → P x ⊎ Q x → In x (xs ++ ys)
    from {x = x} (inl p) = in_append_left ys (in_from_contains xs ((l.members x).1 p))
    from {x = x} (inr q) = in_append_right xs (in_from_contains ys ((m.members x).1 q))

-- the systems below one more bound
pub adds_next : (degree n v : ℕ) (b : List ℕ) (old middle new : List Weighted) → AddsSystems (IsCompletedBelow degree n b v) degree old middle
    → AddsSystems (IsCompleted degree n (b ++ v ∷ [])) degree middle new → AddsSystems (IsCompletedBelow degree n b (v + 1)) degree old new
adds_next degree n v b old middle new (xs, e, l) (ys, f, m) = (
  xs ++ ys,
  f ∙ (ap (λ (s : List Weighted). s ++ map (system_of degree) ys) e ∙ (append_assoc old (map (system_of degree) xs) (map (system_of degree) ys)
      ∙ ap (λ (s : List Weighted). old ++ s) (sym (map-append (system_of degree) xs ys)))),
  lists_append NumbersLess (IsCompletedBelow degree n b v) (IsCompleted degree n (b ++ v ∷ [])) (IsCompletedBelow degree n b (v + 1)) xs ys l m
      (before_next degree n v b) (λ x. (below_next degree n v b x, next_below degree n v b x)),
)

-- nothing is added where there is nothing
pub adds_nothing : (P : List ℕ → Type 0) (degree : ℕ) (old : List Weighted) → ((x : List ℕ) → P x → ⊥) → AddsSystems P degree old old
adds_nothing P degree old none = (
  [],
  sym (append-nil old),
  record {
    ascends = tt;
    members = λ x. (λ c. absurd (nothing c), λ p. absurd (none x p));
  },
)
  where
    nothing : {x : List ℕ} → Contains {X = List ℕ} [] x → ⊥
    nothing (k, h, e) = omega (arith, h)

-- the same lists, told otherwise
pub adds_same : (P Q : List ℕ → Type 0) (degree : ℕ) (old new : List Weighted) → ((x : List ℕ) → P x → Q x) → ((x : List ℕ) → Q x → P x)
    → AddsSystems P degree old new → AddsSystems Q degree old new
adds_same P Q degree old new to from (xs, e, l) =
    (xs, e, record { ascends = l.ascends; members = λ x. (λ c. to x ((l.members x).0 c), λ q. (l.members x).1 (from x q)) })

-- a list with a beginning of as many numbers is the beginning
pub whole_completed : (degree : ℕ) (w x : List ℕ) → IsCompleted degree (length w) w x → x ≡ w
whole_completed degree w x c = by c.rest c.is
  where
    by : (rest : List ℕ) → x ≡ w ++ rest → x ≡ w
    by [] e = e ∙ append_none w
    by (u ∷ rest) e =
        let long = ap length e ∙ length-append w (u ∷ rest) in
        let places = c.places in
        absurd (omega (arith, long, places))

-- one system
pub adds_one : (degree : ℕ) (w : List ℕ) (old new : List Weighted) → IsInteriorPointSystem (system_of degree w) → new ≡ old ++ system_of degree w ∷ []
    → AddsSystems (IsCompleted degree (length w) w) degree old new
adds_one degree w old new holds e = (
  w ∷ [],
  e,
  record {
    ascends = (all_from_each {P = NumbersLess w} empty, tt);
    members = λ x. (
      λ c. subst (IsCompleted degree (length w) w) (sym (only x c.0 c.1 c.2)) (record { rest = []; is = sym (append_none w); places = refl; holds = holds }),
      λ c. subst (λ (y : List ℕ). Contains (w ∷ []) y) (sym (whole_completed degree w x c)) (0, omega arith, refl),
    );
  },
)
  where
    only : (x : List ℕ) (k : ℕ) → k < 1 → get_or (w ∷ []) k x ≡ x → x ≡ w
    only x zero h i = sym i
    only x (suc k) h i = absurd (omega (arith, h))

-- the beginning with one weight more
pub next_ready : (degree n place least rest v : ℕ) (b : List ℕ) → IsReady degree n b place least rest → place < n → least ≤ v → v ≤ rest
    → (place + 1 ≡ n → rest ≤ v) → IsReady degree n (b ++ v ∷ []) (place + 1) v (rest - v)
next_ready degree n place least rest v b ready within low high last =
    let columns = ready.columns in
    let leaves = ready.leaves in
    let positive = ready.positive in
    record {
      within = omega (arith, within);
      columns = length-append b (v ∷ []) ∙ omega (arith, columns);
      beginning = record {
        positive = all_from_each {P = λ w. 1 ≤ w} (each_push (each_from_all (λ w. 1 ≤ w) b ready.beginning.positive) (omega (arith, positive, low)));
        ascends = ascends_append (λ u w. u ≤ w) b (v ∷ []) ready.beginning.ascends (all_from_each {P = λ w. v ≤ w} empty, tt) (λ x y i j. below x y i j);
      };
      positive = omega (arith, positive, low);
      ascends = all_from_each {P = λ w. w ≤ v} (each_push (each_weaker (λ w h. omega (arith, h, low)) (each_from_all (λ w. w ≤ least) b ready.ascends)) (omega arith));
      is_least = λ u k m. each_head (each_right b (v ∷ []) (each_from_all (λ w. w ≤ u) (b ++ v ∷ []) m.ascends));
      leaves = let t = total-append b (v ∷ []) in omega (arith, t, leaves, high);
      whole = λ e. let h = last e in omega (arith, h);
    }
  where
    only : (y k : ℕ) → k < 1 → get_or (v ∷ []) k y ≡ y → y ≡ v
    only y zero h i = sym i
    only y (suc k) h i = absurd (omega (arith, h))

    below : (x y : ℕ) → In x b → In y (v ∷ []) → x ≤ y
    below x y i j =
        let h = each_in (each_from_all (λ w. w ≤ least) b ready.ascends) i in
        let c = contains_from_in j in
        let same = only y c.0 c.1 c.2 in
        omega (arith, h, low, same)

-- the first weights of all
pub first_ready : (degree n : ℕ) → 1 < n → IsReady degree n [] 0 1 degree
first_ready degree n some = record {
  within = omega arith;
  columns = refl;
  beginning = record { positive = all_from_each {P = λ w. 1 ≤ w} empty; ascends = tt };
  positive = omega arith;
  ascends = all_from_each {P = λ w. w ≤ 1} empty;
  is_least = λ v k m. m.positive;
  leaves = omega arith;
  whole = λ e. absurd (omega (arith, e, some));
}

-- what is added behind no beginning is the list of the degree
pub systems_of_all : (degree n : ℕ) (new : List Weighted) → AddsSystems (IsCompleted degree n []) degree [] new → AreSystemsOfDegree degree n new
systems_of_all degree n new (xs, e, l) = subst (AreSystemsOfDegree degree n) (sym e) (record {
  ascends = ascends_map NumbersLess SystemLess (system_of degree) (λ x y h. inr (refl, h)) xs l.ascends;
  members = λ s. (λ c. to (from_map (system_of degree) xs (in_from_contains (map (system_of degree) xs) c)), λ h. from h.is_system h.columns h.degree_is);
})
  where
    to : {s : Weighted} → IsImage (system_of degree) xs s → IsSystemOfDegree degree n s
    to {s = s} m =
        let c = (l.members m.source).0 (contains_from_in m.member) in
        subst (IsSystemOfDegree degree n) (sym m.is) (record { columns = c.places; degree_is = refl; is_system = c.holds })

    from : {s : Weighted} → IsInteriorPointSystem s → length s.weights ≡ n → s.degree ≡ degree → Contains (map (system_of degree) xs) s
    from {s = s} holds columns same = contains_from_in (subst (λ (d : ℕ). In (system_of d s.weights) (map (system_of degree) xs)) (sym same)
        (in_map (system_of degree) (in_from_contains xs ((l.members s.weights).1 (record {
          rest = s.weights;
          is = refl;
          places = columns;
          holds = subst (λ (d : ℕ). IsInteriorPointSystem (system_of d s.weights)) same holds;
        })))))

-- a larger bound
pub below_wider : (degree n bound wider : ℕ) (b x : List ℕ) → bound ≤ wider → IsCompletedBelow degree n b bound x → IsCompletedBelow degree n b wider x
below_wider degree n bound wider b x h c = let below = c.below in
    record { number = c.number; rest = c.rest; below = omega (arith, h, below); is = c.is; places = c.places; holds = c.holds }

-- the front of a longer front
pub front_of : (xs ys : List ℕ) (k : ℕ) → take (k + 1) xs ≡ take (k + 1) ys → take k xs ≡ take k ys
front_of xs ys k e = sym (shorter xs) ∙ (ap (λ (zs : List ℕ). take k zs) e ∙ shorter ys)
  where
    shorter : (zs : List ℕ) → take k (take (k + 1) zs) ≡ take k zs
    shorter zs = grind (arith, take-take)
