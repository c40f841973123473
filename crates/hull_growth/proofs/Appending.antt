-- Lists that grow at their end by the functions of which something holds, each once.
use Rattle.std.proofs.Common.{◌≡◌, ◌≢◌, ◌⊎◌, ◌↔◌, inl, inr, ⊎_elim, ℕ, suc, ◌+◌, ◌<◌, List, [], ◌∷◌, ◌++◌, length, get_or, take, drop}
use Rattle.std.proofs.Common.{refl, sym, ap, ◌∙◌, subst, Contains, append_assoc, append-nil, arith}
use Rattle.std.specs.List.{AllPairs}
use Rattle.std.proofs.lemmas.List.Kept.{AllPairs-cons}
use Rattle.std.proofs.lemmas.List.{get_or_default, take_more, take-append-drop, length-take, get_or-take}
use Rattle.std.proofs.lemmas.List.Elements.{All-append, All-weaker, All-contains_itself, Contains-append_left, Contains-append_right}
use Rattle.std.proofs.lemmas.List.Elements.{Contains-append_cases, Contains-push, Contains-push_cases}
use Rattle.lattice_theory.specs.Affine.{Affine}
use Rattle.lattice_theory.proofs.Members.{In, here, there, in_from_contains}
use Rattle.hull_growth.specs.steps.Growing.{Appends}

-- the members at one place are the same
pub same_at : (fs : List Affine) (i : ℕ) (f g : Affine) → i < length fs → f ≡ get_or fs i f → g ≡ get_or fs i g → f ≡ g
same_at fs i f g l a b = a ∙ get_or_default fs i f g l ∙ sym b

-- what holds of two lists holds of equal ones
pub both_same : (P : List Affine → List ℕ → Type 0) (fs gs : List Affine) (xs ys : List ℕ) → fs ≡ gs → xs ≡ ys → P gs ys → P fs xs
both_same P fs gs xs ys e d h = subst (λ us. P us xs) (sym e) (subst (P gs) (sym d) h)

-- a list with one more member contains that one and what it contained
pub contains_more : {X : Type 0} (xs : List X) (i : ℕ) (x y : X) → i < length xs → x ≡ get_or xs i x
    → Contains (take (i + 1) xs) y ↔ (Contains (take i xs) y ⊎ (x ≡ y))
contains_more xs i x y h e =
    subst (λ zs. Contains zs y ↔ (Contains (take i xs) y ⊎ (x ≡ y)))
    (ap (λ z. take i xs ++ (z ∷ [])) e ∙ sym (take_more xs i x h)) (there, back)
  where
    there : Contains (take i xs ++ (x ∷ [])) y → Contains (take i xs) y ⊎ (x ≡ y)
    there c = Contains-push_cases (take i xs) x y c

    back : Contains (take i xs) y ⊎ (x ≡ y) → Contains (take i xs ++ (x ∷ [])) y
    back (inl c) = Contains-append_left (take i xs) (x ∷ []) y c
    back (inr i') = subst (Contains (take i xs ++ (x ∷ []))) i' (Contains-push (take i xs) x)

-- members of a list that begins a list are its members
pub contains_all : {X : Type 0} (xs : List X) (i : ℕ) (y : X) → Contains (take i xs) y → Contains xs y
contains_all xs i y c = subst (λ zs. Contains zs y) (take-append-drop i xs) (Contains-append_left (take i xs) (drop i xs) y c)

-- where each stands once, the one at a place isn't among those before it
pub not_before : (fs : List Affine) (i : ℕ) (f : Affine) → AllPairs (λ f g. f ≢ g) fs → i < length fs → f ≡ get_or fs i f
    → Contains (take i fs) f → ⊥
not_before fs i f once l e (k, h, is) =
    let short = length-take i fs in
    let before : k < i = omega arith in
    once k i f before l (sym (get_or-take i fs k f before) ∙ is ∙ e)

-- two lists without a common member, end to end
pub pairs_append : (xs ys : List Affine) → AllPairs (λ f g. f ≢ g) xs → AllPairs (λ f g. f ≢ g) ys
    → ((f : Affine) → Contains xs f → Contains ys f → ⊥) → AllPairs (λ f g. f ≢ g) (xs ++ ys)
pairs_append [] ys once both apart = both
pairs_append (x ∷ xs) ys once both apart =
    AllPairs-cons (λ f g. f ≢ g) x (xs ++ ys)
    (All-append (λ g. x ≢ g) xs ys (λ k d l. once 0 (suc k) d (omega arith) (omega arith))
    (All-weaker (Contains ys) (λ g. x ≢ g) (λ g c e. apart x (0, omega arith, refl) (subst (Contains ys) (sym e) c)) ys
    (All-contains_itself ys)))
    (pairs_append xs ys (λ i j d a b. once (suc i) (suc j) d (omega arith) (omega arith)) both
    (λ f c. apart f (suc c.0, (let l = c.1 in omega arith), c.2)))

-- nothing is added
pub appends_none : (P : Affine → Type 0) (old : List Affine) → ((f : Affine) → P f → ⊥) → Appends P old old
appends_none P old none = record {
  more = [];
  whole = sym (append-nil old);
  members = λ f. (λ c. absurd (elim (in_from_contains [] c) [ ]), λ p. absurd (none f p));
  once = λ i j d a b. absurd (omega arith);
}

-- one more
pub appends_one : (P Q : Affine → Type 0) (old new : List Affine) (h : Affine) → Appends P old new → (P h → ⊥)
    → ((f : Affine) → Q f ↔ (P f ⊎ (h ≡ f))) → Appends Q old (new ++ (h ∷ []))
appends_one P Q old new h a fresh same = record {
  more = a.more ++ (h ∷ []);
  whole = ap (λ (fs : List Affine). fs ++ (h ∷ [])) a.whole ∙ append_assoc old a.more (h ∷ []);
  members = λ f. (
    λ c. (same f).1 (⊎_elim (λ (m : Contains a.more f). inl ((a.members f).0 m)) (λ (e : h ≡ f). inr e) (Contains-push_cases a.more h f c)),
    λ q. ⊎_elim (λ (p : P f). Contains-append_left a.more (h ∷ []) f ((a.members f).1 p))
        (λ (e : h ≡ f). subst (Contains (a.more ++ (h ∷ []))) e (Contains-push a.more h)) ((same f).0 q),
  );
  once = pairs_append a.more (h ∷ []) a.once (λ i j d l m. absurd (omega arith))
      (λ f c o. only f (in_from_contains (h ∷ []) o) ((a.members f).0 c));
}
  where
    only : (f : Affine) → In f (h ∷ []) → P f → ⊥
    only h here p = fresh p
    only f (there i) p = elim i [ ]

-- the same functions told otherwise
pub appends_same : (P Q : Affine → Type 0) (old new : List Affine) → ((f : Affine) → P f ↔ Q f) → Appends P old new → Appends Q old new
appends_same P Q old new same a = record {
  more = a.more;
  whole = a.whole;
  members = λ f. (λ c. (same f).0 ((a.members f).0 c), λ q. (a.members f).1 ((same f).1 q));
  once = a.once;
}

-- first the ones, then the others
pub appends_more : (P Q R : Affine → Type 0) (old middle new : List Affine) → Appends P old middle → Appends Q middle new
    → ((f : Affine) → P f → Q f → ⊥) → ((f : Affine) → R f ↔ (P f ⊎ Q f)) → Appends R old new
appends_more P Q R old middle new a b apart same = record {
  more = a.more ++ b.more;
  whole = b.whole ∙ ap (λ (fs : List Affine). fs ++ b.more) a.whole ∙ append_assoc old a.more b.more;
  members = λ f. (
    λ c. (same f).1 (⊎_elim (λ (m : Contains a.more f). inl ((a.members f).0 m)) (λ (m : Contains b.more f). inr ((b.members f).0 m))
        (Contains-append_cases a.more b.more f c)),
    λ r. ⊎_elim (λ (p : P f). Contains-append_left a.more b.more f ((a.members f).1 p))
        (λ (q : Q f). Contains-append_right a.more b.more f ((b.members f).1 q)) ((same f).0 r),
  );
  once = pairs_append a.more b.more a.once b.once (λ f c d. apart f ((a.members f).0 c) ((b.members f).0 d));
}
