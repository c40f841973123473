-- Faces of a relation that is read the other way: a face goes to its dual face, its rank to the dual's corank, and a sum over faces to one over
-- their duals.
use Rattle.std.proofs.Common.{◌≡◌, ◌≢◌, ℕ, suc, ◌<◌, ◌≤◌, Bool, true, List, [], ◌∷◌, length, map, refl, sym, ap, ◌∙◌, subst, arith, sum_by, AllPairs, Contains}
use Rattle.std.proofs.lemmas.List.Kept.{AllPairs-cons}
use Rattle.std.proofs.lemmas.List.Sums.{sum_by-cons}
use Rattle.lattice_theory.proofs.Members.{In, here, there, Each, more, all_from_each, each_from_all, each_from_in, each_in, each_weaker, in_from_contains, contains_from_in}
use Rattle.lattice_theory.proofs.Sublists.{IsImage, in_map, from_map}
use Rattle.face_theory.specs.Sets.{in_set, IsProperPart, IsProperWhole}
use Rattle.face_theory.specs.Chains.{IsChainFrom, IsHeight}
use Rattle.face_theory.specs.Faces.{TightRelation, IsTightOn, IsFace, IsDualFace, IsRank, IsCorank}
use Rattle.face_theory.proofs.Sets.{in_set_width}
use Rattle.face_theory.proofs.DualFaces.{dual_exists_lem, dual_is_unique_lem, dual_reverses_lem, dual_tells_lem}
use Rattle.batyrev_theory.specs.FaceSums.{CountedFace, IsFaceSum}

-- the members of Q are the functions of R, and the other way round
pub record IsTurned (R Q : TightRelation) : Type 0 where
  pub members : Q.members ≡ R.functions
  pub functions : Q.functions ≡ R.members
  pub tight : (m f : ℕ) → m < R.members → f < R.functions → Q.tight f m ≡ R.tight m f

pub turned_back : (R Q : TightRelation) → IsTurned R Q → IsTurned Q R
turned_back R Q t = record {
  members = sym t.functions;
  functions = sym t.members;
  tight = λ f m l k. sym (t.tight m f (subst (λ (n : ℕ). m < n) t.functions k) (subst (λ (n : ℕ). f < n) t.members l));
}

-- a function of the dual face
listed : (R : TightRelation) (face dual : List Bool) → IsDualFace R face dual → (f : ℕ) → in_set dual f ≡ true → (f < R.functions) × IsTightOn R face f
listed R face dual d f h = let l = subst (λ (k : ℕ). f < k) d.width (in_set_width dual f h) in (l, (d.tight f l).0 h)

module _ (R Q : TightRelation) (t : IsTurned R Q) where
  tight_there : (m f : ℕ) → m < R.members → f < R.functions → R.tight m f ≡ true → Q.tight f m ≡ true
  tight_there m f l k h = t.tight m f l k ∙ h

  tight_here : (m f : ℕ) → m < R.members → f < R.functions → Q.tight f m ≡ true → R.tight m f ≡ true
  tight_here m f l k h = sym (t.tight m f l k) ∙ h

  -- the dual of the dual face is the face
  pub dual_there : (face dual : List Bool) → IsFace R face → IsDualFace R face dual → IsDualFace Q dual face
  dual_there face dual fa d = record {
    width = fa.width ∙ sym t.functions;
    tight = λ m l. let k = subst (λ (n : ℕ). m < n) t.functions l in (
      (λ h f i. let p = listed R face dual d f i in tight_there m f k p.0 (p.1 m h)),
      (λ all. (fa.closed m k).1 (λ f j u. tight_here m f k j (all f ((d.tight f j).1 u)))),
    );
  }

  -- the dual face is a face
  pub face_there : (face dual : List Bool) → IsFace R face → IsDualFace R face dual → IsFace Q dual
  face_there face dual fa d = record {
    width = d.width ∙ sym t.members;
    closed = λ f l. let k = subst (λ (n : ℕ). f < n) t.members l in (
      (λ h m j u. u f h),
      (λ all. (d.tight f k).1 (λ m i. let w = subst (λ (n : ℕ). m < n) fa.width (in_set_width face m i) in
          tight_here m f w k (all m (subst (λ (n : ℕ). m < n) (sym t.functions) w)
          (λ g j. let p = listed R face dual d g j in tight_there m g w p.0 (p.1 m i))))),
    );
  }

-- a chain of so many faces behind the dual face
record TurnedChain (Q : TightRelation) (less : List Bool → List Bool → Type 0) (dual : List Bool) (n : ℕ) : Type 0 where
  chain : List (List Bool)
  is_chain : IsChainFrom (IsFace Q) less dual chain
  length_is : length chain ≡ n

-- what is less among faces is the other among their duals
abbrev Turns : TightRelation → (List Bool → List Bool → Type 0) → (List Bool → List Bool → Type 0) → Type 0
Turns R less other = (a b d e : List Bool) → IsFace R a → IsFace R b → IsDualFace R a d → IsDualFace R b e → less a b → other d e

turned_chain : (R Q : TightRelation) → IsTurned R Q → (less other : List Bool → List Bool → Type 0) → Turns R less other
    → (face dual : List Bool) → IsFace R face → IsDualFace R face dual → (chain : List (List Bool)) → IsChainFrom (IsFace R) less face chain
    → TurnedChain Q other dual (length chain)
turned_chain R Q t less other turns face dual fa d [] c = record { chain = []; is_chain = tt; length_is = refl }
turned_chain R Q t less other turns face dual fa d (x ∷ xs) c =
    let fx = c.0 in
    let e = dual_exists_lem R x fx.width in
    let rest = turned_chain R Q t less other turns x e.0 fx e.1 xs c.2 in
    record {
      chain = e.0 ∷ rest.chain;
      is_chain = (face_there R Q t x e.0 fx e.1, turns x face e.0 dual fx fa e.1 d c.1, rest.is_chain);
      length_is = ap suc rest.length_is;
    }

turned_height : (R Q : TightRelation) → IsTurned R Q → (less other : List Bool → List Bool → Type 0) → Turns R less other → Turns Q other less
    → (face dual : List Bool) → IsFace R face → IsDualFace R face dual → (k : ℕ) → IsHeight (IsFace R) less face k
    → IsHeight (IsFace Q) other dual k
turned_height R Q t less other turns back face dual fa d k h = by (turned_chain R Q t less other turns face dual fa d h.longest h.is_chain)
  where
    by : TurnedChain Q other dual (length h.longest) → IsHeight (IsFace Q) other dual k
    by r = record {
      longest = r.chain;
      length_is = r.length_is ∙ h.length_is;
      is_chain = r.is_chain;
      most = λ chain c.
          let b = turned_chain Q R (turned_back R Q t) other less back dual face (face_there R Q t face dual fa d)
          (dual_there R Q t face dual fa d) chain c in
          subst (λ (n : ℕ). n ≤ k) b.length_is (h.most b.chain b.is_chain);
    }

part_turns : (R : TightRelation) → Turns R IsProperPart IsProperWhole
part_turns R a b d e fa fb da db h = (
  (dual_reverses_lem R a b d e fa fb da db).0 h.0,
  λ same. h.1 (dual_tells_lem R a b d fa fb da (subst (IsDualFace R b) same db)),
)

whole_turns : (R : TightRelation) → Turns R IsProperWhole IsProperPart
whole_turns R a b d e fa fb da db h = (
  (dual_reverses_lem R b a e d fb fa db da).0 h.0,
  λ same. h.1 (dual_tells_lem R b a e fb fa db (subst (IsDualFace R a) same da)),
)

-- the rank is the corank of the dual face, and the corank its rank
pub rank_there : (R Q : TightRelation) → IsTurned R Q → (face dual : List Bool) → IsFace R face → IsDualFace R face dual → (k : ℕ)
    → IsRank R face k → IsCorank Q dual k
rank_there R Q t face dual fa d k h = turned_height R Q t IsProperPart IsProperWhole (part_turns R) (whole_turns Q) face dual fa d k h

pub corank_there : (R Q : TightRelation) → IsTurned R Q → (face dual : List Bool) → IsFace R face → IsDualFace R face dual → (k : ℕ)
    → IsCorank R face k → IsRank Q dual k
corank_there R Q t face dual fa d k h = turned_height R Q t IsProperWhole IsProperPart (whole_turns R) (part_turns Q) face dual fa d k h

pub rank_back : (R Q : TightRelation) → IsTurned R Q → (face dual : List Bool) → IsFace R face → IsDualFace R face dual → (k : ℕ)
    → IsCorank Q dual k → IsRank R face k
rank_back R Q t face dual fa d k h = corank_there Q R (turned_back R Q t) dual face (face_there R Q t face dual fa d)
    (dual_there R Q t face dual fa d) k h

-- faces and their duals, one by one, with the same numbers
data GoTogether (R : TightRelation) : List CountedFace → List CountedFace → Type 0 where
  none : GoTogether R [] []
  next : {b c : CountedFace} {bs cs : List CountedFace} → IsFace R b.set → IsDualFace R b.set c.set → c.number ≡ b.number
      → GoTogether R bs cs → GoTogether R (b ∷ bs) (c ∷ cs)

record HasDuals (R : TightRelation) (faces : List CountedFace) : Type 0 where
  duals : List CountedFace
  together : GoTogether R faces duals

has_duals : (R : TightRelation) (faces : List CountedFace) → Each (λ c. IsFace R c.set) faces → HasDuals R faces
has_duals R [] h = record { duals = []; together = none }
has_duals R (b ∷ bs) (more face rest) =
    let d = dual_exists_lem R b.set face.width in
    let r = has_duals R bs rest in
    record { duals = record { set = d.0; number = b.number } ∷ r.duals; together = next face d.1 refl r.together }

-- the two of a place
record Couple (R : TightRelation) (bs cs : List CountedFace) (b c : CountedFace) : Type 0 where
  face_in : In b bs
  dual_in : In c cs
  face : IsFace R b.set
  dual : IsDualFace R b.set c.set
  number : c.number ≡ b.number

deeper : {R : TightRelation} {bs cs : List CountedFace} {b c x y : CountedFace} → Couple R bs cs b c → Couple R (x ∷ bs) (y ∷ cs) b c
deeper p = record { face_in = there p.face_in; dual_in = there p.dual_in; face = p.face; dual = p.dual; number = p.number }

of_dual : {R : TightRelation} {bs cs : List CountedFace} {c : CountedFace} → GoTogether R bs cs → In c cs
    → (b : CountedFace) × Couple R bs cs b c
of_dual none i = elim i [ ]
of_dual (next {b = b} face dual number rest) here =
    (b, record { face_in = here; dual_in = here; face = face; dual = dual; number = number })
of_dual (next face dual number rest) (there i) = let p = of_dual rest i in (p.0, deeper p.1)

of_face : {R : TightRelation} {bs cs : List CountedFace} {b : CountedFace} → GoTogether R bs cs → In b bs
    → (c : CountedFace) × Couple R bs cs b c
of_face none i = elim i [ ]
of_face (next {c = c} face dual number rest) here =
    (c, record { face_in = here; dual_in = here; face = face; dual = dual; number = number })
of_face (next face dual number rest) (there i) = let p = of_face rest i in (p.0, deeper p.1)

-- the same sum
same_sum : {R : TightRelation} {bs cs : List CountedFace} → GoTogether R bs cs
    → sum_by (λ (c : CountedFace). c.number) cs ≡ sum_by (λ (c : CountedFace). c.number) bs
same_sum none = refl
same_sum (next {b = b} {c = c} {bs = bs} {cs = cs} face dual number rest) =
    let p = sum_by-cons (λ (x : CountedFace). x.number) b bs in
    let q = sum_by-cons (λ (x : CountedFace). x.number) c cs in
    let r = same_sum rest in
    omega arith

-- no dual stands twice
duals_once : {R : TightRelation} {bs cs : List CountedFace} → GoTogether R bs cs → AllPairs (λ a b. a.set ≢ b.set) bs
    → AllPairs (λ a b. a.set ≢ b.set) cs
duals_once none h = λ i j d l m. absurd (omega arith)
duals_once {R = R} (next {b = b} {c = c} {bs = bs} {cs = cs} face dual number rest) h =
    AllPairs-cons (λ (x y : CountedFace). x.set ≢ y.set) c cs
    (all_from_each {P = λ (y : CountedFace). c.set ≢ y.set} (each_from_in cs (λ y i. apart y (of_dual rest i))))
    (duals_once rest (λ i j d l m. h (suc i) (suc j) d (omega arith) (omega arith)))
  where
    others : Each (λ (x : CountedFace). b.set ≢ x.set) bs
    others = each_from_all (λ (x : CountedFace). b.set ≢ x.set) bs (λ k d l. h 0 (suc k) d (omega arith) (omega arith))

    apart : (y : CountedFace) → (x : CountedFace) × Couple R bs cs x y → c.set ≢ y.set
    apart y p same = let q = p.1 in let x = p.0 in each_in others q.face_in
        (dual_tells_lem R b.set x.set c.set face q.face dual (subst (IsDualFace R x.set) (sym same) q.dual))

-- a sum over faces is one over their duals
module _ (R Q : TightRelation) (t : IsTurned R Q) (P P' : List Bool → Type 0) (N N' : List Bool → ℕ → Type 0)
    (there_is : (face dual : List Bool) → IsFace R face → IsDualFace R face dual → P face → P' dual)
    (back_is : (face dual : List Bool) → IsFace R face → IsDualFace R face dual → P' dual → P face)
    (number_is : (face dual : List Bool) (k : ℕ) → IsFace R face → IsDualFace R face dual → N face k → N' dual k) where
  pub turned_sum : (s : ℕ) → IsFaceSum R P N s → IsFaceSum Q P' N' s
  turned_sum s h = by (has_duals R h.faces (each_weaker (λ c p. p.0) each))
    where
      each : Each (λ c. IsFace R c.set × P c.set × N c.set c.number) h.faces
      each = each_from_all (λ c. IsFace R c.set × P c.set × N c.set c.number) h.faces h.each

      by : HasDuals R h.faces → IsFaceSum Q P' N' s
      by d = record {
        faces = d.duals;
        once = duals_once d.together h.once;
        each = all_from_each (each_from_in d.duals (λ c i. holds c (of_dual d.together i)));
        all = all;
        sum = same_sum d.together ∙ h.sum;
      }
        where
          holds : (c : CountedFace) → (b : CountedFace) × Couple R h.faces d.duals b c → IsFace Q c.set × P' c.set × N' c.set c.number
          holds c p = let b = p.0 in let q = p.1 in let x = each_in each q.face_in in (
            face_there R Q t b.set c.set q.face q.dual,
            there_is b.set c.set q.face q.dual x.1,
            subst (N' c.set) (sym q.number) (number_is b.set c.set b.number q.face q.dual x.2),
          )

          all : (x : List Bool) → IsFace Q x → P' x → Contains (map (λ c. c.set) d.duals) x
          all x fx px = at (dual_exists_lem Q x fx.width)
            where
              at : (y : List Bool) × IsDualFace Q x y → Contains (map (λ c. c.set) d.duals) x
              at (y, dual) = found (from_map (λ (c : CountedFace). c.set) h.faces (in_from_contains (map (λ (c : CountedFace). c.set) h.faces)
                  (h.all y face (back_is y x face own px))))
                where
                  face : IsFace R y
                  face = face_there Q R (turned_back R Q t) x y fx dual

                  own : IsDualFace R y x
                  own = dual_there Q R (turned_back R Q t) x y fx dual

                  found : IsImage (λ (c : CountedFace). c.set) h.faces y → Contains (map (λ c. c.set) d.duals) x
                  found i = placed (of_face d.together i.member)
                    where
                      placed : (c : CountedFace) × Couple R h.faces d.duals i.source c → Contains (map (λ c. c.set) d.duals) x
                      placed p = let c = p.0 in let q = p.1 in contains_from_in
                          (subst (λ (z : List Bool). In z (map (λ (e : CountedFace). e.set) d.duals))
                          (dual_is_unique_lem R y c.set x (subst (λ (z : List Bool). IsDualFace R z c.set) (sym i.is) q.dual) own)
                          (in_map (λ (e : CountedFace). e.set) q.dual_in))
