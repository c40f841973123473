-- What is told of the numbers of a nef partition is told once.
use Rattle.std.specs.List.{All}
use Rattle.std.proofs.Common.{◌≡◌, ℕ, ◌+◌, ◌-◌, ◌<◌, ◌≤◌, List, true, length, ℤ, nat_abs, refl, sym, ap, ap₂, ◌∙◌, subst, arith}
use Rattle.std.proofs.lemmas.List.{length-map}
use Rattle.face_theory.specs.Sets.{numbers_with}
use Rattle.face_theory.specs.Faces.{TightRelation, IsFace}
use Rattle.face_theory.specs.Pairings.{paired}
use Rattle.face_theory.proofs.Sets.{length-numbers_with, in_set-numbers_with}
use Rattle.lattice_core.specs.Dimensions.{dimension_of}
use Rattle.lattice_core.specs.declared.faults.Refusal.{Refusal}
use Rattle.lattice_core.specs.declared.faults.Refusal.TheVariants.{Flat, Limit}
use Rattle.lattice_core.specs.declared.faults.LimitName.TheVariants.{ConeFaces, ConeM, ConeN, Coef}
use Rattle.face_closing.specs.Words.{set_of}
use Rattle.face_closing.specs.Tables.{HasMoreFaces}
use Rattle.face_closing.specs.declared.limits.TheConstants.{MOST_FACES}
use Rattle.face_poset.specs.Faces.{FaceState, TableState, face_at, IsTableOf, IsTopRank}
use Rattle.face_poset.proofs.ListedFaces.{top_last}
use Rattle.stringy.specs.Numbers.{EState}
use Rattle.dual_pair.specs.Pairs.{PairState}
use Rattle.cayley_theory.specs.Cones.{AreConeMembers, AreConeFunctions}
use Rattle.cayley_theory.proofs.ConeCounts.{cones_are_single_lem}
use Rattle.cayley.specs.PairCones.{ConeState}
use Rattle.cayley.proofs.TopRanks.{cone_top_rank_bound_lem}
use Rattle.cone_counts.specs.FaceCounts.{HasManyOnM, HasManyOnN}
use Rattle.cone_counts.specs.declared.limits.TheConstants.{MOST_PAIRS}
use Rattle.nef_numbers.specs.Numbers.{IsConeInto, HasConeNumbers, HasLargeCoefficient, IsConeRefusal}
use Rattle.nef_numbers.specs.Laws.{TellTheSame, NumbersAreSingle, OneNumbersRefusal, NumbersOrRefusal}
use Rattle.nef_numbers.proofs.RoomFacts.{few_or_more}
use Rattle.nef_numbers.proofs.ToldNumbers.{tell_the_same}
use Rattle.nef_numbers.proofs.SameNumbers.{same_numerator}
use Rattle.nef_numbers.proofs.LargeCoefficients.{first_large_single, first_large_moves, small_or_large}

abbrev cone_with : ℕ → ℕ → List (List ℤ) → List (List ℤ) → ConeState
cone_with dim parts members functions = record { dim = dim; parts = parts; members = members; functions = functions }

-- a nef partition has one cone
module _ (pair : PairState) (r : ℕ) (part_of : List ℕ) where
  members_in : (c : ConeState) → IsConeInto pair r part_of c
      → AreConeMembers (dimension_of pair.m.vertices) pair.m.vertices pair.n.vertices r part_of c.members
  members_in c h = subst (λ (n : ℕ). AreConeMembers n pair.m.vertices pair.n.vertices r part_of c.members) h.is_cone.dim_is
      (subst (λ (k : ℕ). AreConeMembers c.dim pair.m.vertices pair.n.vertices k part_of c.members) h.parts_are h.is_cone.members_are)

  functions_in : (c : ConeState) → IsConeInto pair r part_of c → AreConeFunctions (dimension_of pair.m.vertices) pair.n.vertices r part_of c.functions
  functions_in c h = subst (λ (n : ℕ). AreConeFunctions n pair.n.vertices r part_of c.functions) h.is_cone.dim_is
      (subst (λ (k : ℕ). AreConeFunctions c.dim pair.n.vertices k part_of c.functions) h.parts_are h.is_cone.functions_are)

  same_cone : (c d : ConeState) → IsConeInto pair r part_of c → IsConeInto pair r part_of d → c ≡ d
  same_cone c d h k =
      let e = cones_are_single_lem (dimension_of pair.m.vertices) pair.m.vertices pair.n.vertices r part_of c.members d.members c.functions d.functions
      (members_in c h) (members_in d k) (functions_in c h) (functions_in d k) in
      ap₂ (λ (n k : ℕ). cone_with n k c.members c.functions) h.is_cone.dim_is h.parts_are
      ∙ ap₂ (λ (xs fs : List (List ℤ)). cone_with (dimension_of pair.m.vertices) r xs fs) e.0 e.1
      ∙ ap₂ (λ (n k : ℕ). cone_with n k d.members d.functions) (sym k.is_cone.dim_is) (sym k.parts_are)

-- a table of all faces has a highest rank
module _ (R : TightRelation) (table : TableState) (t : IsTableOf R table) where
  whole_is_face : IsFace R (numbers_with R.members (λ i. true))
  whole_is_face = record {
    width = length-numbers_with R.members (λ i. true);
    closed = λ m l. (λ h f k tight. tight m h, λ h. in_set-numbers_with R.members (λ n. true) m l);
  }

  some_faces : 0 < length table.faces
  some_faces =
      let c = t.all (numbers_with R.members (λ i. true)) whole_is_face in
      let e = length-map table.faces (λ (face : FaceState). set_of R.members face.members) in
      let l = c.1 in omega arith

  highest : IsTopRank table.faces (face_at table.faces (length table.faces - 1)).rank
  highest = let l = some_faces in top_last table.faces (length table.faces - 1) (omega arith) t.ascending

-- the same numerator tells the same numbers
cone_numbers_tell : (cone : ConeState) (e f : EState) → (h : HasConeNumbers cone e) → HasConeNumbers cone f → 1 ≤ cone.dim + cone.parts
    → All (λ face. face.rank ≤ cone.dim + cone.parts) h.table.faces → TellTheSame e f
cone_numbers_tell cone e f h k some ranks =
    let R = paired cone.members cone.functions in
    let s = h.has_faces.are_faces in
    let t = k.has_faces.are_faces in
    let d : e.dim ≡ f.dim = let m = h.dim_is in let n = k.dim_is in omega arith in
    tell_the_same e f d (h.codim_is ∙ sym k.codim_is)
    (λ p q. h.numerator_is (face_at h.table.faces (length h.table.faces - 1)).rank (highest R h.table s) p q
    ∙ same_numerator cone h.table k.table s t h.counts k.counts h.has_counts k.has_counts some ranks
    (face_at h.table.faces (length h.table.faces - 1)).rank (face_at k.table.faces (length k.table.faces - 1)).rank
    (highest R h.table s) (highest R k.table t) p q
    ∙ sym (k.numerator_is (face_at k.table.faces (length k.table.faces - 1)).rank (highest R k.table t) p q))

pub numbers_are_single_lem : NumbersAreSingle
numbers_are_single_lem pair r part_of e f is within h k =
    let numbers = subst (λ (c : ConeState). HasConeNumbers c e) (same_cone pair r part_of h.cone k.cone h.is_cone k.is_cone) h.numbers in
    cone_numbers_tell k.cone e f numbers k.numbers
    (let l = within.0 in let d = k.is_cone.is_cone.dim_is in omega arith)
    (cone_top_rank_bound_lem pair part_of k.cone numbers.table is k.is_cone.is_cone numbers.has_faces.are_faces)

-- the steps at which a cone is refused, in order: each has passed the steps before
data Stopped (cone : ConeState) : Refusal → Type 0 where
  faces : {told : ℕ} → HasMoreFaces (paired cone.members cone.functions) → told ≡ MOST_FACES + 1 → Stopped cone (Limit ConeFaces told)
  vectors : {told : ℕ} → (HasMoreFaces (paired cone.members cone.functions) → ⊥) → HasManyOnM cone → told ≡ MOST_PAIRS + 1
      → Stopped cone (Limit ConeM told)
  dual_vectors : {told : ℕ} → (HasMoreFaces (paired cone.members cone.functions) → ⊥) → (HasManyOnM cone → ⊥) → HasManyOnN cone → told ≡ MOST_PAIRS + 1
      → Stopped cone (Limit ConeN told)
  coefficient : {told : ℕ} → (HasManyOnM cone → ⊥) → (HasManyOnN cone → ⊥) → HasLargeCoefficient cone told → Stopped cone (Limit Coef told)

stopped : (cone : ConeState) (cause : Refusal) → IsConeRefusal cone cause → Stopped cone cause
stopped cone (Flat f) h = absurd h
stopped cone (Limit ConeFaces told) h = faces h.0 h.1
stopped cone (Limit ConeM told) h = vectors h.0 h.1.0 h.1.1
stopped cone (Limit ConeN told) h = dual_vectors h.0 h.1.0 h.1.1 h.1.2
stopped cone (Limit Coef told) h = coefficient few few_dual h
  where
    few : HasManyOnM cone → ⊥
    few m = h.counted (Limit ConeM (MOST_PAIRS + 1)) (m, refl)

    few_dual : HasManyOnN cone → ⊥
    few_dual n = h.counted (Limit ConeN (MOST_PAIRS + 1)) (few, n, refl)
stopped cone (Limit other told) h = absurd h

-- a cone is refused for one cause
same_large : (cone : ConeState) (told other : ℕ) → HasLargeCoefficient cone told → HasLargeCoefficient cone other → told ≡ other
same_large cone told other h k = h.told_is ∙ ap nat_abs (first_large_single k.table h.from h.to h.degree k.from k.to k.degree h.value k.value
    (first_large_moves (paired cone.members cone.functions) h.table k.table h.has_faces.are_faces k.has_faces.are_faces h.from h.to h.degree h.value h.is_first)
    k.is_first) ∙ sym k.told_is

one_cause : (cone : ConeState) (cause other : Refusal) → Stopped cone cause → Stopped cone other → cause ≡ other
one_cause cone _ _ (faces h e) (faces k f) = ap (Limit ConeFaces) (e ∙ sym f)
one_cause cone _ _ (faces h e) (vectors few k f) = absurd (few h)
one_cause cone _ _ (faces h e) (dual_vectors few j k f) = absurd (few h)
one_cause cone _ _ (faces h e) (coefficient j k c) = absurd (few_or_more cone c.table c.has_faces h)
one_cause cone _ _ (vectors few h e) (faces k f) = absurd (few k)
one_cause cone _ _ (vectors few h e) (vectors others k f) = ap (Limit ConeM) (e ∙ sym f)
one_cause cone _ _ (vectors few h e) (dual_vectors others none k f) = absurd (none h)
one_cause cone _ _ (vectors few h e) (coefficient none k c) = absurd (none h)
one_cause cone _ _ (dual_vectors few none h e) (faces k f) = absurd (few k)
one_cause cone _ _ (dual_vectors few none h e) (vectors others k f) = absurd (none k)
one_cause cone _ _ (dual_vectors few none h e) (dual_vectors others never k f) = ap (Limit ConeN) (e ∙ sym f)
one_cause cone _ _ (dual_vectors few none h e) (coefficient j never c) = absurd (never h)
one_cause cone _ _ (coefficient none never c) (faces k f) = absurd (few_or_more cone c.table c.has_faces k)
one_cause cone _ _ (coefficient none never c) (vectors few k f) = absurd (none k)
one_cause cone _ _ (coefficient none never c) (dual_vectors few j k f) = absurd (never k)
one_cause cone _ _ (coefficient {told = told} none never c) (coefficient {told = other} i j d) = ap (Limit Coef) (same_large cone told other c d)

-- and not where it has numbers
numbers_or_stop : (cone : ConeState) (e : EState) (cause : Refusal) → HasConeNumbers cone e → Stopped cone cause → ⊥
numbers_or_stop cone e _ h (faces k f) = few_or_more cone h.table h.has_faces k
numbers_or_stop cone e _ h (vectors few k f) = h.has_counts.few_on_m k
numbers_or_stop cone e _ h (dual_vectors few j k f) = h.has_counts.few_on_n k
numbers_or_stop cone e _ h (coefficient j k c) =
    small_or_large (paired cone.members cone.functions) h.table c.table h.has_faces.are_faces c.has_faces.are_faces c.from c.to c.degree c.value h.small c.is_first

pub one_refusal_lem : OneNumbersRefusal
one_refusal_lem pair r part_of cause other h k = one_cause k.cone cause other
    (subst (λ (c : ConeState). Stopped c cause) (same_cone pair r part_of h.cone k.cone h.is_cone k.is_cone) (stopped h.cone cause h.refused))
    (stopped k.cone other k.refused)

pub numbers_or_refusal_lem : NumbersOrRefusal
numbers_or_refusal_lem pair r part_of e cause h k = numbers_or_stop k.cone e cause
    (subst (λ (c : ConeState). HasConeNumbers c e) (same_cone pair r part_of h.cone k.cone h.is_cone k.is_cone) h.numbers)
    (stopped k.cone cause k.refused)
