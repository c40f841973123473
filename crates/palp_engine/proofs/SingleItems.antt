-- An item has one piece, or none, or one refusal.
use Rattle.std.specs.Prelude.{IsTrue}
use Rattle.std.proofs.Common.{◌≡◌, ℕ, Bool, true, false, List, ◌++◌, ℤ, refl, sym, ap, ◌∙◌, subst, inl, inr, rules}
use Rattle.lattice_core.specs.Dimensions.{dimension_of}
use Rattle.lattice_core.specs.declared.faults.Refusal.{Refusal}
use Rattle.lattice_core.specs.declared.faults.Refusal.TheVariants.{Limit}
use Rattle.lattice_core.specs.declared.faults.LimitName.TheVariants.{Faces}
use Rattle.face_closing.specs.Tables.{HasMoreFaces}
use Rattle.face_poset.specs.Counts.{AreFaceCounts}
use Rattle.face_poset.proofs.FaceCounts.{face_counts_are_single_lem}
use Rattle.palp_words.specs.declared.job.PolyFlags.{PolyFlags}
use Rattle.palp_input.specs.Grammar.{Listed}
use Rattle.item_points.specs.Points.{IsPointsRefusal}
use Rattle.item_points.proofs.SingleItems.{one_list_of_points, one_points_refusal, points_or_refusal, points_are_item_points}
use Rattle.dual_pair.specs.Polytopes.{PolytopeState, IsPolytopeOf}
use Rattle.dual_pair.specs.Pairs.{IsReflexivePolytope, HasNoDual}
use Rattle.dual_pair.specs.Faces.{on_facets}
use Rattle.batyrev.specs.declared.line.HodgeLine.{HodgeLine}
use Rattle.palp_print.specs.Blocks.{columns, pairing, incidence}
use Rattle.palp_print.specs.declared.titles.Title.TheVariants.{Vertices, Points}
use Rattle.palp_engine.specs.Reports.{HaveFewPoints, IsRefused}
use Rattle.palp_engine.specs.Shown.{Shown, Alone, Paired, shown_polytope, IsShown, AskFaces, AreNumbersOf}
use Rattle.item_polytopes.specs.Kinds.{HasPolytope}
use Rattle.item_polytopes.proofs.SingleKinds.{one_polytope}
use Rattle.palp_engine.specs.Items.{IsHullRefusal, HasNoAskedDual, HasManyFaces, IsAskedRefusal, no_asked_dual, many_faces, IsItemRefused}
use Rattle.palp_print.specs.Lists.{item_echo}
use Rattle.palp_engine.specs.Items.{IsAccepted, facet_block, asked, general_line, dual_columns, blocks}
use Rattle.palp_engine.specs.Laws.{OnePiece, OneItemRefusal, PieceOrRefusal, PieceOrNone, NoneOrRefusal}
use Rattle.palp_engine.proofs.SingleAnswers.{one_refusal, polytope_or_refusal}
use Rattle.palp_engine.proofs.SingleShown.{one_line, one_no_dual, one_shown, shown_or_no_dual}

-- what is said of points holds of the same ones
refused_same : (points others : List (List ℤ)) (cause : Refusal) → points ≡ others → IsRefused (dimension_of others) others cause
    → IsRefused (dimension_of points) points cause
refused_same points others cause same h = subst (λ (xs : List (List ℤ)). IsRefused (dimension_of xs) xs cause) (sym same) h

one_hull_refusal : (item : Listed) (cause other : Refusal) → IsHullRefusal item cause → IsHullRefusal item other → cause ≡ other
one_hull_refusal item cause other a b =
    let same = one_list_of_points item a.points b.points a.has_points b.has_points in
    let some = (points_are_item_points item a.points a.has_points).sized.are_points.some in
    one_refusal (dimension_of a.points) a.points cause other some a.refused (refused_same a.points b.points other same b.refused)

-- an item has one polytope, and then its points aren't refused
few_of : (points : List (List ℤ)) (p : PolytopeState) → IsPolytopeOf points p → HaveFewPoints (dimension_of points) points
few_of points p h = record {
  polytope = record {
    faces = record { solid = h.solid.solid; facets = p.facets; are_facets = h.facets_are; few = h.few_facets };
    vertices = p.vertices;
    are_vertices = h.vertices_are;
    few = h.few_vertices;
  };
  lattice = p.points;
  are_lattice_points = h.points_are;
  few = h.few_points;
}

polytope_or_points_refusal : (item : Listed) (p : PolytopeState) (cause : Refusal) → HasPolytope item p → IsPointsRefusal item cause → ⊥
polytope_or_points_refusal item p cause h r = points_or_refusal item h.points cause h.has_points r

polytope_or_hull_refusal : (item : Listed) (p : PolytopeState) (cause : Refusal) → HasPolytope item p → IsHullRefusal item cause → ⊥
polytope_or_hull_refusal item p cause h r =
    let same = one_list_of_points item h.points r.points h.has_points r.has_points in
    polytope_or_refusal (dimension_of h.points) h.points cause (few_of h.points p h.is_polytope)
    (refused_same h.points r.points cause same r.refused)

-- what is refused where the letters ask more of a polytope
record IsOfPolytope (item : Listed) : Type 0 where
  polytope : PolytopeState
  has_polytope : HasPolytope item polytope

of_polytope : (flags : PolyFlags) (item : Listed) (cause : Refusal) → IsAskedRefusal flags item cause → IsOfPolytope item
of_polytope flags item cause (no_asked_dual d) = record { polytope = d.polytope; has_polytope = d.has_polytope }
of_polytope flags item _ (many_faces m) = record { polytope = m.polytope; has_polytope = m.has_polytope }

-- the dual of an item that is printed isn't refused
dual_or_shown : (flags : PolyFlags) (item : Listed) (p : PolytopeState) (shown : Shown) (cause : Refusal) → HasPolytope item p
    → IsShown flags p shown → HasNoAskedDual flags item cause → ⊥
dual_or_shown flags item p shown cause h is d = shown_or_no_dual flags p shown cause is d.are_asked
    (subst (λ (q : PolytopeState). HasNoDual q cause) (one_polytope item d.polytope p d.has_polytope h) d.no_dual)

one_asked_refusal : (flags : PolyFlags) (item : Listed) (cause other : Refusal) → IsAskedRefusal flags item cause
    → IsAskedRefusal flags item other → cause ≡ other
one_asked_refusal flags item cause other (no_asked_dual a) (no_asked_dual b) = one_no_dual a.polytope cause other a.no_dual
    (subst (λ (q : PolytopeState). HasNoDual q other) (one_polytope item b.polytope a.polytope b.has_polytope a.has_polytope) b.no_dual)
one_asked_refusal flags item cause _ (no_asked_dual a) (many_faces b) =
    absurd (dual_or_shown flags item b.polytope b.shown cause b.has_polytope b.is_shown a)
one_asked_refusal flags item _ other (many_faces a) (no_asked_dual b) =
    absurd (dual_or_shown flags item a.polytope a.shown other a.has_polytope a.is_shown b)
one_asked_refusal flags item _ _ (many_faces a) (many_faces b) = ap (Limit Faces) (a.told_is ∙ sym b.told_is)

pub one_item_refusal : OneItemRefusal
one_item_refusal flags item cause other (inl a) (inl b) = one_points_refusal item cause other a b
one_item_refusal flags item cause other (inl a) (inr (inl b)) = absurd (points_or_refusal item b.points cause b.has_points a)
one_item_refusal flags item cause other (inl a) (inr (inr b)) =
    let f = of_polytope flags item other b in absurd (polytope_or_points_refusal item f.polytope cause f.has_polytope a)
one_item_refusal flags item cause other (inr (inl a)) (inl b) = absurd (points_or_refusal item a.points other a.has_points b)
one_item_refusal flags item cause other (inr (inl a)) (inr (inl b)) = one_hull_refusal item cause other a b
one_item_refusal flags item cause other (inr (inl a)) (inr (inr b)) =
    let f = of_polytope flags item other b in absurd (polytope_or_hull_refusal item f.polytope cause f.has_polytope a)
one_item_refusal flags item cause other (inr (inr a)) (inl b) =
    let f = of_polytope flags item cause a in absurd (polytope_or_points_refusal item f.polytope other f.has_polytope b)
one_item_refusal flags item cause other (inr (inr a)) (inr (inl b)) =
    let f = of_polytope flags item cause a in absurd (polytope_or_hull_refusal item f.polytope other f.has_polytope b)
one_item_refusal flags item cause other (inr (inr a)) (inr (inr b)) = one_asked_refusal flags item cause other a b

-- an item that isn't refused is printed in one way
module _ (flags : PolyFlags) (item : Listed) (p : PolytopeState) (shown : Shown) (a : IsAccepted flags item p shown) where
  pub same_shown : (q : PolytopeState) (other : Shown) → HasPolytope item q → IsShown flags q other → shown ≡ other
  same_shown q other h is = one_shown flags p shown other a.is_shown
      (subst (λ (r : PolytopeState). IsShown flags r other) (one_polytope item q p h a.has_polytope) is)

  -- and isn't refused
  faces_or_accepted : (told : ℕ) → HasManyFaces flags item told → ⊥
  faces_or_accepted told m =
      let same = sym (same_shown m.polytope m.shown m.has_polytope m.is_shown) in
      a.few_faces (subst (AskFaces flags) same m.are_asked)
      (subst (λ (s : Shown). HasMoreFaces (on_facets (shown_polytope s))) same m.more)

  pub accepted_or_refused : (cause : Refusal) → IsItemRefused flags item cause → ⊥
  accepted_or_refused cause (inl b) = polytope_or_points_refusal item p cause a.has_polytope b
  accepted_or_refused cause (inr (inl b)) = polytope_or_hull_refusal item p cause a.has_polytope b
  accepted_or_refused cause (inr (inr (no_asked_dual b))) = dual_or_shown flags item p shown cause a.has_polytope a.is_shown b
  accepted_or_refused _ (inr (inr (many_faces {told = told} b))) = faces_or_accepted told b

-- what isn't asked doesn't matter
asked_text : (on : Bool) (xs ys : List ℕ) → (IsTrue on → xs ≡ ys) → asked on xs ≡ asked on ys
asked_text true xs ys e = e (search rules)
asked_text false xs ys e = refl

-- the numbers on the general line
same_line : (flags : PolyFlags) (shown : Shown) (a b : HodgeLine) → AreNumbersOf flags shown a → AreNumbersOf flags shown b
    → IsTrue flags.general → general_line shown a ≡ general_line shown b
same_line flags (Alone p) a b h k on = refl
same_line flags (Paired pair) a b h k on = ap (general_line (Paired pair)) (one_line pair.m a b (h on) (k on))

-- one text is printed in one way
pub one_text : (flags : PolyFlags) (item : Listed) (shown other : Shown) → shown ≡ other → (a b : HodgeLine) → AreNumbersOf flags shown a
    → AreNumbersOf flags other b → (cs ds : List ℕ)
    → (IsTrue flags.incidence → AreFaceCounts (on_facets (shown_polytope shown)) (dimension_of (shown_polytope shown).vertices) cs)
    → (IsTrue flags.incidence → AreFaceCounts (on_facets (shown_polytope other)) (dimension_of (shown_polytope other).vertices) ds)
    → blocks flags item shown a cs ≡ blocks flags item other b ds
one_text flags item shown other same a b h k cs ds c d =
    both ∙ ap (λ (s : Shown). blocks flags item s b ds) same
  where
    b_is : AreNumbersOf flags shown b
    b_is = subst (λ (s : Shown). AreNumbersOf flags s b) (sym same) k

    ds_are : IsTrue flags.incidence → AreFaceCounts (on_facets (shown_polytope shown)) (dimension_of (shown_polytope shown).vertices) ds
    ds_are on = subst (λ (s : Shown). AreFaceCounts (on_facets (shown_polytope s)) (dimension_of (shown_polytope s).vertices) ds) (sym same) (d on)

    line : asked flags.general (item_echo item ++ general_line shown a) ≡ asked flags.general (item_echo item ++ general_line shown b)
    line = asked_text flags.general _ _ (λ on. ap (λ (t : List ℕ). item_echo item ++ t) (same_line flags shown a b h b_is on))

    counted : asked flags.incidence (incidence cs (shown_polytope shown).facets (shown_polytope shown).vertices)
        ≡ asked flags.incidence (incidence ds (shown_polytope shown).facets (shown_polytope shown).vertices)
    counted = asked_text flags.incidence _ _ (λ on. ap
        (λ (ns : List ℕ). incidence ns (shown_polytope shown).facets (shown_polytope shown).vertices)
        (face_counts_are_single_lem (on_facets (shown_polytope shown)) (dimension_of (shown_polytope shown).vertices) cs ds (c on) (ds_are on)))

    both : blocks flags item shown a cs ≡ blocks flags item shown b ds
    both = λ i. line i ++ (asked flags.points (columns Points (shown_polytope shown).points)
        ++ (asked flags.vertices (columns Vertices (shown_polytope shown).vertices)
        ++ (asked flags.equations (facet_block (shown_polytope shown).facets)
        ++ (asked flags.matrix (pairing (shown_polytope shown).facets (shown_polytope shown).vertices)
        ++ (asked flags.dual_points (dual_columns shown) ++ counted i)))))

pub one_piece : OnePiece
one_piece flags item piece other a b =
    let same = same_shown flags item a.polytope a.shown a.accepted b.polytope b.shown b.accepted.has_polytope b.accepted.is_shown in
    a.written ∙ one_text flags item a.shown b.shown same a.numbers b.numbers a.are_numbers b.are_numbers a.counts b.counts a.are_counts
    b.are_counts ∙ sym b.written

pub piece_or_refusal : PieceOrRefusal
piece_or_refusal flags item piece cause a r = accepted_or_refused flags item a.polytope a.shown a.accepted cause r

pub piece_or_none : PieceOrNone
piece_or_none flags item piece a b =
    b.other (subst IsReflexivePolytope (one_polytope item a.polytope b.polytope a.accepted.has_polytope b.accepted.has_polytope)
    (a.is_wanted b.reflexive_only))

pub none_or_refusal : NoneOrRefusal
none_or_refusal flags item cause a r = accepted_or_refused flags item a.polytope a.shown a.accepted cause r
