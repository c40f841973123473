-- The piece of an item, by what was kept of its points.
use Rattle.std.specs.Prelude.{ℤ, Bool, true, false, ◌&&◌, ◌||◌, not, IsTrue, ◌↔◌, pos}
use Rattle.std.specs.Bool.{Decides}
use Rattle.std.specs.List.{All}
use Rattle.std.specs.Ordering.{int_eq}
use Rattle.std.proofs.Common.{◌≡◌, ℕ, ◌≤◌, List, [], ◌++◌, length, refl, sym, ◌∙◌, ap, subst, inl, inr, rules, ◌+◌, ◌⊎◌, take, arith}
use Rattle.std.proofs.lemmas.Bool.Decides.{Decides-int_eq, Decides-by_and}
use Rattle.std.proofs.lemmas.List.{length-take-le, get_or-take}
use Rattle.lattice_theory.specs.Affine.{Affine}
use Rattle.lattice_core.specs.Dimensions.{dimension_of}
use Rattle.lattice_core.specs.PointLists.{ArePoints}
use Rattle.lattice_core.specs.Stops.{Stops}
use Rattle.lattice_core.specs.declared.faults.Refusal.{Refusal}
use Rattle.lattice_core.specs.declared.faults.Refusal.TheVariants.{Flat, Limit}
use Rattle.lattice_core.specs.declared.faults.Fault.{Fault}
use Rattle.lattice_core.specs.declared.faults.Fault.TheVariants as faults
use Rattle.lattice_core.specs.declared.faults.LimitName.{LimitName}
use Rattle.face_theory.specs.Faces.{TightRelation}
use Rattle.face_theory.specs.Pairings.{valued}
use Rattle.face_poset.specs.Counts.{IsFaceCount}
use Rattle.face_poset.specs.Faces.{TableState, IsTableOf}
use Rattle.palp_words.specs.declared.job.PolyFlags.{PolyFlags}
use Rattle.palp_input.specs.Grammar.{Listed}
use Rattle.item_points.specs.Points.{HasPoints}
use Rattle.dual_pair.specs.Polytopes.{PolytopeState, IsPolytope}
use Rattle.dual_pair.specs.Pairs.{IsReflexivePolytope, PairState, IsPair, HasNoDual}
use Rattle.dual_pair.specs.Faces.{on_facets, AreFacesOf}
use Rattle.dual_pair.proofs.VertexLists.{of_vertices, reflexive}
use Rattle.batyrev.specs.Lines.{IsHodgeLine}
use Rattle.batyrev.specs.declared.line.HodgeLine.{HodgeLine}
use Rattle.batyrev.specs.declared.line.HodgeLine.TheVariants as lines
use Rattle.palp_print.specs.Lists.{item_echo, body_line}
use Rattle.palp_print.specs.Blocks.{ArePaired, columns, pairing, incidence}
use Rattle.palp_print.specs.declared.titles.Title.TheVariants.{Vertices, Points}
use Rattle.palp_engine.specs.Shown.{ask_dual, only_reflexive, Shown, Alone, Paired, shown_polytope, IsShown, HasNumbers, AskNumbers, AskFaces}
use Rattle.item_polytopes.specs.Kinds.{HasPolytope}
use Rattle.palp_engine.specs.Items.{IsItemRefused, IsPiece, IsUnwanted, no_asked_dual, many_faces, have_ones, facet_block}
use Rattle.palp_engine.specs.Items.{asked, blocks}
use Rattle.palp_engine.specs.Laws.{OnesTellReflexive}
use Rattle.palp_engine.specs.RunSteps.{ArePrinted, IsKept}
use Rattle.palp_engine.specs.FaceSteps.{lists_in, CanHaveFaces, IsFaceLimit, IsFaceStop, HaveFewFaces, AreNumbersWhere}
use Rattle.palp_engine.specs.PieceSteps.{list_points, lists_of, blocks_of, IsPairOf, IsAloneWritten, IsPairWritten, IsPairStop, IsWritten}
use Rattle.palp_engine.specs.declared.polytopes.Polytope.{Polytope}
use Rattle.palp_engine.proofs.PrintedPolytopes.{polytope_paired, polytope_points}
use Rattle.palp_engine.proofs.SingleShown.{own_reflexive}

-- what is false isn't true
not_true : {Z : Type 0} (b : Bool) → b ≡ false → IsTrue b → Z
not_true true e t = absurd (cc)
not_true false e t = absurd (search rules)

true_of : (b : Bool) → IsTrue b → b ≡ true
true_of true t = refl
true_of false t = absurd (search rules)

is_true : (b : Bool) → b ≡ true → IsTrue b
is_true true e = search rules
is_true false e = absurd (cc)

-- the points are listed where the dual is asked
listed_for_dual : (a b : Bool) → IsTrue b → IsTrue (a || b)
listed_for_dual true b t = search rules
listed_for_dual false b t = t

listed_for_points : (a b : Bool) → IsTrue a → IsTrue (a || b)
listed_for_points true b t = search rules
listed_for_points false b t = absurd (search rules)

-- the test of the constants
ones_decide : (facets : List Affine) → Decides (have_ones facets) (All (λ f. f.constant ≡ pos 1) facets)
ones_decide facets = Decides-by_and (λ (f : Affine). int_eq f.constant (pos 1)) (λ (f : Affine). f.constant ≡ pos 1) have_ones
    (λ f. Decides-int_eq f.constant (pos 1)) refl (λ f fs. refl) facets

pub ones_tell : OnesTellReflexive
ones_tell p is =
    let own = reflexive (dimension_of p.vertices) p.vertices p.facets is.facets_are in
    (λ t. own.0 ((ones_decide p.facets).0 (true_of (have_ones p.facets) t)), λ r. is_true (have_ones p.facets) ((ones_decide p.facets).1 (own.1 r)))

-- columns that aren't asked don't matter
asked_columns : (on : Bool) (xs ys : List (List ℤ)) → (IsTrue on → xs ≡ ys) → asked on (columns Points xs) ≡ asked on (columns Points ys)
asked_columns true xs ys e = ap (λ (zs : List (List ℤ)). columns Points zs) (e (search rules))
asked_columns false xs ys e = refl

asked_nothing : (on : Bool) → asked on [] ≡ []
asked_nothing true = refl
asked_nothing false = refl

same_text : (flags : PolyFlags) (item : Listed) (a b : ℕ) (c d e f : List ℕ) (vs ws : List (List ℤ)) (fs gs : List Affine) (cs : List ℕ)
    → a ≡ b → c ≡ d → vs ≡ ws → fs ≡ gs → e ≡ f
    → asked flags.general (item_echo item ++ body_line a (length vs) (length fs)) ++ (c ++ (asked flags.vertices (columns Vertices vs)
    ++ (asked flags.equations (facet_block fs) ++ (asked flags.matrix (pairing fs vs) ++ (e ++ asked flags.incidence (incidence cs fs vs))))))
    ≡ asked flags.general (item_echo item ++ body_line b (length ws) (length gs)) ++ (d ++ (asked flags.vertices (columns Vertices ws)
    ++ (asked flags.equations (facet_block gs) ++ (asked flags.matrix (pairing gs ws) ++ (f ++ asked flags.incidence (incidence cs gs ws))))))
same_text flags item a b c d e f vs ws fs gs cs p q r s t = λ i.
    asked flags.general (item_echo item ++ body_line (p i) (length (r i)) (length (s i)))
    ++ (q i ++ (asked flags.vertices (columns Vertices (r i)) ++ (asked flags.equations (facet_block (s i))
    ++ (asked flags.matrix (pairing (s i) (r i)) ++ (t i ++ asked flags.incidence (incidence cs (s i) (r i)))))))

-- the first numbers are those of the ranks up to the dimension
first_counts : (n : ℕ) (R : TightRelation) (counts : List ℕ) → n ≤ 6 → HaveFewFaces R 6 counts → HaveFewFaces R n (take n counts)
first_counts n R counts l h =
    let many = h.are_counts.many in
    record {
      few = h.few;
      are_counts = record {
        many = length-take-le n counts (omega arith);
        each = λ k m. subst (IsFaceCount R (k + 1)) (sym (get_or-take n counts k 0 m)) (h.are_counts.each k (omega arith));
      };
    }

-- what is told of the faces in lists that are those of a relation
faces_told : (table : TableState) (counts : List ℕ) (vs ws : List (List ℤ)) (fs gs : List Affine) (dim : ℕ) → vs ≡ ws → fs ≡ gs
    → dim ≡ dimension_of ws → dim ≤ 6 → IsTableOf (valued vs fs) table → ((R : TightRelation) → IsTableOf R table → HaveFewFaces R 6 counts)
    → HaveFewFaces (valued ws gs) (dimension_of ws) (take dim counts)
faces_told table counts vs ws fs gs dim v f d l t h =
    subst (λ (n : ℕ). HaveFewFaces (valued ws gs) n (take dim counts)) d
    (subst (λ (xs : List (List ℤ)). HaveFewFaces (valued xs gs) dim (take dim counts)) v
    (subst (λ (hs : List Affine). HaveFewFaces (valued vs hs) dim (take dim counts)) f (first_counts dim (valued vs fs) counts l (h (valued vs fs) t))))

-- the blocks of a polytope alone were written
pub alone_written : (flags : PolyFlags) (item : Listed) (kept : Polytope) (before now : List ℕ) (table : TableState) (counts : List ℕ)
    (vs : List (List ℤ)) (fs : List Affine) (dim : ℕ) → vs ≡ kept.vertices.items → fs ≡ kept.facets.items
    → dim ≡ dimension_of kept.vertices.items → dim ≤ 6 → (IsTrue flags.incidence → AreFacesOf (lists_in vs fs) table)
    → ((R : TightRelation) → IsTableOf R table → HaveFewFaces R 6 counts) → now ≡ before ++ blocks_of flags item kept (take dim counts)
    → IsAloneWritten flags item kept before now
alone_written flags item kept before now table counts vs fs dim v f d l t h written = record {
  counts = take dim counts;
  faces = λ on. faces_told table counts vs kept.vertices.items fs kept.facets.items dim v f d l (t on).faces h;
  written = written;
}

-- the numbers of a dimension that has none
no_numbers : (p : PolytopeState) → (HasNumbers (dimension_of p.vertices) → ⊥) → IsHodgeLine p lines.None
no_numbers p other = (
  λ e. other (omega (arith, e), omega (arith, e)),
  λ e. other (omega (arith, e), omega (arith, e)),
  λ e. other (omega (arith, e), omega (arith, e)),
)

-- the blocks of a pair were written
module _ (flags : PolyFlags) (item : Listed) (pair : PairState) (dim : ℕ) (d : dim ≡ dimension_of pair.m.vertices) (numbered asked : Bool)
    (n : IsTrue numbered ↔ AskNumbers flags dim) (a : IsTrue asked ↔ (IsTrue flags.incidence ⊎ IsTrue numbered)) where
  pub are_asked : AskFaces flags (Paired pair) → IsTrue asked
  are_asked (inl on) = a.1 (inl on)
  are_asked (inr on) = a.1 (inr (n.1 (subst (AskNumbers flags) (sym d) on)))

  ask : IsTrue asked → AskFaces flags (Paired pair)
  ask t = by (a.0 t)
    where
      by : (IsTrue flags.incidence ⊎ IsTrue numbered) → AskFaces flags (Paired pair)
      by (inl on) = inl on
      by (inr on) = inr (subst (AskNumbers flags) d (n.0 on))

  module _ (vs : List (List ℤ)) (fs : List Affine) (v : vs ≡ pair.m.vertices) (f : fs ≡ pair.m.facets) where
    pub pair_fault : (fault : Fault) → Stops (IsFaceStop asked (valued vs fs)) fault → Stops (IsPairStop flags pair) fault
    pair_fault (faults.Refused cause) h = (
      ask h.0,
      subst (λ (xs : List (List ℤ)). IsFaceLimit (valued xs pair.m.facets) cause) v
          (subst (λ (gs : List Affine). IsFaceLimit (valued vs gs) cause) f h.1),
    )
    pair_fault faults.NoMemory h = h

    module _ (table : TableState) (found : IsTrue asked → AreFacesOf (lists_in vs fs) table) where
      pub found_for_numbers : IsTrue numbered → AreFacesOf pair.m table
      found_for_numbers on =
          let t = found (a.1 (inr on)) in
          record {
            members_fit = subst (λ (xs : List (List ℤ)). length xs ≤ table.members) v t.members_fit;
            functions_fit = subst (λ (gs : List Affine). length gs ≤ table.functions) f t.functions_fit;
            faces = subst (λ (xs : List (List ℤ)). IsTableOf (valued xs pair.m.facets) table) v
                (subst (λ (gs : List Affine). IsTableOf (valued vs gs) table) f t.faces);
          }

      pub pair_written : (before now : List ℕ) (numbers : HodgeLine) (counts : List ℕ) (most : ℕ) → most ≡ dimension_of pair.m.vertices
          → most ≤ 6 → AreNumbersWhere numbered pair.m numbers → ((R : TightRelation) → IsTableOf R table → HaveFewFaces R 6 counts)
          → now ≡ before ++ blocks flags item (Paired pair) numbers (take most counts) → IsPairWritten flags item pair before now
      pair_written before now numbers counts most m l are h written = record {
        few_faces = λ on. (told (are_asked on)).few;
        numbers = numbers;
        are_numbers = λ on. by numbered refl on;
        counts = take most counts;
        are_counts = λ on. (told (are_asked (inl on))).are_counts;
        written = written;
      }
        where
          told : IsTrue asked → HaveFewFaces (on_facets pair.m) (dimension_of pair.m.vertices) (take most counts)
          told on = faces_told table counts vs pair.m.vertices fs pair.m.facets most v f m l (found on).faces h

          by : (b : Bool) → numbered ≡ b → IsTrue flags.general → IsHodgeLine pair.m numbers
          by true e on = are.asked (is_true numbered e)
          by false e on = subst (IsHodgeLine pair.m) (sym (are.none (not_true numbered e)))
              (no_numbers pair.m (λ some. not_true numbered e (n.1 (subst (AskNumbers flags) (sym d) (on, some)))))

-- the vertices and facets of a pair's polytope, and its points, can be printed
module _ (pair : PairState) (is : IsPair pair) where
  pub pair_can_have_faces : (fs : List Affine) (vs : List (List ℤ)) → fs ≡ pair.m.facets → vs ≡ pair.m.vertices → CanHaveFaces fs vs
  pair_can_have_faces fs vs f v = subst (λ (gs : List Affine). CanHaveFaces gs vs) (sym f)
      (subst (λ (xs : List (List ℤ)). CanHaveFaces pair.m.facets xs) (sym v) (record {
        paired = polytope_paired pair.m.vertices pair.m is.polytope;
        few_facets = is.polytope.few_facets;
        few_vertices = is.polytope.few_vertices;
      }))

  pub pair_points : ArePoints pair.m.points
  pair_points = polytope_points pair.m.vertices pair.m is.polytope

  pub pair_dual_points : ArePoints pair.n.points
  pair_dual_points = polytope_points pair.n.vertices pair.n is.dual.polytope

  pub pair_paired : ArePaired pair.m.facets pair.m.vertices
  pair_paired = polytope_paired pair.m.vertices pair.m is.polytope

-- too many faces, as the refusal of an item
module _ (flags : PolyFlags) (item : Listed) (p : PolytopeState) (has : HasPolytope item p) where
  module _ (shown : Shown) (is : IsShown flags p shown) (on : AskFaces flags shown) where
    too_many : (cause : Refusal) → IsFaceLimit (on_facets (shown_polytope shown)) cause → IsItemRefused flags item cause
    too_many (Flat f) h = absurd h
    too_many (Limit name told) h = subst (λ (name : LimitName). IsItemRefused flags item (Limit name told)) (sym h.0)
        (inr (inr (many_faces (record {
          polytope = p;
          has_polytope = has;
          shown = shown;
          is_shown = is;
          are_asked = on;
          more = h.2;
          told_is = h.1;
        }))))

module _ (flags : PolyFlags) (item : Listed) (points : List (List ℤ)) (kept : Polytope) (has : HasPoints item points)
    (k : IsKept points (list_points flags) kept) where
  abbrev p : PolytopeState
  p = k.polytope

  has_polytope : HasPolytope item p
  has_polytope = record { points = points; has_points = has; is_polytope = k.is_polytope }

  own : IsPolytope p
  own = of_vertices points p k.is_polytope

  -- what the search for faces asks for
  pub can_have_faces : CanHaveFaces kept.facets.items kept.vertices.items
  can_have_faces = record {
    paired = k.printed.paired;
    few_facets = subst (λ (m : ℕ). m ≤ 128) (sym (ap length k.facets_are)) k.is_polytope.few_facets;
    few_vertices = subst (λ (m : ℕ). m ≤ 128) (sym (ap length k.vertices_are)) k.is_polytope.few_vertices;
  }

  -- the test of the facets tells whether the polytope is reflexive
  pub tested : have_ones kept.facets.items ≡ true → IsReflexivePolytope p
  tested e = (reflexive (dimension_of p.vertices) p.vertices p.facets own.facets_are).0
      (subst (All (λ f. f.constant ≡ pos 1)) k.facets_are ((ones_decide kept.facets.items).0 e))

  pub tested_not : have_ones kept.facets.items ≡ false → IsReflexivePolytope p → ⊥
  tested_not e r =
      let ones = (ones_decide kept.facets.items).1 (subst (All (λ f. f.constant ≡ pos 1)) (sym k.facets_are)
      ((reflexive (dimension_of p.vertices) p.vertices p.facets own.facets_are).1 r)) in
      let both = sym e ∙ ones in
      absurd (cc)

  -- by the answers of the tests
  module _ (r : Bool) (fs : List Affine) (told : r ≡ have_ones fs) (same : fs ≡ kept.facets.items) where
    pub asked_by : (ask_dual flags && r) ≡ true → IsTrue (ask_dual flags)
    asked_by e = first (ask_dual flags) r e
      where
        first : (a b : Bool) → (a && b) ≡ true → IsTrue a
        first true b e = search rules
        first false b e = absurd (cc)

    ones : have_ones kept.facets.items ≡ r
    ones = ap have_ones (sym same) ∙ sym told

    pub reflexive_by : (ask_dual flags && r) ≡ true → have_ones kept.facets.items ≡ true
    reflexive_by e = ones ∙ second (ask_dual flags) r e
      where
        second : (a b : Bool) → (a && b) ≡ true → b ≡ true
        second true b e = e
        second false b e = absurd (cc)

    pub none_by : (ask_dual flags && r) ≡ false → IsTrue (ask_dual flags) → IsReflexivePolytope p → ⊥
    none_by e on = tested_not (ones ∙ neither (ask_dual flags) r e on)
      where
        neither : (a b : Bool) → (a && b) ≡ false → IsTrue a → b ≡ false
        neither true b e on = e
        neither false b e on = absurd (search rules)

    wanted_by : (r || not (only_reflexive flags)) ≡ true → IsTrue (only_reflexive flags) → IsReflexivePolytope p
    wanted_by e only = tested (ones ∙ but r (only_reflexive flags) e only)
      where
        but : (a b : Bool) → (a || not b) ≡ true → IsTrue b → a ≡ true
        but true b e on = refl
        but false true e on = absurd (cc)
        but false false e on = absurd (search rules)

    other_by : (r || not (only_reflexive flags)) ≡ false → IsReflexivePolytope p → ⊥
    other_by e = tested_not (ones ∙ but r (only_reflexive flags) e)
      where
        but : (a b : Bool) → (a || not b) ≡ false → a ≡ false
        but true b e = absurd (cc)
        but false b e = refl

    only_by : (r || not (only_reflexive flags)) ≡ false → IsTrue (only_reflexive flags)
    only_by e = but r (only_reflexive flags) e
      where
        but : (a b : Bool) → (a || not b) ≡ false → IsTrue b
        but true b e = absurd (cc)
        but false true e = search rules
        but false false e = absurd (cc)

  -- the polytope alone
  module _ (no_pair : IsTrue (ask_dual flags) → IsReflexivePolytope p → ⊥) where
    alone_is_shown : IsShown flags p (Alone p)
    alone_is_shown = (refl, no_pair)

    own_relation : (P : TightRelation → Type 0) → P (valued kept.vertices.items kept.facets.items) → P (on_facets p)
    own_relation P h = subst (λ (vs : List (List ℤ)). P (valued vs p.facets)) k.vertices_are
        (subst (λ (fs : List Affine). P (valued kept.vertices.items fs)) k.facets_are h)

    pub alone_stop : (fault : Fault) → Stops (IsFaceStop flags.incidence (valued kept.vertices.items kept.facets.items)) fault
        → Stops (IsItemRefused flags item) fault
    alone_stop (faults.Refused cause) h = too_many flags item p has_polytope (Alone p) alone_is_shown h.0 cause
        (own_relation (λ (R : TightRelation). IsFaceLimit R cause) h.1)
    alone_stop faults.NoMemory h = h

    module _ (page : List ℕ) (w : IsAloneWritten flags item kept [] page) where
      own_faces : IsTrue flags.incidence → HaveFewFaces (on_facets p) (dimension_of p.vertices) w.counts
      own_faces on = own_relation (λ (R : TightRelation). HaveFewFaces R (dimension_of p.vertices) w.counts)
          (subst (λ (vs : List (List ℤ)). HaveFewFaces (valued kept.vertices.items kept.facets.items) (dimension_of vs) w.counts) k.vertices_are
          (w.faces on))

      own_text : page ≡ blocks flags item (Alone p) lines.None w.counts
      own_text = w.written ∙ same_text flags item _ _ _ _ _ _ _ _ _ _ w.counts k.count_is
          (asked_columns flags.points kept.lattice.items p.points
          (λ on. k.lattice_is (listed_for_points flags.points (ask_dual flags) on)))
          k.vertices_are k.facets_are (sym (asked_nothing flags.dual_points))

      pub alone_piece : (IsTrue (only_reflexive flags) → IsReflexivePolytope p) → IsPiece flags item page
      alone_piece wanted = record {
        polytope = p;
        shown = Alone p;
        accepted = record { has_polytope = has_polytope; is_shown = alone_is_shown; few_faces = λ on. (own_faces on).few };
        is_wanted = wanted;
        numbers = lines.None;
        are_numbers = tt;
        counts = w.counts;
        are_counts = λ on. (own_faces on).are_counts;
        written = own_text;
      }

      pub alone_unwanted : IsTrue (only_reflexive flags) → (IsReflexivePolytope p → ⊥) → IsUnwanted flags item
      alone_unwanted only other = record {
        polytope = p;
        shown = Alone p;
        accepted = record { has_polytope = has_polytope; is_shown = alone_is_shown; few_faces = λ on. (own_faces on).few };
        reflexive_only = only;
        other = other;
      }

  -- the polytope with its dual
  module _ (on : IsTrue (ask_dual flags)) where
    lists_are : lists_of kept ≡ p
    lists_are =
        let ls = k.lattice_is (listed_for_dual flags.points (ask_dual flags) on) in
        λ i. record { vertices = k.vertices_are i; facets = k.facets_are i; points = ls i }

    pub lists_polytope : IsPolytope (lists_of kept)
    lists_polytope = subst IsPolytope (sym lists_are) own

    pub lists_reflexive : have_ones kept.facets.items ≡ true → IsReflexivePolytope (lists_of kept)
    lists_reflexive e = subst IsReflexivePolytope (sym lists_are) (tested e)

    pub dual_stop : (fault : Fault) → Stops (HasNoDual (lists_of kept)) fault → Stops (IsItemRefused flags item) fault
    dual_stop (faults.Refused cause) h = inr (inr (no_asked_dual (record {
      polytope = p;
      has_polytope = has_polytope;
      are_asked = on;
      no_dual = subst (λ (q : PolytopeState). HasNoDual q cause) lists_are h;
    })))
    dual_stop faults.NoMemory h = h

    module _ (pair : PairState) (is : IsPairOf flags.dual_input (lists_of kept) pair) where
      pair_is_shown : IsShown flags p (Paired pair)
      pair_is_shown = (on, (is.is_pair, is.own ∙ lists_are))

      pub pair_stop : (fault : Fault) → Stops (IsPairStop flags pair) fault → Stops (IsItemRefused flags item) fault
      pair_stop (faults.Refused cause) h = too_many flags item p has_polytope (Paired pair) pair_is_shown h.0 cause h.1
      pair_stop faults.NoMemory h = h

      pub pair_piece : (page : List ℕ) → IsPairWritten flags item pair [] page → IsPiece flags item page
      pair_piece page w = record {
        polytope = p;
        shown = Paired pair;
        accepted = record { has_polytope = has_polytope; is_shown = pair_is_shown; few_faces = w.few_faces };
        is_wanted = λ r. subst IsReflexivePolytope (is.own ∙ lists_are) (own_reflexive flags.dual_input pair is.is_pair);
        numbers = w.numbers;
        are_numbers = w.are_numbers;
        counts = w.counts;
        are_counts = w.are_counts;
        written = w.written;
      }

  -- the answer, where the polytope was printed alone
  pub answered : (r : Bool) (fs : List Affine) (told : r ≡ have_ones fs) (same : fs ≡ kept.facets.items) → (ask_dual flags && r) ≡ false
      → (before page : List ℕ) → before ≡ [] → IsAloneWritten flags item kept before page → (wanted : Bool)
      → wanted ≡ (r || not (only_reflexive flags)) → IsWritten flags item page wanted
  answered r fs told same e before page empty w true t = alone_piece (none_by r fs told same e) page
      (subst (λ (b : List ℕ). IsAloneWritten flags item kept b page) empty w) (wanted_by r fs told same (sym t))
  answered r fs told same e before page empty w false t = alone_unwanted (none_by r fs told same e) page
      (subst (λ (b : List ℕ). IsAloneWritten flags item kept b page) empty w) (only_by r fs told same (sym t)) (other_by r fs told same (sym t))

-- lists that can be printed where the points are listed for the dual, too
pub printed_where : (flags : PolyFlags) (kept : Polytope) → ArePrinted (list_points flags) kept → ArePrinted flags.points kept
printed_where flags kept h = record {
  lattice = λ on. h.lattice (listed_for_points flags.points (ask_dual flags) on);
  vertices = h.vertices;
  facets = h.facets;
  paired = h.paired;
}
