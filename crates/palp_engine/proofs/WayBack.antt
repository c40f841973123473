-- The way back from the dual of a reflexive polytope.
use Rattle.std.specs.Prelude.{not, ◌&&◌, ◌||◌, IsTrue}
use Rattle.std.proofs.Common.{◌≡◌, Bool, true, false, List, [], ◌++◌, ℕ, refl, sym, ap, ◌∙◌, subst, rules}
use Rattle.face_poset.specs.Counts.{AreFaceCounts}
use Rattle.lattice_core.specs.Dimensions.{dimension_of}
use Rattle.palp_words.specs.declared.job.PolyFlags.{PolyFlags}
use Rattle.palp_input.specs.Grammar.{Listed}
use Rattle.dual_pair.specs.Polytopes.{PolytopeState}
use Rattle.dual_pair.specs.Pairs.{PairState, IsPair}
use Rattle.dual_pair.specs.Faces.{on_facets}
use Rattle.batyrev.specs.declared.line.HodgeLine.{HodgeLine}
use Rattle.palp_engine.specs.Shown.{ask_dual, Shown, Alone, Paired, shown_polytope, own_side, IsShown, AreNumbersOf}
use Rattle.item_polytopes.specs.Kinds.{HasPolytope}
use Rattle.item_polytopes.proofs.SingleKinds.{one_polytope}
use Rattle.palp_print.specs.Lists.{item_echo}
use Rattle.palp_engine.specs.Items.{IsPiece, facet_block, asked, general_line, dual_columns, list_blocks, blocks}
use Rattle.palp_print.specs.Blocks.{columns, pairing, incidence}
use Rattle.palp_print.specs.declared.titles.Title.TheVariants.{Vertices, Points}
use Rattle.palp_engine.specs.Laws.{with_dual, WayBack}
use Rattle.palp_engine.proofs.SingleShown.{one_shown}
use Rattle.palp_engine.proofs.SingleItems.{one_text}

-- letters that don't ask the dual print neither the general line nor the dual's points
unasked : (plain general points turned : Bool) → plain ≡ false → (not plain && (general || (points || turned))) ≡ false
    → (general ≡ false) × (points ≡ false)
unasked true general points turned e n = absurd (cc)
unasked false true points turned e n = absurd (cc)
unasked false false true turned e n = absurd (cc)
unasked false false false turned e n = (refl, refl)

asks_with_dual : (plain general points : Bool) → plain ≡ false → IsTrue (not plain && (general || (points || true)))
asks_with_dual true general points e = absurd (cc)
asks_with_dual false true points e = search rules
asks_with_dual false false true e = search rules
asks_with_dual false false false e = search rules

own_without : (turned : Bool) (pair : PairState) → turned ≡ false → own_side turned pair ≡ pair.m
own_without true pair e = absurd (cc)
own_without false pair e = refl

asked_none : (on : Bool) (xs ys : List ℕ) → on ≡ false → asked on xs ≡ asked on ys
asked_none true xs ys e = absurd (cc)
asked_none false xs ys e = refl

is_true : (b : Bool) → b ≡ true → IsTrue b
is_true true e = search rules
is_true false e = absurd (cc)

not_asked : {Z : Type 0} (b : Bool) → b ≡ false → IsTrue b → Z
not_asked true e t = absurd (cc)
not_asked false e t = absurd (search rules)

-- the blocks of items with the same numbers in front of their general lines
same_echo : (flags : PolyFlags) (item back : Listed) (shown : Shown) (numbers : HodgeLine) (counts : List ℕ) → item_echo item ≡ item_echo back
    → blocks flags item shown numbers counts ≡ blocks flags back shown numbers counts
same_echo flags item back shown numbers counts e =
    ap (λ (t : List ℕ). asked flags.general (t ++ general_line shown numbers)
    ++ list_blocks flags (shown_polytope shown) (dual_columns shown) counts) e

-- where neither the general line nor the dual's points are printed, it doesn't matter whether there is a pair
alone_or_pair : (flags : PolyFlags) (item : Listed) (pair : PairState) (numbers : HodgeLine) (counts : List ℕ) → flags.general ≡ false
    → flags.dual_points ≡ false → blocks flags item (Alone pair.m) numbers counts ≡ blocks flags item (Paired pair) numbers counts
alone_or_pair flags item pair numbers counts g d =
    ap (λ (t : List ℕ). t ++ list_blocks flags pair.m [] counts)
    (asked_none flags.general (item_echo item ++ general_line (Alone pair.m) numbers) (item_echo item ++ general_line (Paired pair) numbers) g)
    ∙ ap (λ (t : List ℕ). asked flags.general (item_echo item ++ general_line (Paired pair) numbers)
    ++ (asked flags.points (columns Points pair.m.points) ++ (asked flags.vertices (columns Vertices pair.m.vertices)
    ++ (asked flags.equations (facet_block pair.m.facets) ++ (asked flags.matrix (pairing pair.m.facets pair.m.vertices)
    ++ (t ++ asked flags.incidence (incidence counts pair.m.facets pair.m.vertices)))))))
    (asked_none flags.dual_points [] (dual_columns (Paired pair)) d)

module _ (flags : PolyFlags) (item back : Listed) (pair : PairState) (piece other : List ℕ) (plain : flags.plain ≡ false)
    (turned : flags.dual_input ≡ false) (is : IsPair pair) (has : HasPolytope item pair.m) (has_back : HasPolytope back pair.n)
    (echo : item_echo item ≡ item_echo back) (a : IsPiece flags item piece) (b : IsPiece (with_dual flags) back other) where
  -- what is printed of the dual's item is the pair
  back_shown : b.shown ≡ Paired pair
  back_shown = one_shown (with_dual flags) pair.n b.shown (Paired pair)
      (subst (λ (p : PolytopeState). IsShown (with_dual flags) p b.shown)
      (one_polytope back b.polytope pair.n b.accepted.has_polytope has_back) b.accepted.is_shown)
      (asks_with_dual flags.plain flags.general flags.dual_points plain, (is, refl))

  own_shown : IsShown flags pair.m a.shown
  own_shown = subst (λ (p : PolytopeState). IsShown flags p a.shown) (one_polytope item a.polytope pair.m a.accepted.has_polytope has)
      a.accepted.is_shown

  back_numbers : AreNumbersOf flags (Paired pair) b.numbers
  back_numbers = subst (λ (s : Shown). AreNumbersOf (with_dual flags) s b.numbers) back_shown b.are_numbers

  back_counts : IsTrue flags.incidence → AreFaceCounts (on_facets pair.m) (dimension_of pair.m.vertices) b.counts
  back_counts on = subst (λ (s : Shown). AreFaceCounts (on_facets (shown_polytope s)) (dimension_of (shown_polytope s).vertices) b.counts)
      back_shown (b.are_counts on)

  back_text : other ≡ blocks flags item (Paired pair) b.numbers b.counts
  back_text = b.written ∙ ap (λ (s : Shown). blocks (with_dual flags) back s b.numbers b.counts) back_shown
      ∙ sym (same_echo flags item back (Paired pair) b.numbers b.counts echo)

  own_text : (asks : Bool) → ask_dual flags ≡ asks
      → blocks flags item a.shown a.numbers a.counts ≡ blocks flags item (Paired pair) b.numbers b.counts
  own_text true e =
      let same = one_shown flags pair.m a.shown (Paired pair) own_shown
      (is_true (ask_dual flags) e, (is, own_without flags.dual_input pair turned)) in
      one_text flags item a.shown (Paired pair) same a.numbers b.numbers a.are_numbers back_numbers a.counts b.counts a.are_counts back_counts
  own_text false e =
      let same = one_shown flags pair.m a.shown (Alone pair.m) own_shown (refl, λ on r. not_asked (ask_dual flags) e on) in
      let none = unasked flags.plain flags.general flags.dual_points flags.dual_input plain e in
      one_text flags item a.shown (Alone pair.m) same a.numbers b.numbers a.are_numbers tt a.counts b.counts a.are_counts back_counts
      ∙ alone_or_pair flags item pair b.numbers b.counts none.0 none.1

  one_way_back : piece ≡ other
  one_way_back = a.written ∙ own_text (ask_dual flags) refl ∙ sym back_text

pub way_back : WayBack
way_back flags item back pair piece other plain turned is has has_back echo a b =
    one_way_back flags item back pair piece other plain turned is has has_back echo a b
