-- What is printed of a polytope is one thing, and it has one refusal of its dual, or none.
use Rattle.std.specs.Prelude.{IsTrue}
use Rattle.std.proofs.Common.{◌≡◌, ℕ, ◌<◌, ◌≤◌, Bool, true, false, refl, sym, ap, ◌∙◌, subst, arith}
use Rattle.lattice_theory.specs.Size.{size}
use Rattle.lattice_core.specs.Dimensions.{dimension_of}
use Rattle.lattice_core.specs.Limits.{size_limit_of}
use Rattle.lattice_core.specs.declared.faults.Refusal.{Refusal}
use Rattle.lattice_core.specs.declared.faults.Refusal.TheVariants.{Flat, Limit}
use Rattle.lattice_core.specs.declared.faults.LimitName.TheVariants.{DualSize, DualPoints}
use Rattle.palp_words.specs.declared.job.PolyFlags.{PolyFlags}
use Rattle.duality_theory.specs.Reflexive.{normals_of}
use Rattle.batyrev_theory.proofs.SingleNumbers.{surface_numbers_are_single_lem, threefold_numbers_are_single_lem, fourfold_numbers_are_single_lem}
use Rattle.dual_pair.specs.Polytopes.{PolytopeState}
use Rattle.dual_pair.specs.Pairs.{IsReflexivePolytope, PairState, IsPair, exchanged, HasNoDual}
use Rattle.dual_pair.proofs.PairLaws.{pairs_are_single_lem, exchanged_pairs_lem, no_limit_on_the_way_back_lem}
use Rattle.batyrev.specs.Lines.{IsHodgeLine}
use Rattle.batyrev.specs.declared.line.HodgeLine.{HodgeLine}
use Rattle.batyrev.specs.declared.line.HodgeLine.TheVariants as lines
use Rattle.palp_engine.specs.Shown.{ask_dual, Shown, Alone, Paired, own_side, IsShown}

-- a polytope has one line of numbers
module _ (p : PolytopeState) where
  abbrev n : ℕ
  n = dimension_of p.vertices

  apart : {Z : Type 0} (a b : ℕ) → n ≡ a → n ≡ b → a < b → Z
  apart a b e f l = absurd (omega (arith, e, f, l))

  pub one_line : (a b : HodgeLine) → IsHodgeLine p a → IsHodgeLine p b → a ≡ b
  one_line lines.None lines.None h k = refl
  one_line lines.None (lines.Pic x y) h k = absurd (h.0 k.0)
  one_line lines.None (lines.Three x y z) h k = absurd (h.1 k.0)
  one_line lines.None (lines.Four x y z w) h k = absurd (h.2 k.0)
  one_line (lines.Pic a b) lines.None h k = absurd (k.0 h.0)
  one_line (lines.Pic a b) (lines.Pic x y) h k =
      let same = surface_numbers_are_single_lem p.vertices p.facets a b x y h.1 k.1 in λ i. lines.Pic (same.0 i) (same.1 i)
  one_line (lines.Pic a b) (lines.Three x y z) h k = apart 3 4 h.0 k.0 (omega arith)
  one_line (lines.Pic a b) (lines.Four x y z w) h k = apart 3 5 h.0 k.0 (omega arith)
  one_line (lines.Three a b c) lines.None h k = absurd (k.1 h.0)
  one_line (lines.Three a b c) (lines.Pic x y) h k = apart 3 4 k.0 h.0 (omega arith)
  one_line (lines.Three a b c) (lines.Three x y z) h k =
      let same = threefold_numbers_are_single_lem p.vertices p.facets a b c x y z h.1 k.1 in
      λ i. lines.Three (same.0 i) (same.1 i) (same.2 i)
  one_line (lines.Three a b c) (lines.Four x y z w) h k = apart 4 5 h.0 k.0 (omega arith)
  one_line (lines.Four a b c d) lines.None h k = absurd (k.2 h.0)
  one_line (lines.Four a b c d) (lines.Pic x y) h k = apart 3 5 k.0 h.0 (omega arith)
  one_line (lines.Four a b c d) (lines.Three x y z) h k = apart 4 5 k.0 h.0 (omega arith)
  one_line (lines.Four a b c d) (lines.Four x y z w) h k =
      let same = fourfold_numbers_are_single_lem p.vertices p.facets a b c d x y z w h.1 k.1 in
      λ i. lines.Four (same.0 i) (same.1 i) (same.2 i) (same.3 i)

-- the item's own side of a pair is reflexive, has no refusal of its dual, and tells the pair
pub own_reflexive : (turned : Bool) (pair : PairState) → IsPair pair → IsReflexivePolytope (own_side turned pair)
own_reflexive true pair is = (exchanged_pairs_lem pair is).reflexive
own_reflexive false pair is = is.reflexive

own_has_dual : (turned : Bool) (pair : PairState) (cause : Refusal) → IsPair pair → HasNoDual (own_side turned pair) cause → ⊥
own_has_dual true pair cause is h = no_limit_on_the_way_back_lem pair is cause h
own_has_dual false pair cause is h = no_limit_on_the_way_back_lem (exchanged pair) (exchanged_pairs_lem pair is) cause h

own_pair : (turned : Bool) (a b : PairState) → IsPair a → IsPair b → own_side turned a ≡ own_side turned b → a ≡ b
own_pair true a b is_a is_b e =
    ap exchanged (pairs_are_single_lem (exchanged a) (exchanged b) (exchanged_pairs_lem a is_a) (exchanged_pairs_lem b is_b) e)
own_pair false a b is_a is_b e = pairs_are_single_lem a b is_a is_b e

-- the dual of one polytope is refused for one cause
no_dual_reflexive : (p : PolytopeState) (cause : Refusal) → HasNoDual p cause → IsReflexivePolytope p
no_dual_reflexive p (Flat f) h = absurd h
no_dual_reflexive p (Limit name told) h = h.0

above : (a b : ℕ) → a ≤ b → b < a → ⊥
above a b h k = omega arith

pub one_no_dual : (p : PolytopeState) (cause other : Refusal) → HasNoDual p cause → HasNoDual p other → cause ≡ other
one_no_dual p (Flat f) other a b = absurd a
one_no_dual p (Limit name told) (Flat f) a b = absurd b
one_no_dual p (Limit DualSize told) (Limit DualSize more) a b = ap (Limit DualSize) (a.1.0 ∙ sym b.1.0)
one_no_dual p (Limit DualSize told) (Limit DualPoints more) a b =
    absurd (above (size (dimension_of p.vertices) (normals_of p.facets)) (size_limit_of (dimension_of p.vertices)) b.1.0.sized a.1.1)
one_no_dual p (Limit DualSize told) (Limit name more) a b = absurd b.1
one_no_dual p (Limit DualPoints told) (Limit DualSize more) a b =
    absurd (above (size (dimension_of p.vertices) (normals_of p.facets)) (size_limit_of (dimension_of p.vertices)) a.1.0.sized b.1.1)
one_no_dual p (Limit DualPoints told) (Limit DualPoints more) a b = ap (Limit DualPoints) (a.1.1 ∙ sym b.1.1)
one_no_dual p (Limit DualPoints told) (Limit name more) a b = absurd b.1
one_no_dual p (Limit name told) (Limit other more) a b = absurd a.1

module _ (flags : PolyFlags) (p : PolytopeState) where
  pub one_shown : (a b : Shown) → IsShown flags p a → IsShown flags p b → a ≡ b
  one_shown (Alone q) (Alone r) h k = ap Alone (h.0 ∙ sym k.0)
  one_shown (Alone q) (Paired b) h k = absurd (h.1 k.0 (subst IsReflexivePolytope k.1.1 (own_reflexive flags.dual_input b k.1.0)))
  one_shown (Paired a) (Alone r) h k = absurd (k.1 h.0 (subst IsReflexivePolytope h.1.1 (own_reflexive flags.dual_input a h.1.0)))
  one_shown (Paired a) (Paired b) h k = ap Paired (own_pair flags.dual_input a b h.1.0 k.1.0 (h.1.1 ∙ sym k.1.1))

  -- what is printed where the dual is asked has a dual within the limits
  pub shown_or_no_dual : (shown : Shown) (cause : Refusal) → IsShown flags p shown → IsTrue (ask_dual flags) → HasNoDual p cause → ⊥
  shown_or_no_dual (Alone q) cause h on no_dual = h.1 on (no_dual_reflexive p cause no_dual)
  shown_or_no_dual (Paired pair) cause h on no_dual =
      own_has_dual flags.dual_input pair cause h.1.0 (subst (λ (q : PolytopeState). HasNoDual q cause) (sym h.1.1) no_dual)
