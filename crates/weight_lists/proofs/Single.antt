-- What is said of an entry is said once, and a range has one list of entries.
use Rattle.std.proofs.Common.{◌≡◌, inl, inr, ℕ, true, false, Bool, List, [], ◌∷◌, length, map, refl, sym, ap, ◌∙◌}
use Rattle.std.specs.List.{AllZip}
use Rattle.lattice_core.specs.Weights.{Weighted, total}
use Rattle.lattice_core.specs.declared.faults.Refusal.{Refusal}
use Rattle.report_theory.specs.Report.{Ends, Step, Piece, Close}
use Rattle.dual_pair.specs.Polytopes.{PolytopeState}
use Rattle.dual_pair.specs.Pairs.{PairState}
use Rattle.interior_point_theory.proofs.Degrees.{systems_are_single_lem}
use Rattle.palp_print.specs.Lists.{closing, sweep_line}
use Rattle.item_polytopes.proofs.SingleKinds.{one_polytope, one_pair, one_polytope_refusal, polytope_or_refusal, reflexive_or_other, other_or_pair}
use Rattle.item_polytopes.proofs.SingleKinds.{one_kind_refusal, pair_or_refusal, other_or_kind_refusal}
use Rattle.weight_lists.specs.Systems.{line_of}
use Rattle.weight_lists.specs.Entries.{System, EndOf, entries_of, EndSays, summary, ended}
use Rattle.weight_lists.specs.Lists.{IsListed, IsLeftOut, IsRefused, LineSays, line, behind_line, left_out, refused, IsMark, IsCountLine, title_of}
use Rattle.weight_lists.specs.Sweeps.{SystemNumbers, AreNumbers, IsSweepRefused, SilentSays, silent, refused as swept_refused, IsSweepLine}
use Rattle.weight_lists.specs.Laws.{OneListOfEntries, OneCwsStep, OneSweepStep}

pub one_list_of_entries_lem : OneListOfEntries
one_list_of_entries_lem dim low high entries others a b =
    a.entries_are ∙ (ap entries_of (systems_are_single_lem dim low high a.systems b.systems a.are_systems b.are_systems) ∙ sym b.entries_are)

module _ (system : Weighted) where
  -- a system is listed, left out or refused
  listed_or_out : (only : Bool) → IsListed only system → IsLeftOut only system → ⊥
  listed_or_out false a b = b
  listed_or_out true a b = reflexive_or_other (line_of system) a.polytope b.polytope a.has_polytope a.reflexive b.is_other.has_polytope b.is_other.other

  listed_or_refused : (only : Bool) (cause : Refusal) → IsListed only system → IsRefused only system cause → ⊥
  listed_or_refused false cause a b = b
  listed_or_refused true cause a b = polytope_or_refusal (line_of system) a.polytope cause a.has_polytope b

  out_or_refused : (only : Bool) (cause : Refusal) → IsLeftOut only system → IsRefused only system cause → ⊥
  out_or_refused false cause a b = b
  out_or_refused true cause a b = polytope_or_refusal (line_of system) a.polytope cause a.is_other.has_polytope b

  one_cause : (only : Bool) (cause other : Refusal) → IsRefused only system cause → IsRefused only system other → cause ≡ other
  one_cause false cause other a b = absurd a
  one_cause true cause other a b = one_polytope_refusal (line_of system) cause other a b

  one_line_step : (only : Bool) (k : ℕ) (step other : Step Refusal) → LineSays only system k step → LineSays only system k other → step ≡ other
  one_line_step only _ _ _ (line a) (line b) = refl
  one_line_step only _ _ _ (line a) (left_out b) = absurd (listed_or_out only a b)
  one_line_step only _ _ _ (line a) (refused {cause = c} b) = absurd (listed_or_refused only c a b)
  one_line_step only _ _ _ behind_line behind_line = refl
  one_line_step only _ _ _ (left_out a) (line b) = absurd (listed_or_out only b a)
  one_line_step only _ _ _ (left_out a) (left_out b) = refl
  one_line_step only _ _ _ (left_out a) (refused {cause = c} b) = absurd (out_or_refused only c a b)
  one_line_step only _ _ _ (refused {cause = c} a) (line b) = absurd (listed_or_refused only c b a)
  one_line_step only _ _ _ (refused {cause = c} a) (left_out b) = absurd (out_or_refused only c b a)
  one_line_step only _ _ _ (refused {cause = c} a) (refused {cause = d} b) = ap (λ (x : Refusal). Close (Ends x)) (one_cause only c d a b)

  one_mark : (only : Bool) (mark other : ℕ) → IsMark only system mark → IsMark only system other → mark ≡ other
  one_mark only mark other (inl a) (inl b) = a.1 ∙ sym b.1
  one_mark only mark other (inl a) (inr b) = absurd (listed_or_out only a.0 b.0)
  one_mark only mark other (inr a) (inl b) = absurd (listed_or_out only b.0 a.0)
  one_mark only mark other (inr a) (inr b) = a.1 ∙ sym b.1

  -- the numbers of a system
  numbers_of_pair : PairState → SystemNumbers
  numbers_of_pair pair = record { reflexive = 1; points = length pair.m.points; dual_points = length pair.n.points }

  numbers_of_polytope : PolytopeState → SystemNumbers
  numbers_of_polytope p = record { reflexive = 0; points = length p.points; dual_points = 0 }

  one_numbers : (x y : SystemNumbers) → AreNumbers system x → AreNumbers system y → x ≡ y
  unfolding numbers_of_pair numbers_of_polytope
  one_numbers x y (inl a) (inl b) =
      a.numbers_are ∙ (ap numbers_of_pair (one_pair (line_of system) a.pair b.pair a.has_pair b.has_pair) ∙ sym b.numbers_are)
  one_numbers x y (inl a) (inr b) = absurd (other_or_pair (line_of system) b.polytope a.pair b.is_other a.has_pair)
  one_numbers x y (inr a) (inl b) = absurd (other_or_pair (line_of system) a.polytope b.pair a.is_other b.has_pair)
  one_numbers x y (inr a) (inr b) =
      a.numbers_are ∙ (ap numbers_of_polytope
      (one_polytope (line_of system) a.polytope b.polytope a.is_other.has_polytope b.is_other.has_polytope) ∙ sym b.numbers_are)

-- the same of lists
one_zip : {A B : Type 0} (R : A → B → Type 0) → ((x : A) (y z : B) → R x y → R x z → y ≡ z) → (xs : List A) (ys zs : List B)
    → AllZip R xs ys → AllZip R xs zs → ys ≡ zs
one_zip R one [] [] [] a b = refl
one_zip R one [] [] (z ∷ zs) a b = absurd b
one_zip R one [] (y ∷ ys) zs a b = absurd a
one_zip R one (x ∷ xs) [] zs a b = absurd a
one_zip R one (x ∷ xs) (y ∷ ys) [] a b = absurd b
one_zip R one (x ∷ xs) (y ∷ ys) (z ∷ zs) a b = λ i. one x y z a.0 b.0 i ∷ one_zip R one xs ys zs a.1 b.1 i

one_count_line : (only : Bool) (systems : List Weighted) (bytes other : List ℕ) → IsCountLine only systems bytes → IsCountLine only systems other
    → bytes ≡ other
one_count_line only systems bytes other a b =
    let marks = one_zip (IsMark only) (λ s m n. one_mark s only m n) systems a.counts.marks b.counts.marks a.counts.are_marks b.counts.are_marks in
    a.bytes_are ∙ (ap (closing (title_of only)) (a.counts.count_is ∙ (ap total marks ∙ sym b.counts.count_is)) ∙ sym b.bytes_are)

one_sweep_line : (systems : List Weighted) (bytes other : List ℕ) → IsSweepLine systems bytes → IsSweepLine systems other → bytes ≡ other
one_sweep_line systems bytes other a b =
    let xs = one_zip AreNumbers one_numbers systems a.sums.numbers b.sums.numbers a.sums.are_numbers b.sums.are_numbers in
    let r = a.sums.reflexive_is ∙ (ap (λ (ns : List SystemNumbers). total (map (λ (x : SystemNumbers). x.reflexive) ns)) xs ∙ sym b.sums.reflexive_is) in
    let m = a.sums.points_is ∙ (ap (λ (ns : List SystemNumbers). total (map (λ (x : SystemNumbers). x.points) ns)) xs ∙ sym b.sums.points_is) in
    let n = a.sums.dual_points_is
    ∙ (ap (λ (ns : List SystemNumbers). total (map (λ (x : SystemNumbers). x.dual_points) ns)) xs ∙ sym b.sums.dual_points_is) in
    a.bytes_are ∙ ((λ i. sweep_line (length systems) (r i) (m i) (n i)) ∙ sym b.bytes_are)

one_end_step : (is_line : List ℕ → Type 0) → ((bytes other : List ℕ) → is_line bytes → is_line other → bytes ≡ other) → (k : ℕ)
    (step other : Step Refusal) → EndSays is_line k step → EndSays is_line k other → step ≡ other
one_end_step is_line one _ _ _ (summary {bytes = p} a) (summary {bytes = q} b) = ap Piece (one p q a b)
one_end_step is_line one _ _ _ ended ended = refl

pub one_cws_step_lem : OneCwsStep
one_cws_step_lem only (System system) k step other a b = one_line_step system only k step other a b
one_cws_step_lem only (EndOf systems) k step other a b =
    one_end_step (IsCountLine only systems) (one_count_line only systems) k step other a b

module _ (system : Weighted) where
  numbers_or_refusal : (x : SystemNumbers) (cause : Refusal) → AreNumbers system x → IsSweepRefused system cause → ⊥
  numbers_or_refusal x cause (inl a) b = pair_or_refusal (line_of system) a.pair cause a.has_pair b
  numbers_or_refusal x cause (inr a) b = other_or_kind_refusal (line_of system) a.polytope cause a.is_other b

  one_silent_step : (k : ℕ) (step other : Step Refusal) → SilentSays system k step → SilentSays system k other → step ≡ other
  one_silent_step _ _ _ (silent a) (silent b) = refl
  one_silent_step _ _ _ (silent {numbers = x} a) (swept_refused {cause = c} b) = absurd (numbers_or_refusal x c a b)
  one_silent_step _ _ _ (swept_refused {cause = c} a) (silent {numbers = x} b) = absurd (numbers_or_refusal x c b a)
  one_silent_step _ _ _ (swept_refused {cause = c} a) (swept_refused {cause = d} b) =
      ap (λ (x : Refusal). Close (Ends x)) (one_kind_refusal (line_of system) c d a b)

pub one_sweep_step_lem : OneSweepStep
one_sweep_step_lem (System system) k step other a b = one_silent_step system k step other a b
one_sweep_step_lem (EndOf systems) k step other a b = one_end_step (IsSweepLine systems) (one_sweep_line systems) k step other a b
