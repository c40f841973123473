-- Giving the line of a system, and counting the systems that are listed.
use Rattle.std.proofs.Common.{◌≡◌, inl, inr, ℕ, ◌+◌, ◌≤◌, Bool, List, [], ◌∷◌, ◌++◌, length, Result, Ok, Err, refl, sym, ap, ◌∙◌, subst, arith}
use Rattle.std.specs.List.{AllZip}
use Rattle.lattice_core.specs.Stops.{Stops}
use Rattle.lattice_core.specs.Weights.{Weighted, total, weighted}
use Rattle.lattice_core.specs.declared.faults.Fault.{Fault}
use Rattle.lattice_core.specs.declared.faults.Fault.TheVariants as stops
use Rattle.lattice_core.specs.declared.weights.WeightSystem.{WeightSystem}
use Rattle.std.specs.Prelude.{Some}
use Rattle.palp_io.specs.Sink.{SinkState}
use Rattle.palp_print.specs.Lists.{weights_line}
use Rattle.report_theory.specs.Report.{Whole, Ends}
use Rattle.report_theory.proofs.Givings.{item_nothing, item_piece, item_closed, item_front, item_part}
use Rattle.interior_point_theory.proofs.Following.{total-append}
use Rattle.weight_enum.specs.Searched.{Searched, GivesSystem}
use Rattle.weight_lists.specs.Entries.{ListEntry, System}
use Rattle.weight_lists.specs.Lists.{IsListed, IsLeftOut, IsRefused, IsMark, CountsListed, CwsSays, line, behind_line, left_out, refused}
use Rattle.weight_lists.specs.Answers.{Reports}
use Rattle.weight_lists.specs.Steps.{LineAnswer, LineMeans, IsStopped, SystemMeans}
use Rattle.weight_lists.specs.declared.fault.ListFault.{ListFault}
use Rattle.weight_lists.specs.declared.fault.ListFault.TheVariants as faults
use Rattle.weight_lists.proofs.Reporting.{ListedSoFar, listed_stop, listed_write, listed_part}

module _ (only : Bool) (number : ℕ) (system : Weighted) (out : SinkState) where
  abbrev entry : ListEntry
  entry = System system

  pub left_out_item : IsLeftOut only system → SystemMeans only number system out out (Ok 0)
  left_out_item h = (
    item_closed (CwsSays only) out out entry 0 (item_nothing (CwsSays only) out entry) Whole (left_out h),
    inr (h, refl),
  )

  pub no_line : SystemMeans only number system out out (Err faults.NoMemory)
  no_line = item_front (CwsSays only) out out entry 0 (item_nothing (CwsSays only) out entry)

  pub stopped_item : (fault : Fault) (told : ListFault) → Stops (IsRefused only system) fault → IsStopped number fault told
      → SystemMeans only number system out out (Err told)
  stopped_item (stops.Refused cause) told h e = subst (λ (t : ListFault). SystemMeans only number system out out (Err t)) (sym e) (
    refl,
    item_closed (CwsSays only) out out entry 0 (item_nothing (CwsSays only) out entry) (Ends cause) (refused h),
  )
  stopped_item stops.NoMemory told h e = subst (λ (t : ListFault). SystemMeans only number system out out (Err t)) (sym e) no_line

  module _ (listed : IsListed only system) (last : SinkState) where
    pub listed_item : LineMeans (weights_line system) out last (Ok tt) → SystemMeans only number system out last (Ok 1)
    listed_item m = (
      item_closed (CwsSays only) out last entry 1 (item_piece (CwsSays only) out out entry 0 (item_nothing (CwsSays only) out entry)
          (weights_line system) last (line listed) m.answer m.later) Whole behind_line,
      inl (listed, refl),
    )

    failed : (fault : ListFault) → out.faults ≤ last.faults → LineAnswer (weights_line system) out last (Err fault)
        → SystemMeans only number system out last (Err fault)
    failed (faults.Refused n cause) later a = absurd a
    failed faults.Write later a = (
      a.rose,
      item_part (CwsSays only) out out entry 0 (item_nothing (CwsSays only) out entry) (weights_line system)
          last (line listed) a.part later,
    )
    failed faults.NoMemory later a = subst (λ (s : SinkState). SystemMeans only number system out s (Err faults.NoMemory)) (sym a) no_line

    pub failed_item : (fault : ListFault) → LineMeans (weights_line system) out last (Err fault)
        → SystemMeans only number system out last (Err fault)
    failed_item fault m = failed fault m.later m.answer

-- relations of two lists, with one place more
pub zip_push : {A B : Type 0} (R : A → B → Type 0) (xs : List A) (ys : List B) (x : A) (y : B) → AllZip R xs ys → R x y
    → AllZip R (xs ++ x ∷ []) (ys ++ y ∷ [])
zip_push R [] [] x y h r = (r, tt)
zip_push R [] (v ∷ ys) x y h r = absurd h
zip_push R (u ∷ xs) [] x y h r = absurd h
zip_push R (u ∷ xs) (v ∷ ys) x y h r = (h.0, zip_push R xs ys x y h.1 r)

mark_small : (only : Bool) (system : Weighted) (mark : ℕ) → IsMark only system mark → mark ≤ 1
mark_small only system mark (inl h) = let e = h.1 in omega (arith, e)
mark_small only system mark (inr h) = let e = h.1 in omega (arith, e)

marks_small : (only : Bool) (systems : List Weighted) (marks : List ℕ) → AllZip (IsMark only) systems marks → total marks ≤ length systems
marks_small only [] [] h = omega arith
marks_small only [] (m ∷ marks) h = absurd h
marks_small only (s ∷ systems) [] h = absurd h
marks_small only (s ∷ systems) (m ∷ marks) h =
    let one = mark_small only s m h.0 in
    let rest = marks_small only systems marks h.1 in
    omega (arith, one, rest)

-- no more are listed than there are
pub listed_few : (only : Bool) (systems : List Weighted) (count : ℕ) → CountsListed only systems count → count ≤ length systems
listed_few only systems count c = let small = marks_small only systems c.marks c.are_marks in let e = c.count_is in omega (arith, small, e)

pub count_none : (only : Bool) → CountsListed only [] 0
count_none only = record { marks = []; are_marks = tt; count_is = refl }

pub count_more : (only : Bool) (systems : List Weighted) (system : Weighted) (count mark : ℕ) → CountsListed only systems count
    → IsMark only system mark → CountsListed only (systems ++ system ∷ []) (count + mark)
count_more only systems system count mark c m =
    let e = c.count_is in
    let both = total-append c.marks (mark ∷ []) in
    record {
      marks = c.marks ++ mark ∷ [];
      are_marks = zip_push (IsMark only) systems c.marks system mark c.are_marks m;
      count_is = sums count (total c.marks) (total (c.marks ++ mark ∷ [])) e both;
    }
  where
    sums : (k a t : ℕ) → k ≡ a → t ≡ a + (mark + 0) → k + mark ≡ t
    sums k a t e f = omega (arith, e, f)

-- the report up to a system whose line wasn't given whole
module _ (only : Bool) (dim low high : ℕ) (first : SinkState) (search : Searched) (number : ℕ) (systems : List Weighted) (now : SinkState)
    (so_far : ListedSoFar (CwsSays only) dim low high search number systems first now) (after : Searched) (system : WeightSystem)
    (gives : GivesSystem search after (Some system)) (last : SinkState) where
  pub system_stopped : (fault : ListFault) → SystemMeans only (number + 1) (weighted system) now last (Err fault)
      → Reports (CwsSays only) dim low high first last (Err fault)
  system_stopped (faults.Refused told cause) m =
      listed_stop (CwsSays only) dim low high first search number systems now so_far after system gives last told cause m.0 m.1
  system_stopped faults.Write m = listed_write (CwsSays only) dim low high first search number systems now so_far after system gives last m.0 m.1
  system_stopped faults.NoMemory m = listed_part (CwsSays only) dim low high first search number systems now so_far after system gives last m

-- a line that was written on a page that was cleared
pub on_page : (page cleared text : List ℕ) → cleared ≡ [] → page ≡ cleared ++ text → page ≡ text
on_page page cleared text e f = f ∙ ap (λ (xs : List ℕ). xs ++ text) e

module _ (only : Bool) (number : ℕ) (system : Weighted) (out last : SinkState) (listed : IsListed only system) (page cleared : List ℕ)
    (empty : cleared ≡ []) (written : page ≡ cleared ++ weights_line system) (result : Result (Unit {0}) ListFault)
    (means : LineMeans page out last result) where
  on_line : (other : Result (Unit {0}) ListFault) → result ≡ other → LineMeans (weights_line system) out last other
  on_line other e = subst (λ (r : Result (Unit {0}) ListFault). LineMeans (weights_line system) out last r) e
      (subst (λ (xs : List ℕ). LineMeans xs out last result) (on_page page cleared (weights_line system) empty written) means)

  pub given_line : result ≡ Ok tt → SystemMeans only number system out last (Ok 1)
  given_line e = listed_item only number system out listed last (on_line (Ok tt) e)

  pub failed_line : (fault told : ListFault) → result ≡ Err fault → told ≡ fault → SystemMeans only number system out last (Err told)
  failed_line fault told e f = subst (λ (t : ListFault). SystemMeans only number system out last (Err t)) (sym f)
      (failed_item only number system out listed last fault (on_line (Err fault) e))
