-- The report of `cws`: the systems of a range, or those of them whose polytope is reflexive, and their number. This project's own.
use Rattle.std.specs.Prelude.{◌≡◌, ◌⊎◌, ℕ, Bool, true, false, List, if◌then◌else◌}
use Rattle.std.specs.List.{AllZip}
use Rattle.lattice_core.specs.Weights.{Weighted, total}
use Rattle.lattice_core.specs.declared.faults.Refusal.{Refusal}
use Rattle.report_theory.specs.Report.{Whole, Ends, Step, Piece, Close}
use Rattle.palp_print.specs.Lists.{weights_line, closing}
use Rattle.palp_print.specs.declared.titles.CountTitle.{CountTitle}
use Rattle.palp_print.specs.declared.titles.CountTitle.TheVariants.{Ip, Ref}
use Rattle.item_polytopes.specs.Kinds.{IsPolytopeRefusal}
use Rattle.weight_lists.specs.Systems.{line_of, IsReflexiveSystem, IsOtherSystem}
use Rattle.weight_lists.specs.Entries.{ListEntry, ListSays}

-- the system is listed: every system is, and with `only` those whose polytope is reflexive
abbrev pub IsListed : Bool → Weighted → Type 0
IsListed false system = Unit {0}
IsListed true system = IsReflexiveSystem system

-- it isn't
abbrev pub IsLeftOut : Bool → Weighted → Type 0
IsLeftOut false system = ⊥
IsLeftOut true system = IsOtherSystem system

-- it is refused: it has no polytope within the limits. The limit on lattice points doesn't come: they are the points of the exponent vectors, of
-- which there are few.
abbrev pub IsRefused : Bool → Weighted → Refusal → Type 0
IsRefused false system cause = ⊥
IsRefused true system cause = IsPolytopeRefusal (line_of system) cause

-- a system that is listed has its line
pub data LineSays (only : Bool) (system : Weighted) : ℕ → Step Refusal → Type 0 where
  line : IsListed only system → LineSays only system 0 (Piece (weights_line system))
  behind_line : LineSays only system 1 (Close Whole)
  left_out : IsLeftOut only system → LineSays only system 0 (Close Whole)
  refused : {cause : Refusal} → IsRefused only system cause → LineSays only system 0 (Close (Ends cause))

-- 1 where the system is listed, and otherwise 0
abbrev pub IsMark : Bool → Weighted → ℕ → Type 0
IsMark only system mark = (IsListed only system × (mark ≡ 1)) ⊎ (IsLeftOut only system × (mark ≡ 0))

-- how many of the systems are listed
pub record CountsListed (only : Bool) (systems : List Weighted) (count : ℕ) : Type 0 where
  pub marks : List ℕ
  pub are_marks : AllZip (IsMark only) systems marks
  pub count_is : count ≡ total marks

-- what is counted
abbrev pub title_of : Bool → CountTitle
title_of only = if only then Ref else Ip

-- the closing line of a whole list
pub record IsCountLine (only : Bool) (systems : List Weighted) (bytes : List ℕ) : Type 0 where
  pub count : ℕ
  pub counts : CountsListed only systems count
  pub bytes_are : bytes ≡ closing (title_of only) count

-- what `cws` says of an entry; with `only` it lists the systems whose polytope is reflexive
abbrev pub CwsSays : Bool → ListEntry → ℕ → Step Refusal → Type 0
CwsSays only entry k step = ListSays (LineSays only) (IsCountLine only) entry k step
