-- Reporting the systems of a range, one after another.
use Rattle.std.proofs.Common.{◌≡◌, ℕ, ◌+◌, ◌<◌, ◌≤◌, ◌^◌, List, [], ◌∷◌, ◌++◌, length, map, Some, None, Result, Ok, Err, sym, ap, ◌∙◌, subst, append_assoc}
use Rattle.std.proofs.lemmas.List.{map-append, length-map}
use Rattle.lattice_core.specs.Weights.{Weighted, weighted}
use Rattle.lattice_core.specs.declared.faults.Refusal.{Refusal}
use Rattle.lattice_core.specs.declared.weights.WeightSystem.{WeightSystem}
use Rattle.palp_io.specs.Sink.{SinkState}
use Rattle.palp_io.specs.Faults.{Rose}
use Rattle.palp_io.proofs.FaultLemmas.{Rose-late}
use Rattle.report_theory.specs.Report.{Whole, Ends, Step, stop_at}
use Rattle.report_theory.specs.Giving.{GivesItem, GivesReport, GivesFront}
use Rattle.report_theory.proofs.Givings.{ReportedSoFar, reported_nothing, reported_item, reported_end, reported_part, reported_front, reported_all, item_nothing}
use Rattle.report_theory.proofs.Givings.{item_piece, item_closed, item_part}
use Rattle.interior_point_theory.specs.Interior.{IsInteriorPointSystem, AreSystemsOfRange}
use Rattle.weight_enum.specs.Searched.{Searched, GivesSystem, IsSystemAt, HasSystems, AreFirstSystems}
use Rattle.weight_enum.proofs.FirstSystems.{no_systems_are_first_lem, first_and_next_lem, first_are_all_lem}
use Rattle.weight_lists.specs.Entries.{ListEntry, System, EndOf, entries_of, ListSays, summary, ended}
use Rattle.weight_lists.specs.Answers.{IsRange, ReportMeans, Reports}
use Rattle.weight_lists.specs.Steps.{LineAnswer, LineMeans}
use Rattle.weight_lists.specs.declared.fault.ListFault.{ListFault}
use Rattle.weight_lists.specs.declared.fault.ListFault.TheVariants as faults
use Rattle.weight_lists.proofs.Fronts.{HasWhole, whole_of, first_are_few, entries_more, whole_entries}

module _ (system_says : Weighted → ℕ → Step Refusal → Type 0) (is_line : List Weighted → List ℕ → Type 0) where
  abbrev pub Says : ListEntry → ℕ → Step Refusal → Type 0
  Says = ListSays system_says is_line

-- so many systems were given by a search, and reported
pub record ListedSoFar (says : ListEntry → ℕ → Step Refusal → Type 0) (dim low high : ℕ) (search : Searched) (number : ℕ)
    (systems : List Weighted) (first now : SinkState) : Type 0 where
  pub range : IsRange dim low high
  pub search_is : search ≡ record { dim = dim; low = low; high = high; given = number }
  pub are_first : AreFirstSystems dim low high number systems
  pub reported : ReportedSoFar says (map System systems) None first now

pub few_listed : {says : ListEntry → ℕ → Step Refusal → Type 0} {dim low high : ℕ} {search : Searched} {number : ℕ} {systems : List Weighted}
    {first now : SinkState} → ListedSoFar says dim low high search number systems first now → number < 2 ^ 61
few_listed {dim = dim} {low = low} {high = high} {number = number} {systems = systems} s =
    first_are_few dim low high number systems s.range s.are_first

module _ (says : ListEntry → ℕ → Step Refusal → Type 0) (dim low high : ℕ) (first : SinkState) where
  pub listed_nothing : (search : Searched) → IsRange dim low high → search ≡ record { dim = dim; low = low; high = high; given = 0 }
      → ListedSoFar says dim low high search 0 [] first first
  listed_nothing search range e =
      record { range = range; search_is = e; are_first = no_systems_are_first_lem dim low high; reported = reported_nothing says first }

  -- nothing was reported
  pub unlisted : IsRange dim low high → Reports says dim low high first first (Err faults.NoMemory)
  unlisted range =
      let w = whole_of dim low high 0 [] range (no_systems_are_first_lem dim low high) in record {
        entries = entries_of w.rest;
        are_entries = whole_entries dim low high w.rest w.are_systems;
        means = reported_front says first first [] None (reported_nothing says first) (entries_of w.rest);
      }

  module _ (search : Searched) (number : ℕ) (systems : List Weighted) (now : SinkState)
      (so_far : ListedSoFar says dim low high search number systems first now) where
    abbrev whole : HasWhole dim low high systems
    whole = whole_of dim low high number systems so_far.range so_far.are_first

    -- the search found no memory
    pub listed_front : Reports says dim low high first now (Err faults.NoMemory)
    listed_front = record {
      entries = entries_of (systems ++ whole.rest);
      are_entries = whole_entries dim low high (systems ++ whole.rest) whole.are_systems;
      means = subst (λ (es : List ListEntry). GivesFront says es first now) (sym (entries_more systems whole.rest))
          (reported_front says first now (map System systems) None so_far.reported (map System whole.rest ++ EndOf (systems ++ whole.rest) ∷ []));
    }

    -- the search gave a system
    module _ (after : Searched) (system : WeightSystem) (gives : GivesSystem search after (Some system)) where
      pub system_at : IsSystemAt dim low high number (weighted system)
      system_at = subst (λ (s : Searched). IsSystemAt s.dim s.low s.high s.given (weighted system)) so_far.search_is gives.1

      pub is_system : IsInteriorPointSystem (weighted system)
      is_system = system_at.is_system.is_system

      after_is : after ≡ record { dim = dim; low = low; high = high; given = number + 1 }
      after_is = gives.0 ∙ ap (λ (s : Searched). record { dim = s.dim; low = s.low; high = s.high; given = s.given + 1 }) so_far.search_is

      more_first : AreFirstSystems dim low high (number + 1) (systems ++ weighted system ∷ [])
      more_first = first_and_next_lem dim low high number systems (weighted system) so_far.are_first system_at

      pub next_few : number + 1 < 2 ^ 61
      next_few = first_are_few dim low high (number + 1) (systems ++ weighted system ∷ []) so_far.range more_first

      more_whole : HasWhole dim low high (systems ++ weighted system ∷ [])
      more_whole = whole_of dim low high (number + 1) (systems ++ weighted system ∷ []) so_far.range more_first

      abbrev all : List Weighted
      all = (systems ++ weighted system ∷ []) ++ more_whole.rest

      abbrev behind : List ListEntry
      behind = map System more_whole.rest ++ EndOf all ∷ []

      all_entries : entries_of all ≡ map System systems ++ System (weighted system) ∷ behind
      all_entries = entries_more (systems ++ weighted system ∷ []) more_whole.rest
          ∙ (ap (λ (es : List ListEntry). es ++ behind) (map-append System systems (weighted system ∷ []))
          ∙ append_assoc (map System systems) (System (weighted system) ∷ []) behind)

      places : length (map System systems) + 1 ≡ number + 1
      places = ap (λ (n : ℕ). n + 1) (length-map systems System ∙ so_far.are_first.count_is)

      module _ (last : SinkState) where
        -- and its pieces were given
        pub listed_more : GivesItem says (System (weighted system)) Whole now last
            → ListedSoFar says dim low high after (number + 1) (systems ++ weighted system ∷ []) first last
        listed_more g = record {
          range = so_far.range;
          search_is = after_is;
          are_first = more_first;
          reported = subst (λ (es : List ListEntry). ReportedSoFar says es None first last)
              (sym (map-append System systems (weighted system ∷ [])))
              (reported_item says first now (map System systems) None so_far.reported (System (weighted system)) last Whole tt g);
        }

        -- and is refused
        pub listed_stop : (place : ℕ) (cause : Refusal) → place ≡ number + 1 → GivesItem says (System (weighted system)) (Ends cause) now last
            → Reports says dim low high first last (Err (faults.Refused place cause))
        listed_stop place cause e g = record {
          entries = entries_of all;
          are_entries = whole_entries dim low high all more_whole.are_systems;
          means = subst (λ (n : ℕ). GivesReport says (entries_of all) (stop_at n cause) first last) (places ∙ sym e)
              (subst (λ (es : List ListEntry). GivesReport says es (stop_at (length (map System systems) + 1) cause) first last) (sym all_entries)
              (reported_end says first now (map System systems) None so_far.reported (System (weighted system)) last behind cause g));
        }

        front_given : GivesFront says (System (weighted system) ∷ []) now last → GivesFront says (entries_of all) first last
        front_given g = subst (λ (es : List ListEntry). GivesFront says es first last) (sym all_entries)
            (reported_part says first now (map System systems) None so_far.reported (System (weighted system)) last behind g)

        -- and its report was left off
        pub listed_write : Rose now.faults last.faults → GivesFront says (System (weighted system) ∷ []) now last
            → Reports says dim low high first last (Err faults.Write)
        listed_write rose g = record {
          entries = entries_of all;
          are_entries = whole_entries dim low high all more_whole.are_systems;
          means = (Rose-late first.faults now.faults last.faults so_far.reported.gives.later rose, front_given g);
        }

        pub listed_part : GivesFront says (System (weighted system) ∷ []) now last → Reports says dim low high first last (Err faults.NoMemory)
        listed_part g = record {
          entries = entries_of all;
          are_entries = whole_entries dim low high all more_whole.are_systems;
          means = front_given g;
        }

    -- the search gave all systems
    module _ (after : Searched) (gives : GivesSystem search after None) where
      pub all_given : AreSystemsOfRange dim low high systems
      all_given = first_are_all_lem dim low high number systems so_far.are_first
          (subst (λ (s : Searched). HasSystems s.dim s.low s.high s.given) so_far.search_is gives.1)

-- the line behind the whole list
module _ (system_says : Weighted → ℕ → Step Refusal → Type 0) (is_line : List Weighted → List ℕ → Type 0) (dim low high : ℕ)
    (first : SinkState) (search after : Searched) (number : ℕ) (systems : List Weighted) (now last : SinkState)
    (so_far : ListedSoFar (ListSays system_says is_line) dim low high search number systems first now) (gives : GivesSystem search after None)
    (line : List ℕ) (is : is_line systems line) where
  abbrev says : ListEntry → ℕ → Step Refusal → Type 0
  says = ListSays system_says is_line

  abbrev end : ListEntry
  end = EndOf systems

  means_of : (result : Result (Unit {0}) ListFault) → now.faults ≤ last.faults → LineAnswer line now last result
      → ReportMeans says (entries_of systems) first last result
  means_of (Ok done) later a =
      reported_all says first last (map System systems ++ end ∷ []) None
      (reported_item says first now (map System systems) None so_far.reported end last Whole tt
      (item_closed says now last end 1 (item_piece says now now end 0 (item_nothing says now end) line last (summary is) a later) Whole ended))
  means_of (Err (faults.Refused n cause)) later a = absurd a
  means_of (Err faults.Write) later a = (
    Rose-late first.faults now.faults last.faults so_far.reported.gives.later a.rose,
    reported_part says first now (map System systems) None so_far.reported end last []
        (item_part says now now end 0 (item_nothing says now end) line last (summary is) a.part later),
  )
  means_of (Err faults.NoMemory) later a = subst (λ (s : SinkState). GivesFront says (entries_of systems) first s) (sym a)
      (reported_front says first now (map System systems) None so_far.reported (end ∷ []))

  pub listed_whole : (result : Result (Unit {0}) ListFault) → LineMeans line now last result → Reports says dim low high first last result
  listed_whole result m = record {
    entries = entries_of systems;
    are_entries = whole_entries dim low high systems
        (all_given says dim low high first search number systems now so_far after gives);
    means = means_of result m.later m.answer;
  }
