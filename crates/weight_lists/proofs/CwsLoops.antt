-- What the loop of `cws` keeps.
use Rattle.std.proofs.Common.{◌≡◌, ℕ, ◌+◌, ◌<◌, ◌≤◌, ◌^◌, Bool, List, [], ◌∷◌, ◌++◌, Some, None, Result, Ok, Err, refl, sym, subst, arith}
use Rattle.lattice_core.specs.Weights.{Weighted, weighted}
use Rattle.lattice_core.specs.declared.weights.WeightSystem.{WeightSystem}
use Rattle.palp_io.specs.Sink.{SinkState}
use Rattle.palp_print.specs.Lists.{closing}
use Rattle.interior_point_theory.specs.Interior.{IsInteriorPointSystem}
use Rattle.weight_enum.specs.Searched.{Searched, GivesSystem}
use Rattle.weight_lists.specs.Lists.{CountsListed, LineSays, IsCountLine, CwsSays, title_of}
use Rattle.weight_lists.specs.Answers.{IsRange, Reports}
use Rattle.weight_lists.specs.Steps.{LineMeans, SystemMeans}
use Rattle.weight_lists.specs.declared.fault.ListFault.{ListFault}
use Rattle.weight_lists.specs.declared.fault.ListFault.TheVariants as faults
use Rattle.weight_lists.proofs.Reporting.{ListedSoFar, few_listed, listed_nothing, unlisted, listed_front, is_system, next_few, listed_more, listed_whole}
use Rattle.weight_lists.proofs.SystemLines.{count_none, count_more, listed_few, system_stopped}

-- so many systems were given, and so many of them listed
pub record CwsSoFar (only : Bool) (dim low high : ℕ) (search : Searched) (number listed : ℕ) (first now : SinkState) : Type 0 where
  pub systems : List Weighted
  pub so_far : ListedSoFar (CwsSays only) dim low high search number systems first now
  pub counts : CountsListed only systems listed

module _ (only : Bool) (dim low high : ℕ) (first : SinkState) where
  -- a fault that is want of memory
  pub cws_unlisted : (told : ListFault) → told ≡ faults.NoMemory → IsRange dim low high
      → Reports (CwsSays only) dim low high first first (Err told)
  cws_unlisted told e range = subst (λ (t : ListFault). Reports (CwsSays only) dim low high first first (Err t)) (sym e)
      (unlisted (CwsSays only) dim low high first range)

  pub cws_nothing : (search : Searched) → IsRange dim low high → search ≡ record { dim = dim; low = low; high = high; given = 0 }
      → CwsSoFar only dim low high search 0 0 first first
  cws_nothing search range e =
      record { systems = []; so_far = listed_nothing (CwsSays only) dim low high first search range e; counts = count_none only }

  module _ (search : Searched) (number listed : ℕ) (now : SinkState) (s : CwsSoFar only dim low high search number listed first now) where
    pub cws_front : (told : ListFault) → told ≡ faults.NoMemory → Reports (CwsSays only) dim low high first now (Err told)
    cws_front told e = subst (λ (t : ListFault). Reports (CwsSays only) dim low high first now (Err t)) (sym e)
        (listed_front (CwsSays only) dim low high first search number s.systems now s.so_far)

    pub number_small : number < 2 ^ 61
    number_small = few_listed s.so_far

    pub listed_small : listed ≤ number
    listed_small =
        let few = listed_few only s.systems listed s.counts in
        let count = s.so_far.are_first.count_is in
        omega (arith, few, count)

    module _ (after : Searched) (system : WeightSystem) (gives : GivesSystem search after (Some system)) where
      pub cws_system : IsInteriorPointSystem (weighted system)
      cws_system = is_system (CwsSays only) dim low high first search number s.systems now s.so_far after system gives

      pub cws_next_few : number + 1 < 2 ^ 61
      cws_next_few = next_few (CwsSays only) dim low high first search number s.systems now s.so_far after system gives

      module _ (last : SinkState) where
        pub cws_stopped : (fault told : ListFault) → told ≡ fault → SystemMeans only (number + 1) (weighted system) now last (Err fault)
            → Reports (CwsSays only) dim low high first last (Err told)
        cws_stopped fault told e m = subst (λ (t : ListFault). Reports (CwsSays only) dim low high first last (Err t)) (sym e)
            (system_stopped only dim low high first search number s.systems now s.so_far after system gives last fault m)

        pub cws_more : (mark : ℕ) → SystemMeans only (number + 1) (weighted system) now last (Ok mark)
            → CwsSoFar only dim low high after (number + 1) (listed + mark) first last
        cws_more mark m = record {
          systems = s.systems ++ weighted system ∷ [];
          so_far = listed_more (CwsSays only) dim low high first search number s.systems now s.so_far after system gives last m.0;
          counts = count_more only s.systems (weighted system) listed mark s.counts m.1;
        }

    pub cws_closed : (after : Searched) → GivesSystem search after None → (last : SinkState) (result : Result (Unit {0}) ListFault)
        → LineMeans (closing (title_of only) listed) now last result → Reports (CwsSays only) dim low high first last result
    cws_closed after gives last result m = listed_whole (LineSays only) (IsCountLine only) dim low high first search after number s.systems now
        last s.so_far gives (closing (title_of only) listed) (record { count = listed; counts = s.counts; bytes_are = refl }) result m
