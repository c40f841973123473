-- The rows of members and then those of functions tell the relation.
use Rattle.std.specs.List.{All}
use Rattle.std.specs.Prelude.{Some}
use Rattle.std.proofs.Common.{◌≡◌, ℕ, ◌+◌, ◌<◌, List, [], ◌++◌, length, get_or, sym, ap, ◌∙◌, subst, arith, length-append, append_assoc}
use Rattle.std.proofs.Math.ListN.{get_or-append}
use Rattle.std.proofs.lemmas.List.{get_or-append-add}
use Rattle.std.proofs.lemmas.List.Elements.{All-append}
use Rattle.std.proofs.lemmas.Option.{slice_get-get_or}
use Rattle.face_theory.specs.Faces.{TightRelation}
use Rattle.bit_pool.specs.Bits.{IsRow}
use Rattle.bit_pool.specs.Pools.{PoolState, row_of}
use Rattle.bit_pool.proofs.Stays.{young_row}
use Rattle.incidence.specs.Incidences.{IncidenceState, HasExactly, with_rows, IsToldIn}
use Rattle.incidence.specs.RowSteps.{AddsRows, IsPlanned}
use Rattle.incidence.proofs.Added.{same_width}

-- an added row has its place behind those before
added_row : (before : PoolState) (added : List (List ℕ)) (epoch first k : ℕ) → epoch ≡ before.young_generation.epoch
    → first ≡ length before.young_generation.rows → k < length added
    → row_of (with_rows before added) (record { epoch = epoch; place = first + k }) ≡ Some (get_or added k [])
added_row before added epoch first k e f l = young_row (with_rows before added) (record { epoch = epoch; place = first + k }) (get_or added k []) e
    (slice_get-get_or (before.young_generation.rows ++ added) (first + k) []
    (let s = length-append before.young_generation.rows added in omega arith)
    ∙ ap Some (ap (λ (n : ℕ). get_or (before.young_generation.rows ++ added) (n + k) []) f
    ∙ get_or-append-add before.young_generation.rows added k []))

-- a member of two lists, one behind the other
in_first : (xs ys : List (List ℕ)) (k n : ℕ) → length xs ≡ n → k < n → get_or (xs ++ ys) k [] ≡ get_or xs k []
in_first xs ys k n e l = get_or-append xs ys [] k (omega arith)

in_second : (xs ys : List (List ℕ)) (k n : ℕ) → length xs ≡ n → get_or (xs ++ ys) (n + k) [] ≡ get_or ys k []
in_second xs ys k n e = ap (λ (m : ℕ). get_or (xs ++ ys) (m + k) []) (sym e) ∙ get_or-append-add xs ys k []

module _ (before middle now : PoolState) (i : IncidenceState) (R : TightRelation) (p : IsPlanned before R.members R.functions i)
    (a : AddsRows before middle R.members (λ m words. HasExactly R.functions (λ f. R.tight m f) words))
    (b : AddsRows middle now R.functions (λ f words. HasExactly R.members (λ m. R.tight m f) words)) where
  all_added : List (List ℕ)
  all_added = a.added ++ b.added

  all_many : length (a.added ++ b.added) ≡ R.members + R.functions
  all_many = length-append a.added b.added ∙ (let m = a.many in let n = b.many in omega arith)

  now_all : now ≡ with_rows before (a.added ++ b.added)
  now_all = b.now_is ∙ ap (λ (pool : PoolState). with_rows pool b.added) a.now_is
      ∙ ap (λ (rows : List (List ℕ)). record before { young_generation = record before.young_generation { rows = rows } })
      (append_assoc before.young_generation.rows a.added b.added)

  at : (k : ℕ) (words : List ℕ) → k < R.members + R.functions → get_or (a.added ++ b.added) k [] ≡ words
      → row_of now (record { epoch = i.epoch; place = i.first + k }) ≡ Some words
  at k words l e = subst (λ (pool : PoolState). row_of pool (record { epoch = i.epoch; place = i.first + k }) ≡ Some words) (sym now_all)
      (added_row before (a.added ++ b.added) i.epoch i.first k p.epoch p.first (let m = all_many in omega arith) ∙ ap Some e)

  pub is_told : IsToldIn before now R i
  is_told = record {
    room = p.room;
    epoch = p.epoch;
    first = p.first;
    gained = record {
      added = a.added ++ b.added;
      many = all_many;
      are_rows = All-append (IsRow before.width) a.added b.added a.are_rows (subst (λ (w : ℕ). All (IsRow w) b.added) (same_width a) b.are_rows);
      now_is = now_all;
    };
    tells = record {
      members = p.members_are;
      functions = p.functions_are;
      member_rows = λ m l. record {
        words = get_or a.added m [];
        named = at m (get_or a.added m []) (omega arith) (in_first a.added b.added m R.members a.many l);
        holds = a.each m [] l;
      };
      function_rows = λ f l. record {
        words = get_or b.added f [];
        named = subst (λ (n : ℕ). row_of now (record { epoch = i.epoch; place = i.first + (n + f) }) ≡ Some (get_or b.added f [])) (sym p.members_are)
            (at (R.members + f) (get_or b.added f []) (omega arith) (in_second a.added b.added f R.members a.many));
        holds = b.each f [] l;
      };
    };
  }
