-- Going through items, one piece after another.
use Rattle.std.proofs.Common.{◌≡◌, ℕ, ◌+◌, List, [], ◌∷◌, ◌++◌, length, Option, Some, None, refl, sym, ◌∙◌, ap, subst, arith, append_assoc}
use Rattle.std.proofs.lemmas.List.{append-nil, length-append}
use Rattle.palp_io.specs.Sink.{IsPrefix}
use Rattle.report_theory.specs.Report.{Closing, Whole, Ends, Continues, Step, Piece, Close, Stop, stop_at, IsFollowed, ArePieces, IsListReport, IsListFront}
use Rattle.report_theory.specs.Report.{one_more, no_more, no_item, next_piece, next_item, last_item, refused_item, nothing, front_part, front_piece, front_item}

-- the first of two refusals, of which the first one may be missing
abbrev pub first_stop : {R : Type 0} → Option (Stop R) → Option (Stop R) → Option (Stop R)
first_stop (Some stop) later = Some stop
first_stop None later = later

-- the first refusal, where an item with this number closes so
abbrev pub with_closing : {R : Type 0} → ℕ → Closing R → Option (Stop R) → Option (Stop R)
with_closing number Whole later = later
with_closing number (Ends cause) later = stop_at number cause
with_closing number (Continues cause) later = stop_at number cause

-- So many pieces of an item, and these, were passed: what follows them is the rest of its pieces, or a front of it.
pub record Begun {X R : Type 0} (says : X → ℕ → Step R → Type 0) (item : X) (k : ℕ) (begin : List (List ℕ)) : Type 0 where
  pub goes_on : (later : List (List ℕ)) (closing : Closing R) → ArePieces says k item later closing
      → ArePieces says 0 item (begin ++ later) closing
  pub front_on : (later : List (List ℕ)) → IsListFront says k (item ∷ []) later → IsListFront says 0 (item ∷ []) (begin ++ later)

-- These items and their pieces were passed, with this first refusal: what follows is the report of the items behind them, or a front of it.
pub record Passed {X R : Type 0} (says : X → ℕ → Step R → Type 0) (seen : List X) (begin : List (List ℕ)) (first : Option (Stop R))
    : Type 0 where
  pub goes_on : (behind : List X) (later : List (List ℕ)) (stop : Option (Stop R)) → IsListReport says (length seen + 1) 0 behind later stop
      → IsListReport says 1 0 (seen ++ behind) (begin ++ later) (first_stop first stop)
  pub front_on : (behind : List X) (later : List (List ℕ)) → IsListFront says 0 behind later
      → IsListFront says 0 (seen ++ behind) (begin ++ later)

one_longer : {X : Type 0} (seen : List X) (item : X) → length (seen ++ item ∷ []) + 1 ≡ (length seen + 1) + 1
one_longer seen item = let e = length-append seen (item ∷ []) in omega (arith, e)

module _ {R : Type 0} where
  first_first : (a b c : Option (Stop R)) → first_stop a (first_stop b c) ≡ first_stop (first_stop a b) c
  first_first (Some s) b c = refl
  first_first None b c = refl

  first_none : (a : Option (Stop R)) → first_stop a None ≡ a
  first_none (Some s) = refl
  first_none None = refl

  -- the first refusal with that of a closing behind which the next item follows
  with_first : (number : ℕ) (closing : Closing R) (stop : Option (Stop R)) → IsFollowed closing
      → with_closing number closing stop ≡ first_stop (with_closing number closing None) stop
  with_first number Whole stop on = refl
  with_first number (Ends cause) stop on = absurd on
  with_first number (Continues cause) stop on = refl

module _ {X R : Type 0} (says : X → ℕ → Step R → Type 0) where
  -- from one item to items

  item_closes : (number k : ℕ) (item : X) (items : List X) (closing : Closing R) (later : List (List ℕ)) (stop : Option (Stop R))
      → says item k (Close closing) → IsFollowed closing → IsListReport says (number + 1) 0 items later stop
      → IsListReport says number k (item ∷ items) later (with_closing number closing stop)
  item_closes number k item items Whole later stop a on r = next_item a r
  item_closes number k item items (Ends cause) later stop a on r = absurd on
  item_closes number k item items (Continues cause) later stop a on r = refused_item a r

  -- the pieces of an item, and the report of the items behind it
  pub item_in_front : (number k : ℕ) (item : X) (items : List X) (closing : Closing R) (own later : List (List ℕ)) (stop : Option (Stop R))
      → ArePieces says k item own closing → IsFollowed closing → IsListReport says (number + 1) 0 items later stop
      → IsListReport says number k (item ∷ items) (own ++ later) (with_closing number closing stop)
  item_in_front number k item items closing _ later stop (one_more {later = rest} a p) on r =
      next_piece a (item_in_front number (k + 1) item items closing rest later stop p on r)
  item_in_front number k item items closing _ later stop (no_more a) on r = item_closes number k item items closing later stop a on r

  item_ends : (number k : ℕ) (item : X) (items : List X) (cause : R) (own : List (List ℕ)) → ArePieces says k item own (Ends cause)
      → IsListReport says number k (item ∷ items) own (stop_at number cause)
  item_ends number k item items cause _ (one_more {later = rest} a p) = next_piece a (item_ends number (k + 1) item items cause rest p)
  item_ends number k item items cause _ (no_more a) = last_item a

  item_then_front : (k : ℕ) (item : X) (items : List X) (closing : Closing R) (own later : List (List ℕ))
      → ArePieces says k item own closing
      → IsFollowed closing → IsListFront says 0 items later → IsListFront says k (item ∷ items) (own ++ later)
  item_then_front k item items closing _ later (one_more {later = rest} a p) on f =
      front_piece a (item_then_front (k + 1) item items closing rest later p on f)
  item_then_front k item items closing _ later (no_more a) on f = front_item a on f

  -- whatever items follow, a front stays one
  front_of_more : (k : ℕ) (items more : List X) (begin : List (List ℕ)) → IsListFront says k items begin
      → IsListFront says k (items ++ more) begin
  front_of_more k items more _ nothing = nothing
  front_of_more _ _ more _ (front_part a is) = front_part a is
  front_of_more _ _ more _ (front_piece {k = k} {item = item} {items = items} {later = later} a f) =
      front_piece a (front_of_more (k + 1) (item ∷ items) more later f)
  front_of_more _ _ more _ (front_item {items = items} {later = later} a on f) = front_item a on (front_of_more 0 items more later f)

  -- a report is a front of itself
  report_is_front : (number k : ℕ) (items : List X) (bytes : List (List ℕ)) (stop : Option (Stop R))
      → IsListReport says number k items bytes stop → IsListFront says k items bytes
  report_is_front _ _ _ _ _ no_item = nothing
  report_is_front _ _ _ _ _ (next_piece {number = n} {k = k} {item = item} {items = items} {later = l} {stop = s} a r) =
      front_piece a (report_is_front n (k + 1) (item ∷ items) l s r)
  report_is_front _ _ _ _ _ (next_item {number = n} {items = items} {later = l} {stop = s} a r) =
      front_item a tt (report_is_front (n + 1) 0 items l s r)
  report_is_front _ _ _ _ _ (last_item a) = nothing
  report_is_front _ _ _ _ _ (refused_item {number = n} {items = items} {later = l} {stop = s} a r) =
      front_item a tt (report_is_front (n + 1) 0 items l s r)

  -- the report of some items is a front of the report of these and more
  pub fewer_items : (number k : ℕ) (items more : List X) (bytes : List (List ℕ)) (stop : Option (Stop R))
      → IsListReport says number k items bytes stop → IsListFront says k (items ++ more) bytes
  fewer_items number k items more bytes stop r = front_of_more k items more bytes (report_is_front number k items bytes stop r)

  -- inside an item

  pub begun_nothing : (item : X) → Begun says item 0 []
  begun_nothing item = record { goes_on = λ later closing p. p; front_on = λ later f. f }

  module _ (item : X) (k : ℕ) (begin : List (List ℕ)) (so_far : Begun says item k begin) where
    pub begun_piece : (bytes : List ℕ) → says item k (Piece bytes) → Begun says item (k + 1) (begin ++ bytes ∷ [])
    begun_piece bytes a = record {
      goes_on = λ later closing p. subst (λ (xs : List (List ℕ)). ArePieces says 0 item xs closing)
          (sym (append_assoc begin (bytes ∷ []) later))
          (so_far.goes_on (bytes ∷ later) closing (one_more a p));
      front_on = λ later f. subst (λ (xs : List (List ℕ)). IsListFront says 0 (item ∷ []) xs) (sym (append_assoc begin (bytes ∷ []) later))
          (so_far.front_on (bytes ∷ later) (front_piece a f));
    }

    pub begun_closed : (closing : Closing R) → says item k (Close closing) → ArePieces says 0 item begin closing
    begun_closed closing a =
        subst (λ (xs : List (List ℕ)). ArePieces says 0 item xs closing) (append-nil begin) (so_far.goes_on [] closing (no_more a))

    -- what a call leaves that has no memory
    pub begun_front : IsListFront says 0 (item ∷ []) begin
    begun_front = subst (λ (xs : List (List ℕ)). IsListFront says 0 (item ∷ []) xs) (append-nil begin) (so_far.front_on [] nothing)

    -- and one whose give failed
    pub begun_part : (bytes part : List ℕ) → says item k (Piece bytes) → IsPrefix part bytes
        → IsListFront says 0 (item ∷ []) (begin ++ part ∷ [])
    begun_part bytes part a is = so_far.front_on (part ∷ []) (front_part a is)

  -- from item to item

  pub passed_nothing : Passed says [] [] None
  passed_nothing = record { goes_on = λ behind later stop r. r; front_on = λ behind later f. f }

  module _ (seen : List X) (begin : List (List ℕ)) (first : Option (Stop R)) (so_far : Passed says seen begin first) where
    pub passed_item : (item : X) (own : List (List ℕ)) (closing : Closing R) → ArePieces says 0 item own closing → IsFollowed closing
        → Passed says (seen ++ item ∷ []) (begin ++ own) (first_stop first (with_closing (length seen + 1) closing None))
    passed_item item own closing p on = record {
      goes_on = λ behind later stop r.
          let after : IsListReport says 1 0 (seen ++ item ∷ behind) (begin ++ (own ++ later))
          (first_stop first (with_closing (length seen + 1) closing stop)) =
          so_far.goes_on (item ∷ behind) (own ++ later) (with_closing (length seen + 1) closing stop)
          (item_in_front (length seen + 1) 0 item behind closing own later stop p on
          (subst (λ (n : ℕ). IsListReport says n 0 behind later stop) (one_longer seen item) r)) in
          let same = ap (λ (s : Option (Stop R)). first_stop first s) (with_first (length seen + 1) closing stop on)
          ∙ first_first first (with_closing (length seen + 1) closing None) stop in
          let now : Option (Stop R) = first_stop (first_stop first (with_closing (length seen + 1) closing None)) stop in
          subst (λ (xs : List X). IsListReport says 1 0 xs ((begin ++ own) ++ later) now) (sym (append_assoc seen (item ∷ []) behind))
          (subst (λ (xs : List (List ℕ)). IsListReport says 1 0 (seen ++ item ∷ behind) xs now) (sym (append_assoc begin own later))
          (subst (λ (s : Option (Stop R)). IsListReport says 1 0 (seen ++ item ∷ behind) (begin ++ (own ++ later)) s) same after));
      front_on = λ behind later f.
          subst (λ (xs : List X). IsListFront says 0 xs ((begin ++ own) ++ later)) (sym (append_assoc seen (item ∷ []) behind))
          (subst (λ (xs : List (List ℕ)). IsListFront says 0 (seen ++ item ∷ behind) xs) (sym (append_assoc begin own later))
          (so_far.front_on (item ∷ behind) (own ++ later) (item_then_front 0 item behind closing own later p on f)));
    }

    -- a refused item that ends the report
    pub passed_end : (item : X) (behind : List X) (own : List (List ℕ)) (cause : R) → ArePieces says 0 item own (Ends cause)
        → IsListReport says 1 0 (seen ++ item ∷ behind) (begin ++ own) (first_stop first (stop_at (length seen + 1) cause))
    passed_end item behind own cause p =
        so_far.goes_on (item ∷ behind) own (stop_at (length seen + 1) cause) (item_ends (length seen + 1) 0 item behind cause own p)

    -- an item whose report was left off
    pub passed_part : (item : X) (behind : List X) (own : List (List ℕ)) → IsListFront says 0 (item ∷ []) own
        → IsListFront says 0 (seen ++ item ∷ behind) (begin ++ own)
    passed_part item behind own f = so_far.front_on (item ∷ behind) own (front_of_more 0 (item ∷ []) behind own f)

    -- the report was left off between two items
    pub passed_front : (behind : List X) → IsListFront says 0 (seen ++ behind) begin
    passed_front behind = subst (λ (xs : List (List ℕ)). IsListFront says 0 (seen ++ behind) xs) (append-nil begin)
        (so_far.front_on behind [] nothing)

    -- all items were passed
    pub passed_all : IsListReport says 1 0 seen begin first
    passed_all = subst (λ (s : Option (Stop R)). IsListReport says 1 0 seen begin s) (first_none first)
        (subst (λ (xs : List X). IsListReport says 1 0 xs begin (first_stop first None)) (append-nil seen)
        (subst (λ (xs : List (List ℕ)). IsListReport says 1 0 (seen ++ []) xs (first_stop first None)) (append-nil begin)
        (so_far.goes_on [] [] None no_item)))
