-- Where what comes next is one thing, items have one report, and fronts of it are its fronts.
use Rattle.std.proofs.Common.{◌≡◌, ℕ, ◌+◌, List, [], ◌∷◌, ◌++◌, Option, sym, ◌∙◌, ap, refl, append_assoc, subst}
use Rattle.std.proofs.lemmas.List.{append-nil}
use Rattle.std.specs.List.{concat}
use Rattle.palp_io.specs.Sink.{IsPrefix}
use Rattle.palp_io.proofs.SinkLemmas.{IsPrefix-nothing}
use Rattle.report_theory.specs.Report.{Closing, Whole, Ends, Continues, Step, Piece, Close, Stop, stop_at, IsFollowed, SaysOne, ArePieces, IsListReport, IsListFront}
use Rattle.report_theory.specs.Report.{one_more, no_more, no_item, next_piece, next_item, last_item, refused_item, nothing, front_part, front_piece, front_item}

part_is : (part rest whole behind : List ℕ) → whole ≡ part ++ rest → whole ++ behind ≡ (part ++ []) ++ (rest ++ behind)
part_is part rest whole behind e =
    ap (λ (xs : List ℕ). xs ++ behind) e
    ∙ (append_assoc part rest behind ∙ ap (λ (xs : List ℕ). xs ++ (rest ++ behind)) (sym (append-nil part)))

joined_is : (p q l m rest : List ℕ) → p ≡ q → m ≡ l ++ rest → q ++ m ≡ (p ++ l) ++ rest
joined_is p q l m rest e f = ap (λ (xs : List ℕ). xs ++ m) (sym e) ∙ (ap (λ (xs : List ℕ). p ++ xs) f ∙ sym (append_assoc p l rest))

joined : (piece other : List ℕ) (later further : List (List ℕ)) → piece ≡ other → later ≡ further → piece ∷ later ≡ other ∷ further
joined piece other later further e f = λ i. e i ∷ f i

module _ {X R : Type 0} (says : X → ℕ → Step R → Type 0) (one : SaysOne says) where
  same_piece : (item : X) (k : ℕ) (bytes other : List ℕ) → says item k (Piece bytes) → says item k (Piece other) → bytes ≡ other
  same_piece item k bytes other a b = let e = one item k (Piece bytes) (Piece other) a b in cc

  same_closing : (item : X) (k : ℕ) (closing other : Closing R) → says item k (Close closing) → says item k (Close other) → closing ≡ other
  same_closing item k closing other a b = let e = one item k (Close closing) (Close other) a b in cc

  same_end : (item : X) (k : ℕ) (cause other : R) → says item k (Close (Ends cause)) → says item k (Close (Ends other)) → cause ≡ other
  same_end item k cause other a b = let e = same_closing item k (Ends cause) (Ends other) a b in cc

  same_refusal : (item : X) (k : ℕ) (cause other : R) → says item k (Close (Continues cause)) → says item k (Close (Continues other))
      → cause ≡ other
  same_refusal item k cause other a b = let e = same_closing item k (Continues cause) (Continues other) a b in cc

  -- an item has a further piece, or its pieces end, in one way
  piece_or_close : {Z : Type 0} (item : X) (k : ℕ) (bytes : List ℕ) (closing : Closing R)
      → says item k (Piece bytes) → says item k (Close closing) → Z
  piece_or_close item k bytes closing a b = absurd (let e = one item k (Piece bytes) (Close closing) a b in cc)

  pub end_or_whole : {Z : Type 0} (item : X) (k : ℕ) (cause : R) → says item k (Close (Ends cause)) → says item k (Close Whole) → Z
  end_or_whole item k cause a b = absurd (let e = same_closing item k (Ends cause) Whole a b in cc)

  pub continue_or_whole : {Z : Type 0} (item : X) (k : ℕ) (cause : R) → says item k (Close (Continues cause)) → says item k (Close Whole)
      → Z
  continue_or_whole item k cause a b = absurd (let e = same_closing item k (Continues cause) Whole a b in cc)

  end_or_continue : {Z : Type 0} (item : X) (k : ℕ) (cause other : R)
      → says item k (Close (Ends cause)) → says item k (Close (Continues other)) → Z
  end_or_continue item k cause other a b = absurd (let e = same_closing item k (Ends cause) (Continues other) a b in cc)

  -- an item's pieces are one list, which ends in one way
  pub one_list : (k : ℕ) (item : X) (bytes other : List (List ℕ)) (closing another : Closing R) → ArePieces says k item bytes closing
      → ArePieces says k item other another → (bytes ≡ other) × (closing ≡ another)
  one_list k item _ _ closing another (one_more {bytes = p} {later = l} a r) (one_more {bytes = q} {later = m} b u) =
      let behind = one_list (k + 1) item l m closing another r u in
      (joined p q l m (same_piece item k p q a b) behind.0, behind.1)
  one_list k item _ _ closing another (one_more {bytes = p} a r) (no_more b) = piece_or_close item k p another a b
  one_list k item _ _ closing another (no_more a) (one_more {bytes = q} b u) = piece_or_close item k q closing b a
  one_list k item _ _ closing another (no_more a) (no_more b) = (refl, same_closing item k closing another a b)

  -- items have one report, and one first refusal
  pub one_report : (number k : ℕ) (items : List X) (bytes other : List (List ℕ)) (stop another : Option (Stop R))
      → IsListReport says number k items bytes stop → IsListReport says number k items other another → (bytes ≡ other) × (stop ≡ another)
  one_report _ _ _ _ _ _ _ no_item no_item = (refl, refl)
  one_report _ _ _ _ _ _ _ (next_piece {number = n} {k = k} {item = item} {items = items} {bytes = p} {later = l} {stop = s} a r)
      (next_piece {bytes = q} {later = m} {stop = t} b u) =
      let behind = one_report n (k + 1) (item ∷ items) l m s t r u in
      (joined p q l m (same_piece item k p q a b) behind.0, behind.1)
  one_report _ _ _ _ _ _ _ (next_piece {k = k} {item = item} {bytes = p} a r) (next_item b u) = piece_or_close item k p Whole a b
  one_report _ _ _ _ _ _ _ (next_piece {k = k} {item = item} {bytes = p} a r) (last_item {cause = c} b) =
      piece_or_close item k p (Ends c) a b
  one_report _ _ _ _ _ _ _ (next_piece {k = k} {item = item} {bytes = p} a r) (refused_item {cause = c} b u) =
      piece_or_close item k p (Continues c) a b
  one_report _ _ _ _ _ _ _ (next_item {k = k} {item = item} a r) (next_piece {bytes = q} b u) = piece_or_close item k q Whole b a
  one_report _ _ _ _ _ _ _ (next_item {number = n} {items = items} {later = l} {stop = s} a r) (next_item {later = m} {stop = t} b u) =
      one_report (n + 1) 0 items l m s t r u
  one_report _ _ _ _ _ _ _ (next_item {k = k} {item = item} a r) (last_item {cause = c} b) = end_or_whole item k c b a
  one_report _ _ _ _ _ _ _ (next_item {k = k} {item = item} a r) (refused_item {cause = c} b u) = continue_or_whole item k c b a
  one_report _ _ _ _ _ _ _ (last_item {k = k} {item = item} {cause = c} a) (next_piece {bytes = q} b u) =
      piece_or_close item k q (Ends c) b a
  one_report _ _ _ _ _ _ _ (last_item {k = k} {item = item} {cause = c} a) (next_item b u) = end_or_whole item k c a b
  one_report _ _ _ _ _ _ _ (last_item {number = n} {k = k} {item = item} {cause = c} a) (last_item {cause = d} b) =
      (refl, ap (λ (x : R). stop_at n x) (same_end item k c d a b))
  one_report _ _ _ _ _ _ _ (last_item {k = k} {item = item} {cause = c} a) (refused_item {cause = d} b u) = end_or_continue item k c d a b
  one_report _ _ _ _ _ _ _ (refused_item {k = k} {item = item} {cause = c} a r) (next_piece {bytes = q} b u) =
      piece_or_close item k q (Continues c) b a
  one_report _ _ _ _ _ _ _ (refused_item {k = k} {item = item} {cause = c} a r) (next_item b u) = continue_or_whole item k c a b
  one_report _ _ _ _ _ _ _ (refused_item {k = k} {item = item} {cause = c} a r) (last_item {cause = d} b) = end_or_continue item k d c b a
  one_report _ _ _ _ _ _ _ (refused_item {number = n} {k = k} {item = item} {items = items} {cause = c} {later = l} {stop = s} a r)
      (refused_item {cause = d} {later = m} {stop = t} b u) =
      ((one_report (n + 1) 0 items l m s t r u).0, ap (λ (x : R). stop_at n x) (same_refusal item k c d a b))

  -- a front of the report stands at the front of the report
  pub fronts_are_fronts : (k number : ℕ) (items : List X) (begin bytes : List (List ℕ)) (stop : Option (Stop R))
      → IsListFront says k items begin → IsListReport says number k items bytes stop → IsPrefix (concat begin) (concat bytes)
  fronts_are_fronts _ _ _ _ bytes _ nothing r = IsPrefix-nothing (concat bytes)
  fronts_are_fronts _ _ _ _ _ _ (front_part {k = k} {item = item} {bytes = p} {front = f} a is) (next_piece {bytes = q} {later = m} b u) =
      let e = same_piece item k p q a b in
      record { rest = is.rest ++ concat m; whole_is = part_is f is.rest q (concat m) (sym e ∙ is.whole_is) }
  fronts_are_fronts _ _ _ _ _ _ (front_part {k = k} {item = item} {bytes = p} a is) (next_item b u) = piece_or_close item k p Whole a b
  fronts_are_fronts _ _ _ _ _ _ (front_part {k = k} {item = item} {bytes = p} a is) (last_item {cause = c} b) =
      piece_or_close item k p (Ends c) a b
  fronts_are_fronts _ _ _ _ _ _ (front_part {k = k} {item = item} {bytes = p} a is) (refused_item {cause = c} b u) =
      piece_or_close item k p (Continues c) a b
  fronts_are_fronts _ _ _ _ _ _ (front_piece {k = k} {item = item} {items = items} {bytes = p} {later = l} a f)
      (next_piece {number = n} {bytes = q} {later = m} {stop = t} b u) =
      let behind = fronts_are_fronts (k + 1) n (item ∷ items) l m t f u in
      record { rest = behind.rest; whole_is = joined_is p q (concat l) (concat m) behind.rest (same_piece item k p q a b) behind.whole_is }
  fronts_are_fronts _ _ _ _ _ _ (front_piece {k = k} {item = item} {bytes = p} a f) (next_item b u) = piece_or_close item k p Whole a b
  fronts_are_fronts _ _ _ _ _ _ (front_piece {k = k} {item = item} {bytes = p} a f) (last_item {cause = c} b) =
      piece_or_close item k p (Ends c) a b
  fronts_are_fronts _ _ _ _ _ _ (front_piece {k = k} {item = item} {bytes = p} a f) (refused_item {cause = c} b u) =
      piece_or_close item k p (Continues c) a b
  fronts_are_fronts _ _ _ _ _ _ (front_item {k = k} {item = item} {closing = g} a on f) (next_piece {bytes = q} b u) =
      piece_or_close item k q g b a
  fronts_are_fronts _ _ _ _ _ _ (front_item {items = items} {later = l} a on f) (next_item {number = n} {later = m} {stop = t} b u) =
      fronts_are_fronts 0 (n + 1) items l m t f u
  fronts_are_fronts _ _ _ _ _ _ (front_item {k = k} {item = item} {closing = g} a on f) (last_item {cause = c} b) =
      absurd (subst (λ (x : Closing R). IsFollowed x) (same_closing item k g (Ends c) a b) on)
  fronts_are_fronts _ _ _ _ _ _ (front_item {items = items} {later = l} a on f) (refused_item {number = n} {later = m} {stop = t} b u) =
      fronts_are_fronts 0 (n + 1) items l m t f u

  -- an empty report has no front but nothing
  pub empty_front : (k number : ℕ) (items : List X) (begin bytes : List (List ℕ)) (stop : Option (Stop R))
      → bytes ≡ [] → IsListFront says k items begin → IsListReport says number k items bytes stop → begin ≡ []
  empty_front _ _ _ _ _ _ e nothing r = refl
  empty_front _ _ _ _ _ _ e f (next_piece b u) = absurd (cc)
  empty_front _ _ _ _ _ _ e (front_part {k = k} {item = item} {bytes = p} a is) (next_item b u) = piece_or_close item k p Whole a b
  empty_front _ _ _ _ _ _ e (front_part {k = k} {item = item} {bytes = p} a is) (last_item {cause = c} b) =
      piece_or_close item k p (Ends c) a b
  empty_front _ _ _ _ _ _ e (front_part {k = k} {item = item} {bytes = p} a is) (refused_item {cause = c} b u) =
      piece_or_close item k p (Continues c) a b
  empty_front _ _ _ _ _ _ e (front_piece {k = k} {item = item} {bytes = p} a f) (next_item b u) = piece_or_close item k p Whole a b
  empty_front _ _ _ _ _ _ e (front_piece {k = k} {item = item} {bytes = p} a f) (last_item {cause = c} b) =
      piece_or_close item k p (Ends c) a b
  empty_front _ _ _ _ _ _ e (front_piece {k = k} {item = item} {bytes = p} a f) (refused_item {cause = c} b u) =
      piece_or_close item k p (Continues c) a b
  empty_front _ _ _ _ _ _ e (front_item {items = items} {later = l} a on f) (next_item {number = n} {later = m} {stop = t} b u) =
      empty_front 0 (n + 1) items l m t e f u
  empty_front _ _ _ _ _ _ e (front_item {k = k} {item = item} {closing = g} a on f) (last_item {cause = c} b) =
      absurd (subst (λ (x : Closing R). IsFollowed x) (same_closing item k g (Ends c) a b) on)
  empty_front _ _ _ _ _ _ e (front_item {items = items} {later = l} a on f) (refused_item {number = n} {later = m} {stop = t} b u) =
      empty_front 0 (n + 1) items l m t e f u
