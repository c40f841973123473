-- Giving the pieces of items, one after another.
use Rattle.std.proofs.Common.{◌≡◌, ℕ, ◌+◌, ◌≤◌, List, [], ◌∷◌, ◌++◌, length, Option, None, refl, sym, ◌∙◌, subst, arith}
use Rattle.std.specs.List.{concat}
use Rattle.std.proofs.lemmas.List.{append-nil}
use Rattle.std.proofs.lemmas.List.Folds.{concat-append}
use Rattle.palp_io.specs.Sink.{SinkState, Gains, GainsFront}
use Rattle.palp_io.proofs.SinkLemmas.{Gains-none, Gains-trans}
use Rattle.report_theory.specs.Report.{Closing, Ends, Step, Piece, Close, Stop, stop_at, IsFollowed}
use Rattle.report_theory.specs.Giving.{GivesPieces, GivesItem, GivesReport, GivesFront}
use Rattle.report_theory.proofs.Passing.{first_stop, with_closing, Begun, Passed, begun_nothing, begun_piece, begun_closed, begun_front, begun_part}
use Rattle.report_theory.proofs.Passing.{passed_nothing, passed_item, passed_end, passed_part, passed_front, passed_all}

at_least : (n : ℕ) → n ≤ n
at_least n = omega arith

in_order : (a b c : ℕ) → a ≤ b → b ≤ c → a ≤ c
in_order a b c e f = omega arith

-- two lists, of which neither has a piece
none_first : (xs ys : List (List ℕ)) → xs ++ ys ≡ [] → xs ≡ []
none_first [] ys e = refl
none_first (x ∷ xs) ys e = absurd (cc)

none_second : (xs ys : List (List ℕ)) → xs ++ ys ≡ [] → ys ≡ []
none_second [] ys e = e
none_second (x ∷ xs) ys e = absurd (cc)

-- no call
pub gives_nothing : (s : SinkState) → GivesPieces s s []
gives_nothing s = record { appended = Gains-none s; later = at_least s.faults; nothing = λ e. refl }

-- one call
pub gives_piece : (s m : SinkState) (piece : List ℕ) → Gains s m piece → s.faults ≤ m.faults → GivesPieces s m (piece ∷ [])
gives_piece s m piece g later =
    record { appended = subst (Gains s m) (sym (append-nil piece)) g; later = later; nothing = λ e. absurd (cc) }

-- the pieces of two stretches of calls
pub gives_both : (s m n : SinkState) (pieces more : List (List ℕ)) → GivesPieces s m pieces → GivesPieces m n more
    → GivesPieces s n (pieces ++ more)
gives_both s m n pieces more a b = record {
  appended = subst (Gains s n) (sym (concat-append pieces more)) (Gains-trans s m n (concat pieces) (concat more) a.appended b.appended);
  later = in_order s.faults m.faults n.faults a.later b.later;
  nothing = λ e. b.nothing (none_second pieces more e) ∙ a.nothing (none_first pieces more e);
}

-- so many pieces of an item were given
pub record ItemSoFar {X R : Type 0} (says : X → ℕ → Step R → Type 0) (item : X) (k : ℕ) (first now : SinkState) : Type 0 where
  pub pieces : List (List ℕ)
  pub begun : Begun says item k pieces
  pub gives : GivesPieces first now pieces

-- the pieces of these items were given, and with them there is this first refusal
pub record ReportedSoFar {X R : Type 0} (says : X → ℕ → Step R → Type 0) (seen : List X) (stop : Option (Stop R))
    (first now : SinkState) : Type 0 where
  pub pieces : List (List ℕ)
  pub passed : Passed says seen pieces stop
  pub gives : GivesPieces first now pieces

module _ {X R : Type 0} (says : X → ℕ → Step R → Type 0) (first : SinkState) where
  pub item_nothing : (item : X) → ItemSoFar says item 0 first first
  item_nothing item = record { pieces = []; begun = begun_nothing says item; gives = gives_nothing first }

  pub reported_nothing : ReportedSoFar says [] None first first
  reported_nothing = record { pieces = []; passed = passed_nothing says; gives = gives_nothing first }

  module _ (now : SinkState) where
    module _ (item : X) (k : ℕ) (so_far : ItemSoFar says item k first now) where
      -- a piece was given
      pub item_piece : (piece : List ℕ) (last : SinkState) → says item k (Piece piece) → Gains now last piece → now.faults ≤ last.faults
          → ItemSoFar says item (k + 1) first last
      item_piece piece last a g later = record {
        pieces = so_far.pieces ++ piece ∷ [];
        begun = begun_piece says item k so_far.pieces so_far.begun piece a;
        gives = gives_both first now last so_far.pieces (piece ∷ []) so_far.gives (gives_piece now last piece g later);
      }

      -- the item's pieces end
      pub item_closed : (closing : Closing R) → says item k (Close closing) → GivesItem says item closing first now
      item_closed closing a = record {
        pieces = so_far.pieces;
        are_pieces = begun_closed says item k so_far.pieces so_far.begun closing a;
        gives = so_far.gives;
      }

      -- the item's report was left off between two pieces
      pub item_front : GivesFront says (item ∷ []) first now
      item_front = record { front = so_far.pieces; is_front = begun_front says item k so_far.pieces so_far.begun; gives = so_far.gives }

      -- a give failed
      pub item_part : (piece : List ℕ) (last : SinkState) → says item k (Piece piece) → GainsFront now last piece → now.faults ≤ last.faults
          → GivesFront says (item ∷ []) first last
      item_part piece last a g later = record {
        front = so_far.pieces ++ g.front ∷ [];
        is_front = begun_part says item k so_far.pieces so_far.begun piece g.front a g.is_front;
        gives = gives_both first now last so_far.pieces (g.front ∷ []) so_far.gives (gives_piece now last g.front g.gained later);
      }

    module _ (seen : List X) (stop : Option (Stop R)) (so_far : ReportedSoFar says seen stop first now) where
      -- all pieces so far are the report of the items so far
      pub reported_all : GivesReport says seen stop first now
      reported_all = record {
        report = so_far.pieces;
        is_report = passed_all says seen so_far.pieces stop so_far.passed;
        gives = so_far.gives;
      }

      -- and a front of the report of these items and more
      pub reported_front : (behind : List X) → GivesFront says (seen ++ behind) first now
      reported_front behind = record {
        front = so_far.pieces;
        is_front = passed_front says seen so_far.pieces stop so_far.passed behind;
        gives = so_far.gives;
      }

      module _ (item : X) (last : SinkState) where
        -- one more item, behind which the next one follows
        pub reported_item : (closing : Closing R) → IsFollowed closing → GivesItem says item closing now last
            → ReportedSoFar says (seen ++ item ∷ []) (first_stop stop (with_closing (length seen + 1) closing None)) first last
        reported_item closing on g = record {
          pieces = so_far.pieces ++ g.pieces;
          passed = passed_item says seen so_far.pieces stop so_far.passed item g.pieces closing g.are_pieces on;
          gives = gives_both first now last so_far.pieces g.pieces so_far.gives g.gives;
        }

        -- an item that ends the report
        pub reported_end : (behind : List X) (cause : R) → GivesItem says item (Ends cause) now last
            → GivesReport says (seen ++ item ∷ behind) (first_stop stop (stop_at (length seen + 1) cause)) first last
        reported_end behind cause g = record {
          report = so_far.pieces ++ g.pieces;
          is_report = passed_end says seen so_far.pieces stop so_far.passed item behind g.pieces cause g.are_pieces;
          gives = gives_both first now last so_far.pieces g.pieces so_far.gives g.gives;
        }

        -- an item whose report was left off
        pub reported_part : (behind : List X) → GivesFront says (item ∷ []) now last → GivesFront says (seen ++ item ∷ behind) first last
        reported_part behind g = record {
          front = so_far.pieces ++ g.front;
          is_front = passed_part says seen so_far.pieces stop so_far.passed item behind g.front g.is_front;
          gives = gives_both first now last so_far.pieces g.front so_far.gives g.gives;
        }
