-- Items that tell their pieces and how they end. This project's own.
use Rattle.std.specs.Prelude.{◌≡◌, ℕ, zero, suc, List, [], ◌∷◌, codes}
use Rattle.report_theory.specs.Report.{Closing, Whole, Ends, Continues, Step, Piece, Close}

pub record ToldItem : Type 0 where
  pub pieces : List (List ℕ)
  pub closing : Closing ℕ

-- what comes after so many of the pieces
abbrev pub told_step : List (List ℕ) → Closing ℕ → ℕ → Step ℕ
told_step [] closing k = Close closing
told_step (piece ∷ pieces) closing zero = Piece piece
told_step (piece ∷ pieces) closing (suc k) = told_step pieces closing k

abbrev pub ToldSays : ToldItem → ℕ → Step ℕ → Type 0
ToldSays item k step = step ≡ told_step item.pieces item.closing k

-- Four items for examples: one that prints nothing, one with a piece, one that is refused behind two pieces, and one that is refused behind
-- a piece and lets the report continue.
abbrev pub silent : ToldItem
silent = record { pieces = []; closing = Whole }

abbrev pub plain : ToldItem
plain = record { pieces = codes "c" ∷ []; closing = Whole }

abbrev pub refused_late : ToldItem
refused_late = record { pieces = codes "ab" ∷ codes "cd" ∷ []; closing = Ends 7 }

abbrev pub refused_between : ToldItem
refused_between = record { pieces = codes "limit" ∷ []; closing = Continues 9 }
