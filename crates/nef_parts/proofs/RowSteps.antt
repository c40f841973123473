-- The rows of vectors, with one vector more.
use Rattle.std.specs.Prelude.{ℤ}
use Rattle.std.proofs.Common.{ℕ, ◌+◌, List, [], ◌∷◌, ◌++◌, sym, subst, arith, length-append}
use Rattle.nef_parts.specs.declared.pairings.Pairings.{Pairings}
use Rattle.nef_parts.specs.steps.Rows.{IsPairings, ArePairings, vector_at}
use Rattle.nef_parts.proofs.Pushing.{at_push}

pub rows_none : (normals points : List (List ℤ)) → ArePairings 0 normals points []
rows_none normals points = record { count = omega arith; are = λ k h. absurd (omega arith) }

pub rows_more : (n : ℕ) (normals points : List (List ℤ)) (rows : List Pairings) (p : Pairings) → ArePairings n normals points rows
    → IsPairings normals (vector_at points n) p → ArePairings (n + 1) normals points (rows ++ p ∷ [])
rows_more n normals points rows p are last = record {
  count = let c = are.count in let l = length-append rows (p ∷ []) in omega arith;
  are = at_push (λ k r. IsPairings normals (vector_at points k) r) rows p (record { tight = 0; low = 0 }) are.are
      (subst (λ (k : ℕ). IsPairings normals (vector_at points k) p) (sym are.count) last);
}
