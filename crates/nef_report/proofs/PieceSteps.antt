-- What is written of a partition.
use Rattle.std.proofs.Common.{◌≡◌, ℕ, Bool, true, false, List, [], ◌++◌, Result, Ok, Err, OnOk, ℤ, refl, sym, ap, ◌∙◌, subst, append_assoc}
use Rattle.std.proofs.lemmas.List.{append-nil}
use Rattle.lattice_core.specs.declared.faults.NoMemory.{NoMemory}
use Rattle.palp_words.specs.declared.job.NefWords.{NefWords}
use Rattle.palp_print.specs.Pages.{Appends}
use Rattle.palp_print.specs.Partitions.{partition_with, diamond}
use Rattle.dual_pair.specs.Pairs.{PairState}
use Rattle.stringy.specs.Numbers.{EState, first_numbers, hodge_lines, euler_of}
use Rattle.nef_numbers.specs.Numbers.{HasNumbers}
use Rattle.nef_report.specs.Partitions.{numbers_text, TellsPartition, IsPartPiece}

module _ (before mid : List ℕ) (number : ℕ) (parts : List ℕ) (e : EState)
    (line : mid ≡ before ++ partition_with number parts (first_numbers e) (euler_of e)) where
  -- the line alone
  pub line_told : (full : Bool) → full ≡ false → mid ≡ before ++ numbers_text full number parts e
  line_told true f = absurd (cc)
  line_told false f = line ∙ ap (λ (xs : List ℕ). before ++ xs) (sym (append-nil (partition_with number parts (first_numbers e) (euler_of e))))

  -- with all Hodge numbers below
  module _ (k : ℕ) (numbers : List ℤ) (dim : k ≡ e.dim) (all : numbers ≡ hodge_lines e) where
    same_diamond : diamond k numbers ≡ diamond e.dim (hodge_lines e)
    same_diamond = λ i. diamond (dim i) (all i)

    both_told : (full : Bool) → full ≡ true → (last : List ℕ) → last ≡ mid ++ diamond k numbers → last ≡ before ++ numbers_text full number parts e
    both_told true f last g = g ∙ (ap (λ (xs : List ℕ). mid ++ xs) same_diamond
        ∙ (ap (λ (xs : List ℕ). xs ++ diamond e.dim (hodge_lines e)) line
        ∙ append_assoc before (partition_with number parts (first_numbers e) (euler_of e)) (diamond e.dim (hodge_lines e))))
    both_told false f last g = absurd (cc)

    pub diamond_told : (full : Bool) → full ≡ true → (last : List ℕ) (result : Result (Unit {0}) NoMemory) → Appends (diamond k numbers) mid last result
        → OnOk result (last ≡ before ++ numbers_text full number parts e)
    diamond_told full f last (Ok done) a = both_told full f last a
    diamond_told full f last (Err fault) a = tt

-- the piece of a partition with its numbers
pub numbers_written : (words : NefWords) (pair : PairState) (number : ℕ) (parts page : List ℕ) (e : EState) → words.list_only ≡ false
    → HasNumbers pair words.codim parts e → page ≡ numbers_text words.full number parts e → IsPartPiece words pair number parts page
numbers_written words pair number parts page e only has is =
    subst (λ (b : Bool). TellsPartition b words.full pair words.codim number parts page) (sym only)
    (record { numbers = e; has_numbers = has; piece_is = is })
