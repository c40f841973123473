-- What a search for the nef partitions of a pair gives next.
use Rattle.std.proofs.Common.{◌≡◌, ℕ, ◌+◌, Option, Some, None, sym, ap, ◌∙◌, subst}
use Rattle.dual_pair.specs.Pairs.{PairState}
use Rattle.dual_pair.specs.declared.partition.Partition.{Partition}
use Rattle.nef_parts.specs.Lists.{PairLists, lists_of}
use Rattle.nef_parts.specs.Partitions.{Searched, IsNefAt, HasNefPartitions, ArePointsOf}
use Rattle.nef_parts.specs.Given.{GivesNext}
use Rattle.nef_numbers.specs.Numbers.{IsPartitionInto}
use Rattle.nef_numbers.proofs.FoundParts.{found_have_parts_lem}

module _ (pair : PairState) (r k : ℕ) (old new : Searched) (lists : old.lists ≡ lists_of pair) (codim : old.codim ≡ r) (given : old.given ≡ k) where
  -- the same of the lists, the number of parts and the place that are known
  at_known : (P : PairLists → ℕ → ℕ → Type 0) → P old.lists old.codim old.given → P (lists_of pair) r k
  at_known P h = subst (λ (n : ℕ). P (lists_of pair) r n) given
      (subst (λ (m : ℕ). P (lists_of pair) m old.given) codim (subst (λ (l : PairLists). P l old.codim old.given) lists h))

  module _ (o : Option Partition) (p : Partition) (is : o ≡ Some p) (gives : GivesNext old new o) where
    some : GivesNext old new (Some p)
    some = subst (λ (x : Option Partition). GivesNext old new x) is gives

    pub given_lists : new.lists ≡ lists_of pair
    given_lists = some.0 ∙ lists

    pub given_codim : new.codim ≡ r
    given_codim = some.1 ∙ codim

    pub given_more : new.given ≡ k + 1
    given_more = some.2 ∙ ap (λ (n : ℕ). n + 1) given

    pub given_at : IsNefAt (lists_of pair) r k p.part_of.items
    given_at = at_known (λ l m n. IsNefAt l m n p.part_of.items) some.3

    pub given_into : IsPartitionInto pair r p.part_of.items p.points.items
    given_into = found_have_parts_lem pair r k p.part_of.items p.points.items given_at
        (at_known (λ l m n. ArePointsOf l m p.part_of.items p.points.items) some.4)

  pub given_all : (o : Option Partition) → o ≡ None → GivesNext old new o → HasNefPartitions (lists_of pair) r k
  given_all o is gives = at_known HasNefPartitions (subst (λ (x : Option Partition). GivesNext old new x) is gives).1
