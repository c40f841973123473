-- The partitions that come first, and the places of partitions.
use Rattle.std.specs.Prelude.{ℤ, pos, nat_abs}
use Rattle.std.proofs.Common.{◌≡◌, ℕ, ◌+◌, ◌<◌, List, [], ◌∷◌, ◌++◌, length, map, take, refl, sym, ap, ◌∙◌, subst, arith, append_assoc, length-append}
use Rattle.std.proofs.Math.Seq.{take-append_seam}
use Rattle.std.proofs.lemmas.List.{append-nil, map-append, length-map, append_cancel_left}
use Rattle.lattice_theory.specs.Order.{LexLess}
use Rattle.lattice_theory.proofs.Orders.{lex_asymmetric}
use Rattle.lattice_theory.proofs.Unique.{lists_unique}
use Rattle.dual_pair.specs.Pairs.{PairState, IsPair}
use Rattle.nef_parts.specs.Lists.{PairLists, lists_of}
use Rattle.nef_parts.specs.Partitions.{IsNefVector, vectors, AreNefPartitions, IsNefAt, HasNefPartitions, AreFirstPartitions}
use Rattle.nef_parts.specs.Listing.{partitions}
use Rattle.nef_parts.specs.Laws.{NoPartitionsAreFirst, FirstAndNextPartitionAreFirst, FirstPartitionsAreAll, OnePartitionAt, FewerThanAll, OneNumberOfPartitions}
use Rattle.nef_parts.proofs.Listings.{are_partitions}
use Rattle.nef_parts.proofs.PairFacts.{least}

-- numbers that are the same as integers
natural : (xs : List ℕ) → map nat_abs (map pos xs) ≡ xs
natural [] = refl
natural (x ∷ xs) = λ i. x ∷ natural xs i

same_numbers : (xs ys : List ℕ) → map pos xs ≡ map pos ys → xs ≡ ys
same_numbers xs ys e = sym (natural xs) ∙ (ap (λ (zs : List ℤ). map nat_abs zs) e ∙ natural ys)

-- fronts of one list that are as long are the same
same_front : (xs ys us vs : List (List ℤ)) → length xs ≡ length ys → xs ++ us ≡ ys ++ vs → xs ≡ ys
same_front xs ys us vs l e =
    sym (take-append_seam xs us) ∙ (ap (λ (zs : List (List ℤ)). take (length xs) zs) e
    ∙ (ap (λ (n : ℕ). take n (ys ++ vs)) l ∙ take-append_seam ys vs))

same_rest : (xs ys us vs : List (List ℤ)) → xs ≡ ys → xs ++ us ≡ ys ++ vs → us ≡ vs
same_rest xs ys us vs f e = append_cancel_left ys us vs (ap (λ (zs : List (List ℤ)). zs ++ us) (sym f) ∙ e)

same_first : (x y : List ℤ) (xs ys : List (List ℤ)) → x ∷ xs ≡ y ∷ ys → x ≡ y
same_first x y xs ys e = cc

none_behind : (xs us : List (List ℤ)) → length (xs ++ us) ≡ length xs → us ≡ []
none_behind xs [] e = refl
none_behind xs (u ∷ us) e = let l = length-append xs (u ∷ us) in absurd (omega (arith, l, e))

module _ (l : PairLists) (r : ℕ) where
  same_list : (xs ys : List (List ℤ)) → AreNefPartitions l r xs → AreNefPartitions l r ys → xs ≡ ys
  same_list xs ys a b = lists_unique LexLess lex_asymmetric (IsNefVector l r) xs ys a b

  vectors_count : (xs : List (List ℕ)) → length (vectors xs) ≡ length xs
  vectors_count xs = length-map xs (λ (parts : List ℕ). map pos parts)

  -- what stands before the partition at a place, where the first ones up to it are known
  before_is : (count : ℕ) (xs : List (List ℕ)) (parts : List ℕ) (f : AreFirstPartitions l r count xs) (at : IsNefAt l r count parts)
      → at.before ≡ vectors xs
  before_is count xs parts f at = same_front at.before (vectors xs) (map pos parts ∷ at.after) f.behind
      (at.count ∙ (sym f.count_is ∙ sym (vectors_count xs))) (same_list _ _ at.are_partitions f.are_partitions)

  vectors_push : (xs : List (List ℕ)) (parts : List ℕ) (after : List (List ℤ))
      → vectors xs ++ map pos parts ∷ after ≡ vectors (xs ++ parts ∷ []) ++ after
  vectors_push xs parts after = sym (append_assoc (vectors xs) (map pos parts ∷ []) after)
      ∙ ap (λ (zs : List (List ℤ)). zs ++ after) (sym (map-append (λ (parts : List ℕ). map pos parts) xs (parts ∷ [])))

  first_and_next : (count : ℕ) (xs : List (List ℕ)) (parts : List ℕ) → AreFirstPartitions l r count xs → IsNefAt l r count parts
      → AreFirstPartitions l r (count + 1) (xs ++ parts ∷ [])
  first_and_next count xs parts f at = record {
    behind = at.after;
    are_partitions = subst (AreNefPartitions l r)
        (ap (λ (zs : List (List ℤ)). zs ++ map pos parts ∷ at.after) (before_is count xs parts f at) ∙ vectors_push xs parts at.after)
        at.are_partitions;
    count_is = length-append xs (parts ∷ []) ∙ ap (λ (n : ℕ). n + 1) f.count_is;
  }

  first_are_all : (count : ℕ) (xs : List (List ℕ)) → AreFirstPartitions l r count xs → HasNefPartitions l r count
      → AreNefPartitions l r (vectors xs)
  first_are_all count xs f has =
      let same = same_list has.members (vectors xs ++ f.behind) has.are_partitions f.are_partitions in
      let none : f.behind ≡ [] = none_behind (vectors xs) f.behind
      (sym (ap (λ (zs : List (List ℤ)). length zs) same) ∙ (has.count_is ∙ (sym f.count_is ∙ sym (vectors_count xs)))) in
      subst (AreNefPartitions l r) (ap (λ (zs : List (List ℤ)). vectors xs ++ zs) none ∙ append-nil (vectors xs)) f.are_partitions

  one_at : (place : ℕ) (parts other : List ℕ) → IsNefAt l r place parts → IsNefAt l r place other → parts ≡ other
  one_at place parts other a b =
      let same = same_list _ _ a.are_partitions b.are_partitions in
      let front = same_front a.before b.before (map pos parts ∷ a.after) (map pos other ∷ b.after) (a.count ∙ sym b.count) same in
      same_numbers parts other (same_first (map pos parts) (map pos other) a.after b.after (same_rest a.before b.before _ _ front same))

  fewer : (place count : ℕ) (parts : List ℕ) → IsNefAt l r place parts → HasNefPartitions l r count → place < count
  fewer place count parts at has =
      let same = ap (λ (zs : List (List ℤ)). length zs) (same_list _ _ at.are_partitions has.are_partitions) in
      let split = length-append at.before (map pos parts ∷ at.after) in
      let before = at.count in
      let all = has.count_is in
      omega (arith, same, split, before, all)

  one_number : (count other : ℕ) → HasNefPartitions l r count → HasNefPartitions l r other → count ≡ other
  one_number count other a b =
      sym a.count_is ∙ (ap (λ (zs : List (List ℤ)). length zs) (same_list a.members b.members a.are_partitions b.are_partitions) ∙ b.count_is)

pub no_partitions_are_first_lem : NoPartitionsAreFirst
no_partitions_are_first_lem pair r is = record {
  behind = partitions (lists_of pair) r;
  are_partitions = are_partitions (lists_of pair) r (least pair is);
  count_is = refl;
}

pub first_and_next_lem : FirstAndNextPartitionAreFirst
first_and_next_lem l r count xs parts f at = first_and_next l r count xs parts f at

pub first_are_all_lem : FirstPartitionsAreAll
first_are_all_lem l r count xs f has = first_are_all l r count xs f has

pub one_partition_at_lem : OnePartitionAt
one_partition_at_lem l r place parts other a b = one_at l r place parts other a b

pub fewer_than_all_lem : FewerThanAll
fewer_than_all_lem l r place count parts at has = fewer l r place count parts at has

pub one_number_lem : OneNumberOfPartitions
one_number_lem l r count other a b = one_number l r count other a b
