-- Where the words of the vectors to which a point pairs, and its degree, tell its base, and numbers of members from the end of a list.
use Rattle.std.specs.Prelude.{pos}
use Rattle.std.proofs.Common.{◌≡◌, ℕ, suc, ◌<◌, ℤ, List, [], ◌∷◌, ◌++◌, length, sym, ap, ◌∙◌, subst}
use Rattle.lattice_theory.specs.Affine.{Affine}
use Rattle.lattice_theory.proofs.Integers.{same_natural}
use Rattle.face_theory.specs.Pairings.{function_at}
use Rattle.bit_pool.specs.Bits.{IsSubset}
use Rattle.face_closing.specs.Words.{set_of}
use Rattle.cayley_theory.specs.Counts.{sum_of}
use Rattle.cayley_theory.specs.Bases.{part_in, HaveParts, IsZeroOn, Number, none, counted, passed}
use Rattle.cayley_theory.proofs.BasePoints.{same_base}
use Rattle.std.proofs.lemmas.List.Elements.{All-get_or}
use Rattle.base_counts.specs.Tops.{AreOfParts}
use Rattle.base_counts.specs.Counting.{set_at}
use Rattle.base_counts.specs.Visited.{AreWithin, HasBaseOn, IsFar, IsTightAt}
use Rattle.base_counts.proofs.BaseLaws.{sets_within_tight_lem}

-- one more member at the end
module _ {X : Type 0} {P : X → Type 0} {x : X} where
  pub counted_last : {xs : List X} {k : ℕ} → Number P xs k → P x → Number P (xs ++ x ∷ []) (suc k)
  counted_last none p = counted p none
  counted_last (counted q rest) p = counted q (counted_last rest p)
  counted_last (passed q rest) p = passed q (counted_last rest p)

  pub passed_last : {xs : List X} {k : ℕ} → Number P xs k → (P x → ⊥) → Number P (xs ++ x ∷ []) k
  passed_last none p = passed p none
  passed_last (counted q rest) p = counted q (passed_last rest p)
  passed_last (passed q rest) p = passed q (passed_last rest p)

-- the base of a point has its degree alone, and is 0 on exactly the sets within its words
module _ (n r : ℕ) (vs : List Affine) (haves : HaveParts n r vs) (x : List ℤ) (dimension : length x ≡ n) (rows : List (List ℕ)) where
  module _ (degree : ℕ) (tight : List ℕ) (at : IsTightAt r vs x degree tight) (within : AreWithin (length vs) rows) where
    same : (k l : ℕ) → (b : HasBaseOn r vs rows k l x) → b.base ≡ at.base
    same k l b = same_base n r vs haves x dimension b.base at.base b.is_base at.is_base

    subset_of : (k l : ℕ) → k < length rows → HasBaseOn r vs rows k l x → IsSubset (set_at rows k) tight
    subset_of k l h b = (sets_within_tight_lem vs x at.base (set_at rows k) tight at.bits (within k h)).1
        (subst (λ (c : List ℤ). IsZeroOn vs (set_of (length vs) (set_at rows k)) x c) (same k l b) b.zero_on)

    degree_as : (k l : ℕ) → HasBaseOn r vs rows k l x → l ≡ degree
    degree_as k l b =
        let e : pos l ≡ pos degree = sym b.degree ∙ ap sum_of (same k l b) ∙ at.degree in
        same_natural l degree e

    pub base_from : (k l : ℕ) → k < length rows → IsSubset (set_at rows k) tight × (l ≡ degree) → HasBaseOn r vs rows k l x
    base_from k l h p = record {
      base = at.base;
      is_base = at.is_base;
      zero_on = (sets_within_tight_lem vs x at.base (set_at rows k) tight at.bits (within k h)).0 p.0;
      degree = at.degree ∙ ap (λ (d : ℕ). pos d) (sym p.1);
    }

    pub base_to : (k l : ℕ) → k < length rows → HasBaseOn r vs rows k l x → IsSubset (set_at rows k) tight × (l ≡ degree)
    base_to k l h b = (subset_of k l h b, degree_as k l b)

  -- a base whose degree isn't told apart is on no set
  pub far_from : IsFar r vs x → (k l : ℕ) → l < 7 → HasBaseOn r vs rows k l x → ⊥
  far_from far k l m b =
      far.far l m (sym (ap sum_of (same_base n r vs haves x dimension b.base far.base b.is_base far.is_base)) ∙ b.degree)

-- functions that all are of parts are so at each index
pub have_parts : (n r : ℕ) (vs : List Affine) → AreOfParts n r vs → HaveParts n r vs
have_parts n r vs all = record { dimension = λ i l. (at i l).0; part = λ i l. (at i l).1 }
  where
    at : (i : ℕ) → i < length vs → (length (function_at vs i).normal ≡ n) × (part_in (function_at vs i) < r)
    at i l = All-get_or (λ (f : Affine). (length f.normal ≡ n) × (part_in f < r)) vs i (record { normal = []; constant = pos 0 }) l all
