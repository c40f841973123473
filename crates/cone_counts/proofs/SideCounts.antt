-- The numbers of a side: those of the lattice points of a dilate, summed, are the numbers of vectors.
use Rattle.std.proofs.Common.{◌≡◌, ℕ, ◌*◌, ◌==◌, ◌<◌, ◌≤◌, Bool, List, [], length, sym, ap, ◌∙◌, subst, arith, ℤ}
use Rattle.std.proofs.lemmas.List.{length-map}
use Rattle.lattice_theory.specs.Affine.{Affine}
use Rattle.lattice_theory.specs.Order.{Lists, LexLess}
use Rattle.face_theory.specs.Sets.{set_size}
use Rattle.face_theory.proofs.Sets.{length-numbers_with}
use Rattle.bit_pool.specs.Bits.{bit_of}
use Rattle.face_closing.specs.Words.{set_of}
use Rattle.face_poset.specs.Faces.{FaceState, face_at}
use Rattle.cayley_theory.specs.Counts.{IsConePair, CountsOnDualFace}
use Rattle.cayley_theory.specs.Bases.{lifted_one, lifted_all, HasBaseOf, AreFreeParts, Number, summed}
use Rattle.base_counts.specs.Counting.{set_at, count_at}
use Rattle.base_counts.specs.Visited.{AreWithin, AreCountsOf}
use Rattle.dual_pair.specs.declared.side.Side.{Side}
use Rattle.cone_counts.specs.CountSteps.{words_on, AreFaceSets, AreMasks, AreSummed}
use Rattle.cone_counts.proofs.FreeParts.{free_parts}
use Rattle.cone_counts.proofs.SideSets.{set_taken, on_none, none_in}

-- what tells the numbers of vectors by those of points
abbrev pub AreTold : ℕ → ℕ → List Affine → List (List ℤ) → ℕ → List (List ℤ) → Type 0
AreTold n r vs vectors dilate points = (set free : List Bool) → length set ≡ length vs → AreFreeParts r vs set free → (s : ℕ) → s ≤ dilate
    → (counts : ℕ → ℕ) → ((l : ℕ) → l ≤ s → Number (HasBaseOf r vs set l) points (counts l))
    → (pairs : List (List ℤ)) × Lists LexLess (IsConePair n r vectors set s) pairs × (summed (set_size free) counts s ≡ length pairs)

module _ (n r : ℕ) (vs : List Affine) (vectors : List (List ℤ)) (lifted : lifted_all r vs ≡ vectors) (dilate : ℕ) (points : List (List ℤ))
    (told : AreTold n r vs vectors dilate points) (small : dilate < 7) (rows masks : List (List ℕ)) (counts new : List ℕ)
    (are : AreCountsOf r vs rows points counts) (sums : AreSummed masks rows counts new) (words : ℕ) (of_parts : AreMasks vs words r masks)
    (within : AreWithin (length vs) rows) where
  -- each row is counted
  row_counted : (k s : ℕ) → k < length rows → s ≤ dilate → CountsOnDualFace n r vectors (set_of (length vs) (set_at rows k)) s (count_at new k s)
  row_counted k s l m =
      let f = sums k l in
      let p = told (set_of (length vs) (set_at rows k)) f.within.within (length-numbers_with (length vs) (λ i. bit_of (set_at rows k) i == 1))
      (free_parts vs words r masks of_parts (set_at rows k) (within k l) f.times f.within) s m
      (count_at counts k) (λ i h. are k i l (omega (arith, h, m, small))) in
      record {
        pairs = p.0;
        are_pairs = p.1;
        count_is = f.sums s (omega (arith, m, small)) ∙ ap (λ (t : ℕ). summed t (count_at counts k) s) f.within.count_is ∙ p.2;
      }

  same_length : length vs ≡ length vectors
  same_length = sym (length-map vs (lifted_one r)) ∙ ap length lifted

  module _ (side : Side) (faces : List FaceState) (sets : AreFaceSets side faces words rows) (wide : length vs ≤ 64 * words) where
    pub face_counted : (f s : ℕ) → f < length faces → s ≤ dilate
        → CountsOnDualFace n r vectors (set_of (length vectors) (words_on side (face_at faces f))) s (count_at new f s)
    face_counted f s l m = subst (λ (set : List Bool). CountsOnDualFace n r vectors set s (count_at new f s))
        (ap (set_of (length vs)) (sets.face f l) ∙ set_taken (length vs) (words_on side (face_at faces f)) words wide
        ∙ ap (λ (width : ℕ). set_of width (words_on side (face_at faces f))) same_length)
        (row_counted f s (let e = sets.many in omega (arith, e, l)) m)

    pub all_counted : (s : ℕ) → s ≤ dilate → CountsOnDualFace n r vectors [] s (count_at new (length faces) s)
    all_counted s m = on_none n r vectors (set_of (length vs) (set_at rows (length faces))) s (count_at new (length faces) s)
        (none_in (length vs) (set_at rows (length faces)) sets.last) (row_counted (length faces) s (let e = sets.many in omega (arith, e)) m)
