-- What a side of a cone asks of the calls that count its vectors, and what they give.
use Rattle.std.proofs.Common.{pos, ◌≡◌, ◌⊎◌, inl, inr, ℕ, ◌+◌, ◌*◌, ◌^◌, ◌<◌, ◌≤◌, List, [], length, sym, ap, ◌∙◌, subst, arith, ℤ}
use Rattle.std.specs.List.{All}
use Rattle.std.proofs.lemmas.List.{length-map}
use Rattle.std.proofs.lemmas.List.Elements.{All-from_get_or, All-contains, Contains-get_or}
use Rattle.std.proofs.lemmas.Bool.{cases_lt}
use Rattle.lattice_theory.specs.Affine.{Affine}
use Rattle.lattice_theory.specs.Order.{LexLess}
use Rattle.lattice_theory.specs.Points.{IsDilatePoint}
use Rattle.lattice_theory.proofs.Orders.{lex_asymmetric}
use Rattle.lattice_theory.proofs.Unique.{lists_unique}
use Rattle.face_theory.specs.Pairings.{paired}
use Rattle.bit_pool.specs.Bits.{HasBit, words_for}
use Rattle.face_closing.specs.Words.{IsSetOf}
use Rattle.face_poset.specs.Faces.{TableState, no_face, face_at, IsFaceOf, IsTableOf}
use Rattle.cayley_theory.specs.Bases.{lifted_one, lifted_all, part_in, HaveParts}
use Rattle.base_counts.specs.Counting.{set_at}
use Rattle.base_counts.specs.Tops.{AreOfParts}
use Rattle.cayley_theory.specs.Bases.{HaveAllParts}
use Rattle.base_counts.specs.Visited.{AreWithin}
use Rattle.lattice_core.specs.Dimensions.{dimension_of}
use Rattle.point_scan.specs.Dilates.{AreDilatePoints}
use Rattle.dilate_counts.specs.Counters.{AreSets}
use Rattle.dilate_counts.specs.DilateCounts.{AreDilateCounts, HasFewPoints}
use Rattle.dual_pair.specs.Polytopes.{IsPolytope}
use Rattle.dual_pair.specs.Pairs.{PairState, IsPair}
use Rattle.dual_pair.specs.declared.side.Side.{Side}
use Rattle.dual_pair.specs.declared.side.Side.TheVariants as sides
use Rattle.cayley.specs.PairCones.{ConeState}
use Rattle.cayley.specs.Limits.{IsWithinScans, IsSmallDilate}
use Rattle.cayley.proofs.PairFacts.{same_dimension, some_part}
use Rattle.cone_counts.specs.FaceCounts.{IsNefCone}
use Rattle.cone_counts.specs.CountSteps.{words_on, vectors_on, polytope_of, width_on, AreFaceSets, AreMasks, AreSummed, AreSideCounts}
use Rattle.cone_counts.proofs.SideSets.{taken_bit}
use Rattle.cone_counts.proofs.TableWidths.{members_fit, functions_fit, words_at_most, words_enough}
use Rattle.cone_counts.proofs.SideCounts.{AreTold, face_counted, all_counted}
use Rattle.cayley.proofs.PolytopeSide.{functions_all_parts_lem, pairs_counted_lem}
use Rattle.cayley.proofs.DualSide.{members_all_parts_lem, dual_pairs_counted_lem}

-- the words of a table's faces
module _ (cone : ConeState) (table : TableState) (t : IsTableOf (paired cone.members cone.functions) table) where
  pub width_enough : (side : Side) → length (vectors_on side cone) ≤ 64 * words_for (width_on side table)
  width_enough sides.M = functions_fit (paired cone.members cone.functions) table t
  width_enough sides.N = members_fit (paired cone.members cone.functions) table t

  pub face_of : (f : ℕ) → f < length table.faces → IsFaceOf table (paired cone.members cone.functions) (face_at table.faces f)
  face_of f l = All-contains (IsFaceOf table (paired cone.members cone.functions)) table.faces (face_at table.faces f) t.are_faces
      (Contains-get_or table.faces f no_face l)

  pub set_on : (side : Side) (f : ℕ) → f < length table.faces
      → IsSetOf (words_for (width_on side table)) (length (vectors_on side cone)) (words_on side (face_at table.faces f))
  set_on sides.M f l = (face_of f l).functions_tell
  set_on sides.N f l = (face_of f l).members_tell

-- the side of a cone whose vectors are kept with their parts
module _ (pair : PairState) (cone : ConeState) (table : TableState) (is : IsPair pair) (nef : IsNefCone pair cone)
    (t : IsTableOf (paired cone.members cone.functions) table) (w : IsWithinScans pair cone.parts) (side : Side) (vs : List Affine)
    (lifted : lifted_all cone.parts vs ≡ vectors_on side cone) (haves : HaveParts cone.dim cone.parts vs) where
  pub same_length : length vs ≡ length (vectors_on side cone)
  same_length = sym (length-map vs (lifted_one cone.parts)) ∙ ap length lifted

  pub few_parts : cone.parts ≤ 3
  few_parts = let l = w.within.0 in let m = w.within.1 in omega (arith, l, m)

  pub few_degrees : cone.dim + cone.parts ≤ 7
  few_degrees = let m = w.within.1 in let d = nef.is_cone.dim_is in omega (arith, m, d)

  pub some_parts : 1 ≤ cone.parts
  some_parts =
      let c = nef.is_cone.nef.count in
      let s = is.dual.polytope.solid.sized.are_points.some in
      let p = some_part cone.parts nef.part_of nef.is_cone.nef.growth (omega (arith, c, s)) in
      omega (arith, p)

  pub all_parts : HaveAllParts cone.parts vs
  all_parts = by side lifted
    where
      by : (side : Side) → lifted_all cone.parts vs ≡ vectors_on side cone → HaveAllParts cone.parts vs
      by sides.M e = functions_all_parts_lem pair nef.part_of cone is nef.is_cone vs e haves
      by sides.N e = members_all_parts_lem pair nef.part_of cone is nef.is_cone vs e haves

  pub some_vectors : 1 ≤ length vs
  some_vectors = let p = all_parts 0 (let s = some_parts in omega (arith, s)) in let l = p.1 in omega (arith, l)

  pub part_small : All (λ f. part_in f < 2 ^ 32) vs
  part_small = All-from_get_or (λ (f : Affine). part_in f < 2 ^ 32) vs (record { normal = []; constant = pos 0 })
      (λ i l. let p = haves.part i l in let f = few_parts in omega (arith, p, f))

  pub of_parts : AreOfParts cone.dim cone.parts vs
  of_parts = All-from_get_or (λ (f : Affine). (length f.normal ≡ cone.dim) × (part_in f < cone.parts)) vs (record { normal = []; constant = pos 0 })
      (λ i l. (haves.dimension i l, haves.part i l))

  -- the words of the sets
  pub words_fit : words_for (length vs) ≤ words_for (width_on side table)
  words_fit = words_at_most (length vs) (words_for (width_on side table))
      (subst (λ (n : ℕ). n ≤ 64 * words_for (width_on side table)) (sym same_length) (width_enough cone table t side))

  pub face_words : (f : ℕ) → f < length table.faces → words_for (length vs) ≤ length (words_on side (face_at table.faces f))
  face_words f l = subst (λ (n : ℕ). words_for (length vs) ≤ n) (sym (set_on cone table t side f l).many) words_fit

  module _ (rows : List (List ℕ)) (sets : AreFaceSets side table.faces (words_for (length vs)) rows) where
    pub rows_within : AreWithin (length vs) rows
    rows_within k l number m b = by (cases_lt k (length table.faces))
      where
        by : (k < length table.faces) ⊎ (length table.faces ≤ k) → ⊥
        by (inl h) = (set_on cone table t side k h).below number (subst (λ (n : ℕ). n ≤ number) same_length m)
            (taken_bit (words_on side (face_at table.faces k)) (words_for (length vs)) number (face_words k h)
            (subst (λ (row : List ℕ). HasBit row number) (sets.face k h) b))
        by (inr h) = sets.last number (subst (λ (i : ℕ). HasBit (set_at rows i) number) (let e = sets.many in let i : k ≡ length table.faces = omega (arith, l, h, e) in i) b)

    pub are_sets : AreSets cone.dim cone.parts vs (words_for (length vs)) rows
    are_sets = record {
      of_parts = of_parts;
      all_parts = all_parts;
      few = few_parts;
      words = All-from_get_or (λ (row : List ℕ). length row ≡ words_for (length vs)) rows [] (λ k l. sets.long k l);
      wide = words_enough (length vs);
      within = rows_within;
    }

  -- the polytope whose points are counted
  pub polytope_is : IsPolytope (polytope_of side pair)
  polytope_is = by side
    where
      by : (side : Side) → IsPolytope (polytope_of side pair)
      by sides.M = is.polytope
      by sides.N = is.dual.polytope

  pub dimension_is : dimension_of (polytope_of side pair).vertices ≡ cone.dim
  dimension_is = by side
    where
      by : (side : Side) → dimension_of (polytope_of side pair).vertices ≡ cone.dim
      by sides.M = sym nef.is_cone.dim_is
      by sides.N = same_dimension pair is ∙ sym nef.is_cone.dim_is

  module _ (dilate : ℕ) (d : dilate + 1 ≡ cone.dim + cone.parts) where
    same_dilate : w.dilate ≡ dilate
    same_dilate = let e = w.dilate_is in let i = nef.is_cone.dim_is in omega (arith, d, e, i)

    small_dilate : IsSmallDilate (polytope_of side pair).vertices dilate
    small_dilate = subst (IsSmallDilate (polytope_of side pair).vertices) same_dilate (by side)
      where
        by : (side : Side) → IsSmallDilate (polytope_of side pair).vertices w.dilate
        by sides.M = w.small
        by sides.N = w.dual_small

    pub few_points : HasFewPoints (polytope_of side pair).vertices dilate
    few_points points are =
        let e = lists_unique LexLess lex_asymmetric
        (IsDilatePoint (dimension_of (polytope_of side pair).vertices) (polytope_of side pair).vertices dilate) points small_dilate.lattice are
        small_dilate.are_dilate_points in
        let f = small_dilate.few in
        let l = ap length e in omega (arith, f, l)

    are_told : (points : List (List ℤ)) → AreDilatePoints cone.dim (polytope_of side pair).vertices dilate points
        → AreTold cone.dim cone.parts vs (vectors_on side cone) dilate points
    are_told points are = by side lifted are
      where
        by : (side : Side) → lifted_all cone.parts vs ≡ vectors_on side cone → AreDilatePoints cone.dim (polytope_of side pair).vertices dilate points
            → AreTold cone.dim cone.parts vs (vectors_on side cone) dilate points
        by sides.M e a = pairs_counted_lem pair nef.part_of cone is nef.is_cone vs e haves dilate points a
        by sides.N e a = dual_pairs_counted_lem pair nef.part_of cone is nef.is_cone vs e haves dilate points a

    -- so the sums are the numbers of the side
    pub side_counted : (rows : List (List ℕ)) → AreFaceSets side table.faces (words_for (length vs)) rows
        → (masks : List (List ℕ)) → AreMasks vs (words_for (length vs)) cone.parts masks → (counts new : List ℕ)
        → AreDilateCounts cone.parts vs rows (polytope_of side pair).vertices dilate counts → AreSummed masks rows counts new
        → length new ≡ length counts → AreSideCounts cone table.faces side new
    side_counted rows sets masks of_parts counts new are sums same = record {
      whole = same ∙ are.whole ∙ ap (λ (n : ℕ). n * 7) sets.many;
      face = λ f s l m. face_counted cone.dim cone.parts vs (vectors_on side cone) lifted dilate are.points told small rows masks counts new are.counts_are sums
          (words_for (length vs)) of_parts (rows_within rows sets) side table.faces sets (words_enough (length vs)) f s l (omega (arith, m, d));
      all = λ s m. all_counted cone.dim cone.parts vs (vectors_on side cone) lifted dilate are.points told small rows masks counts new are.counts_are sums
          (words_for (length vs)) of_parts (rows_within rows sets) side table.faces sets (words_enough (length vs)) s (omega (arith, m, d));
    }
      where
        told : AreTold cone.dim cone.parts vs (vectors_on side cone) dilate are.points
        told = are_told are.points (subst (λ (n : ℕ). AreDilatePoints n (polytope_of side pair).vertices dilate are.points) dimension_is are.are_points)

        small : dilate < 7
        small = let f = few_degrees in omega (arith, d, f)
