use Rattle.std.proofs.Common.{ℕ, ◌+◌, ◌-◌, ◌*◌, ◌^◌, ◌<◌, ◌≤◌, List, length, ℤ, sym, ap, ◌∙◌, subst, arith}
use Rattle.std.proofs.lemmas.List.{with_items_is}
use Rattle.std.proofs.lemmas.List.Elements.{All-weaker}
use Rattle.lattice_theory.specs.Affine.{Affine}
use Rattle.lattice_theory.specs.Facet.{AreFacetsInAnyOrder}
use Rattle.face_poset.specs.Faces.{face_at}
use Rattle.lattice_core.specs.Dimensions.{dimension_of}
use Rattle.dilate_counts.specs.DilateCounts.{AreDilateCounts}
use Rattle.dual_pair.specs.Polytopes.{PolytopeState}
use Rattle.cone_counts.specs.CountSteps.{words_on, polytope_of, AreFaceSets, AreMasks, AreSummed, AreSideCounts}
use Rattle.cone_counts.proofs.ConeSides.{few_parts, few_degrees, some_parts, some_vectors, words_fit, face_words, are_sets, few_points, side_counted, part_small, dimension_is}
use Rattle.cone_counts.proofs.TableWidths.{some_words, words_enough}
use Rattle.cone_counts.proofs.sides.side_counts.Goals as goal

pub overflow_add-dilate : goal.overflow_add-dilate
overflow_add-dilate c =
    let f = few_degrees c.args.pair.now c.args.cone.now c.args.table.now c.polytope_on-polytope.ensures.pair c.requires.cone c.requires.table c.requires.within
    c.args.side c.vectors_on-vectors.result.now c.vectors_on-vectors.ensures.value c.vectors_on-vectors.ensures.parts in
    let d = c.dim.ensures in let p = c.parts-parts.ensures in omega (arith, f, d, p)

pub overflow_sub-dilate : goal.overflow_sub-dilate
overflow_sub-dilate c =
    let f = some_parts c.args.pair.now c.args.cone.now c.args.table.now c.polytope_on-polytope.ensures.pair c.requires.cone c.requires.table c.requires.within
    c.args.side c.vectors_on-vectors.result.now c.vectors_on-vectors.ensures.value c.vectors_on-vectors.ensures.parts in
    let p = c.parts-parts.ensures in omega (arith, f, p)

pub overflow_cast-dilate : goal.overflow_cast-dilate
overflow_cast-dilate c =
    let f = few_degrees c.args.pair.now c.args.cone.now c.args.table.now c.polytope_on-polytope.ensures.pair c.requires.cone c.requires.table c.requires.within
    c.args.side c.vectors_on-vectors.result.now c.vectors_on-vectors.ensures.value c.vectors_on-vectors.ensures.parts in
    let d = c.dim.ensures in let p = c.parts-parts.ensures in omega (arith, f, d, p)

pub words_for-words-requires : goal.words_for-words-requires
words_for-words-requires c = words_fit c.args.pair.now c.args.cone.now c.args.table.now c.polytope_on-polytope.ensures.pair c.requires.cone c.requires.table
    c.requires.within c.args.side c.vectors_on-vectors.result.now c.vectors_on-vectors.ensures.value c.vectors_on-vectors.ensures.parts

pub face_sets-requires-clause-some : goal.face_sets-requires-clause-some
face_sets-requires-clause-some c = subst (λ (n : ℕ). 1 ≤ n) (sym c.words_for-words.ensures.value) (some_words (length c.vectors_on-vectors.result.now)
    (some_vectors c.args.pair.now c.args.cone.now c.args.table.now c.polytope_on-polytope.ensures.pair c.requires.cone c.requires.table
    c.requires.within c.args.side c.vectors_on-vectors.result.now c.vectors_on-vectors.ensures.value c.vectors_on-vectors.ensures.parts))

pub face_sets-requires-clause-wide : goal.face_sets-requires-clause-wide
face_sets-requires-clause-wide c f l = subst (λ (n : ℕ). n ≤ length (words_on c.args.side (face_at c.args.table.now.faces f))) (sym c.words_for-words.ensures.value)
    (face_words c.args.pair.now c.args.cone.now c.args.table.now c.polytope_on-polytope.ensures.pair c.requires.cone c.requires.table
    c.requires.within c.args.side c.vectors_on-vectors.result.now c.vectors_on-vectors.ensures.value c.vectors_on-vectors.ensures.parts f l)

pub count_dilate-requires-clause-vertices : goal.count_dilate-requires-clause-vertices
count_dilate-requires-clause-vertices c = rw c.vertices.ensures.value c.vertices.ensures.polytope.solid

pub count_dilate-requires-clause-facets : goal.count_dilate-requires-clause-facets
count_dilate-requires-clause-facets c =
    subst (λ (fs : List Affine). AreFacetsInAnyOrder (dimension_of c.vertices.result.now) c.vertices.result.now fs)
    (sym c.facets.ensures.value)
    (subst (λ (vs : List (List ℤ)). AreFacetsInAnyOrder (dimension_of vs) vs c.polytope_on-polytope.result.now.facets) (sym c.vertices.ensures.value)
    c.vertices.ensures.polytope.facets_are.members)

pub count_dilate-requires-clause-dilate : goal.count_dilate-requires-clause-dilate
count_dilate-requires-clause-dilate c =
    let f = few_degrees c.args.pair.now c.args.cone.now c.args.table.now c.polytope_on-polytope.ensures.pair c.requires.cone c.requires.table c.requires.within
    c.args.side c.vectors_on-vectors.result.now c.vectors_on-vectors.ensures.value c.vectors_on-vectors.ensures.parts in
    let d = c.dim.ensures in let p = c.parts-parts.ensures in omega (arith, f, d, p)

pub count_dilate-requires-clause-few : goal.count_dilate-requires-clause-few
count_dilate-requires-clause-few c =
    let is = c.polytope_on-polytope.ensures.pair in
    let s = some_parts c.args.pair.now c.args.cone.now c.args.table.now is c.requires.cone c.requires.table c.requires.within
    c.args.side c.vectors_on-vectors.result.now c.vectors_on-vectors.ensures.value c.vectors_on-vectors.ensures.parts in
    let d = c.dim.ensures in let p = c.parts-parts.ensures in
    let vs = c.vertices.ensures.value ∙ ap (λ (q : PolytopeState). q.vertices) c.polytope_on-polytope.ensures.value in
    rw vs (few_points c.args.pair.now c.args.cone.now c.args.table.now is c.requires.cone c.requires.table c.requires.within
    c.args.side c.vectors_on-vectors.result.now c.vectors_on-vectors.ensures.value c.vectors_on-vectors.ensures.parts
    (c.dim.result + c.parts-parts.result - 1) (omega (arith, s, d, p)))

pub count_dilate-requires-clause-many : goal.count_dilate-requires-clause-many
count_dilate-requires-clause-many c =
    let w = words_enough (length c.vectors_on-vectors.result.now) in let e = c.words_for-words.ensures.value in let m = c.words_for-words.ensures.most in
    omega (arith, w, e, m)

pub count_dilate-requires-clause-rows : goal.count_dilate-requires-clause-rows
count_dilate-requires-clause-rows c = let f = c.in_ok-sets.ensures.few in omega (arith, f)

pub count_dilate-requires-clause-sets : goal.count_dilate-requires-clause-sets
count_dilate-requires-clause-sets c =
    let is = c.polytope_on-polytope.ensures.pair in
    let vs = c.vertices.ensures.value ∙ ap (λ (q : PolytopeState). q.vertices) c.polytope_on-polytope.ensures.value in
    let dim = ap dimension_of vs ∙ dimension_is c.args.pair.now c.args.cone.now c.args.table.now is c.requires.cone c.requires.table c.requires.within
    c.args.side c.vectors_on-vectors.result.now c.vectors_on-vectors.ensures.value c.vectors_on-vectors.ensures.parts in
    let sets = subst (λ (n : ℕ). AreFaceSets c.args.side c.args.table.now.faces n c.in_ok-sets.sets.rows) c.words_for-words.ensures.value c.in_ok-sets.ensures.sets in
    rw (dim, c.parts-parts.ensures) (are_sets c.args.pair.now c.args.cone.now c.args.table.now is c.requires.cone c.requires.table c.requires.within
    c.args.side c.vectors_on-vectors.result.now c.vectors_on-vectors.ensures.value c.vectors_on-vectors.ensures.parts c.in_ok-sets.sets.rows sets)

pub part_masks-requires-clause-some : goal.part_masks-requires-clause-some
part_masks-requires-clause-some c = subst (λ (n : ℕ). 1 ≤ n) (sym c.words_for-words.ensures.value) (some_words (length c.vectors_on-vectors.result.now)
    (some_vectors c.args.pair.now c.args.cone.now c.args.table.now c.polytope_on-polytope.ensures.pair c.requires.cone c.requires.table
    c.requires.within c.args.side c.vectors_on-vectors.result.now c.vectors_on-vectors.ensures.value c.vectors_on-vectors.ensures.parts))

pub part_masks-requires-clause-few : goal.part_masks-requires-clause-few
part_masks-requires-clause-few c =
    let f = few_parts c.args.pair.now c.args.cone.now c.args.table.now c.polytope_on-polytope.ensures.pair c.requires.cone c.requires.table c.requires.within
    c.args.side c.vectors_on-vectors.result.now c.vectors_on-vectors.ensures.value c.vectors_on-vectors.ensures.parts in
    let p = c.parts-parts.ensures in omega (arith, f, p)

pub part_masks-requires-clause-room : goal.part_masks-requires-clause-room
part_masks-requires-clause-room c = subst (λ (n : ℕ). length c.vectors_on-vectors.result.now ≤ 64 * n) (sym c.words_for-words.ensures.value)
    (words_enough (length c.vectors_on-vectors.result.now))

pub part_masks-requires-clause-parts : goal.part_masks-requires-clause-parts
part_masks-requires-clause-parts c = part_small c.args.pair.now c.args.cone.now c.args.table.now c.polytope_on-polytope.ensures.pair c.requires.cone c.requires.table
    c.requires.within c.args.side c.vectors_on-vectors.result.now c.vectors_on-vectors.ensures.value c.vectors_on-vectors.ensures.parts

pub sum_all-requires-clause-small : goal.sum_all-requires-clause-small
sum_all-requires-clause-small c = rw c.deref_mut.ensures.value
    (All-weaker (λ (k : ℕ). k ≤ 4194304) (λ (k : ℕ). k ≤ 2 ^ 22) (λ k h. omega (arith, h)) c.in_ok-counts.counts.items c.in_ok-counts.ensures.few)

pub sum_all-requires-clause-room : goal.sum_all-requires-clause-room
sum_all-requires-clause-room c = ap length c.deref_mut.ensures.value ∙ c.in_ok-counts.ensures.whole

pub sum_all-requires-clause-few : goal.sum_all-requires-clause-few
sum_all-requires-clause-few c =
    let f = few_parts c.args.pair.now c.args.cone.now c.args.table.now c.polytope_on-polytope.ensures.pair c.requires.cone c.requires.table c.requires.within
    c.args.side c.vectors_on-vectors.result.now c.vectors_on-vectors.ensures.value c.vectors_on-vectors.ensures.parts in
    let p = c.parts-parts.ensures in let m = c.in_ok-masks.ensures.many in omega (arith, f, p, m)

pub sum_all-requires-clause-words : goal.sum_all-requires-clause-words
sum_all-requires-clause-words c = (
  c.words_for-words.result,
  c.in_ok-sets.ensures.sets.long,
  λ j l. c.in_ok-masks.ensures.long j (subst (λ (n : ℕ). j < n) c.in_ok-masks.ensures.many l),
)

pub returns : goal.returns
returns c =
    let is = c.polytope_on-polytope.ensures.pair in
    let s = some_parts c.args.pair.now c.args.cone.now c.args.table.now is c.requires.cone c.requires.table c.requires.within
    c.args.side c.vectors_on-vectors.result.now c.vectors_on-vectors.ensures.value c.vectors_on-vectors.ensures.parts in
    let d = c.dim.ensures in let p = c.parts-parts.ensures in
    let vs = c.vertices.ensures.value ∙ ap (λ (q : PolytopeState). q.vertices) c.polytope_on-polytope.ensures.value in
    let sets = subst (λ (n : ℕ). AreFaceSets c.args.side c.args.table.now.faces n c.in_ok-sets.sets.rows) c.words_for-words.ensures.value c.in_ok-sets.ensures.sets in
    let masks = subst (λ (n : ℕ). AreMasks c.vectors_on-vectors.result.now n c.args.cone.now.parts c.in_ok-masks.masks.rows) c.words_for-words.ensures.value
    (subst (λ (n : ℕ). AreMasks c.vectors_on-vectors.result.now c.words_for-words.result n c.in_ok-masks.masks.rows) c.parts-parts.ensures c.in_ok-masks.ensures) in
    let are = subst (λ (n : ℕ). AreDilateCounts n c.vectors_on-vectors.result.now c.in_ok-sets.sets.rows (polytope_of c.args.side c.args.pair.now).vertices
    (c.dim.result + c.parts-parts.result - 1) c.in_ok-counts.counts.items) c.parts-parts.ensures
    (subst (λ (xs : List (List ℤ)). AreDilateCounts c.parts-parts.result c.vectors_on-vectors.result.now c.in_ok-sets.sets.rows xs
    (c.dim.result + c.parts-parts.result - 1) c.in_ok-counts.counts.items) vs c.in_ok-counts.ensures) in
    subst (AreSideCounts c.args.cone.now c.args.table.now.faces c.args.side)
    (sym (with_items_is c.in_ok-counts.counts c.sum_all.new.counts (c.sum_all.ensures.whole ∙ c.deref_mut.ensures.len)))
    (side_counted c.args.pair.now c.args.cone.now c.args.table.now is c.requires.cone c.requires.table c.requires.within
    c.args.side c.vectors_on-vectors.result.now c.vectors_on-vectors.ensures.value c.vectors_on-vectors.ensures.parts
    (c.dim.result + c.parts-parts.result - 1) (omega (arith, s, d, p)) c.in_ok-sets.sets.rows sets c.in_ok-masks.masks.rows masks
    c.in_ok-counts.counts.items c.sum_all.new.counts are
    (subst (λ (old : List ℕ). AreSummed c.in_ok-masks.masks.rows c.in_ok-sets.sets.rows old c.sum_all.new.counts) c.deref_mut.ensures.value
    c.sum_all.ensures.summed)
    (c.sum_all.ensures.whole ∙ ap length c.deref_mut.ensures.value))

pub count_dilate-requires-clause-some : goal.count_dilate-requires-clause-some
count_dilate-requires-clause-some c =
    some_vectors c.args.pair.now c.args.cone.now c.args.table.now c.polytope_on-polytope.ensures.pair c.requires.cone c.requires.table
    c.requires.within c.args.side c.vectors_on-vectors.result.now c.vectors_on-vectors.ensures.value c.vectors_on-vectors.ensures.parts
