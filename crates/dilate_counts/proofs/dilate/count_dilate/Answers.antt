use Rattle.std.proofs.Common.{rules, ◌≡◌, length, refl, sym, ◌∙◌}
use Rattle.bit_pool.specs.Bits.{words_for}
use Rattle.dilate_counts.proofs.FirstCounter.{first_counter, sets_as, first_dimension}
use Rattle.dilate_counts.proofs.Counted.{few_totals, dilate_counted}
use Rattle.dilate_counts.proofs.dilate.count_dilate.Goals as goal

pub invariant_of-counter : goal.invariant_of-counter
invariant_of-counter c =
    let parts : length c.in_ok-vec.field-0.items ≡ c.args.parts = search rules in
    let words : length c.in_ok-vec-2.field-0.items ≡ words_for (length c.args.vectors.now) = search rules in
    first_counter c.dim.result (length c.in_ok-vec.field-0.items) c.args.vectors.now (length c.in_ok-vec-2.field-0.items) c.args.sets.now.rows
    c.in_ok-no_classes.field-0.row_words c.in_ok-no_classes.field-0.rows c.in_ok-vec-3.field-0.items c.in_ok-vec-4.field-0.items c.len.result
    (sets_as _ c.dim.result c.args.parts (length c.in_ok-vec.field-0.items) c.args.vectors.now (words_for (length c.args.vectors.now))
    (length c.in_ok-vec-2.field-0.items) c.args.sets.now.rows c.requires.sets
    (c.dim.ensures.value ∙ first_dimension c.args.vertices.now c.index-vertices-0.result c.requires.vertices.sized.are_points.some c.index-vertices-0.is)
    parts words)
    (words ∙ sym c.in_ok-no_classes.ensures.row_words) (c.in_ok-vec-3.ensures.items_if_clones_equal (λ y h. h))
    (c.in_ok-vec-4.ensures.items_if_clones_equal (λ y h. h)) c.len.ensures

pub into_counts-requires : goal.into_counts-requires
into_counts-requires c = record {
  few = few_totals c.args.vertices.now c.args.dilate _ c.for_each.new.visitor c.requires.few c.in_ok-for_each.field-0
      c.in_ok-for_each.ensures refl c.len.result c.in_ok-no_classes.ensures.empty (c.in_ok-vec-4.ensures.items_if_clones_equal (λ y h. h)) c.len.ensures;
}

pub returns : goal.returns
returns c =
    let parts : length c.in_ok-vec.field-0.items ≡ c.args.parts = search rules in
    dilate_counted c.args.vertices.now c.args.dilate _ c.for_each.new.visitor c.requires.few c.in_ok-for_each.field-0
    c.in_ok-for_each.ensures refl c.len.result c.in_ok-no_classes.ensures.empty
    (c.in_ok-vec-4.ensures.items_if_clones_equal (λ y h. h)) c.len.ensures c.into_counts.result.items c.into_counts.ensures.shared c.into_counts.ensures.whole
    c.args.parts parts
