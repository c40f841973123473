use Rattle.std.specs.Prelude.{pos}
use Rattle.std.proofs.Common.{◌≡◌, ℕ, ◌<◌, length, SFits, arith, rules, true, false}
use Rattle.std.specs.Int.{w128}
use Rattle.std.specs.Int.Signed.{lt_z, le_z}
use Rattle.std.proofs.lemmas.Int.{ints, to_z-of_z}
use Rattle.cayley_theory.specs.Counts.{sum_of}
use Rattle.base_counts.proofs.BaseLaws.{tops_are_bases_lem}
use Rattle.base_counts.proofs.visit.tight_at.Goals.{then-degree-lt0-via-then-degree-lt0, then-degree-lt0-via-else-degree-lt0+then-degree}
use Rattle.base_counts.proofs.visit.tight_at.Goals as goal

pub returns-then-degree-lt0-clause-degree : goal.returns-then-degree-lt0-clause-degree
returns-then-degree-lt0-clause-degree c = record {
  base = c.base_into.new.base;
  is_base = tops_are_bases_lem (length c.args.base.now) c.args.vectors.now c.args.x.now c.base_into.new.base c.base_into.ensures.whole c.requires.parts
      c.base_into.ensures.top;
  far = out;
}
  where
    out : (l : ℕ) → l < 7 → sum_of c.base_into.new.base ≡ pos l → ⊥
    out l m e = elim c.then-degree-lt0.branch [
      | then-degree-lt0-via-then-degree-lt0 w ↦
          let fits : SFits w128 c.degree_of-degree.result = search rules in
          let t : lt_z c.degree_of-degree.result (pos 0) ≡ true = simp to_z-of_z at w.if-degree-lt0.true in
          let d = c.degree_of-degree.ensures in
          omega (arith, ints, t, d, e)
      | then-degree-lt0-via-else-degree-lt0+then-degree w ↦
          let fits : SFits w128 c.degree_of-degree.result = search rules in
          let t : le_z (pos 7) c.degree_of-degree.result ≡ true = simp to_z-of_z at w.if-degree.true in
          let d = c.degree_of-degree.ensures in
          omega (arith, ints, t, d, e, m)
    ]

pub returns-clause-degree : goal.returns-clause-degree
returns-clause-degree c =
    let fits : SFits w128 c.degree_of-degree.result = search rules in
    let low : lt_z c.degree_of-degree.result (pos 0) ≡ false = simp to_z-of_z at c.if-degree-lt0.false in
    let high : le_z (pos 7) c.degree_of-degree.result ≡ false = simp to_z-of_z at c.if-degree.false in
    let d = c.degree_of-degree.ensures in (
      simp to_z-of_z (omega (arith, ints, low, high, d)),
      record {
        base = c.base_into.new.base;
        is_base = tops_are_bases_lem (length c.args.base.now) c.args.vectors.now c.args.x.now c.base_into.new.base c.base_into.ensures.whole c.requires.parts
            c.base_into.ensures.top;
        degree = simp to_z-of_z (omega (arith, ints, low, d));
        bits = c.tight_into.ensures.bits;
      },
    )
