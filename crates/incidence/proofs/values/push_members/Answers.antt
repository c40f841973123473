use Rattle.std.proofs.Common.{List, length, ℤ, subst, arith}
use Rattle.lattice_theory.specs.Affine.{value}
use Rattle.face_theory.specs.Pairings.{is_zero, function_at}
use Rattle.incidence.specs.Incidences.{HasExactly}
use Rattle.incidence.proofs.SmallValues.{vector_is}
use Rattle.incidence.proofs.Added.{adds_none, adds_one, exact_same, same_width, same_room, more_rows}
use Rattle.incidence.proofs.values.push_members.Goals as goal

pub loop-m-init : goal.loop-m-init
loop-m-init c = record { adds = adds_none c.args.pool.now _ }

pub loop-m-preserved : goal.loop-m-preserved
loop-m-preserved c = record {
  adds = adds_one c.args.pool.now c.loop-m.pool c.push_words.new.pool c.loop-m.m _ c.functions_on.result c.loop-m.invariant.adds c.push_words.ensures
      (λ row same. exact_same _ _ c.functions_on.result row
      (subst (λ (q : List ℤ). HasExactly (length c.args.functions.now) (λ f. is_zero (value (function_at c.args.functions.now f) q))
      c.functions_on.result) (vector_is c.args.points.now c.loop-m.m c.index-points-m.result c.index-points-m.is c.loop-m-test.true)
      c.functions_on.ensures.bits) same);
}

pub push_words-requires-clause-room : goal.push_words-requires-clause-room
push_words-requires-clause-room c =
    let more = more_rows c.loop-m.invariant.adds in
    let room = same_room c.loop-m.invariant.adds in
    let old = c.requires.room in
    omega (arith, c.loop-m-test.true)

pub push_words-requires-clause-below : goal.push_words-requires-clause-below
push_words-requires-clause-below c =
    let width = same_width c.loop-m.invariant.adds in
    let old = c.requires.fits in
    λ n b. let l = ((c.functions_on.ensures.bits n).0 b).0 in omega arith
