use Rattle.std.proofs.Common.{length, subst, arith}
use Rattle.lattice_theory.specs.Affine.{Affine, value}
use Rattle.face_theory.specs.Pairings.{is_zero, vector_at}
use Rattle.incidence.specs.Incidences.{HasExactly}
use Rattle.incidence.proofs.SmallValues.{function_is}
use Rattle.incidence.proofs.Added.{adds_none, adds_one, exact_same, same_width, same_room, more_rows}
use Rattle.incidence.proofs.values.push_functions.Goals as goal

pub loop-f-init : goal.loop-f-init
loop-f-init c = record { adds = adds_none c.args.pool.now _ }

pub loop-f-preserved : goal.loop-f-preserved
loop-f-preserved c = record {
  adds = adds_one c.args.pool.now c.loop-f.pool c.push_words.new.pool c.loop-f.f _ c.members_on.result c.loop-f.invariant.adds c.push_words.ensures
      (λ row same. exact_same _ _ c.members_on.result row
      (subst (λ (g : Affine). HasExactly (length c.args.points.now) (λ m. is_zero (value g (vector_at c.args.points.now m))) c.members_on.result)
      (function_is c.args.functions.now c.loop-f.f c.index-functions-f.result c.index-functions-f.is c.loop-f-test.true)
      c.members_on.ensures.bits) same);
}

pub push_words-requires-clause-room : goal.push_words-requires-clause-room
push_words-requires-clause-room c =
    let more = more_rows c.loop-f.invariant.adds in
    let room = same_room c.loop-f.invariant.adds in
    let old = c.requires.room in
    omega (arith, c.loop-f-test.true)

pub push_words-requires-clause-below : goal.push_words-requires-clause-below
push_words-requires-clause-below c =
    let width = same_width c.loop-f.invariant.adds in
    let old = c.requires.fits in
    λ n b. let l = ((c.members_on.ensures.bits n).0 b).0 in omega arith
