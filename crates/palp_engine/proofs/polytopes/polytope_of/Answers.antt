use Rattle.std.proofs.Common.{refl}
use Rattle.palp_engine.proofs.PrintedPolytopes.{kept_polytope}
use Rattle.palp_engine.proofs.polytopes.polytope_of.Goals as goal

pub corners_of-requires : goal.corners_of-requires
corners_of-requires c = rw c.deref.ensures.value c.requires.points

pub lattice_of-requires-clause-passed : goal.lattice_of-requires-clause-passed
lattice_of-requires-clause-passed c = rw (c.deref-2.ensures.value, c.deref-3.ensures.value) (rw c.deref.ensures.value at c.in_ok-corners.ensures)

pub returns : goal.returns
returns c =
    kept_polytope c.args.points.items c.in_ok-corners.corners.facets.items c.in_ok-corners.corners.vertices.items
    (rw c.deref.ensures.value at c.in_ok-corners.ensures) c.requires.points c.args.listed c.in_ok-lattice.lattice c.in_ok-lattice.ensures
    _ refl refl refl refl
