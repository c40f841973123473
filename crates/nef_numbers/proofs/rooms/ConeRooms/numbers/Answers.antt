use Rattle.std.proofs.Common.{sym, subst}
use Rattle.lattice_core.specs.Dimensions.{dimension_of}
use Rattle.cayley.specs.Limits.{IsWithinRank}
use Rattle.nef_numbers.proofs.ConeSizes.{room_for_cone}
use Rattle.nef_numbers.proofs.RoomFacts.{large_enough}
use Rattle.nef_numbers.proofs.rooms.ConeRooms.numbers.Goals as goal

pub find_faces-requires-2-clause-few : goal.find_faces-requires-2-clause-few
find_faces-requires-2-clause-few c = room_for_cone c.args.pair.now c.requires.cone.part_of c.args.cone.now c.requires.pair c.requires.cone.is_cone
    (subst (IsWithinRank (dimension_of c.args.pair.now.m.vertices)) (sym c.requires.parts) c.requires.within.within)

pub find_faces-requires-2-clause-members : goal.find_faces-requires-2-clause-members
find_faces-requires-2-clause-members c = (large_enough c.args.cone.now c.self.inside.large c.self.invariant.for_most
    (room_for_cone c.args.pair.now c.requires.cone.part_of c.args.cone.now c.requires.pair c.requires.cone.is_cone
    (subst (IsWithinRank (dimension_of c.args.pair.now.m.vertices)) (sym c.requires.parts) c.requires.within.within))).0

pub find_faces-requires-2-clause-functions : goal.find_faces-requires-2-clause-functions
find_faces-requires-2-clause-functions c = (large_enough c.args.cone.now c.self.inside.large c.self.invariant.for_most
    (room_for_cone c.args.pair.now c.requires.cone.part_of c.args.cone.now c.requires.pair c.requires.cone.is_cone
    (subst (IsWithinRank (dimension_of c.args.pair.now.m.vertices)) (sym c.requires.parts) c.requires.within.within))).1
