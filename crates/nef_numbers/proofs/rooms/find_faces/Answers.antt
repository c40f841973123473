use Rattle.std.proofs.Common.{subst}
use Rattle.face_theory.specs.Pairings.{paired}
use Rattle.face_poset.specs.Builds.{IsBuildFault}
use Rattle.face_poset.specs.declared.table.BuildFault.{BuildFault}
use Rattle.dual_pair.proofs.FoundFaces.{none_lacking}
use Rattle.nef_numbers.proofs.RoomFacts.{held_in, faces_found}
use Rattle.nef_numbers.proofs.rooms.find_faces.Goals as goal

pub build-requires-clause-held : goal.build-requires-clause-held
build-requires-clause-held c = held_in c.args.pool.now c.incidence_of-incidence.new.pool c.args.cone.now c.incidence_of-incidence.result c.requires.room
    c.requires.few c.incidence_of-incidence.ensures.told

pub unreachable-requires : goal.unreachable-requires
unreachable-requires c = none_lacking c.args.pool.now c.incidence_of-incidence.new.pool (paired c.args.cone.now.members c.args.cone.now.functions)
    c.incidence_of-incidence.result c.in-Err-Stale.field-0-0 c.incidence_of-incidence.ensures.told
    (subst (λ (f : BuildFault). IsBuildFault c.incidence_of-incidence.new.pool c.incidence_of-incidence.result f)
    c.in-Err-Stale.field-0-is c.in-Err-Stale.ensures.built.0)

pub returns-in-Ok-clause-found : goal.returns-in-Ok-clause-found
returns-in-Ok-clause-found c = faces_found c.args.cone.now c.incidence_of-incidence.new.pool c.incidence_of-incidence.result c.build.new.self
    c.incidence_of-incidence.ensures.told.tells (c.in-Ok.ensures.built.1) c.len-few.result c.len-few.ensures.value c.len-few.ensures.few
