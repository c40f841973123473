use Rattle.std.proofs.Common.{length}
use Rattle.dual_pair.proofs.Counts.{face_found}
use Rattle.dual_pair.proofs.interiors.face_with.Goals as goal

pub returns-clause-face : goal.returns-clause-face
returns-clause-face c = face_found (length c.args.space.now) c.args.side c.args.table.now.faces c.args.functions.now c.args.p.now
    c.zeros_into.new.words c.requires.sets c.zeros_into.ensures.whole c.face_of.ensures.small c.zeros_into.ensures.bits c.face_of.result
    c.face_of.ensures.face
