use Rattle.face_theory.proofs.Meets.{meets_grow_lem}
use Rattle.face_theory.proofs.faces.meets_grow.Goals as goal

pub returns : goal.returns
returns c = meets_grow_lem
