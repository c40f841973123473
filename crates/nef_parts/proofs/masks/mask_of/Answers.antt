use Rattle.std.proofs.Common.{refl}
use Rattle.nef_parts.proofs.MaskSteps.{mask_is}
use Rattle.nef_parts.proofs.masks.mask_of.Goals as goal

pub returns : goal.returns
returns c points all =
    mask_is c.args.normals.now points c.args.vertex.now c.pairings_of-tight.result c.args.rows.now
    (record { tight = c.pairings_of-tight.result.tight; candidates = c.in_ok-candidates.candidates }) c.pairings_of-tight.ensures refl
    c.in_ok-candidates.ensures all
