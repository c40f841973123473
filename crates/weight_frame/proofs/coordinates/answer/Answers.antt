use Rattle.std.proofs.Common.{◌∙◌, arith}
use Rattle.lattice_core.specs.Weights.{weighted_all}
use Rattle.weight_frame.proofs.CoordinateAnswers.{large_answer, at_answer}
use Rattle.weight_frame.proofs.Largest.{largest_of_all}
use Rattle.weight_frame.proofs.Frames.{frame_small, frame_leads}
use Rattle.weight_frame.proofs.coordinates.answer.Goals as goal

pub is_inside-requires-clause-small : goal.is_inside-requires-clause-small
is_inside-requires-clause-small c = let h = largest_of_all c.args.x.now 32_768 c.requires.small in omega arith

pub coordinates_of-requires-clause-small : goal.coordinates_of-requires-clause-small
coordinates_of-requires-clause-small c = rw c.requires.columns (frame_small _ c.args.vectors.now c.requires.frame.is_frame)

pub coordinates_of-requires-clause-leads : goal.coordinates_of-requires-clause-leads
coordinates_of-requires-clause-leads c = frame_leads _ c.args.vectors.now c.requires.frame.is_frame.made c.requires.frame.is_frame.recursion

pub returns-in-None : goal.returns-in-None
returns-in-None c =
    large_answer (record { systems = weighted_all c.args.systems.now; vectors = c.args.vectors.now }) c.args.x.now c.requires.frame.is_frame
    (c.is_inside.ensures.0 c.if-not-is_inside.false) c.requires.columns c.in-None.ensures

pub returns-in-Some-new : goal.returns-in-Some-new
returns-in-Some-new c =
    at_answer (record { systems = weighted_all c.args.systems.now; vectors = c.args.vectors.now }) c.args.x.now c.in-Some.found.items
    c.in-Some-new.coordinates c.requires.frame.is_frame (c.is_inside.ensures.0 c.if-not-is_inside.false) c.requires.columns
    c.in-Some.ensures (c.in-Some-new.ensures.entries ∙ c.as_slice.ensures.value)
