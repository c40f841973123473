-- The steps from a weight line to its points. This project's own.
use Rattle.std.specs.Prelude.{◌≡◌, List, ℤ}
use Rattle.lattice_core.specs.Weights.{Weighted}
use Rattle.lattice_core.specs.declared.faults.Fault.{Fault}
use Rattle.lattice_core.specs.declared.faults.Fault.TheVariants as faults
use Rattle.lattice_core.specs.declared.faults.Refusal.TheVariants.{Limit}
use Rattle.lattice_core.specs.declared.faults.LimitName.TheVariants.{Frame, Dim}
use Rattle.weight_frame.specs.declared.frame.FrameFault.{FrameFault}
use Rattle.weight_frame.specs.declared.frame.FrameFault.TheVariants as frames
use Rattle.item_points.specs.WeightLines.{AreWeightPoints}
use Rattle.item_points.specs.Points.{HaveSmallCoordinates}

-- the points of a weight line, none with a coordinate above the limit on coordinates
pub record AreSmallPoints (systems : List Weighted) (points : List (List ℤ)) : Type 0 where
  pub are_points : AreWeightPoints systems points
  pub small : HaveSmallCoordinates points

-- what stops the work where there is no frame
abbrev pub IsFrameStop : FrameFault → Fault → Type 0
IsFrameStop (frames.Entry told) fault = fault ≡ faults.Refused (Limit Frame told)
IsFrameStop (frames.Dim told) fault = fault ≡ faults.Refused (Limit Dim told)
IsFrameStop frames.NoMemory fault = fault ≡ faults.NoMemory
