-- What stops the search for a hull, as what stops the work on points.
use Rattle.std.specs.Prelude.{ℤ}
use Rattle.std.proofs.Common.{ℕ, List, arith}
use Rattle.lattice_core.specs.Limits.{IsSized}
use Rattle.lattice_core.specs.Stops.{Stops}
use Rattle.lattice_core.specs.declared.faults.Fault.{Fault}
use Rattle.lattice_core.specs.declared.faults.Fault.TheVariants as faults
use Rattle.lattice_core.specs.declared.faults.Refusal.TheVariants.{Flat, Limit}
use Rattle.lattice_core.specs.declared.faults.LimitName.TheVariants.{Size, Facets, Vertices}
use Rattle.hull.specs.Faults.{IsPolytopeRefusal}
use Rattle.palp_engine.specs.Reports.{IsRefused, flat, many_facets, many_vertices}

-- no hull of points within the size limit is handed out
pub polytope_stop : (n : ℕ) (points : List (List ℤ)) (fault : Fault) → IsSized n points → Stops (IsPolytopeRefusal n points) fault
    → Stops (IsRefused n points) fault
polytope_stop n points (faults.Refused (Flat f)) sized h = flat h.1
polytope_stop n points (faults.Refused (Limit Size told)) sized h = absurd (omega (arith, sized, h.1))
polytope_stop n points (faults.Refused (Limit Facets told)) sized h = many_facets h.1 h.2
polytope_stop n points (faults.Refused (Limit Vertices told)) sized h = many_vertices h.1 h.2
polytope_stop n points (faults.Refused (Limit other told)) sized h = absurd h
polytope_stop n points faults.NoMemory sized h = h
