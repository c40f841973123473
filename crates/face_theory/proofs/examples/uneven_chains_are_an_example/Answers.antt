use Rattle.face_theory.proofs.ExampleFaces.{point_rank, point_corank, uneven_whole}
use Rattle.face_theory.proofs.examples.uneven_chains_are_an_example.Goals as goal

pub returns : goal.returns
returns c = record { rank = point_rank; corank = point_corank; whole = uneven_whole }
