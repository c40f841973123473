use Rattle.palp_engine.proofs.FoundFaces.{have_values, held_of}
use Rattle.palp_engine.proofs.faces.incidence_of.Goals as goal

pub of-requires-clause-values : goal.of-requires-clause-values
of-requires-clause-values c = have_values c.args.facets.now c.args.vertices.now c.requires.faces.paired

pub returns-clause-held : goal.returns-clause-held
returns-clause-held c = held_of c.args.pool.now c.of.new.pool c.args.facets.now c.args.vertices.now c.in-Ok.incidence c.in-Ok.ensures
    c.requires.room c.requires.faces
