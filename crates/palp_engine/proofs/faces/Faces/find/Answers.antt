use Rattle.std.proofs.Common.{refl, ◌∙◌, subst}
use Rattle.face_theory.specs.Pairings.{valued}
use Rattle.face_poset.specs.Builds.{IsBuildFault}
use Rattle.face_poset.specs.declared.table.BuildFault.{BuildFault}
use Rattle.palp_engine.proofs.FoundFaces.{none_lacks, found_faces}
use Rattle.palp_engine.proofs.faces.Faces.find.Goals.{in-Ok, in-Err-FaceLimit}
use Rattle.palp_engine.proofs.faces.Faces.find.Goals as goal

pub unreachable-requires : goal.unreachable-requires
unreachable-requires c = none_lacks c.incidence_of-incidence.new.pool c.incidence_of-incidence.result
    (valued c.args.vertices.now c.args.facets.now) c.in-Err-Stale.field-0-0 c.incidence_of-incidence.ensures.held.tells
    (subst (λ (f : BuildFault). IsBuildFault c.incidence_of-incidence.new.pool c.incidence_of-incidence.result f)
    c.in-Err-Stale.field-0-is c.in-Err-Stale.ensures.built.0)

pub returns : goal.returns
returns c = elim c.match-build.branch [
  | in-Ok w ↦ rw w.result-is (found_faces c.args.vertices.now c.args.facets.now c.fit_table.new.table _ c.in_ok-fit_table.ensures.members
      c.in_ok-fit_table.ensures.functions w.in-Ok.ensures.members w.in-Ok.ensures.functions
      (w.in-Ok.ensures.built.1 (valued c.args.vertices.now c.args.facets.now) c.incidence_of-incidence.ensures.held.tells))
  | in-Err-FaceLimit w ↦ rw w.result-is
      (let f = subst (λ (f : BuildFault). IsBuildFault c.incidence_of-incidence.new.pool c.incidence_of-incidence.result f)
      w.in-Err-FaceLimit.field-0-is w.in-Err-FaceLimit.ensures.built.0 in
      (refl, w.from-told.ensures ∙ f.1, f.2 (valued c.args.vertices.now c.args.facets.now) c.incidence_of-incidence.ensures.held.tells))
]
