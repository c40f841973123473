use Rattle.std.proofs.Common.{◌≤◌, List, length, ℤ, sym, ap, ◌∙◌, subst}
use Rattle.lattice_theory.specs.Affine.{Affine}
use Rattle.face_theory.specs.Pairings.{valued}
use Rattle.incidence.proofs.Held.{made_is_held_lem}
use Rattle.face_poset.specs.Builds.{IsBuildFault}
use Rattle.dual_pair.specs.Polytopes.{PolytopeState}
use Rattle.dual_pair.proofs.FoundFaces.{none_lacking, made_rows, made_faces, handed_values}
use Rattle.dual_pair.proofs.pair.DualPair.faces.Goals as goal

pub of-requires-clause-values : goal.of-requires-clause-values
of-requires-clause-values c = handed_values c.args.self.now c.m-m.ensures.pair c.vertices.result.now c.facets.result.now
    (c.vertices.ensures.value ∙ ap (λ (p : PolytopeState). p.vertices) c.m-m.ensures.value)
    (c.facets.ensures.value ∙ ap (λ (p : PolytopeState). p.facets) c.m-m.ensures.value)

pub build-requires-clause-held : goal.build-requires-clause-held
build-requires-clause-held c = (made_is_held_lem c.args.pool.now c.of.new.pool c.in-Ok.incidence
    (valued c.vertices.result.now c.facets.result.now)
    (subst (λ (xs : List (List ℤ)). length xs ≤ c.args.pool.now.width)
    (sym (c.vertices.ensures.value ∙ ap (λ (p : PolytopeState). p.vertices) c.m-m.ensures.value)) c.requires.wide_members)
    (subst (λ (fs : List Affine). length fs ≤ c.args.pool.now.width)
    (sym (c.facets.ensures.value ∙ ap (λ (p : PolytopeState). p.facets) c.m-m.ensures.value)) c.requires.wide_functions)
    c.in-Ok.ensures).0

pub unreachable-requires : goal.unreachable-requires
unreachable-requires c =
    let built = c.in-Err-Stale.ensures.built in
    none_lacking c.args.pool.now c.of.new.pool (valued c.vertices.result.now c.facets.result.now) c.in-Ok.incidence c.in-Err-Stale.field-0-0
    c.in-Ok.ensures (subst (IsBuildFault c.of.new.pool c.in-Ok.incidence) c.in-Err-Stale.field-0-is built.0)

pub returns-in-Ok-build-clause-found : goal.returns-in-Ok-build-clause-found
returns-in-Ok-build-clause-found c =
    let e = c.vertices.ensures.value ∙ ap (λ (p : PolytopeState). p.vertices) c.m-m.ensures.value in
    let f = c.facets.ensures.value ∙ ap (λ (p : PolytopeState). p.facets) c.m-m.ensures.value in
    let told = c.in-Ok.ensures in
    let built = c.in-Ok-build.ensures.built in (
      made_rows c.args.self.now.m c.vertices.result.now c.facets.result.now e f c.args.pool.now c.of.new.pool c.in-Ok.incidence told,
      made_faces c.args.self.now.m c.vertices.result.now c.facets.result.now e f c.args.table.now c.build.new.self c.requires.members
          c.requires.functions c.build.ensures.members c.build.ensures.functions
          (built.1 (valued c.vertices.result.now c.facets.result.now) told.tells),
    )
