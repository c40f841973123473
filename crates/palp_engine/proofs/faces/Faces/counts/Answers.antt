use Rattle.std.proofs.Common.{[], ◌∷◌, sym, subst}
use Rattle.face_poset.specs.Faces.{IsTableOf}
use Rattle.palp_engine.proofs.FoundFaces.{counted_faces}
use Rattle.palp_engine.proofs.faces.Faces.counts.Goals as goal

pub returns : goal.returns
returns c = λ R h. counted_faces R c.self.inside.table
    (c.counts.result ∷ c.counts-2.result ∷ c.counts-3.result ∷ c.counts-4.result ∷ c.counts-5.result ∷ c.counts-6.result ∷ [])
    (subst (IsTableOf R) (sym c.self.view_is) h) c.counts.ensures.few
    (λ i. c.counts.ensures.value i ∷ c.counts-2.ensures.value i ∷ c.counts-3.ensures.value i ∷ c.counts-4.ensures.value i
    ∷ c.counts-5.ensures.value i ∷ c.counts-6.ensures.value i ∷ [])
