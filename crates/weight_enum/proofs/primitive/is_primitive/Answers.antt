use Rattle.std.proofs.Common.{◌≡◌, ◌∙◌, pos, map, refl, sym, arith}
use Rattle.std.proofs.lemmas.Bool.{false≢true}
use Rattle.std.specs.Cmp.Rules.{signed_items}
use Rattle.lattice_theory.proofs.Divisibility.{primitive_nonzero}
use Rattle.weight_enum.proofs.PrimitiveParts.{primitive_from_part, part_from_primitive, small_integers}
use Rattle.weight_enum.proofs.primitive.is_primitive.Goals as goal

pub primitive-requires-clause-small : goal.primitive-requires-clause-small
primitive-requires-clause-small c =
    rw (c.deref.ensures.0, c.integers-vector.ensures) (small_integers c.args.weights.now (λ i. let fits = c.type_inv.weights i in omega (arith, fits)))

pub returns-in-Some : goal.returns-in-Some
returns-in-Some c =
    let vector : c.deref.result.now ≡ map pos c.args.weights.now = c.deref.ensures.0 ∙ c.integers-vector.ensures in
    let part = rw vector at c.in-Some.ensures.part in
    let left : c.as_slice.result.now ≡ c.in-Some.part.items = c.as_slice.ensures.value in
    let right : c.as_slice-in-Some.result.now ≡ map pos c.args.weights.now = c.as_slice-in-Some.ensures.value ∙ c.integers-vector.ensures in
    let decides = signed_items c.as_slice.result.now c.as_slice-in-Some.result.now in (
      λ e. primitive_from_part (map pos c.args.weights.now) c.in-Some.part.items part (sym left ∙ (decides.0 (sym c.eq.ensures ∙ e) ∙ right)),
      λ h. c.eq.ensures ∙ decides.1 (left ∙ (part_from_primitive (map pos c.args.weights.now) c.in-Some.part.items part h ∙ sym right)),
    )

pub returns-in-None : goal.returns-in-None
returns-in-None c =
    let vector : c.deref.result.now ≡ map pos c.args.weights.now = c.deref.ensures.0 ∙ c.integers-vector.ensures in
    let zeros = rw vector at (c.in-None.ensures.variant.0 refl) in
    (λ e. absurd (false≢true e), λ h. absurd (primitive_nonzero (map pos c.args.weights.now) h zeros))
