use Rattle.std.proofs.Common.{◌≡◌, ◌≤◌, pos, refl, ◌∙◌, subst}
use Rattle.std.specs.List.{All}
use Rattle.lattice_theory.specs.Affine.{Affine}
use Rattle.lattice_theory.specs.Combinations.{IsCombinationAt}
use Rattle.lattice_core.specs.Divisors.{IsPrimitivePart}
use Rattle.lattice_core.proofs.Combinations.{cross_nonzero, part_is, fixed_small}
use Rattle.lattice_core.proofs.combination.combined_normal.Goals as goal
use Rattle.lattice_core.proofs.combination.combined_normal.Goals.{After-deref-in-Some}

pub primitive-requires : goal.primitive-requires
primitive-requires c = rw c.deref.ensures.0 (record {
  least = c.cross_sum.ensures.least;
  most = c.cross_sum.ensures.most;
  small = c.cross_sum.ensures.small;
})

-- the primitive part is the normal of each combination
normal_is : (c : After-deref-in-Some) → (h : _) → IsCombinationAt c.args.f.now c.args.g.now c.args.p.now h
    → c.in-Some.normal.items ≡ h.normal
normal_is c h k =
    part_is c.args.f.now c.args.g.now h c.args.p.now c.cross_sum.result.items _ c.requires.opposite c.requires.left.dimension
    c.requires.right.dimension k
    c.cross_sum.ensures.length c.cross_sum.ensures.entries
    (subst (λ s. IsPrimitivePart s c.in-Some.normal.items) c.deref.ensures.0 c.in-Some.ensures.part)

pub narrowed-requires-clause-small : goal.narrowed-requires-clause-small
narrowed-requires-clause-small c =
    let h = c.requires.fixed in
    let sum = c.cross_sum.ensures in
    let some = subst (λ n. 1 ≤ n) sum.length sum.least in
    let most = subst (λ n. n ≤ 6) sum.length sum.most in
    rw (c.deref-in-Some.ensures.0 ∙ normal_is c h.function h.combination) (fixed_small _ h.function some most h.fixed).0

pub unreachable-requires : goal.unreachable-requires
unreachable-requires c =
    let h = c.requires.fixed in
    cross_nonzero c.args.f.now c.args.g.now h.function c.args.p.now c.cross_sum.result.items c.requires.opposite c.requires.left.dimension
    c.requires.right.dimension
    h.combination c.cross_sum.ensures.entries (subst (λ s. All (λ a. a ≡ pos 0) s) c.deref.ensures.0 (c.in-None.ensures.variant.0 refl))

pub returns : goal.returns
returns c =
    let f = c.args.f.now in
    let g = c.args.g.now in
    let h = c.requires.fixed in
    let sum = c.cross_sum.ensures in
    let some = subst (λ n. 1 ≤ n) sum.length sum.least in
    let most = subst (λ n. n ≤ 6) sum.length sum.most in
    let part = subst (λ s. IsPrimitivePart s c.in-Some.normal.items) c.deref.ensures.0 c.in-Some.ensures.part in
    let items = c.narrowed.ensures ∙ c.deref-in-Some.ensures.0 in
    let is : (k : Affine) → IsCombinationAt f g c.args.p.now k → c.narrowed.result.items ≡ k.normal = λ k t.
    items ∙ part_is f g k c.args.p.now c.cross_sum.result.items _ c.requires.opposite c.requires.left.dimension c.requires.right.dimension t
    sum.length sum.entries part in
    record { normal = is; small = rw (is h.function h.combination) (fixed_small _ h.function some most h.fixed).1 }
