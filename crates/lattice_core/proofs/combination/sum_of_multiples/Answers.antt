use Rattle.std.proofs.Common.{◌≡◌, ◌<◌, ◌^◌, ◌+◌, ◌+ℤ◌, ◌*ℤ◌, ◌++◌, [], ◌∷◌, ℕ, List, ℤ, pos, length, take, rules, arith, refl, sym, ap, ap₂, ◌∙◌, SFits}
use Rattle.std.specs.Prelude.{nat_abs}
use Rattle.std.specs.List.{All}
use Rattle.std.specs.Int.{w64, w128}
use Rattle.std.proofs.lemmas.Int.{to_z-of_z}
use Rattle.std.proofs.lemmas.List.{take_more, take_all}
use Rattle.lattice_theory.specs.Vector.{entry}
use Rattle.lattice_theory.proofs.Members.{each_from_all, all_from_each, each_push}
use Rattle.lattice_theory.proofs.Vectors.{combined, entry-combined, length-combined}
use Rattle.lattice_core.proofs.combination.sum_of_multiples.Goals as goal
use Rattle.lattice_core.proofs.combination.sum_of_multiples.Goals.{After-push}

-- one more sum
sums_more : (i : ℕ) (l r s : ℤ) (a b old new : List ℤ) → length a ≡ length b → i < length a → s ≡ l *ℤ entry a i +ℤ r *ℤ entry b i
    → old ≡ take i (combined l a r b)
    → new ≡ old ++ (s ∷ []) → new ≡ take (i + 1) (combined l a r b)
sums_more i l r s a b old new same within value before push =
    let whole = length-combined (length a) l a r b refl (sym same) in
    push ∙ ap₂ (λ (xs : List ℤ) (x : ℤ). xs ++ (x ∷ [])) before (value ∙ sym (entry-combined l a r b i))
    ∙ sym (take_more (combined l a r b) i (pos 0) (omega (arith, whole)))

-- it is small, too
all_small : (old : List ℤ) (s : ℤ) (new : List ℤ) → All (λ x. nat_abs x < 2 ^ 127) old → nat_abs s < 2 ^ 127 → new ≡ old ++ (s ∷ [])
    → All (λ x. nat_abs x < 2 ^ 127) new
all_small old s new before small push =
    rw push (all_from_each {P = λ x. nat_abs x < 2 ^ 127} (each_push (each_from_all _ old before) small))

pub sum_of_products-requires : goal.sum_of_products-requires
sum_of_products-requires c =
    let left : SFits w128 c.args.left = c.ranges.left in
    let right : SFits w128 c.args.right = c.ranges.right in
    let first : SFits w128 c.from.result = search rules in
    let second : SFits w128 c.from-in-loop-i.result = search rules in
    let first_entry : SFits w64 (entry c.args.a.now c.loop-i.i) = search rules in
    let second_entry : SFits w64 (entry c.args.b.now c.loop-i.i) = search rules in
    let first_is : c.from.result ≡ entry c.args.a.now c.loop-i.i = simp to_z-of_z at c.from.ensures in
    let second_is : c.from-in-loop-i.result ≡ entry c.args.b.now c.loop-i.i = simp to_z-of_z at c.from-in-loop-i.ensures in
    record {
      first = simp to_z-of_z (rw first_is (c.requires.first c.loop-i.i (pos 0) (omega arith)));
      second = simp to_z-of_z (rw second_is (c.requires.second c.loop-i.i (pos 0) (omega arith)));
    }

pub loop-i-preserved : goal.loop-i-preserved
loop-i-preserved c =
    let left : SFits w128 c.args.left = c.ranges.left in
    let right : SFits w128 c.args.right = c.ranges.right in
    let first : SFits w128 c.from.result = search rules in
    let second : SFits w128 c.from-in-loop-i.result = search rules in
    let sum : SFits w128 c.sum_of_products.result = search rules in
    let first_entry : SFits w64 (entry c.args.a.now c.loop-i.i) = search rules in
    let second_entry : SFits w64 (entry c.args.b.now c.loop-i.i) = search rules in
    let first_is : c.from.result ≡ entry c.args.a.now c.loop-i.i = simp to_z-of_z at c.from.ensures in
    let second_is : c.from-in-loop-i.result ≡ entry c.args.b.now c.loop-i.i = simp to_z-of_z at c.from-in-loop-i.ensures in
    let product = simp to_z-of_z at c.sum_of_products.ensures.value in
    let value : c.sum_of_products.result ≡ c.args.left *ℤ entry c.args.a.now c.loop-i.i +ℤ c.args.right *ℤ entry c.args.b.now c.loop-i.i =
    product ∙ ap₂ (λ x y. c.args.left *ℤ x +ℤ c.args.right *ℤ y) first_is second_is in
    let before : c.loop-i.sums.items ≡ take c.loop-i.i (combined c.args.left c.args.a.now c.args.right c.args.b.now) =
    simp to_z-of_z at c.loop-i.invariant.items in
    let push = simp to_z-of_z at c.push.ensures.items in
    let small = all_small c.loop-i.sums.items _ c.push.new.self.items c.loop-i.invariant.small c.sum_of_products.ensures.bound push in
    let items = sums_more c.loop-i.i _ _ _ c.args.a.now c.args.b.now _ _ c.requires.same_length c.loop-i-test.true value before push in
    record { length = omega arith; items = simp to_z-of_z items; small = small }

pub returns : goal.returns
returns c =
    let left : SFits w128 c.args.left = c.ranges.left in
    let right : SFits w128 c.args.right = c.ranges.right in
    let whole : length (combined c.args.left c.args.a.now c.args.right c.args.b.now) ≡ length c.args.a.now =
    length-combined (length c.args.a.now) c.args.left c.args.a.now c.args.right c.args.b.now refl (sym c.requires.same_length) in
    let before : c.loop-i.sums.items ≡ take c.loop-i.i (combined c.args.left c.args.a.now c.args.right c.args.b.now) =
    simp to_z-of_z at c.loop-i.invariant.items in
    let items = before ∙ take_all _ _ (omega arith) in
    record {
      length = ap length items ∙ whole;
      entries = λ i. ap (λ x. entry x i) items ∙ entry-combined c.args.left c.args.a.now c.args.right c.args.b.now i;
      small = c.loop-i.invariant.small;
    }
