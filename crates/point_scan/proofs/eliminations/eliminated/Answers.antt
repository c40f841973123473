use mir.Syntax.{w64, w128}
use Rattle.std.specs.Prelude.{ℤ, pos, nat_abs, ◌*ℤ◌, ◌-ℤ◌}
use Rattle.std.proofs.Common.{◌≡◌, ℕ, ◌+◌, ◌<◌, ◌^◌, List, SFits, length, rules, arith, sym, ap, ap₂, subst, ◌∙◌, length-append}
use Rattle.std.proofs.lemmas.Int.{ints, to_z-of_z}
use Rattle.std.proofs.lemmas.Option.{IfSome_then}
use Rattle.lattice_theory.specs.Vector.{entry}
use Rattle.lattice_theory.proofs.Members.{each_from_all, all_from_each, each_push}
use Rattle.lattice_theory.proofs.Vectors.{entry-scaled, length-scaled}
use Rattle.lattice_core.specs.Divisors.{IsPrimitivePart}
use Rattle.point_scan.specs.ProjectionSteps.{IsElimination}
use Rattle.point_scan.proofs.BoundSteps.{entries_more}
use Rattle.point_scan.proofs.eliminations.eliminated.Goals as goal

pub loop-i-preserved : goal.loop-i-preserved
loop-i-preserved c =
    let a = c.args.rising.now in
    let b = c.args.falling.now in
    let k = c.args.k in
    let i = c.loop-i.i in
    let rising_place : SFits w64 (entry a k) = search rules in
    let rising_entry : SFits w64 (entry a i) = search rules in
    let falling_place : SFits w64 (entry b k) = search rules in
    let falling_entry : SFits w64 (entry b i) = search rules in
    let first : SFits w64 c.in_ok-first.first = search rules in
    let second : SFits w64 c.in_ok-second.second = search rules in
    let fits : SFits w64 c.in_ok-checked_sub.field-0 = search rules in
    let wide : SFits w128 c.from.result = search rules in
    let first_is : c.in_ok-first.first ≡ entry a k *ℤ entry b i = simp to_z-of_z at c.in_ok-first.ensures.1 in
    let second_is : c.in_ok-second.second ≡ entry b k *ℤ entry a i = simp to_z-of_z at c.in_ok-second.ensures.1 in
    let difference : c.in_ok-checked_sub.field-0 ≡ c.in_ok-first.first -ℤ c.in_ok-second.second = simp to_z-of_z at c.in_ok-checked_sub.ensures.1 in
    let is : c.from.result ≡ c.in_ok-checked_sub.field-0 = simp to_z-of_z at c.from.ensures in
    let sum_is : c.from.result ≡ entry a k *ℤ entry b i -ℤ entry b k *ℤ entry a i =
    is ∙ difference ∙ ap₂ (λ (x y : ℤ). x -ℤ y) first_is second_is in
    let bound : nat_abs c.from.result < 2 ^ 127 = omega (arith, ints, fits, is) in
    let items = simp to_z-of_z at c.push.ensures.items in
    record {
      length = simp length-append at (ap length c.push.ensures.items) ∙ ap (λ n. n + 1) c.loop-i.invariant.length;
      small = rw items (all_from_each {P = λ a. nat_abs a < 2 ^ 127}
          (each_push (each_from_all (λ a. nat_abs a < 2 ^ 127) c.loop-i.sums.items c.loop-i.invariant.small) bound));
      entries = entries_more (λ m z. z ≡ entry a k *ℤ entry b m -ℤ entry b k *ℤ entry a m) i c.loop-i.sums.items c.push.new.self.items
          c.from.result c.loop-i.invariant.length items c.loop-i.invariant.entries sum_is;
    }

-- the primitive part of the sums
elimination_is : (a b sums w normal : List ℤ) (k : ℕ) → length sums ≡ length a
    → ((m : ℕ) → m < length a → entry sums m ≡ entry a k *ℤ entry b m -ℤ entry b k *ℤ entry a m) → IsPrimitivePart sums w → normal ≡ w
    → IsElimination a b k normal
elimination_is a b sums w normal k same entries part e = record {
  dimension = ap length e ∙ sym (length-scaled (pos part.factor) w) ∙ ap length part.multiple ∙ same;
  factor = part.factor;
  positive = part.positive;
  entries = λ i h. rw e (sym (entry-scaled (pos part.factor) w i) ∙ ap (λ (x : List ℤ). entry x i) part.multiple ∙ entries i h);
}

pub returns : goal.returns
returns c =
    let a = c.args.rising.now in
    let sums = c.loop-i.sums.items in
    let i = c.loop-i.invariant in
    let test = c.loop-i-test.false in
    let within = c.loop-i.auto.i-end in
    let all : c.loop-i.i ≡ length a = omega (arith, test, within) in
    let w = c.in_ok-primitive.field-0.items in
    let part : IsPrimitivePart sums w = subst (λ (x : List ℤ). IsPrimitivePart x w) c.deref.ensures.0 c.in_ok-primitive.ensures.part in
    IfSome_then c.held.result c.held.ensures (λ normal e. elimination_is a c.args.falling.now sums w normal.items c.args.k (i.length ∙ all)
    (λ m h. i.entries m (omega (arith, h, all))) part (e ∙ c.deref-2.ensures.0))
