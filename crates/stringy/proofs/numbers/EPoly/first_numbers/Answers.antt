use Rattle.std.proofs.Common.{rules, SFits, ◌≡◌, ◌+◌, ◌-◌, ◌==◌, [], ◌∷◌, sym, ap, ◌∙◌, ℕ, map, arith}
use Rattle.std.proofs.lemmas.Bool.{cond-false}
use Rattle.std.specs.Int.{w128}
use Rattle.std.proofs.lemmas.Int.{to_z-of_z}
use Rattle.std.specs.List.{range_with_len}
use Rattle.stringy.specs.Numbers.{hodge_at, hodge_above}
use Rattle.stringy.proofs.Ranges.{value_pushed, told_apart}
use Rattle.stringy.proofs.numbers.EPoly.first_numbers.Goals as goal

pub loop-p-preserved : goal.loop-p-preserved
loop-p-preserved c =
    let fits : SFits w128 c.hodge_of-in-loop-p.result = search rules in
    let least = c.loop-p.invariant.least in
    let next : c.loop-p.p - 1 + 1 ≡ c.loop-p.p + 1 - 1 = omega arith in
    record {
      items = value_pushed [] c.loop-p.numbers.items c.push-in-loop-p.new.self.items (hodge_above c.args.self.now) 1 (c.loop-p.p - 1) c.loop-p.p c.hodge_of-in-loop-p.result
          (simp to_z-of_z at c.push-in-loop-p.ensures.items) c.loop-p.invariant.items c.hodge_of-in-loop-p.ensures (omega arith)
          ∙ ap (λ (n : ℕ). map (hodge_above c.args.self.now) (range_with_len 1 n)) next;
      count = let e = c.push-in-loop-p.ensures.len in let i = c.loop-p.invariant.count in omega arith;
      least = omega arith;
      most = let t = c.loop-p-test.true in let v = c.dim-p-end.ensures.value in omega arith;
    }

pub returns : goal.returns
returns c =
    let most = c.loop-p.invariant.most in
    let end = c.loop-p-test.false in
    let value = c.dim-p-end.ensures.value in
    let last : c.loop-p.p - 1 ≡ c.args.self.now.dim - 1 = omega arith in
    c.loop-p.invariant.items ∙ ap (λ (n : ℕ). map (hodge_above c.args.self.now) (range_with_len 1 n)) last
    ∙ sym (cond-false (c.args.self.now.dim == 1) (hodge_at c.args.self.now 1 0 ∷ []) (map (hodge_above c.args.self.now) (range_with_len 1 (c.args.self.now.dim - 1)))
    (told_apart c.args.self.now.dim 1 (λ e. c.if-dim-eq1.false (c.dim.ensures.value ∙ e))))
