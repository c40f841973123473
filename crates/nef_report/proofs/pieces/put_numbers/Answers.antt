use Rattle.std.proofs.Common.{rules, SFits, ◌≡◌, ℕ, ◌+◌, ◌*◌, List, ◌++◌, length, ℤ, ap, ◌∙◌, sym, subst}
use Rattle.std.specs.Int.{w128}
use Rattle.std.proofs.lemmas.Int.{to_z-of_z}
use Rattle.palp_print.specs.Partitions.{partition_with}
use Rattle.stringy.specs.Numbers.{first_numbers, euler_of}
use Rattle.nef_report.proofs.Diamonds.{hodge_lines_long}
use Rattle.nef_report.proofs.PieceSteps.{diamond_told}
use Rattle.nef_report.proofs.pieces.put_numbers.Goals as goal

pub diamond-requires-clause-numbers : goal.diamond-requires-clause-numbers
diamond-requires-clause-numbers c =
    ap length (c.as_slice-2.ensures.value ∙ c.diamond-all.ensures) ∙ (hodge_lines_long c.args.numbers.now
    ∙ ap (λ (n : ℕ). (n + 1) * (n + 1)) (sym c.dim.ensures.value))

pub returns : goal.returns
returns c =
    let fits : SFits w128 c.euler.result = search rules in
    let line = simp to_z-of_z at c.in_ok-partition_with.ensures in
    diamond_told c.args.page.now c.partition_with.new.self c.args.number c.args.part_of.now c.args.numbers.now
    (line
    ∙ ap (λ (xs : List ℤ). c.args.page.now ++ partition_with c.args.number c.args.part_of.now xs c.euler.result)
    (c.as_slice.ensures.value ∙ c.first_numbers-first.ensures)
    ∙ ap (λ (z : ℤ). c.args.page.now ++ partition_with c.args.number c.args.part_of.now (first_numbers c.args.numbers.now) z) c.euler.ensures)
    c.dim.result c.as_slice-2.result.now c.dim.ensures.value (c.as_slice-2.ensures.value ∙ c.diamond-all.ensures)
    c.args.full c.if-not-full.false c.diamond.new.self c.diamond.result c.diamond.ensures
