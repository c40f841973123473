use Rattle.std.proofs.Common.{◌≡◌, map, take}
use Rattle.palp_input.specs.declared.lines.LineNumber.{LineNumber}
use Rattle.palp_input.proofs.systems.values_of.Given as goal

abbrev pub invariant-loop-number : goal.invariant-loop-number
invariant-loop-number l = l.values.items ≡ map (λ (n : LineNumber). n.value) (take l.number-index l.numbers)
