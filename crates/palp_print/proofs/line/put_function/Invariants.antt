use Rattle.std.proofs.Common.{◌≡◌, ◌+◌, ◌*◌, ◌≤◌, ◌++◌, take, codes}
use Rattle.std.specs.Fmt.{signed_decimal}
use Rattle.std.specs.List.{flat_map}
use Rattle.arrayvec.specs.ArrayVec.{array_vec_len}
use Rattle.palp_print.proofs.line.put_function.Given as goal

abbrev pub invariant-loop-entry : goal.invariant-loop-entry
invariant-loop-entry l =
    (l.line.items ≡ l.fn.line.items ++ flat_map (λ a. signed_decimal a ++ codes " ") (take l.entry-index l.entry-items))
    × (array_vec_len l.line ≤ array_vec_len l.fn.line + 41 * l.entry-index)
