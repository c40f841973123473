use Rattle.std.proofs.Common.{SFits, rules}
use Rattle.std.specs.Int.{w128}
use Rattle.std.proofs.lemmas.Int.{to_z-of_z}
use Rattle.std.specs.Prelude.{codes}
use Rattle.std.specs.Fmt.{signed_decimal}
use Rattle.palp_print.proofs.Lines.{four_appended}
use Rattle.palp_print.proofs.lists.put_fourfold.Goals as goal

pub returns-clause-bytes : goal.returns-clause-bytes
returns-clause-bytes c =
    let first : SFits w128 c.args.h11 = search rules in
    let second : SFits w128 c.args.h21 = search rules in
    let third : SFits w128 c.args.h31 = search rules in
    let last : SFits w128 c.args.euler = search rules in
    let two = simp to_z-of_z at c.put_two.ensures.bytes in
    let four = simp to_z-of_z at c.put_two-2.ensures.bytes in
    four_appended c.args.line.now.items (codes " H:") (signed_decimal c.args.h11) (codes ",") (signed_decimal c.args.h21) (codes ",")
    (signed_decimal c.args.h31) (codes " [") (signed_decimal c.args.euler) (codes "]") two four c.put.ensures.bytes
