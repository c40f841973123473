use Rattle.std.proofs.Common.{rules, SFits, sym}
use Rattle.std.specs.Int.{w128}
use Rattle.std.proofs.lemmas.Int.{to_z-of_z}
use Rattle.lattice_theory.specs.Vector.{entry}
use Rattle.polynomial_theory.proofs.Places.{place_none}
use Rattle.small_poly.specs.Tables.{unit_of}
use Rattle.small_poly.proofs.OneProduct.{term_from}
use Rattle.small_poly.proofs.terms.term_at.Goals as goal

pub returns-in-None : goal.returns-in-None
returns-in-None c = sym (place_none (unit_of c.args.negative) c.args.power c.args.p (entry c.args.left.now) (entry c.args.right.now) c.args.q c.in-None.ensures)

pub returns-in-Some : goal.returns-in-Some
returns-in-Some c =
    let first : SFits w128 c.read.result = search rules in
    let second : SFits w128 c.read-in-Some.result = search rules in
    let both : SFits w128 c.product_of.result = search rules in
    let all : SFits w128 c.signed.result = search rules in
    let product = simp to_z-of_z at c.product_of.ensures in
    let signed = simp to_z-of_z at c.signed.ensures in
    simp to_z-of_z (term_from c.args.negative c.args.power c.args.p c.args.q c.in-Some.place c.args.left.now c.args.right.now
    c.read.result c.read-in-Some.result c.product_of.result c.signed.result c.in-Some.ensures c.read.ensures c.read-in-Some.ensures product signed)
